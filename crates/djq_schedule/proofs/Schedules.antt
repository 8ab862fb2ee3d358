-- A schedule's lines, its turns, its hub, and what was sent.
use Rattle.std.specs.Prelude.{ℕ, List, [], ◌∷◌, ◌++◌, ◌==◌, ◌≡◌, ◌+◌, ◌<◌, Bool, true, false, cond, length, take}
use Rattle.std.specs.Prelude.{get_or, nat_eq, zero, suc, None, Some, drop, ◌≤◌, ◌&&◌, not, is_none, nat_le, Option}
use Rattle.std.specs.Prelude.{Result, Ok, Err, IsSomeAnd}
use Rattle.std.proofs.Common.{refl, sym, ap, ap₂, ◌∙◌, subst, append_assoc, append-nil, arith, length-append}
use Rattle.std.proofs.lemmas.Bool.{eqb-true, false_from_ne_true, leb-true}
use Rattle.std.proofs.lemmas.List.{take_more}
use Rattle.std.proofs.lemmas.Grind.{flat_map-append}
use Rattle.memchr.specs.Find.{IsFirstByte, is_byte}
use Rattle.djq_io.specs.declared.hub.Sent.{Sent}
use Rattle.djq_io.specs.declared.hub.Told.{Told}
use Rattle.djq_io.specs.declared.hub.Told.TheVariants.{Listening, Turning, Sending, Closing}
use Rattle.djq_io.specs.declared.hub.Coming.{Coming}
use Rattle.djq_io.specs.declared.hub.Incoming.{Incoming}
use Rattle.djq_io.specs.declared.hub.Incoming.TheVariants.{Opens, Brings, Ends, Nothing}
use Rattle.djq_io.specs.Calls.{sent_by, sent_to}
use Rattle.djq_io.specs.Hub.{no_ids}
use Rattle.djq_io.specs.MemHub.{Recorded, with_coming}
use Rattle.djq_model.specs.Data.{Bytes}
use Rattle.djq_model.specs.Parts.{before, behind, with_first}
use Rattle.djq_schedule.specs.declared.line.Keyword.{Keyword}
use Rattle.djq_schedule.specs.declared.line.Keyword.TheVariants.{Open, Say, Part, Again, Free, End}
use Rattle.djq_schedule.specs.Sent.{ended_lines, begun_line, lines_ended_by, text_behind, sent_text}
use Rattle.djq_schedule.specs.Schedule.{rest_or_none, schedule_lines, Order, Stage, schedule_keyword_of, id_of}
use Rattle.djq_schedule.specs.Schedule.{takes_text, order_with, order_behind, order_of, may_stand, text_or_none}
use Rattle.djq_schedule.specs.Schedule.{turn_of_line}
use Rattle.djq_schedule.specs.Made.{standing, in_grammar, coming_of, next_stage, behind_turns, turns_by, turns_from}
use Rattle.djq_schedule.specs.Made.{turns_of, first_stage, AddsLine}

-- ---- What was sent, call by call.

-- the text of one call more
text_more : (earlier told : List Told) (t : Told) → text_behind earlier (told ++ t ∷ [])
    ≡ text_behind earlier told ++ lines_ended_by (earlier ++ told) t
text_more earlier [] t = append-nil (lines_ended_by earlier t)
    ∙ ap (λ (us : List Told). lines_ended_by us t) (sym (append-nil earlier))
text_more earlier (u ∷ told) t =
    ap (λ (bytes : Bytes). lines_ended_by earlier u ++ bytes)
    (text_more (earlier ++ u ∷ []) told t
    ∙ ap (λ (us : List Told). text_behind (earlier ++ u ∷ []) told ++ lines_ended_by us t)
    (append_assoc earlier (u ∷ []) told))
    ∙ sym (append_assoc (lines_ended_by earlier u) (text_behind (earlier ++ u ∷ []) told)
    (lines_ended_by (earlier ++ u ∷ told) t))

pub sent_more : (told : List Told) (t : Told) → sent_text (told ++ t ∷ []) ≡ sent_text told ++ lines_ended_by told t
sent_more told t = text_more [] told t

-- what is behind the last LF, of bytes and then others
pub begun_more : (begun xs ys : Bytes) → begun_line begun (xs ++ ys) ≡ begun_line (begun_line begun xs) ys
begun_more begun [] ys = refl
begun_more begun (b ∷ xs) ys = at_first (b == 10) (begun_more [] xs ys) (begun_more (begun ++ b ∷ []) xs ys)
  where
    at_first : (t : Bool) → begun_line [] (xs ++ ys) ≡ begun_line (begun_line [] xs) ys
        → begun_line (begun ++ b ∷ []) (xs ++ ys) ≡ begun_line (begun_line (begun ++ b ∷ []) xs) ys
        → cond t (begun_line [] (xs ++ ys)) (begun_line (begun ++ b ∷ []) (xs ++ ys))
        ≡ begun_line (cond t (begun_line [] xs) (begun_line (begun ++ b ∷ []) xs)) ys
    at_first true h k = h
    at_first false h k = k

-- what was sent to a session behind its last LF, one call more
pub sent_begun : (s : ℕ) (told : List Told) (t : Told) → begun_line [] (sent_to s (told ++ t ∷ []))
    ≡ begun_line (begun_line [] (sent_to s told)) (sent_by s t)
sent_begun s told t =
    ap (λ (bytes : Bytes). begun_line [] bytes)
    (flat_map-append (λ (u : Told). sent_by s u) told (t ∷ [])
    ∙ ap (λ (bytes : Bytes). sent_to s told ++ bytes) (append-nil (sent_by s t)))
    ∙ begun_more [] (sent_to s told) (sent_by s t)

-- What was written and is held of lines, behind the first calls: their text, and of each session what it was sent
-- behind its last LF.
pub record HasSent (told : List Told) (text : Bytes) (begun : ℕ → Bytes) : Type 0 where
  pub lines : text ≡ sent_text told
  pub rests : (s : ℕ) → begun s ≡ begun_line [] (sent_to s told)

one_more : (past : List Told) (i : ℕ) (t : Told) → i < length past → t ≡ get_or past i t → take (i + 1) past
    ≡ take i past ++ t ∷ []
one_more past i t within is = take_more past i t within ∙ ap (λ (u : Told). take i past ++ u ∷ []) (sym is)

has_at : (past : List Told) (i : ℕ) (t : Told) (text : Bytes) (begun : ℕ → Bytes) → i < length past → t
    ≡ get_or past i t → HasSent (take i past ++ t ∷ []) text begun → HasSent (take (i + 1) past) text begun
has_at past i t text begun within is h = record {
  lines = h.lines ∙ ap sent_text (sym (one_more past i t within is));
  rests = λ s. h.rests s
      ∙ ap (λ (told : List Told). begun_line [] (sent_to s told)) (sym (one_more past i t within is));
}

-- a piece was sent
piece_sent : (told : List Told) (id offered : ℕ) (sent : Sent) (piece text text' : Bytes) (begun begun' : ℕ → Bytes)
    → HasSent told text begun
    → text' ≡ text ++ ended_lines id (begun id) piece
    → ((s : ℕ) → begun' s ≡ cond (nat_eq id s) (begun_line (begun id) piece) (begun s))
    → HasSent (told ++ Sending id offered sent piece ∷ []) text' begun'
piece_sent told id offered sent piece text text' begun begun' h is_text is_begun = record {
  lines =
      is_text ∙ ap₂ (λ (a b : Bytes). a ++ ended_lines id b piece) h.lines (h.rests id)
      ∙ sym (sent_more told (Sending id offered sent piece));
  rests = λ s. is_begun s ∙ at_session s (nat_eq id s) refl ∙ sym (sent_begun s told (Sending id offered sent piece));
}
  where
    at_session : (s : ℕ) (t : Bool) → nat_eq id s ≡ t → cond t (begun_line (begun id) piece) (begun s)
        ≡ begun_line (begun_line [] (sent_to s told)) (cond t piece [])
    at_session s true e = ap (λ (n : ℕ). begun_line (begun n) piece) (eqb-true id s e)
        ∙ ap (λ (line : Bytes). begun_line line piece) (h.rests s)
    at_session s false e = h.rests s

-- nothing was sent
none_sent : (told : List Told) (t : Told) (text : Bytes) (begun : ℕ → Bytes) → lines_ended_by told t ≡ []
    → ((s : ℕ) → sent_by s t ≡ []) → HasSent told text begun → HasSent (told ++ t ∷ []) text begun
none_sent told t text begun no_lines none h = record {
  lines = h.lines ∙ sym (append-nil (sent_text told)) ∙ ap (λ (bytes : Bytes). sent_text told ++ bytes) (sym no_lines)
      ∙ sym (sent_more told t);
  rests = λ s. h.rests s ∙ ap (λ (bytes : Bytes). begun_line (begun_line [] (sent_to s told)) bytes) (sym (none s))
      ∙ sym (sent_begun s told t);
}

pub sending_at : (past : List Told) (i : ℕ) (t : Told) (id offered : ℕ) (sent : Sent)
    (piece text text' : Bytes) (begun begun' : ℕ → Bytes) → i < length past → t ≡ get_or past i t → t
    ≡ Sending id offered sent piece
    → HasSent (take i past) text begun → text' ≡ text ++ ended_lines id (begun id) piece
    → ((s : ℕ) → begun' s ≡ cond (nat_eq id s) (begun_line (begun id) piece) (begun s))
    → HasSent (take (i + 1) past) text' begun'
sending_at past i t id offered sent piece text text' begun begun' within is sends h is_text is_begun =
    has_at past i t text' begun' within is
    (subst (λ (u : Told). HasSent (take i past ++ u ∷ []) text' begun') (sym sends)
    (piece_sent (take i past) id offered sent piece text text' begun begun' h is_text is_begun))

pub other_at : (past : List Told) (i : ℕ) (t : Told) (text : Bytes) (begun : ℕ → Bytes) → i < length past
    → t ≡ get_or past i t → ((id offered : ℕ) (sent : Sent) (piece : Bytes) → t ≡ Sending id offered sent piece → ⊥)
    → HasSent (take i past) text begun → HasSent (take (i + 1) past) text begun
other_at past i (Listening addr answer) text begun within is other h = has_at past i (Listening addr answer) text begun
    within is (none_sent (take i past) (Listening addr answer) text begun refl (λ s. refl) h)
other_at past i (Turning turn piece) text begun within is other h = has_at past i (Turning turn piece) text begun within
    is (none_sent (take i past) (Turning turn piece) text begun refl (λ s. refl) h)
other_at past i (Sending id offered sent piece) text begun within is other h = absurd (other id offered sent piece refl)
other_at past i (Closing id) text begun within is other h = has_at past i (Closing id) text begun within is
    (none_sent (take i past) (Closing id) text begun refl (λ s. refl) h)

-- ---- How bytes are split at a sign, and cut into lines.

-- what stands before the first of these bytes, and behind it
pub split_found : (sign : ℕ) (xs : Bytes) (k : ℕ) → k < length xs → (get_or xs k 0 == sign) ≡ true
    → ((j : ℕ) → j < k → (get_or xs j 0 == sign) ≡ false)
    → (before sign xs ≡ take k xs) × (behind sign xs ≡ Some (drop (k + 1) xs))
split_found sign [] k within is first = absurd (omega (arith, within))
split_found sign (x ∷ xs) zero within is first = let here : (x == sign) ≡ true = is in (rw here refl, rw here refl)
split_found sign (x ∷ xs) (suc k) within is first =
    let here : (x == sign) ≡ false = first 0 (omega arith) in
    let rest = split_found sign xs k (omega (arith, within)) is (λ j less. first (suc j) (omega (arith, less))) in
    (rw here (ap (λ (ys : Bytes). x ∷ ys) rest.0), rw here (rest.1 ∙ ap (λ (n : ℕ). Some (drop n (x ∷ xs))) (more k)))
  where
    more : (n : ℕ) → suc (n + 1) ≡ suc n + 1
    more n = omega arith

-- where there is none
pub split_none : (sign : ℕ) (xs : Bytes) → ((j : ℕ) → j < length xs → (get_or xs j 0 == sign) ≡ false)
    → (before sign xs ≡ xs) × (behind sign xs ≡ None)
split_none sign [] other = (refl, refl)
split_none sign (x ∷ xs) other =
    let here : (x == sign) ≡ false = other 0 (omega arith) in
    let rest = split_none sign xs (λ j less. other (suc j) (omega (arith, less))) in
    (rw here (ap (λ (ys : Bytes). x ∷ ys) rest.0), rw here rest.1)

-- the first line, and those behind it
pub first_line : (b : ℕ) (bytes : Bytes) → schedule_lines (b ∷ bytes)
    ≡ before 10 (b ∷ bytes) ∷ schedule_lines (rest_or_none (behind 10 (b ∷ bytes)))
first_line b [] = last (b == 10)
  where
    last : (t : Bool) → cond t ([] ∷ []) (with_first b [])
        ≡ cond t [] (b ∷ []) ∷ schedule_lines (rest_or_none (cond t (Some []) None))
    last true = refl
    last false = refl
first_line b (d ∷ bytes) = at_first (b == 10) (first_line d bytes)
  where
    at_first : (t : Bool)
        → schedule_lines (d ∷ bytes) ≡ before 10 (d ∷ bytes) ∷ schedule_lines (rest_or_none (behind 10 (d ∷ bytes)))
        → cond t ([] ∷ schedule_lines (d ∷ bytes)) (with_first b (schedule_lines (d ∷ bytes)))
        ≡ cond t [] (b ∷ before 10 (d ∷ bytes))
        ∷ schedule_lines (rest_or_none (cond t (Some (d ∷ bytes)) (behind 10 (d ∷ bytes))))
    at_first true h = refl
    at_first false h = ap (λ (ls : List Bytes). with_first b ls) h

-- the same, as the search for a byte says it
pub split_first : (sign : ℕ) (xs : Bytes) (k : ℕ) → IsFirstByte (is_byte sign) xs (Some k)
    → (before sign xs ≡ take k xs) × (behind sign xs ≡ Some (drop (k + 1) xs))
split_first sign xs k h = split_found sign xs k h.0.high h.1
    (λ j less. false_from_ne_true (get_or xs j 0 == sign) (h.0.before j (omega arith) less))

pub split_none_of : (sign : ℕ) (xs : Bytes) → IsFirstByte (is_byte sign) xs None → (before sign xs ≡ xs)
    × (behind sign xs ≡ None)
split_none_of sign xs h = split_none sign xs
    (λ j less. false_from_ne_true (get_or xs j 0 == sign) (h j (omega arith) less))

-- ---- A schedule has a turn for each line, and no turn brings more bytes than are read at a time.

-- the first line is one more
pub one_line_more : (rest after : Bytes) → 0 < length rest → after ≡ rest_or_none (behind 10 rest)
    → length (schedule_lines rest)
    ≡ length (schedule_lines after) + 1
one_line_more [] after some is_rest = absurd (omega (arith, some))
one_line_more (b ∷ rest) after some is_rest =
    let more = ap (λ (ls : List Bytes). length ls) (first_line b rest) in
    let same = ap (λ (xs : Bytes). length (schedule_lines xs)) is_rest in
    omega (arith, more, same)

-- turns, as the answer for a schedule
abbrev ok_of : List Coming → Result (List Coming) ℕ
ok_of turns = Ok turns

behind_one : (c : Coming) (r : Result (List Coming) ℕ) (turns : List Coming) → behind_turns (c ∷ []) r ≡ Ok turns
    → (more : List Coming) × (r ≡ Ok more) × (turns ≡ c ∷ more)
behind_one c (Ok more) turns h = (more, refl, sym (same_ok h))
  where
    same_ok : {x y : List Coming} → ok_of x ≡ ok_of y → x ≡ y
    same_ok e = cc
behind_one c (Err n) turns h = absurd cc

counted_at : (st : Stage) (n : ℕ) (o : Option Order) (ls : List Bytes) (turns : List Coming)
    → turns_by st n o (λ q. turns_from (next_stage st q) (n + 1) ls) ≡ Ok turns
    → ((st' : Stage) (more : List Coming) → turns_from st' (n + 1) ls ≡ Ok more → length more ≡ length ls)
    → length turns ≡ length ls + 1
counted_at st n None ls turns h later = absurd cc
counted_at st n (Some o) ls turns h later =
    let b = behind_one (coming_of st o) (turns_from (next_stage st o) (n + 1) ls) turns h in
    omega (arith, ap (λ (cs : List Coming). length cs) b.2, later (next_stage st o) b.0 b.1)

counted_from : (st : Stage) (n : ℕ) (ls : List Bytes) (turns : List Coming) → turns_from st n ls ≡ Ok turns
    → length turns ≡ length ls
counted_from st n [] turns h = ap (λ (cs : List Coming). length cs) (none_ok h)
  where
    none_ok : ok_of [] ≡ ok_of turns → turns ≡ []
    none_ok e = cc
counted_from st n (l ∷ ls) turns h =
    omega (arith, counted_at st n (in_grammar st l) ls turns h (λ st' more k. counted_from st' (n + 1) ls more k))

-- A schedule has as many turns as lines.
pub turn_for_each_line : (bytes : Bytes) (turns : List Coming) → turns_of bytes ≡ Ok turns → length turns
    ≡ length (schedule_lines bytes)
turn_for_each_line bytes turns h = counted_from first_stage 1 (schedule_lines bytes) turns h

-- a turn brings at most so many bytes as are read at a time
abbrev pub IsShort : Incoming → Type 0
IsShort (Brings id piece) = length piece ≤ 8192
IsShort (Opens id) = Unit {0}
IsShort (Ends id) = Unit {0}
IsShort Nothing = Unit {0}

abbrev pub AllShort : List Coming → Type 0
AllShort [] = Unit {0}
AllShort (c ∷ cs) = IsShort c.turn × AllShort cs

behind_fewer : (sign : ℕ) (xs rest : Bytes) → behind sign xs ≡ Some rest → length rest < length xs
behind_fewer sign [] rest h = absurd cc
behind_fewer sign (x ∷ xs) rest h = at_first (x == sign) h (behind_fewer sign xs rest)
  where
    same_some : {a b : Bytes} → Some a ≡ Some b → a ≡ b
    same_some e = cc

    at_first : (t : Bool) → cond t (Some xs) (behind sign xs) ≡ Some rest
        → (behind sign xs ≡ Some rest → length rest < length xs) → length rest < length (x ∷ xs)
    at_first true e later = omega (arith, ap (λ (ys : Bytes). length ys) (same_some e))
    at_first false e later = omega (arith, later e)

-- the text of an order is shorter than what it is read from
order_text : (k : Keyword) (id : Option ℕ) (rest : Bytes) (q : Order) → order_with k id (behind 32 rest) ≡ Some q
    → length (text_or_none q.1.1) ≤ length rest
order_text k None rest q h = absurd cc
order_text k (Some id) rest q h = by_text (behind 32 rest) refl h
  where
    within : (text : Option Bytes) → behind 32 rest ≡ text → length (text_or_none text) ≤ length rest
    within None e = omega arith
    within (Some text) e = omega (arith, behind_fewer 32 rest text e)

    in_some : {a b : Order} → Some a ≡ Some b → a ≡ b
    in_some e = cc

    at_test : (t : Bool) (text : Option Bytes) → behind 32 rest ≡ text → cond t None (Some (k, (id, text))) ≡ Some q
        → length (text_or_none q.1.1) ≤ length rest
    at_test true text e same = absurd cc
    at_test false text e same = omega
        (arith, within text e, ap (λ (o : Order). length (text_or_none o.1.1)) (in_some same))

    by_text : (text : Option Bytes) → behind 32 rest ≡ text → order_with k (Some id) text ≡ Some q
        → length (text_or_none q.1.1) ≤ length rest
    by_text text e same = at_test (not (is_none text) && not (takes_text k)) text e same

order_short : (k : Option Keyword) (o : Option Bytes) (line : Bytes) (q : Order) → behind 32 line ≡ o → order_behind k o
    ≡ Some q → length (text_or_none q.1.1) < length line
order_short None o line q e h = absurd cc
order_short (Some k) None line q e h = absurd cc
order_short (Some k) (Some rest) line q e h = omega
    (arith, behind_fewer 32 line rest e, order_text k (id_of (before 32 rest)) rest q h)

standing_as : (st : Stage) (o : Option Order) (q : Order) → standing st o ≡ Some q → o ≡ Some q
standing_as st None q h = absurd cc
standing_as st (Some p) q h = at_test (may_stand st p.0 p.1.0) h
  where
    at_test : (t : Bool) → cond t (Some p) None ≡ Some q → Some p ≡ Some q
    at_test true e = e
    at_test false e = absurd cc

line_short : (st : Stage) (line : Bytes) (q : Order) → in_grammar st line ≡ Some q
    → length (text_or_none q.1.1) + 1 ≤ 8192
line_short st line q h = at_test (nat_le (length line) 8192) refl h
  where
    at_test : (t : Bool) → nat_le (length line) 8192 ≡ t → cond t (standing st (order_of line)) None ≡ Some q
        → length (text_or_none q.1.1) + 1 ≤ 8192
    at_test true e k = omega (
      arith,
      leb-true (length line) 8192 e,
      order_short (schedule_keyword_of (before 32 line)) (behind 32 line) line q refl
          (standing_as st (order_of line) q k),
    )
    at_test false e k = absurd cc

turn_short : (k : Keyword) (id : ℕ) (text : Option Bytes) → length (text_or_none text) + 1 ≤ 8192
    → IsShort (turn_of_line k id text)
turn_short Open id text h = tt
turn_short Say id text h = omega (arith, length-append (text_or_none text) (10 ∷ []), h)
turn_short Part id text h = omega (arith, h)
turn_short Again id text h = tt
turn_short Free id text h = tt
turn_short End id text h = tt

short_at : (st : Stage) (n : ℕ) (l : Bytes) (o : Option Order) (ls : List Bytes) (turns : List Coming) → in_grammar st l
    ≡ o → turns_by st n o (λ q. turns_from (next_stage st q) (n + 1) ls) ≡ Ok turns
    → ((st' : Stage) (more : List Coming) → turns_from st' (n + 1) ls ≡ Ok more → AllShort more) → AllShort turns
short_at st n l None ls turns e h later = absurd cc
short_at st n l (Some o) ls turns e h later =
    let b = behind_one (coming_of st o) (turns_from (next_stage st o) (n + 1) ls) turns h in
    subst AllShort (sym b.2) (turn_short o.0 o.1.0 o.1.1 (line_short st l o e), later (next_stage st o) b.0 b.1)

short_from : (st : Stage) (n : ℕ) (ls : List Bytes) (turns : List Coming) → turns_from st n ls ≡ Ok turns
    → AllShort turns
short_from st n [] turns h = subst AllShort (none_ok h) tt
  where
    none_ok : ok_of [] ≡ ok_of turns → [] ≡ turns
    none_ok e = cc
short_from st n (l ∷ ls) turns h = short_at st n l (in_grammar st l) ls turns refl h
    (λ st' more k. short_from st' (n + 1) ls more k)

-- No turn of a schedule brings more than is read at a time.
pub turns_are_short : (bytes : Bytes) (turns : List Coming) → turns_of bytes ≡ Ok turns → AllShort turns
turns_are_short bytes turns h = short_from first_stage 1 (schedule_lines bytes) turns h

-- ---- A schedule's hub, line by line.

-- a hub that was asked nothing yet
pub record IsFresh (hub : Recorded) : Type 0 where
  pub blocked : hub.script.blocked ≡ []
  pub past : hub.past ≡ Some []
  pub ids : hub.ids ≡ no_ids
  pub listens : hub.failing_listens ≡ []
  pub fails : hub.failing_turns ≡ []
  pub sends : hub.failing_sends ≡ []

-- What is made of the lines so far: the turns of them all are these, and then those of the rest.
pub record Making (bytes : Bytes) (hub : Recorded) (st : Stage) (number : ℕ) (rest : Bytes) : Type 0 where
  pub turns : turns_of bytes ≡ behind_turns hub.script.turns (turns_from st (number + 1) (schedule_lines rest))
  pub fresh : IsFresh hub
  pub few : number + length rest ≤ length bytes

-- the first line of bytes, and the turns of them
turns_at : (st : Stage) (n : ℕ) (l : Bytes) (ls : List Bytes) (o : Order) → in_grammar st l ≡ Some o
    → turns_from st n (l ∷ ls) ≡ behind_turns (coming_of st o ∷ []) (turns_from (next_stage st o) (n + 1) ls)
turns_at st n l ls o e = ap (λ (p : Option Order). turns_by st n p (λ q. turns_from (next_stage st q) (n + 1) ls)) e

turns_outside : (st : Stage) (n : ℕ) (l : Bytes) (ls : List Bytes) → in_grammar st l ≡ None → turns_from st n (l ∷ ls)
    ≡ Err n
turns_outside st n l ls e = ap (λ (p : Option Order). turns_by st n p (λ q. turns_from (next_stage st q) (n + 1) ls)) e

turns_then : (turns more : List Coming) (r : Result (List Coming) ℕ) → behind_turns turns (behind_turns more r)
    ≡ behind_turns (turns ++ more) r
turns_then turns more (Ok rest) = ap (λ (ts : List Coming). Ok ts) (sym (append_assoc turns more rest))
turns_then turns more (Err n) = refl

-- A line was added.
added_at : (o : Option Order) (st st' : Stage) (hub hub' : Recorded)
    → IsSomeAnd o (λ q. (st' ≡ next_stage st q) × (hub' ≡ with_coming hub (coming_of st q)))
    → (q : Order) × (o ≡ Some q) × (st' ≡ next_stage st q) × (hub' ≡ with_coming hub (coming_of st q))
added_at None st st' hub hub' h = absurd h
added_at (Some q) st st' hub hub' h = (q, refl, h.0, h.1)

fresh_with : (hub : Recorded) (coming : Coming) → IsFresh hub → IsFresh (with_coming hub coming)
fresh_with hub coming f = record
    { blocked = f.blocked; past = f.past; ids = f.ids; listens = f.listens; fails = f.fails; sends = f.sends }

pub made_more : (bytes : Bytes) (hub hub' : Recorded) (st st' : Stage) (number : ℕ) (b : ℕ) (rest l after : Bytes)
    → Making bytes hub st number (b ∷ rest) → l ≡ before 10 (b ∷ rest) → after ≡ rest_or_none (behind 10 (b ∷ rest))
    → length after ≤ length rest → AddsLine true st hub l st' hub' → Making bytes hub' st' (number + 1) after
made_more bytes hub hub' st st' number b rest l after m is_line is_rest few h =
    let a = added_at (in_grammar st l) st st' hub hub' h in
    let coming = coming_of st a.0 in
    let ls = schedule_lines after in
    let lines : schedule_lines (b ∷ rest) ≡ l ∷ ls = first_line b rest
    ∙ ap (λ (xs : Bytes). xs ∷ schedule_lines (rest_or_none (behind 10 (b ∷ rest)))) (sym is_line)
    ∙ ap (λ (xs : Bytes). l ∷ schedule_lines xs) (sym is_rest) in
    let here : turns_from st (number + 1) (schedule_lines (b ∷ rest))
    ≡ behind_turns (coming ∷ []) (turns_from st' (number + 1 + 1) ls) =
    ap (λ (xs : List Bytes). turns_from st (number + 1) xs) lines ∙ turns_at st (number + 1) l ls a.0 a.1
    ∙ ap (λ (k : Stage). behind_turns (coming ∷ []) (turns_from k (number + 1 + 1) ls)) (sym a.2) in
    record {
      turns = m.turns ∙ ap (λ (r : Result (List Coming) ℕ). behind_turns hub.script.turns r) here
          ∙ turns_then hub.script.turns (coming ∷ []) (turns_from st' (number + 1 + 1) ls)
          ∙ ap (λ (k : Recorded). behind_turns k.script.turns (turns_from st' (number + 1 + 1) ls)) (sym a.3);
      fresh = subst IsFresh (sym a.3) (fresh_with hub coming m.fresh);
      few = omega (arith, m.few, few);
    }

-- a line is outside the grammar
pub made_outside : (bytes : Bytes) (hub : Recorded) (st : Stage) (number : ℕ) (b : ℕ) (rest l : Bytes)
    → Making bytes hub st number (b ∷ rest) → l ≡ before 10 (b ∷ rest) → in_grammar st l ≡ None → turns_of bytes
    ≡ Err (number + 1)
made_outside bytes hub st number b rest l m is_line none =
    let ls = schedule_lines (rest_or_none (behind 10 (b ∷ rest))) in
    m.turns ∙ ap (λ (xs : List Bytes). behind_turns hub.script.turns (turns_from st (number + 1) xs))
    (first_line b rest ∙ ap (λ (xs : Bytes). xs ∷ ls) (sym is_line))
    ∙ ap (λ (r : Result (List Coming) ℕ). behind_turns hub.script.turns r) (turns_outside st (number + 1) l ls none)

-- the same of bytes that aren't empty, as the code has them

behind_fewer_making : (sign : ℕ) (xs : Bytes) → length (rest_or_none (behind sign xs)) ≤ length xs
behind_fewer_making sign [] = omega arith
behind_fewer_making sign (x ∷ xs) = at_first (x == sign) (behind_fewer_making sign xs)
  where
    at_first : (t : Bool) → length (rest_or_none (behind sign xs)) ≤ length xs
        → length (rest_or_none (cond t (Some xs) (behind sign xs))) ≤ length (x ∷ xs)
    at_first true h = omega arith
    at_first false h = omega (arith, h)

first_fewer : (sign x : ℕ) (xs : Bytes) → length (rest_or_none (behind sign (x ∷ xs))) ≤ length xs
first_fewer sign x xs = at_first (x == sign) (behind_fewer_making sign xs)
  where
    at_first : (t : Bool) → length (rest_or_none (behind sign xs)) ≤ length xs
        → length (rest_or_none (cond t (Some xs) (behind sign xs))) ≤ length xs
    at_first true h = omega arith
    at_first false h = h

pub smaller : (rest after : Bytes) → 0 < length rest → after ≡ rest_or_none (behind 10 rest)
    → length after < length rest
smaller [] after some is_rest = absurd (omega (arith, some))
smaller (b ∷ rest) after some is_rest = omega (arith, ap length is_rest, first_fewer 10 b rest)

pub line_added : (bytes : Bytes) (hub hub' : Recorded) (st st' : Stage) (number : ℕ) (rest l after : Bytes)
    (added : Bool) → added ≡ true → 0 < length rest → Making bytes hub st number rest → l ≡ before 10 rest
    → after ≡ rest_or_none (behind 10 rest) → AddsLine added st hub l st' hub'
    → Making bytes hub' st' (number + 1) after
line_added bytes hub hub' st st' number [] l after added is some m is_line is_rest h = absurd (omega (arith, some))
line_added bytes hub hub' st st' number (b ∷ rest) l after added is some m is_line is_rest h =
    made_more bytes hub hub' st st' number b rest l after m is_line is_rest
    (omega (arith, ap length is_rest, first_fewer 10 b rest))
    (subst (λ (t : Bool). AddsLine t st hub l st' hub') is h)

pub line_outside : (bytes : Bytes) (hub hub' : Recorded) (st st' : Stage) (number : ℕ) (rest l : Bytes) (added : Bool)
    → added ≡ false → 0 < length rest → Making bytes hub st number rest → l ≡ before 10 rest
    → AddsLine added st hub l st' hub' → turns_of bytes ≡ Err (number + 1)
line_outside bytes hub hub' st st' number [] l added is some m is_line h = absurd (omega (arith, some))
line_outside bytes hub hub' st st' number (b ∷ rest) l added is some m is_line h =
    made_outside bytes hub st number b rest l m is_line (subst (λ (t : Bool). AddsLine t st hub l st' hub') is h)

pub not_empty : (empty : Bool) (xs : Bytes) → empty ≡ (length xs == 0) → empty ≡ false → 0 < length xs
not_empty empty [] is e = absurd (both (sym is ∙ e))
  where
    both : true ≡ false → ⊥
    both k = cc
not_empty empty (x ∷ xs) is e = omega arith
