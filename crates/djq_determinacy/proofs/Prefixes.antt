-- A run of the server that is cut off is a first part of one that returns.
use Rattle.std.specs.Prelude.{ℕ, zero, suc, List, [], ◌∷◌, ◌≡◌, ◌⊎◌, ◌++◌, ◌==◌, ◌≤◌, ◌<◌, ◌+◌, Bool, true, false, cond, not}
use Rattle.std.specs.Prelude.{Option, None, Some, is_some, IsSome, IsSomeAnd, MatchOption, find, filter, All, map, length}
use Rattle.std.specs.Prelude.{slice_get}
use Rattle.std.proofs.Common.{refl, sym, ap, ◌∙◌, subst, inl, inr, arith}
use Rattle.std.proofs.lemmas.Bool.{true≢false, cases_lt, eq-eqb}
use Rattle.std.proofs.lemmas.List.Elements.{All-nil, All-cons, All-head, All-tail, All-append}
use Rattle.std.proofs.lemmas.List.Sorted.{IsPermutation-refl}
use Rattle.djq_io.specs.Hub.{Ids, without, Turns}
use Rattle.djq_io.specs.declared.limits.TheConstants.{READ_BYTES}
use Rattle.djq_io.specs.declared.hub.Turn.{Turn}
use Rattle.djq_io.specs.declared.hub.Turn.TheVariants.{Over as HubOver}
use Rattle.djq_io.specs.declared.hub.Sent.TheVariants.{Gone}
use Rattle.djq_io.specs.declared.hub.Told.{Told}
use Rattle.djq_io.specs.declared.hub.Told.TheVariants.{Listening, Turning, Sending, Closing}
use Rattle.djq_log.specs.Logging.{grouped}
use Rattle.djq_log.specs.declared.log.Kept.TheVariants.{All as Stored}
use Rattle.djq_model.specs.declared.relation.Relation.{Relation}
use Rattle.djq_model.specs.Data.{Bytes, change_first}
use Rattle.djq_protocol.specs.declared.answer.EndCause.{EndCause}
use Rattle.djq_protocol.specs.declared.answer.EndCause.TheVariants.{Long, Slow, Memory, Input}
use Rattle.djq_protocol.specs.declared.limits.TheConstants.{PENDING_BYTES}
use Rattle.djq_protocol.specs.Line.{Front, dry, too_long, a_line, line_or_dry, front_of, before_lf, behind_lf, without_cr, is_long, is_blank}
use Rattle.djq_protocol.specs.Reply.{end_long, end_slow, end_memory}
use Rattle.djq_machine.specs.Walk.{Walk}
use Rattle.djq_machine.specs.State.{State, Session, session_of, with_session, ended_by}
use Rattle.djq_protocol.specs.Reply.{cut_line}
use Rattle.djq_machine.specs.Effect.{Effect, nothing, says, says_any, lost_line, queue_all}
use Rattle.djq_machine.specs.LineStep.{LineOutcome, long, blank, slow, no_room, behind_line}
use Rattle.djq_machine.specs.Step.{Event, stepped, ended, closed, Step, Acts, SameRelations, is_dry}
use Rattle.djq_machine.specs.Run.{Did, Group, kept_group, lines_in, pending_of, pending_in}
use Rattle.djq_machine.specs.Call.{may_run, first_due, cause_in, held_in}
use Rattle.djq_serve.specs.declared.served.Served.{Served}
use Rattle.djq_serve.specs.declared.served.Served.TheVariants.{Stopped, Over}
use Rattle.djq_serve.specs.Told.{IdsShow}
use Rattle.djq_serve.specs.Server.{Server, Move, MakesMove, Phase, waiting, gathering, running, keeping, flushing, closing, server, all_told, move}
use Rattle.djq_serve.specs.Server.{Last, next_round, input_over, no_turn, Next, more_lines, round_over, is_last, after, after_round, next_ready}
use Rattle.djq_serve.specs.Server.{ClosesFirst, FlushesAt, Visits, Happens, EndsRound, EndsInputIf, first_open}
use Rattle.djq_serve.specs.Server.{ends_input, offering, RunsAt}
use Rattle.djq_serve.proofs.ReadySessions.{may_parts, ready_is_open, next_may, next_none}
use Rattle.djq_serve.proofs.Rounds.{input_dry, input_open}
use Rattle.djq_serve.proofs.Sessions.{due_open, due_ended}
use Rattle.djq_determinacy.specs.Prefixes.{IsOfOver, ReturnsFrom, PrefixesReturn}

-- ---- One move more.

-- what a hub that is over answers does this to its ids
shows_over : (told : List Told) → All IsOfOver told → (ids : Ids) → (left : Ids) × Walk IdsShow ids told left
shows_over [] h ids = (ids, refl)
shows_over (t ∷ ts) h ids =
    let first = one t (All-head IsOfOver t ts h) in
    let rest = shows_over ts (All-tail IsOfOver t ts h) first.0 in (rest.0, (first.0, first.1, rest.1))
  where
    one : (t : Told) → IsOfOver t → (mid : Ids) × IdsShow ids t mid
    one (Turning turn piece) over = (ids, subst (λ (k : Turn). Turns k READ_BYTES ids ids) (sym over.0) refl)
    one (Sending s offered sent taken) over = (ids, refl)
    one (Closing s) over = (without ids s, refl)
    one (Listening addr answer) over = absurd over

-- a move whose calls are of a hub that is over, and at which the log stores what it is handed
abbrev IsOfEnd : Move → Type 0
IsOfEnd m = All IsOfOver m.told × (m.stored ≡ Stored)

move_then : (most : ℕ) (at : Server) (m : Move) (next : Server) → MakesMove most at m next → IsOfEnd m
    → ReturnsFrom most next → ReturnsFrom most at
move_then most at m next makes end r =
    let over = All-append IsOfOver m.told (all_told r.later) end.0 r.over in
    record {
      later = m ∷ r.later;
      answer = r.answer;
      new = r.new;
      walk = (next, makes, r.walk);
      none_open = r.none_open;
      over = over;
      stored = All-cons (λ (k : Move). k.stored ≡ Stored) m r.later end.1 r.stored;
      told = shows_over (m.told ++ all_told r.later) over;
    }

-- ---- Steps that there always are.

pub same_relations : (rs : List Relation) → SameRelations rs rs
same_relations [] = tt
same_relations (r ∷ rs) = (refl, refl, IsPermutation-refl r.rows, same_relations rs)

pub step_of : (old : State) (event : Event) (e : Effect) (mid : State) → Acts old event e mid
    → Step old event e (queue_all mid e.queued)
step_of old event e mid acts = record {
  mid = mid;
  acts = acts;
  relations = mid.store.relations;
  reordered = same_relations mid.store.relations;
  queued = refl;
}

-- the state without a session
abbrev gone : ℕ → State → State
gone s st = record st { sessions = filter (λ (x : Session). not (x.id == s)) st.sessions }

closes_step : (st : State) (s : ℕ) (bytes : Bytes) → IsSomeAnd (session_of st s) (λ x. x.pending ≡ bytes)
    → Step st (closed s bytes) nothing (gone s st)
closes_step st s bytes there = step_of st (closed s bytes) nothing (gone s st) (refl, there, refl)

pending_there : (o : Option Session) → IsSome o → IsSomeAnd o (λ x. x.pending ≡ pending_in o)
pending_there None h = absurd cc
pending_there (Some x) h = refl

-- ---- How much is left to be run.

abbrev weight_by : Option EndCause → Bytes → ℕ
weight_by None held = suc (length held)
weight_by (Some c) held = 0

abbrev weight : Session → ℕ
weight x = weight_by x.cause x.held

abbrev weigh_all : List Session → ℕ
weigh_all [] = 0
weigh_all (x ∷ xs) = weight x + weigh_all xs

-- the bytes that running sessions hold, and one for each of these
abbrev burden : State → ℕ
burden st = weigh_all st.sessions

fewer_left : (s : ℕ) (xs : List Session) → length (filter (λ (x : Session). not (x.id == s)) xs) ≤ length xs
fewer_left s [] = omega arith
fewer_left s (x ∷ xs) = by (x.id == s) (fewer_left s xs)
  where
    by : (b : Bool) → length (filter (λ (y : Session). not (y.id == s)) xs) ≤ length xs
        → length (cond (not b) (x ∷ filter (λ (y : Session). not (y.id == s)) xs) (filter (λ (y : Session). not (y.id == s)) xs))
        ≤ suc (length xs)
    by true h = omega (arith, h)
    by false h = omega (arith, h)

one_gone : (s : ℕ) (xs : List Session) (x : Session) → find (λ (y : Session). y.id == s) xs ≡ Some x
    → length (filter (λ (y : Session). not (y.id == s)) xs) < length xs
one_gone s [] x found = absurd cc
one_gone s (y ∷ ys) x found = by (y.id == s) found (fewer_left s ys) (λ h. one_gone s ys x h)
  where
    by : (b : Bool) → cond b (Some y) (find (λ (z : Session). z.id == s) ys) ≡ Some x
        → length (filter (λ (z : Session). not (z.id == s)) ys) ≤ length ys
        → (find (λ (z : Session). z.id == s) ys ≡ Some x → length (filter (λ (z : Session). not (z.id == s)) ys) < length ys)
        → length (cond (not b) (y ∷ filter (λ (z : Session). not (z.id == s)) ys) (filter (λ (z : Session). not (z.id == s)) ys))
        < suc (length ys)
    by true is few more = omega (arith, few)
    by false is few more = let h = more is in omega (arith, h)

lighter_left : (s : ℕ) (xs : List Session) → weigh_all (filter (λ (x : Session). not (x.id == s)) xs) ≤ weigh_all xs
lighter_left s [] = omega arith
lighter_left s (x ∷ xs) = by (x.id == s) (lighter_left s xs)
  where
    by : (b : Bool) → weigh_all (filter (λ (y : Session). not (y.id == s)) xs) ≤ weigh_all xs
        → weigh_all (cond (not b) (x ∷ filter (λ (y : Session). not (y.id == s)) xs) (filter (λ (y : Session). not (y.id == s)) xs))
        ≤ weight x + weigh_all xs
    by true h = omega (arith, h)
    by false h =
        let more : weight x + weigh_all (filter (λ (y : Session). not (y.id == s)) xs) ≤ weight x + weigh_all xs =
        omega (arith, h) in more

-- a change that makes no session heavier
no_heavier : (p : Session → Bool) (f : Session → Session) → ((x : Session) → weight (f x) ≤ weight x) → (xs : List Session)
    → weigh_all (change_first p f xs) ≤ weigh_all xs
no_heavier p f less [] = omega arith
no_heavier p f less (x ∷ xs) = by (p x) (less x) (no_heavier p f less xs)
  where
    by : (b : Bool) → weight (f x) ≤ weight x → weigh_all (change_first p f xs) ≤ weigh_all xs
        → weigh_all (cond b (f x ∷ xs) (x ∷ change_first p f xs)) ≤ weight x + weigh_all xs
    by true one h = let more : weight (f x) + weigh_all xs ≤ weight x + weigh_all xs = omega (arith, one) in more
    by false one h =
        let more : weight x + weigh_all (change_first p f xs) ≤ weight x + weigh_all xs = omega (arith, h) in more

-- one that makes the first of these lighter
is_lighter : (p : Session → Bool) (f : Session → Session) (xs : List Session) (x : Session) → find p xs ≡ Some x
    → weight (f x) < weight x → weigh_all (change_first p f xs) < weigh_all xs
is_lighter p f [] x found less = absurd cc
is_lighter p f (y ∷ ys) x found less = by (p y) found (λ h. is_lighter p f ys x h less)
  where
    by : (b : Bool) → cond b (Some y) (find p ys) ≡ Some x
        → (find p ys ≡ Some x → weigh_all (change_first p f ys) < weigh_all ys)
        → weigh_all (cond b (f y ∷ ys) (y ∷ change_first p f ys)) < weight y + weigh_all ys
    by true is more =
        let same : x ≡ y = cc in let one = subst (λ (z : Session). weight (f z) < weight z) same less in
        let less : weight (f y) + weigh_all ys < weight y + weigh_all ys = omega (arith, one) in less
    by false is more =
        let h = more is in
        let less : weight y + weigh_all (change_first p f ys) < weight y + weigh_all ys = omega (arith, h) in less

-- what is queued makes no session heavier
queued_burden : (qs : List (ℕ × Bytes)) (st : State) → burden (queue_all st qs) ≤ burden st
queued_burden [] st = omega arith
queued_burden (q ∷ qs) st =
    let one = no_heavier (λ (x : Session). x.id == q.0) (λ x. record x { pending = x.pending ++ q.1 }) (λ x. omega arith)
    st.sessions in
    let more = queued_burden qs (with_session st q.0 (λ x. record x { pending = x.pending ++ q.1 })) in
    omega (arith, one, more)

-- ---- A session of which a line may be run.

-- a line ends within what is held
behind_shorter : (held rest : Bytes) → behind_lf held ≡ Some rest → length rest < length held
behind_shorter [] rest is = absurd cc
behind_shorter (b ∷ bs) rest is = by (b == 10) is (λ h. behind_shorter bs rest h)
  where
    by : (c : Bool) → cond c (Some bs) (behind_lf bs) ≡ Some rest → (behind_lf bs ≡ Some rest → length rest < length bs)
        → length rest < suc (length bs)
    by true same more = let whole : bs ≡ rest = cc in subst (λ (k : Bytes). length k < suc (length bs)) whole (omega arith)
    by false same more = let h = more same in omega (arith, h)

line_shorter : (held l rest : Bytes) → front_of held ≡ a_line l rest → length rest < length held
line_shorter held l rest is = by (is_long (before_lf held)) (behind_lf held) refl is
  where
    by : (b : Bool) (o : Option Bytes) → behind_lf held ≡ o
        → cond b too_long (line_or_dry (without_cr (before_lf held)) o) ≡ a_line l rest → length rest < length held
    by true o e same = absurd cc
    by false None e same = absurd cc
    by false (Some behind) e same =
        let last : behind ≡ rest = cc in behind_shorter held rest (e ∙ ap (λ (k : Bytes). Some k) last)

-- what a step makes of a session of which a line may be run: it may be any line's, and it lightens the burden
record Lightens (st : State) (s : ℕ) : Type 0 where
  outcome : LineOutcome
  effect : Effect
  new : State
  step : Step st (stepped s outcome) effect new
  less : burden new < burden st

acts_at : (st : State) (s : ℕ) (x : Session) (P : Session → Type 0) → session_of st s ≡ Some x → P x
    → IsSomeAnd (session_of st s) P
acts_at st s x P found holds = subst (λ (o : Option Session). IsSomeAnd o P) (sym found) holds

module _ (st : State) (s : ℕ) (x : Session) (found : session_of st s ≡ Some x) (runs : x.cause ≡ None) where
  weighs : weight x ≡ suc (length x.held)
  weighs = ap (λ (c : Option EndCause). weight_by c x.held) runs

  -- its line is too long
  ends_long : front_of x.held ≡ too_long → Lightens st s
  ends_long front =
      let f = ended_by Long in
      let less = is_lighter (λ (y : Session). y.id == s) f st.sessions x found (omega (arith, weighs)) in
      let queued = queued_burden ((s, end_long) ∷ []) (with_session st s f) in
      record {
        outcome = long;
        effect = says s end_long;
        new = queue_all (with_session st s f) ((s, end_long) ∷ []);
        step = step_of st (stepped s long) (says s end_long) (with_session st s f)
            (acts_at st s x _ found (runs, (front, (refl, refl))));
        less = omega (arith, less, queued);
      }

  -- it has a line
  module _ (l rest : Bytes) (front : front_of x.held ≡ a_line l rest) where
    shorter : burden (with_session st s (behind_line rest)) < burden st
    shorter =
        let few = line_shorter x.held l rest front in
        let less : weight (behind_line rest x) < weight x =
        let after : weight (behind_line rest x) ≡ suc (length rest) = ap (λ (c : Option EndCause). weight_by c rest) runs in
        omega (arith, weighs, after, few) in
        is_lighter (λ (y : Session). y.id == s) (behind_line rest) st.sessions x found less

    passes_blank : is_blank l ≡ true → Lightens st s
    passes_blank is = record {
      outcome = blank l;
      effect = nothing;
      new = with_session st s (behind_line rest);
      step = step_of st (stepped s (blank l)) nothing (with_session st s (behind_line rest))
          (acts_at st s x _ found (runs, (is, record { rest = rest; front = front; then = (refl, refl) })));
      less = shorter;
    }

    lighter_ended : (cause : EndCause) (text : Bytes)
        → burden (queue_all (with_session (with_session st s (behind_line rest)) s (ended_by cause)) ((s, text) ∷ [])) < burden st
    lighter_ended cause text =
        let mid = with_session st s (behind_line rest) in
        let ended = no_heavier (λ (y : Session). y.id == s) (ended_by cause) (λ y. omega arith) mid.sessions in
        let queued = queued_burden ((s, text) ∷ []) (with_session mid s (ended_by cause)) in
        omega (arith, shorter, ended, queued)

    ends_slow : is_blank l ≡ false → PENDING_BYTES < length x.pending → Lightens st s
    ends_slow is many =
        let new = with_session (with_session st s (behind_line rest)) s (ended_by Slow) in
        record {
          outcome = slow l;
          effect = says s end_slow;
          new = queue_all new ((s, end_slow) ∷ []);
          step = step_of st (stepped s (slow l)) (says s end_slow) new
              (acts_at st s x _ found (runs, (is, many, record { rest = rest; front = front; then = (refl, refl) })));
          less = lighter_ended Slow end_slow;
        }

    ends_no_room : is_blank l ≡ false → length x.pending ≤ PENDING_BYTES → Lightens st s
    ends_no_room is few =
        let new = with_session (with_session st s (behind_line rest)) s (ended_by Memory) in
        record {
          outcome = no_room l;
          effect = says s end_memory;
          new = queue_all new ((s, end_memory) ∷ []);
          step = step_of st (stepped s (no_room l)) (says s end_memory) new
              (acts_at st s x _ found (runs, (is, few, record { rest = rest; front = front; then = (refl, refl) })));
          less = lighter_ended Memory end_memory;
        }

    has_line : Lightens st s
    has_line = by (is_blank l) refl (cases_lt PENDING_BYTES (length x.pending))
      where
        by : (b : Bool) → is_blank l ≡ b → (c : (PENDING_BYTES < length x.pending) ⊎ (length x.pending ≤ PENDING_BYTES))
            → Lightens st s
        by true is c = passes_blank is
        by false is (inl many) = ends_slow is many
        by false is (inr few) = ends_no_room is few

  -- it holds a line, or a front that is too long
  dry_front : front_of x.held ≡ dry → is_dry x.held ≡ true
  dry_front front = rw front refl

  is_run : is_dry x.held ≡ false → Lightens st s
  is_run wet = by (front_of x.held) refl
    where
      by : (f : Front) → front_of x.held ≡ f → Lightens st s
      by dry front = absurd (true≢false (sym (dry_front front) ∙ wet))
      by too_long front = ends_long front
      by (a_line l rest) front = has_line l rest front

-- the session of an id that is open
some_session : (o : Option Session) → IsSome o → (x : Session) × (o ≡ Some x)
some_session None h = absurd cc
some_session (Some x) h = (x, refl)

lightens : (st : State) (s : ℕ) → may_run st s ≡ true → Lightens st s
lightens st s may =
    let parts = may_parts st s may in
    let there = some_session (session_of st s) (ready_is_open st s may) in
    is_run st s there.0 there.1
    (ap cause_in (sym there.1) ∙ parts.running)
    (subst (λ (held : Bytes). is_dry held ≡ false) (ap held_in there.1) parts.wet)

-- ---- Each phase comes to an end.

module _ (most : ℕ) where
  nothing_told : (done : List Did) → IsOfEnd (move [] done)
  nothing_told done = (All-nil IsOfOver, refl)

  closes_told : (s : ℕ) (done : List Did) → IsOfEnd (move (Closing s ∷ []) done)
  closes_told s done = (All-cons IsOfOver (Closing s) [] tt (All-nil IsOfOver), refl)

  -- closing: the first open session is closed, until none is open
  none_left : (st : State) (answer : Served) → st.sessions ≡ [] → ReturnsFrom most (server st (closing answer))
  none_left st answer is = record {
    later = [];
    answer = answer;
    new = st;
    walk = refl;
    none_open = ap (λ (xs : List Session). map (λ (x : Session). x.id) xs) is;
    over = All-nil IsOfOver;
    stored = All-nil (λ (m : Move). m.stored ≡ Stored);
    told = λ ids. (ids, refl);
  }

  found_first : (x : Session) (xs : List Session) → find (λ (y : Session). y.id == x.id) (x ∷ xs) ≡ Some x
  found_first x xs =
      ap (λ b. cond b (Some x) (find (λ (y : Session). y.id == x.id) xs)) (eq-eqb x.id x.id refl)

  one_closed : (st : State) (answer : Served) (x : Session) (xs : List Session) → st.sessions ≡ x ∷ xs
      → ((next : State) → length next.sessions < length st.sessions → ReturnsFrom most (server next (closing answer)))
      → ReturnsFrom most (server st (closing answer))
  one_closed st answer x xs is more =
      let s = x.id in
      let found : session_of st s ≡ Some x =
      ap (λ (ys : List Session). find (λ (y : Session). y.id == s) ys) is ∙ found_first x xs in
      let there : IsSomeAnd (session_of st s) (λ y. y.pending ≡ pending_of st s) =
      pending_there (session_of st s) (ap is_some found) in
      let m = move (Closing s ∷ []) (record { event = closed s (pending_of st s); effect = nothing } ∷ []) in
      let next = server (gone s st) (closing answer) in
      let closes : ClosesFirst answer st m next (first_open st) =
      subst (λ o. ClosesFirst answer st m next o)
      (sym (ap (λ (ys : List Session). slice_get (map (λ (y : Session). y.id) ys) 0) is))
      (refl, refl, (nothing, closes_step st s (pending_of st s) there, refl), refl) in
      move_then most (server st (closing answer)) m next (closes, omega arith) (closes_told s m.done)
      (more (gone s st) (one_gone s st.sessions x found))

  closing_by : (st : State) (answer : Served)
      → ((next : State) → length next.sessions < length st.sessions → ReturnsFrom most (server next (closing answer)))
      → (xs : List Session) → st.sessions ≡ xs → ReturnsFrom most (server st (closing answer))
  closing_by st answer more [] is = none_left st answer is
  closing_by st answer more (x ∷ xs) is = one_closed st answer x xs is more

  closing_returns : (n : ℕ) (st : State) (answer : Served) → length st.sessions ≤ n
      → ReturnsFrom most (server st (closing answer))
  closing_returns zero st answer few = closing_by st answer (λ next less. absurd (omega (arith, few, less))) st.sessions refl
  closing_returns (suc n) st answer few = closing_by st answer
      (λ next less. closing_returns n next answer (omega (arith, few, less))) st.sessions refl

  -- a flush: whoever something is due to is gone
  abbrev Flushed : State → Next → Type 0
  Flushed st next = (later : State) → burden later ≤ burden st → ReturnsFrom most (server later (after later next))

  flush_passes : (st : State) (from : ℕ) (next : Next) → first_due st from ≡ None → Flushed st next
      → ReturnsFrom most (server st (flushing from next))
  flush_passes st from next none then =
      move_then most (server st (flushing from next)) (move [] []) (server st (after st next))
      (subst (λ o. FlushesAt next st (move [] []) (server st (after st next)) o) (sym none) (refl, refl), omega arith)
      (nothing_told []) (then st (omega arith))

  gone_burden : (s : ℕ) (st : State) → burden (gone s st) ≤ burden st
  gone_burden s st = lighter_left s st.sessions

  visit_by : (st : State) (from s : ℕ) (next : Next) (told : List Told) → first_due st from ≡ Some s → All IsOfOver told
      → Visits s st told (record { event = closed s (pending_of st s); effect = nothing } ∷ []) (gone s st) (s + 1)
      → ReturnsFrom most (server (gone s st) (flushing (s + 1) next))
      → ReturnsFrom most (server st (flushing from next))
  visit_by st from s next told due over visits returns =
      let m = move told (record { event = closed s (pending_of st s); effect = nothing } ∷ []) in
      let new = server (gone s st) (flushing (s + 1) next) in
      move_then most (server st (flushing from next)) m new
      (subst (λ o. FlushesAt next st m new o) (sym due) (refl, s + 1, visits, refl), omega arith) (over, refl) returns

  flush_visits : (st : State) (from s : ℕ) (next : Next) → first_due st from ≡ Some s
      → (length (gone s st).sessions < length st.sessions → ReturnsFrom most (server (gone s st) (flushing (s + 1) next)))
      → ReturnsFrom most (server st (flushing from next))
  flush_visits st from s next due more =
      let found = some_session (session_of st s) (due_open st from s due) in
      by (pending_of st s) refl (more (one_gone s st.sessions found.0 found.1))
    where
      there : IsSomeAnd (session_of st s) (λ y. y.pending ≡ pending_of st s)
      there = pending_there (session_of st s) (due_open st from s due)

      happens : Happens (closed s (pending_of st s)) st
          (record { event = closed s (pending_of st s); effect = nothing } ∷ []) (gone s st)
      happens = (nothing, closes_step st s (pending_of st s) there, refl)

      by : (pending : Bytes) → pending_of st s ≡ pending → ReturnsFrom most (server (gone s st) (flushing (s + 1) next))
          → ReturnsFrom most (server st (flushing from next))
      by [] none returns = visit_by st from s next (Closing s ∷ []) due
          (All-cons IsOfOver (Closing s) [] tt (All-nil IsOfOver))
          (inr (
            none,
            due_ended st from s due none,
            (
              refl,
              subst (λ (bytes : Bytes). Happens (closed s bytes) st
                  (record { event = closed s (pending_of st s); effect = nothing } ∷ []) (gone s st)) none happens,
            ),
            refl,
          )) returns
      by (b ∷ bs) some returns =
          visit_by st from s next (offering s (pending_of st s) Gone ∷ Closing s ∷ []) due
          (All-cons IsOfOver (offering s (pending_of st s) Gone) (Closing s ∷ []) (refl, refl)
          (All-cons IsOfOver (Closing s) [] tt (All-nil IsOfOver)))
          (inl (subst (λ (bytes : Bytes). 0 < length bytes) (sym some) (omega arith), Gone, (refl, happens), refl)) returns

  flush_by : (st : State) (from : ℕ) (next : Next) → Flushed st next
      → ((s : ℕ) → length (gone s st).sessions < length st.sessions
      → ReturnsFrom most (server (gone s st) (flushing (s + 1) next)))
      → (o : Option ℕ) → first_due st from ≡ o → ReturnsFrom most (server st (flushing from next))
  flush_by st from next then more None due = flush_passes st from next due then
  flush_by st from next then more (Some s) due = flush_visits st from s next due (more s)

  flush_returns : (n : ℕ) (st : State) (from : ℕ) (next : Next) → length st.sessions ≤ n → Flushed st next
      → ReturnsFrom most (server st (flushing from next))
  flush_returns zero st from next few then =
      flush_by st from next then (λ s less. absurd (omega (arith, few, less))) (first_due st from) refl
  flush_returns (suc n) st from next few then =
      flush_by st from next then
      (λ s less. flush_returns n (gone s st) (s + 1) next (omega (arith, few, less))
      (λ later k. then later (let fewer = gone_burden s st in omega (arith, k, fewer))))
      (first_due st from) refl

  -- a commit, which the log stores, and its flush
  commit_returns : (st : State) (groups : List Group) (next : Next) → Flushed st next
      → ReturnsFrom most (server st (keeping groups next))
  commit_returns st groups next then =
      let m : Move = record { told = []; done = []; logged = grouped (lines_in groups); stored = Stored; listed = 0; moments = [] } in
      move_then most (server st (keeping groups next)) m (server st (flushing 0 next))
      ((refl, refl, refl, refl, refl), omega arith) (All-nil IsOfOver, refl)
      (flush_returns (length st.sessions) st 0 next (omega arith) then)

  -- the lines of a round: each session that has one is run until it has none
  abbrev Rounds : Last → Type 0
  Rounds last = (later : State) → ReturnsFrom most (server later (after_round later.stopped (is_last last)))

  line_runs : (st : State) (from count : ℕ) (groups : List Group) (last : Last) (s : ℕ) → next_ready st from ≡ Some s
      → ((later : State) (at : ℕ) → burden later < burden st → ReturnsFrom most (server later (running at 0 [] last)))
      → ReturnsFrom most (server st (running from count groups last))
  line_runs st from count groups last s is more =
      let l = lightens st s (next_may st from s is) in
      let m = move [] (record { event = stepped s l.outcome; effect = l.effect } ∷ []) in
      let kept = groups ++ kept_group (stepped s l.outcome) l.effect.kept in
      let next = server l.new (keeping kept (more_lines (s + 1) last)) in
      move_then most (server st (running from count groups last)) m next (
        subst (λ o. RunsAt count groups last st m next o) (sym is)
            (refl, refl, l.outcome, (l.effect, l.step, refl), inr refl),
        omega arith,
      )
      (nothing_told m.done)
      (commit_returns l.new kept (more_lines (s + 1) last)
      (λ later k. more later (s + 1) (let less = l.less in omega (arith, k, less))))

  round_ends : (st new : State) (from count : ℕ) (groups : List Group) (last : Last) (done : List Did)
      → next_ready st from ≡ None → EndsRound last st done new → Rounds last
      → ReturnsFrom most (server st (running from count groups last))
  round_ends st new from count groups last done none ends then =
      let next = server new (keeping groups (round_over (is_last last))) in
      move_then most (server st (running from count groups last)) (move [] done) next
      (subst (λ o. RunsAt count groups last st (move [] done) next o) (sym none) (refl, refl, ends, refl), omega arith)
      (nothing_told done) (commit_returns new groups (round_over (is_last last)) (λ later k. then later))

  input_ends : (st : State) (s : ℕ) (x : Session) → session_of st s ≡ Some x → IsSome x.cause ⊎ (is_dry x.held ≡ true)
      → (e : Effect) × (mid : State) × Acts st (ended s) e mid
  input_ends st s x found (inl has) = (nothing, st, acts_at st s x _ found (by x.cause has))
    where
      by : (c : Option EndCause) → IsSome c → MatchOption c ((is_dry x.held ≡ true)
          × (nothing ≡ says_any s (cut_line x.held ++ lost_line x.batch)) × (st ≡ with_session st s (ended_by Input)))
          (λ _. (nothing ≡ nothing) × (st ≡ st))
      by None h = absurd cc
      by (Some c) h = (refl, refl)
  input_ends st s x found (inr dry_held) = by x.cause refl
    where
      by : (c : Option EndCause) → x.cause ≡ c → (e : Effect) × (mid : State) × Acts st (ended s) e mid
      by None is = (
        says_any s (cut_line x.held ++ lost_line x.batch),
        with_session st s (ended_by Input),
        acts_at st s x _ found (subst (λ (c : Option EndCause). MatchOption c ((is_dry x.held ≡ true)
            × (says_any s (cut_line x.held ++ lost_line x.batch) ≡ says_any s (cut_line x.held ++ lost_line x.batch))
            × (with_session st s (ended_by Input) ≡ with_session st s (ended_by Input)))
            (λ _. (says_any s (cut_line x.held ++ lost_line x.batch) ≡ nothing) × (with_session st s (ended_by Input) ≡ st)))
            (sym is) (dry_held, refl, refl)),
      )
      by (Some c) is = (
        nothing,
        st,
        acts_at st s x _ found (subst (λ (c : Option EndCause). MatchOption c
            ((is_dry x.held ≡ true) × (nothing ≡ says_any s (cut_line x.held ++ lost_line x.batch))
            × (st ≡ with_session st s (ended_by Input))) (λ _. (nothing ≡ nothing) × (st ≡ st))) (sym is) (refl, refl)),
      )

  no_line_left : (st : State) (from count : ℕ) (groups : List Group) (last : Last) → next_ready st from ≡ None
      → Rounds last → ReturnsFrom most (server st (running from count groups last))
  no_line_left st from count groups next_round none then =
      round_ends st st from count groups next_round [] none (refl, refl) then
  no_line_left st from count groups no_turn none then = round_ends st st from count groups no_turn [] none (refl, refl) then
  no_line_left st from count groups (input_over s) none then = by (ends_input st s) refl
    where
      by : (b : Bool) → ends_input st s ≡ b → ReturnsFrom most (server st (running from count groups (input_over s)))
      by false is = round_ends st st from count groups (input_over s) [] none
          (subst (λ b. EndsInputIf s st [] st b) (sym is) (refl, refl)) then
      by true is =
          let found = some_session (session_of st s) (input_open st s is) in
          let dry_or = input_dry st s (next_none st from none) is in
          let dry_there : IsSome (found.0).cause ⊎ (is_dry (found.0).held ≡ true) =
          subst (λ (o : Option Session). IsSome (cause_in o) ⊎ (is_dry (held_in o) ≡ true)) found.1 dry_or in
          let acts = input_ends st s found.0 found.1 dry_there in
          let new = queue_all acts.1 (acts.0).queued in
          let done = record { event = ended s; effect = acts.0 } ∷ [] in
          round_ends st new from count groups (input_over s) done none
          (subst (λ b. EndsInputIf s st done new b) (sym is) (acts.0, step_of st (ended s) acts.0 acts.1 acts.2, refl)) then

  runs_by : (st : State) (from count : ℕ) (groups : List Group) (last : Last) → Rounds last
      → ((later : State) (at : ℕ) → burden later < burden st → ReturnsFrom most (server later (running at 0 [] last)))
      → (o : Option ℕ) → next_ready st from ≡ o → ReturnsFrom most (server st (running from count groups last))
  runs_by st from count groups last then more None is = no_line_left st from count groups last is then
  runs_by st from count groups last then more (Some s) is = line_runs st from count groups last s is more

  runs_return : (n : ℕ) (st : State) (from count : ℕ) (groups : List Group) (last : Last) → burden st ≤ n → Rounds last
      → ReturnsFrom most (server st (running from count groups last))
  runs_return zero st from count groups last few then =
      runs_by st from count groups last then (λ later at less. absurd (omega (arith, few, less))) (next_ready st from) refl
  runs_return (suc n) st from count groups last few then =
      runs_by st from count groups last then
      (λ later at less. runs_return n later at 0 [] last (omega (arith, few, less)) then) (next_ready st from) refl

  -- a further turn: the hub is over
  closes_all : (st : State) (answer : Served) → ReturnsFrom most (server st (closing answer))
  closes_all st answer = closing_returns (length st.sessions) st answer (omega arith)

  round_is_last : (later : State) → ReturnsFrom most (server later (after_round later.stopped true))
  round_is_last later = by later.stopped
    where
      by : (b : Bool) → ReturnsFrom most (server later (after_round b true))
      by true = closes_all later Stopped
      by false = closes_all later Over

  waiting_returns : (st : State) → ReturnsFrom most (server st waiting)
  waiting_returns st =
      move_then most (server st waiting) (move (Turning HubOver [] ∷ []) []) (server st (running 0 0 [] no_turn))
      (inr (HubOver, [], [], refl, refl, ((refl, refl), refl, refl)), omega arith)
      (All-cons IsOfOver (Turning HubOver []) [] (refl, refl) (All-nil IsOfOver), refl)
      (runs_return (burden st) st 0 0 [] no_turn (omega arith) round_is_last)

  round_goes : (last : Last) → Rounds last
  round_goes last later = by later.stopped (is_last last)
    where
      by : (b c : Bool) → ReturnsFrom most (server later (after_round b c))
      by true c = closes_all later Stopped
      by false true = closes_all later Over
      by false false = waiting_returns later

  runs_on : (st : State) (from count : ℕ) (groups : List Group) (last : Last)
      → ReturnsFrom most (server st (running from count groups last))
  runs_on st from count groups last = runs_return (burden st) st from count groups last (omega arith) (round_goes last)

  flushed : (st : State) (next : Next) → Flushed st next
  flushed st (more_lines from last) later k = runs_on later from 0 [] last
  flushed st (round_over over) later k = by later.stopped over
    where
      by : (b c : Bool) → ReturnsFrom most (server later (after_round b c))
      by true c = closes_all later Stopped
      by false true = closes_all later Over
      by false false = waiting_returns later

  returns_at : (st : State) (phase : Phase) → ReturnsFrom most (server st phase)
  returns_at st waiting = waiting_returns st
  returns_at st (gathering left) =
      move_then most (server st (gathering left)) (move [] []) (server st (running 0 0 [] next_round))
      (inl (refl, refl), omega arith) (nothing_told []) (runs_on st 0 0 [] next_round)
  returns_at st (running from count groups last) = runs_on st from count groups last
  returns_at st (keeping groups next) = commit_returns st groups next (flushed st next)
  returns_at st (flushing from next) = flush_returns (length st.sessions) st from next (omega arith) (flushed st next)
  returns_at st (closing answer) = closes_all st answer

pub prefixes_return : PrefixesReturn
prefixes_return most start before at walk = returns_at most at.state at.phase
