-- The lines that are taken of a session are those that its bytes are cut into.
use Rattle.std.specs.Prelude.{ℕ, List, [], ◌∷◌, ◌==◌, ◌≡◌, ◌<◌, ◌++◌, Bool, true, false, cond, length, Option, None}
use Rattle.std.specs.Prelude.{Some, IsSome, find, All, ◌&&◌, not, nat_le, take, slice_index, ◌⊎◌, filter, IsSomeAnd}
use Rattle.std.specs.Prelude.{map, AllPairs}
use Rattle.std.proofs.Common.{refl, sym, ap, ◌∙◌, subst, append_assoc, append-nil, inl, inr, arith, ◌+◌, ◌-◌, ◌≤◌, ◌||◌}
use Rattle.std.proofs.Common.{zero, suc}
use Rattle.std.proofs.lemmas.Bool.{eqb-true, leb-true, leb-false, false≢true, eq-eqb, both_ways}
use Rattle.std.proofs.lemmas.List.Elements.{All-head, All-tail, All-nil, All-cons, All-push, All-filter, All-weaker}
use Rattle.std.proofs.lemmas.List.{length-take-le}
use Rattle.djq_model.specs.Data.{Bytes}
use Rattle.djq_protocol.specs.declared.answer.EndCause.{EndCause}
use Rattle.djq_protocol.specs.declared.limits.TheConstants.{LINE_BYTES}
use Rattle.djq_protocol.specs.Line.{Front, dry, too_long, a_line, before_lf, behind_lf, is_long, without_cr}
use Rattle.djq_protocol.specs.Line.{line_or_dry, front_of, is_blank}
use Rattle.djq_answer_laws.proofs.Lists.{some_there}
use Rattle.djq_machine.specs.State.{State, Session, fresh, session_of}
use Rattle.djq_machine.specs.Effect.{Effect}
use Rattle.djq_machine.specs.LineStep.{LineOutcome, long, blank, slow, no_room, run, FrontStep}
use Rattle.djq_machine.specs.Step.{Event, opened, fed, stepped, took, ended, closed, FedStep, TookStep, EndedStep}
use Rattle.djq_machine.specs.Step.{OpenedStep, Acts, Step}
use Rattle.djq_machine.specs.Run.{Did, Run, all_fed, fed_by, lines_of, line_by, line_in, CutsInto, out, to_session}
use Rattle.djq_machine.specs.Run.{all_taken, taken_from, pending_of}
use Rattle.djq_machine.specs.Call.{cause_of, held_of, cause_in, held_in, state_ids}
use Rattle.djq_run_laws.specs.Moved.{SparesSession, LeavesHeldBytes, CausedBy}
use Rattle.djq_run_laws.specs.Lines.{TakesInOrder, LinesInOrder}
use Rattle.djq_run_laws.specs.Sent.{dropped_by, all_dropped, opened_by, all_opened, SentInOrder}
use Rattle.djq_run_laws.proofs.Lists.{stepped_cause, stepped_held}
use Rattle.djq_run_laws.proofs.Sessions.{CauseKept, alike_cause, alike_held, IdsBehind, step_ids}
use Rattle.djq_run_laws.proofs.Events.{AnyCause, Touches, FedTo, is_held, out_of_memory, is_dropped, is_fed, EndedTo}
use Rattle.djq_run_laws.proofs.Events.{input_ends, had_ended, is_ended, is_taken, is_stepped, others_stay, step_bytes}

-- ---- The lines that are taken of a session are those that its bytes are cut into.

-- Bytes behind a first LF change nothing of the line in front of it.
before_more : (bytes more rest : Bytes) → behind_lf bytes ≡ Some rest → before_lf (bytes ++ more) ≡ before_lf bytes
before_more [] more rest h = absurd cc
before_more (b ∷ bytes) more rest h = at_lf (b == 10) h (λ k. before_more bytes more rest k)
  where
    at_lf : (is : Bool) → cond is (Some bytes) (behind_lf bytes) ≡ Some rest
        → (behind_lf bytes ≡ Some rest → before_lf (bytes ++ more) ≡ before_lf bytes)
        → cond is [] (b ∷ before_lf (bytes ++ more)) ≡ cond is [] (b ∷ before_lf bytes)
    at_lf true k more_so = refl
    at_lf false k more_so = ap (λ line. b ∷ line) (more_so k)

behind_more : (bytes more rest : Bytes) → behind_lf bytes ≡ Some rest → behind_lf (bytes ++ more) ≡ Some (rest ++ more)
behind_more [] more rest h = absurd cc
behind_more (b ∷ bytes) more rest h = at_lf (b == 10) h (λ k. behind_more bytes more rest k)
  where
    at_lf : (is : Bool) → cond is (Some bytes) (behind_lf bytes) ≡ Some rest
        → (behind_lf bytes ≡ Some rest → behind_lf (bytes ++ more) ≡ Some (rest ++ more))
        → cond is (Some (bytes ++ more)) (behind_lf (bytes ++ more)) ≡ Some (rest ++ more)
    at_lf true k more_so = let e : bytes ≡ rest = inside bytes rest k in ap (λ r. Some (r ++ more)) e
      where
        inside : (xs ys : Bytes) → Some xs ≡ Some ys → xs ≡ ys
        inside xs ys e = cc
    at_lf false k more_so = more_so k

-- what a front that is a line says of the bytes
pub record LineInFront (bytes l rest : Bytes) : Type 0 where
  pub short : is_long (before_lf bytes) ≡ false
  pub line : l ≡ without_cr (before_lf bytes)
  pub behind : behind_lf bytes ≡ Some rest

-- the line and the rest of a front
abbrev pub a_line_in : Front → Bytes
a_line_in dry = []
a_line_in too_long = []
a_line_in (a_line l rest) = l

abbrev a_rest_in : Front → Bytes
a_rest_in dry = []
a_rest_in too_long = []
a_rest_in (a_line l rest) = rest

pub line_in_front : (bytes line rest : Bytes) → front_of bytes ≡ a_line line rest → LineInFront bytes line rest
line_in_front bytes line rest h = by_length (is_long (before_lf bytes)) refl h
  where
    by_behind : (o : Option Bytes) → behind_lf bytes ≡ o → is_long (before_lf bytes) ≡ false
        → line_or_dry (without_cr (before_lf bytes)) o ≡ a_line line rest → LineInFront bytes line rest
    by_behind None e short k = absurd cc
    by_behind (Some r) e short k = record
        { short = short; line = sym (same_line k); behind = e ∙ ap (λ z. Some z) (same_rest k) }
      where
        same_line : a_line (without_cr (before_lf bytes)) r ≡ a_line line rest → without_cr (before_lf bytes) ≡ line
        same_line q = ap a_line_in q

        same_rest : a_line (without_cr (before_lf bytes)) r ≡ a_line line rest → r ≡ rest
        same_rest q = ap a_rest_in q

    by_length : (b : Bool) → is_long (before_lf bytes) ≡ b
        → cond b too_long (line_or_dry (without_cr (before_lf bytes)) (behind_lf bytes)) ≡ a_line line rest
        → LineInFront bytes line rest
    by_length true e k = absurd cc
    by_length false e k = by_behind (behind_lf bytes) refl e k

-- the front of bytes, of its parts
abbrev at_bytes : Bool → Bytes → Option Bytes → Front
at_bytes b line behind = cond b too_long (line_or_dry line behind)

front_more : (bytes line rest more : Bytes) → front_of bytes ≡ a_line line rest → front_of (bytes ++ more)
    ≡ a_line line (rest ++ more)
front_more bytes line rest more h =
    let f = line_in_front bytes line rest h in
    ap (λ b. at_bytes (is_long b) (without_cr b) (behind_lf (bytes ++ more))) (before_more bytes more rest f.behind)
    ∙ ap (λ b. at_bytes b (without_cr (before_lf bytes)) (behind_lf (bytes ++ more))) f.short
    ∙ ap (λ o. line_or_dry (without_cr (before_lf bytes)) o) (behind_more bytes more rest f.behind)
    ∙ ap (λ l. a_line l (rest ++ more)) (sym f.line)

-- a line that is taken leaves fewer bytes
behind_fewer : (bytes rest : Bytes) → behind_lf bytes ≡ Some rest → length rest < length bytes
behind_fewer [] rest h = absurd cc
behind_fewer (b ∷ bytes) rest h = at_lf (b == 10) h (λ k. behind_fewer bytes rest k)
  where
    inside : (xs ys : Bytes) → Some xs ≡ Some ys → xs ≡ ys
    inside xs ys e = cc

    at_lf : (is : Bool) → cond is (Some bytes) (behind_lf bytes) ≡ Some rest
        → (behind_lf bytes ≡ Some rest → length rest < length bytes) → length rest < length (b ∷ bytes)
    at_lf true k more_so = omega (arith, ap length (inside bytes rest k))
    at_lf false k more_so = omega (arith, more_so k)

pub front_fewer : (bytes line rest : Bytes) → front_of bytes ≡ a_line line rest → length rest < length bytes
front_fewer bytes line rest h = let f = line_in_front bytes line rest h in behind_fewer bytes rest f.behind

-- What a step makes of the bytes held of a session: bytes that came are held; or a line of them is taken; or they
-- stay, as
-- the session has ended.
pub data HeldStep (came : Bytes) (lines : List Bytes) (held held' : Bytes) (cause cause' : Option EndCause) : Type 0
  where
    holds : lines ≡ [] → held' ≡ held ++ came → (IsSome cause → IsSome cause' × (came ≡ []))
        → HeldStep came lines held held' cause cause'
    takes : (l : Bytes) → lines ≡ l ∷ [] → came ≡ [] → front_of held ≡ a_line l held' → cause ≡ None
        → HeldStep came lines held held' cause cause'
    drops : lines ≡ [] → held' ≡ held → IsSome cause' → HeldStep came lines held held' cause cause'

abbrev HeldSteps : State → Event → State → ℕ → Type 0
HeldSteps old event mid t = HeldStep (fed_by t event) (line_by t event) (held_of old t) (held_of mid t) (cause_of old t)
    (cause_of mid t)

pub none_some : (o : Option EndCause) → o ≡ None → IsSome o → ⊥
none_some o e h = absurd cc

pub some_of : (o : Option EndCause) (c : EndCause) → o ≡ Some c → IsSome o
some_of o c e = rw e refl

kept_some : (a b : Option EndCause) → CauseKept AnyCause a b → IsSome a → IsSome b
kept_some a b (inl e) h = rw e h
kept_some a None (inr k) h = absurd k
kept_some a (Some c) (inr k) h = refl

-- another session
others_hold : (old : State) (s : ℕ) (x : Session) (e : Effect) (mid : State) (y : Session) (t : ℕ) → (s == t) ≡ false
    → Touches old s x e mid y
    → HeldStep [] [] (held_of old t) (held_of mid t) (cause_of old t) (cause_of mid t)
others_hold old s x e mid y t apart h =
    let found = h.others t apart in
    holds refl (alike_held AnyCause (session_of old t) (session_of mid t) found ∙ sym (append-nil (held_of old t)))
    (λ k. (
      kept_some (cause_of old t) (cause_of mid t)
          (alike_cause AnyCause (session_of old t) (session_of mid t) found) k,
      refl,
    ))

-- the session of an event, and another one
at_session : (old : State) (event : Event) (s : ℕ) (x : Session) (e : Effect) (mid : State) (y : Session) (t : ℕ)
    (came : Bytes) (lines : List Bytes) (b : Bool) → (s == t) ≡ b
    → Touches old s x e mid y → HeldStep came lines x.held y.held x.cause y.cause
    → HeldStep (cond b came []) (cond b lines []) (held_of old t) (held_of mid t) (cause_of old t) (cause_of mid t)
at_session old event s x e mid y t came lines true same h k =
    let i : s ≡ t = eqb-true s t same in
    subst (λ (j : ℕ). HeldStep came lines (held_of old j) (held_of mid j) (cause_of old j) (cause_of mid j)) i
    (subst (λ (o : Option Session). HeldStep came lines (held_in o) (held_of mid s) (cause_in o) (cause_of mid s))
    (sym h.found)
    (subst (λ (o : Option Session). HeldStep came lines x.held (held_in o) x.cause (cause_in o)) (sym h.now) k))
at_session old event s x e mid y t came lines false apart h k = others_hold old s x e mid y t apart h

fed_holds : (x y : Session) (bytes text : Bytes) → FedTo x y bytes text
    → HeldStep bytes [] x.held y.held x.cause y.cause
fed_holds x y bytes text (is_held running still held none) = holds refl held (λ k. absurd (none_some x.cause running k))
fed_holds x y bytes text (out_of_memory running so held said) = drops refl held (some_of y.cause _ so)
fed_holds x y bytes text (is_dropped c cause still held none) = drops refl held (some_of y.cause c still)

stepped_holds : (outcome : LineOutcome) (x y : Session) → x.cause ≡ None → LeavesHeldBytes outcome x.held y.held
    → CausedBy outcome y.cause → HeldStep [] (line_in outcome) x.held y.held x.cause y.cause
stepped_holds long x y running held cause = drops refl held (some_of y.cause _ cause)
stepped_holds (blank l) x y running held cause = takes l refl refl held running
stepped_holds (slow l) x y running held cause = takes l refl refl held running
stepped_holds (no_room l) x y running held cause = takes l refl refl held running
stepped_holds (run l) x y running held cause = takes l refl refl held running

kept_holds : (x y : Session) → y.held ≡ x.held → (IsSome x.cause → IsSome y.cause)
    → HeldStep [] [] x.held y.held x.cause y.cause
kept_holds x y held cause = holds refl (held ∙ sym (append-nil x.held)) (λ k. (cause k, refl))

ended_some : (x y : Session) (text : Bytes) → EndedTo x y text → IsSome y.cause
ended_some x y text (input_ends running so is_dry said) = some_of y.cause _ so
ended_some x y text (had_ended c cause still none) = some_of y.cause c still

-- what is found is as it was, or a session that holds nothing and hasn't ended
same_holds : (old mid : State) (t : ℕ) → held_of mid t ≡ held_of old t → cause_of mid t ≡ cause_of old t
    → HeldStep [] [] (held_of old t) (held_of mid t) (cause_of old t) (cause_of mid t)
same_holds old mid t held cause = holds refl (held ∙ sym (append-nil (held_of old t))) (λ k. (rw cause k, refl))

fresh_held : (s t : ℕ) (xs : List Session) → held_in (find (λ (x : Session). x.id == t) (xs ++ fresh s ∷ []))
    ≡ held_in (find (λ (x : Session). x.id == t) xs)
fresh_held s t [] = fresh_at (s == t)
  where
    fresh_at : (b : Bool) → held_in (cond b (Some (fresh s)) None) ≡ []
    fresh_at true = refl
    fresh_at false = refl
fresh_held s t (x ∷ xs) = first_or (x.id == t) (fresh_held s t xs)
  where
    first_or : (b : Bool) → held_in (find (λ (y : Session). y.id == t) (xs ++ fresh s ∷ []))
        ≡ held_in (find (λ (y : Session). y.id == t) xs)
        → held_in (cond b (Some x) (find (λ (y : Session). y.id == t) (xs ++ fresh s ∷ [])))
        ≡ held_in (cond b (Some x) (find (λ (y : Session). y.id == t) xs))
    first_or true h = refl
    first_or false h = h

fresh_cause : (s t : ℕ) (xs : List Session) → cause_in (find (λ (x : Session). x.id == t) (xs ++ fresh s ∷ []))
    ≡ cause_in (find (λ (x : Session). x.id == t) xs)
fresh_cause s t [] = fresh_at (s == t)
  where
    fresh_at : (b : Bool) → cause_in (cond b (Some (fresh s)) None) ≡ None
    fresh_at true = refl
    fresh_at false = refl
fresh_cause s t (x ∷ xs) = first_or (x.id == t) (fresh_cause s t xs)
  where
    first_or : (b : Bool) → cause_in (find (λ (y : Session). y.id == t) (xs ++ fresh s ∷ []))
        ≡ cause_in (find (λ (y : Session). y.id == t) xs)
        → cause_in (cond b (Some x) (find (λ (y : Session). y.id == t) (xs ++ fresh s ∷ [])))
        ≡ cause_in (cond b (Some x) (find (λ (y : Session). y.id == t) xs))
    first_or true h = refl
    first_or false h = h

none_came : {A : Type 0} (none : List A) (b : Bool) → cond b none none ≡ none
none_came none true = refl
none_came none false = refl

acts_hold : (old : State) (event : Event) (e : Effect) (mid : State) → Acts old event e mid → (t : ℕ)
    → SparesSession event t
    → HeldSteps old event mid t
acts_hold old (opened s) e mid h t spared = opened_holds h
  where
    opened_holds : OpenedStep old s e mid
        → HeldStep [] [] (held_of old t) (held_of mid t) (cause_of old t) (cause_of mid t)
    opened_holds (none, above, inl k) =
        same_holds old mid t (ap (λ st. held_of st t) k.1 ∙ fresh_held s t old.sessions)
        (ap (λ st. cause_of st t) k.1 ∙ fresh_cause s t old.sessions)
    opened_holds (none, above, inr k) = same_holds old mid t (ap (λ st. held_of st t) k) (ap (λ st. cause_of st t) k)
acts_hold old (fed s bytes) e mid h t spared =
    let f = some_there (session_of old s) (λ x. FedStep old s bytes x e mid) h in
    let k = is_fed old s bytes f.0 e mid f.1 f.2 in
    let b = at_session old (fed s bytes) s f.0 e mid k.session t bytes [] (s == t) refl k.touches
    (fed_holds f.0 k.session bytes _ k.fed) in
    subst (λ (lines : List Bytes). HeldStep (fed_by t (fed s bytes)) lines (held_of old t) (held_of mid t)
    (cause_of old t) (cause_of mid t)) (none_came [] (s == t)) b
acts_hold old (stepped s outcome) e mid h t spared =
    let f = some_there (session_of old s) (λ x. (x.cause ≡ None) × FrontStep old s x outcome e mid) h in
    let k = is_stepped old s f.0 outcome e mid f.1 f.2.0 f.2.1 in
    let b = at_session old (stepped s outcome) s f.0 e mid k.session t [] (line_in outcome) (s == t) refl k.touches
    (stepped_holds outcome f.0 k.session f.2.0 k.held k.cause) in
    subst (λ (came : Bytes). HeldStep came (line_by t (stepped s outcome)) (held_of old t) (held_of mid t)
    (cause_of old t) (cause_of mid t)) (none_came [] (s == t)) b
acts_hold old (took s bytes) e mid h t spared =
    let f = some_there (session_of old s) (λ x. TookStep old s bytes x e mid) h in
    let k = is_taken old s bytes f.0 e mid f.1 f.2 in
    let b = at_session old (took s bytes) s f.0 e mid k.session t [] [] (s == t) refl k.touches
    (kept_holds f.0 k.session k.held (λ c. rw k.cause c)) in
    quiet_holds (s == t) b
  where
    quiet_holds : (b : Bool)
        → HeldStep (cond b [] []) (cond b [] []) (held_of old t) (held_of mid t) (cause_of old t) (cause_of mid t)
        → HeldStep [] [] (held_of old t) (held_of mid t) (cause_of old t) (cause_of mid t)
    quiet_holds true k = k
    quiet_holds false k = k
acts_hold old (ended s) e mid h t spared =
    let f = some_there (session_of old s) (λ x. EndedStep old s x e mid) h in
    let k = is_ended old s f.0 e mid f.1 f.2 in
    let b = at_session old (ended s) s f.0 e mid k.session t [] [] (s == t) refl k.touches
    (kept_holds f.0 k.session k.held (λ c. ended_some f.0 k.session _ k.ends)) in
    quiet_holds (s == t) b
  where
    quiet_holds : (b : Bool)
        → HeldStep (cond b [] []) (cond b [] []) (held_of old t) (held_of mid t) (cause_of old t) (cause_of mid t)
        → HeldStep [] [] (held_of old t) (held_of mid t) (cause_of old t) (cause_of mid t)
    quiet_holds true k = k
    quiet_holds false k = k
acts_hold old (closed s bytes) e mid h t spared =
    let found : session_of mid t ≡ session_of old t = ap (λ st. session_of st t) h.2
    ∙ others_stay s t old.sessions spared in
    same_holds old mid t (ap held_in found) (ap cause_in found)

pub step_holds : (old : State) (event : Event) (e : Effect) (new : State) → Step old event e new → (t : ℕ)
    → SparesSession event t → HeldSteps old event new t
step_holds old event e new h t spared =
    subst (λ (held : Bytes). HeldStep (fed_by t event) (line_by t event) (held_of old t) held (cause_of old t)
    (cause_of new t)) (sym (stepped_held old event e new h t))
    (subst (λ (cause : Option EndCause). HeldStep (fed_by t event) (line_by t event) (held_of old t) (held_of h.mid t)
    (cause_of old t) cause) (sym (stepped_cause old event e new h t))
    (acts_hold old event e h.mid h.acts t spared))

-- Of a session that has ended no line is taken, and what it holds stays.
pub record StaysEnded (t : ℕ) (old : State) (done : List Did) (new : State) : Type 0 where
  pub lines : lines_of t done ≡ []
  pub held : held_of new t ≡ held_of old t
  pub cause : IsSome (cause_of new t)

ended_step : (came : Bytes) (lines : List Bytes) (held held' : Bytes) (cause cause' : Option EndCause)
    → HeldStep came lines held held' cause cause' → IsSome cause
    → (lines ≡ []) × (held' ≡ held) × IsSome cause'
ended_step came lines held held' cause cause' (holds none is so) h = let k = so h in
    (none, is ∙ ap (λ r. held ++ r) k.1 ∙ append-nil held, k.0)
ended_step came lines held held' cause cause' (takes l is none front running) h = absurd (none_some cause running h)
ended_step came lines held held' cause cause' (drops none is so) h = (none, is, so)

stays_ended : (t : ℕ) (old : State) (done : List Did) (new : State) → Run old done new
    → All (λ d. SparesSession d.event t) done → IsSome (cause_of old t) → StaysEnded t old done new
stays_ended t old [] new w spared c = let e : new
    ≡ old = w in record {
      lines = refl;
      held = ap (λ st. held_of st t) e;
      cause = subst
          (λ (st : State). IsSome (cause_of st t)) (sym e) c;
    }
stays_ended t old (d ∷ done) new w spared c =
    let k = ended_step _ _ _ _ _ _
    (step_holds old d.event d.effect w.0 w.1 t (All-head (λ (z : Did). SparesSession z.event t) d done spared)) c in
    let r = stays_ended t w.0 done new w.2 (All-tail (λ (z : Did). SparesSession z.event t) d done spared) k.2 in
    record { lines = ap (λ ls. ls ++ lines_of t done) k.0 ∙ r.lines; held = r.held ∙ k.1; cause = r.cause }

-- the first step, and the rest of the run
in_order_step : (t : ℕ) (old mid : State) (d : Did) (done : List Did) (new : State) → HeldSteps old d.event mid t
    → TakesInOrder t mid done new → (IsSome (cause_of mid t) → StaysEnded t mid done new)
    → TakesInOrder t old (d ∷ done) new
in_order_step t old mid d done new (holds none is so) r stays = record {
  dropped = r.dropped;
  cut = subst (λ (lines : List Bytes). CutsInto (held_of old t ++ (fed_by t d.event ++ all_fed t done))
      (lines ++ lines_of t done) (held_of new t ++ r.dropped)) (sym none)
      (subst (λ (bytes : Bytes). CutsInto bytes (lines_of t done) (held_of new t ++ r.dropped))
      (ap (λ h. h ++ all_fed t done) is ∙ append_assoc (held_of old t) (fed_by t d.event) (all_fed t done)) r.cut);
  all_held = r.all_held;
}
in_order_step t old mid d done new (takes l is none front running) r stays = record {
  dropped = r.dropped;
  cut = subst (λ (lines : List Bytes). CutsInto (held_of old t ++ (fed_by t d.event ++ all_fed t done))
      (lines ++ lines_of t done) (held_of new t ++ r.dropped)) (sym is)
      (subst (λ (came : Bytes). CutsInto (held_of old t ++ (came ++ all_fed t done)) (l ∷ lines_of t done)
      (held_of new t ++ r.dropped)) (sym none)
      (held_of mid t ++ all_fed t done, front_more (held_of old t) l (held_of mid t) (all_fed t done) front, r.cut));
  all_held = r.all_held;
}
in_order_step t old mid d done new (drops none is so) r stays =
    let k = stays so in
    record {
      dropped = fed_by t d.event ++ all_fed t done;
      cut = subst (λ (lines : List Bytes). CutsInto (held_of old t ++ (fed_by t d.event ++ all_fed t done))
          (lines ++ lines_of t done) (held_of new t ++ (fed_by t d.event ++ all_fed t done))) (sym none)
          (subst (λ (lines : List Bytes). CutsInto (held_of old t ++ (fed_by t d.event ++ all_fed t done)) lines
          (held_of new t ++ (fed_by t d.event ++ all_fed t done))) (sym k.lines)
          (ap (λ h. h ++ (fed_by t d.event ++ all_fed t done)) (sym (k.held ∙ is))));
      all_held = λ none. absurd (none_some (cause_of new t) none k.cause);
    }

pub in_order : LinesInOrder
in_order t old [] new w spared = let e : new ≡ old = w in record {
  dropped = [];
  cut = ap (λ st. held_of st t ++ []) (sym e);
  all_held = λ none. refl;
}
in_order t old (d ∷ done) new w spared =
    let rest = All-tail (λ (z : Did). SparesSession z.event t) d done spared in
    in_order_step t old w.0 d done new
    (step_holds old d.event d.effect w.0 w.1 t (All-head (λ (z : Did). SparesSession z.event t) d done spared))
    (in_order t w.0 done new w.2 rest)
    (λ c. stays_ended t w.0 done new w.2 rest c)

-- ---- A line that is run is no longer than a line may be, and isn't empty.

-- bytes that aren't too long for a line, without a CR at their end
pub short_line : (bs : Bytes) → is_long bs ≡ false → length (without_cr bs) ≤ LINE_BYTES
short_line bs h = by (nat_le (LINE_BYTES + 2) (length bs)) refl (nat_le (LINE_BYTES + 1) (length bs)) refl h
  where
    cut : (b : Bool) → length bs ≤ LINE_BYTES → length (cond b (take (length bs - 1) bs) bs) ≤ LINE_BYTES
    cut true few = let e = length-take-le (length bs - 1) bs (omega arith) in omega (arith, e, few)
    cut false few = few

    at_end : length bs ≡ LINE_BYTES + 1 → (slice_index bs LINE_BYTES == 13) ≡ true → length (without_cr bs) ≤ LINE_BYTES
    at_end e cr =
        let last : length bs - 1 ≡ LINE_BYTES = omega (arith, e) in
        let is : (slice_index bs (length bs - 1) == 13) ≡ true = ap (λ (i : ℕ). slice_index bs i == 13) last ∙ cr in
        let gone : without_cr bs
        ≡ take (length bs - 1) bs = ap (λ (b : Bool). cond b (take (length bs - 1) bs) bs) is in
        let e2 = length-take-le (length bs - 1) bs (omega arith) in
        let same : length (without_cr bs) ≡ length (take (length bs - 1) bs) = ap (λ (xs : Bytes). length xs) gone in
        omega (arith, e2, last, same)

    ends : (b : Bool) → (slice_index bs LINE_BYTES == 13) ≡ b → not b ≡ false → length bs ≡ LINE_BYTES + 1
        → length (without_cr bs) ≤ LINE_BYTES
    ends true e k n = at_end n e
    ends false e k n = absurd (false≢true (sym k))

    by : (a : Bool) → nat_le (LINE_BYTES + 2) (length bs) ≡ a → (b : Bool) → nat_le (LINE_BYTES + 1) (length bs) ≡ b
        → (a || (b && not (slice_index bs LINE_BYTES == 13))) ≡ false → length (without_cr bs) ≤ LINE_BYTES
    by true e b f k = absurd (false≢true (sym k))
    by false e true f k =
        let most = leb-false (LINE_BYTES + 2) (length bs) e in
        let least = leb-true (LINE_BYTES + 1) (length bs) f in
        ends (slice_index bs LINE_BYTES == 13) refl k (omega (arith, most, least))
    by false e false f k =
        let most = leb-false (LINE_BYTES + 1) (length bs) f in
        cut (slice_index bs (length bs - 1) == 13) (omega (arith, most))

pub not_empty : (l : Bytes) → is_blank l ≡ false → 1 ≤ length l
not_empty [] h = absurd (false≢true (sym h))
not_empty (b ∷ bs) h = omega arith

-- a line that is run isn't empty, and no longer than a line may be
pub run_line : (old : State) (s : ℕ) (l : Bytes) (e : Effect) (mid : State) → Acts old (stepped s (run l)) e mid
    → (1 ≤ length l) × (length l ≤ LINE_BYTES)
run_line old s l e mid h =
    let f = some_there (session_of old s) (λ x. (x.cause ≡ None) × FrontStep old s x (run l) e mid) h in
    let front = line_in_front ((f.0).held) l f.2.1.2.rest f.2.1.2.front in (
      not_empty l f.2.1.0,
      subst (λ (k : Bytes). length k ≤ LINE_BYTES) (sym front.line) (short_line (before_lf (f.0).held) front.short),
    )

-- ---- What is taken of a session's bytes comes before what is dropped, where no session opens twice.

-- the id is none of these
abbrev NotAmong : ℕ → List ℕ → Type 0
NotAmong s ids = All (λ i. (i == s) ≡ false) ids

-- what holds of all ids holds of that of a session that is found
pub at_found : (P : ℕ → Type 0) (s : ℕ) (xs : List Session) (x : Session) → find (λ (y : Session). y.id == s) xs
    ≡ Some x
    → All P (map (λ (y : Session). y.id) xs) → P s
at_found P s [] x e h = absurd cc
at_found P s (y ∷ xs) x e h =
    by_id (y.id == s) refl e (λ k. at_found P s xs x k (All-tail P y.id (map (λ (z : Session). z.id) xs) h))
  where
    by_id : (b : Bool) → (y.id == s) ≡ b → cond b (Some y) (find (λ (z : Session). z.id == s) xs) ≡ Some x
        → (find (λ (z : Session). z.id == s) xs ≡ Some x → P s) → P s
    by_id true same found rest =
        subst P (eqb-true y.id s same) (All-head P y.id (map (λ (z : Session). z.id) xs) h)
    by_id false other found rest = rest found

-- A session that isn't open has none of its bytes taken.
not_there : (s t : ℕ) (old : State) (P : Session → Type 0) → (t == s) ≡ true → NotAmong s (state_ids old)
    → IsSomeAnd (session_of old t) P → ⊥
not_there s t old P same out there =
    let f = some_there (session_of old t) P there in
    let found : session_of old s ≡ Some f.0 = subst (λ i. session_of old i ≡ Some f.0) (eqb-true t s same) f.1 in
    both_ways (s == s) (at_found (λ i. (i == s) ≡ false) s old.sessions f.0 found out) (eq-eqb s s refl)

none_by : (s : ℕ) (old : State) (event : Event) (e : Effect) (new : State) → Step old event e new
    → NotAmong s (state_ids old) → taken_from s event ≡ []
none_by s old (opened t) e new h out = refl
none_by s old (fed t bytes) e new h out = refl
none_by s old (stepped t outcome) e new h out = refl
none_by s old (took t bytes) e new h out = by_id (t == s) refl
  where
    by_id : (b : Bool) → (t == s) ≡ b → cond b bytes [] ≡ []
    by_id true same = absurd (not_there s t old (λ x. TookStep old t bytes x e h.mid) same out h.acts)
    by_id false other = refl
none_by s old (ended t) e new h out = refl
none_by s old (closed t bytes) e new h out = refl

-- and it stays so, where those that open have greater ids
still_out : (s : ℕ) (event : Event) (old new rest : List ℕ) → IdsBehind event old new
    → All (λ t. s < t) (opened_by event ++ rest) → NotAmong s old → NotAmong s new
still_out s (opened t) old new rest h above out = by_opening h
  where
    less : s < t
    less = All-head (λ i. s < i) t rest above

    other : (b : Bool) → (t == s) ≡ b → (t == s) ≡ false
    other true same = let e : t ≡ s = eqb-true t s same in absurd (omega (arith, less, e))
    other false apart = apart

    by_opening : (new ≡ old ++ t ∷ []) ⊎ (new ≡ old) → NotAmong s new
    by_opening (inl is) =
        subst (NotAmong s) (sym is) (All-push (λ i. (i == s) ≡ false) old t out (other (t == s) refl))
    by_opening (inr is) = subst (NotAmong s) (sym is) out
still_out s (fed t bytes) old new rest h above out = subst (NotAmong s) (sym h) out
still_out s (stepped t outcome) old new rest h above out = subst (NotAmong s) (sym h) out
still_out s (took t bytes) old new rest h above out = subst (NotAmong s) (sym h) out
still_out s (ended t) old new rest h above out = subst (NotAmong s) (sym h) out
still_out s (closed t bytes) old new rest h above out =
    subst (NotAmong s) (sym h) (All-filter (λ i. not (i == t)) (λ i. (i == s) ≡ false) old out)

behind : (P : ℕ → Type 0) (xs ys : List ℕ) → All P (xs ++ ys) → All P ys
behind P [] ys h = h
behind P (x ∷ xs) ys h = behind P xs ys (All-tail P x (xs ++ ys) h)

-- So nothing more is taken of a session that was closed.
none_taken : (s : ℕ) (old : State) (done : List Did) (new : State) → Run old done new
    → All (λ t. s < t) (all_opened done)
    → NotAmong s (state_ids old) → all_taken s done ≡ []
none_taken s old [] new w above out = refl
none_taken s old (d ∷ done) new w above out =
    let rest = all_opened done in
    let mid = w.0 in
    let later = still_out s d.event (state_ids old) (state_ids mid) rest (step_ids old d.event d.effect mid w.1) above
    out in
    ap (λ bytes. bytes ++ all_taken s done) (none_by s old d.event d.effect mid w.1 out)
    ∙ none_taken s mid done new w.2 (behind (λ t. s < t) (opened_by d.event) rest above) later

-- Those that open have greater ids than those that are open, and than those that open before them.
pub record Later (here : List ℕ) (opening : List ℕ) : Type 0 where
  pub above : All (λ s. All (λ t. s < t) opening) here
  pub rising : AllPairs (λ s t. s < t) opening

pub later : (here opening : List ℕ) → AllPairs (λ s t. s < t) (here ++ opening) → Later here opening
later [] opening h = record { above = All-nil (λ s. All (λ t. s < t) opening); rising = h }
later (s ∷ here) opening h =
    let rest = later here opening
    (λ i j d lt within. h (suc i) (suc j) d (omega (arith, lt)) (omega (arith, within))) in
    let head : All (λ t. s < t) (here ++ opening) =
    λ k d within. h zero (suc k) d (omega arith) (omega (arith, within)) in
    record {
      above = All-cons (λ i. All (λ t. i < t) opening) s here (behind (λ t. s < t) here opening head) rest.above;
      rising = rest.rising;
    }

-- one event on
later_still : (event : Event) (here here' rest : List ℕ) → IdsBehind event here here'
    → Later here (opened_by event ++ rest) → Later here' rest
later_still (opened s) here here' rest h l = by_opening h
  where
    above : All (λ i. All (λ t. i < t) rest) here
    above =
        All-weaker (λ i. All (λ t. i < t) (s ∷ rest)) (λ i. All (λ t. i < t) rest)
        (λ i k. All-tail (λ t. i < t) s rest k) here l.above

    first : All (λ t. s < t) rest
    first = λ k d within. l.rising zero (suc k) d (omega arith) (omega (arith, within))

    rising : AllPairs (λ i t. i < t) rest
    rising = λ i j d lt within. l.rising (suc i) (suc j) d (omega (arith, lt)) (omega (arith, within))

    by_opening : (here' ≡ here ++ s ∷ []) ⊎ (here' ≡ here) → Later here' rest
    by_opening (inl is) = subst (λ ids. Later ids rest) (sym is)
        (record { above = All-push (λ i. All (λ t. i < t) rest) here s above first; rising = rising })
    by_opening (inr is) = subst (λ ids. Later ids rest) (sym is) (record { above = above; rising = rising })
later_still (fed s bytes) here here' rest h l = subst (λ ids. Later ids rest) (sym h) l
later_still (stepped s outcome) here here' rest h l = subst (λ ids. Later ids rest) (sym h) l
later_still (took s bytes) here here' rest h l = subst (λ ids. Later ids rest) (sym h) l
later_still (ended s) here here' rest h l = subst (λ ids. Later ids rest) (sym h) l
later_still (closed s bytes) here here' rest h l =
    subst (λ ids. Later ids rest) (sym h) (record {
      above = All-filter (λ i. not (i == s)) (λ i. All (λ t. i < t) rest) here l.above;
      rising = l.rising;
    })

-- The bytes of a step, and then those of the steps behind it.
in_turn : (gone mid old queued taken left more : Bytes) → gone ++ mid ≡ old ++ queued → taken ++ left ≡ mid ++ more
    → (gone ++ taken) ++ left ≡ old ++ (queued ++ more)
in_turn gone mid old queued taken left more first rest =
    append_assoc gone taken left ∙ ap (λ bytes. gone ++ bytes) rest ∙ sym (append_assoc gone mid more)
    ∙ ap (λ bytes. bytes ++ more) first ∙ append_assoc old queued more

-- as a session closes
at_close : (gone mid old queued taken dropped left more : Bytes) → gone ++ mid ≡ old ++ queued
    → taken ++ (dropped ++ left) ≡ mid ++ more → taken ≡ []
    → taken ++ ((gone ++ dropped) ++ left) ≡ old ++ (queued ++ more)
at_close gone mid old queued taken dropped left more first rest none =
    ap (λ bytes. bytes ++ ((gone ++ dropped) ++ left)) none
    ∙ append_assoc gone dropped left
    ∙ ap (λ bytes. gone ++ (bytes ++ (dropped ++ left))) (sym none)
    ∙ sym (append_assoc gone taken (dropped ++ left))
    ∙ in_turn gone mid old queued taken (dropped ++ left) more first rest

not_in_filter : (s : ℕ) (ids : List ℕ) → NotAmong s (filter (λ i. not (i == s)) ids)
not_in_filter s [] = All-nil (λ i. (i == s) ≡ false)
not_in_filter s (i ∷ ids) = by_id (i == s) refl (not_in_filter s ids)
  where
    others : List ℕ
    others = filter (λ j. not (j == s)) ids

    by_id : (b : Bool) → (i == s) ≡ b → NotAmong s others → NotAmong s (cond (not b) (i ∷ others) others)
    by_id true same rest = rest
    by_id false apart rest = All-cons (λ j. (j == s) ≡ false) i others apart rest

closing_order : (s t : ℕ) (bytes : Bytes) (old : State) (e : Effect) (mid : State) (done : List Did) (new : State)
    → Step old (closed t bytes) e mid
    → Run mid done new → All (λ i. All (λ j. i < j) (all_opened done)) (state_ids old)
    → all_taken s done ++ (all_dropped s done ++ pending_of new s) ≡ pending_of mid s ++ out s done
    → all_taken s done ++ ((dropped_by s (closed t bytes) ++ all_dropped s done) ++ pending_of new s)
    ≡ pending_of old s ++ (to_session s e.queued ++ out s done)
closing_order s t bytes old e mid done new h w above rest =
    by_id (t == s) refl (step_bytes old (closed t bytes) e mid h s)
  where
    gone_ids : state_ids mid ≡ filter (λ i. not (i == t)) (state_ids old)
    gone_ids = step_ids old (closed t bytes) e mid h

    none : (t == s) ≡ true → all_taken s done ≡ []
    none same =
        let is : t ≡ s = eqb-true t s same in
        let found = some_there (session_of old t) (λ x. x.pending ≡ bytes) h.acts.1 in
        let later_ones : All (λ j. t < j) (all_opened done) =
        at_found (λ i. All (λ j. i < j) (all_opened done)) t old.sessions found.0 found.1 above in
        none_taken s mid done new w (subst (λ i. All (λ j. i < j) (all_opened done)) is later_ones)
        (subst (NotAmong s) (sym gone_ids)
        (subst (λ i. NotAmong s (filter (λ j. not (j == i)) (state_ids old))) (sym is)
        (not_in_filter s (state_ids old))))

    by_id : (b : Bool) → (t == s) ≡ b → cond b bytes [] ++ pending_of mid s ≡ pending_of old s ++ to_session s e.queued
        → all_taken s done ++ ((cond b bytes [] ++ all_dropped s done) ++ pending_of new s)
        ≡ pending_of old s ++ (to_session s e.queued ++ out s done)
    by_id true same first =
        at_close bytes (pending_of mid s) (pending_of old s) (to_session s e.queued) (all_taken s done)
        (all_dropped s done) (pending_of new s) (out s done) first rest (none same)
    by_id false apart first =
        in_turn [] (pending_of mid s) (pending_of old s) (to_session s e.queued) (all_taken s done)
        (all_dropped s done ++ pending_of new s) (out s done) first rest

-- What was taken, dropped and is pending, one event earlier.
step_order : (s : ℕ) (event : Event) (old : State) (e : Effect) (mid : State) (done : List Did) (new : State)
    → Step old event e mid
    → Run mid done new → Later (state_ids old) (opened_by event ++ all_opened done)
    → all_taken s done ++ (all_dropped s done ++ pending_of new s) ≡ pending_of mid s ++ out s done
    → (taken_from s event ++ all_taken s done) ++ ((dropped_by s event ++ all_dropped s done) ++ pending_of new s)
    ≡ pending_of old s ++ (to_session s e.queued ++ out s done)
step_order s (opened t) old e mid done new h w l rest =
    in_turn [] (pending_of mid s) (pending_of old s) (to_session s e.queued) (all_taken s done)
    (all_dropped s done ++ pending_of new s) (out s done) (step_bytes old (opened t) e mid h s) rest
step_order s (fed t bytes) old e mid done new h w l rest =
    in_turn [] (pending_of mid s) (pending_of old s) (to_session s e.queued) (all_taken s done)
    (all_dropped s done ++ pending_of new s) (out s done) (step_bytes old (fed t bytes) e mid h s) rest
step_order s (stepped t outcome) old e mid done new h w l rest =
    in_turn [] (pending_of mid s) (pending_of old s) (to_session s e.queued) (all_taken s done)
    (all_dropped s done ++ pending_of new s) (out s done) (step_bytes old (stepped t outcome) e mid h s) rest
step_order s (took t bytes) old e mid done new h w l rest =
    in_turn (taken_from s (took t bytes)) (pending_of mid s) (pending_of old s) (to_session s e.queued)
    (all_taken s done)
    (all_dropped s done ++ pending_of new s) (out s done) (step_bytes old (took t bytes) e mid h s) rest
step_order s (ended t) old e mid done new h w l rest =
    in_turn [] (pending_of mid s) (pending_of old s) (to_session s e.queued) (all_taken s done)
    (all_dropped s done ++ pending_of new s) (out s done) (step_bytes old (ended t) e mid h s) rest
step_order s (closed t bytes) old e mid done new h w l rest =
    closing_order s t bytes old e mid done new h w l.above rest

run_order : (s : ℕ) (old : State) (done : List Did) (new : State) → Run old done new
    → Later (state_ids old) (all_opened done)
    → all_taken s done ++ (all_dropped s done ++ pending_of new s) ≡ pending_of old s ++ out s done
run_order s old [] new w l = ap (λ st. pending_of st s) w ∙ sym (append-nil (pending_of old s))
run_order s old (d ∷ done) new w l =
    let ids = step_ids old d.event d.effect w.0 w.1 in
    let next = later_still d.event (state_ids old) (state_ids w.0) (all_opened done) ids l in
    step_order s d.event old d.effect w.0 done new w.1 w.2 l (run_order s w.0 done new w.2 next)

pub sent_in_order : SentInOrder
sent_in_order s old done new w once = run_order s old done new w (later (state_ids old) (all_opened done) once)
