-- Which session's line is next, and how much may be run still.
use Rattle.std.specs.Prelude.{ℕ, List, [], ◌∷◌, ◌==◌, ◌≡◌, ◌<◌, ◌≤◌, ◌+◌, ◌⊎◌, ◌&&◌, ◌||◌, Bool, true, false, not}
use Rattle.std.specs.Prelude.{cond, nat_eq, nat_le, Option, None, Some, is_none, IsSome, find, filter, length, All, Contains}
use Rattle.std.specs.Prelude.{sum_by}
use Rattle.std.specs.List.{list_any}
use Rattle.std.proofs.Common.{refl, sym, ap, ◌∙◌, subst, inl, inr, arith, append-nil}
use Rattle.std.proofs.lemmas.Bool.{and_parts, eqb-true, eq-eqb, le-leb}
use Rattle.std.proofs.lemmas.List.Elements.{All-nil, All-cons, All-contains, All-contains_itself}
use Rattle.std.proofs.lemmas.List.Sums.{sum_by-cons}
use Rattle.djq_io.proofs.Hubs.{is_member}
use Rattle.djq_model.specs.Data.{Bytes}
use Rattle.djq_protocol.specs.declared.answer.EndCause.{EndCause}
use Rattle.djq_machine.specs.State.{State}
use Rattle.djq_machine.specs.Step.{stepped, took, closed, Step, is_dry}
use Rattle.djq_machine.specs.Call.{IsOpen, Makes, cause_of, state_ids, held_of, may_run, first_ready}
use Rattle.djq_machine.specs.Effect.{Effect}
use Rattle.djq_machine.specs.LineStep.{LineOutcome, long, blank, slow, no_room, run}
use Rattle.djq_run_laws.specs.Moved.{CausedBy, LeavesHeldBytes}
use Rattle.djq_run_laws.proofs.Lists.{all_found, found_passes}
use Rattle.djq_run_laws.proofs.Sessions.{step_ids}
use Rattle.djq_run_laws.proofs.TakenLines.{HeldStep, holds, takes, drops, step_holds, front_fewer}
use Rattle.djq_run_laws.proofs.Courses.{stepped_facts}
use Rattle.djq_serve.specs.Server.{or_else, next_ready}
use Rattle.djq_serve.specs.Kept.{Spares, work, work_by, work_left_of}
use Rattle.djq_serve.proofs.Going.{made_holds_lines}
use Rattle.djq_serve.proofs.Sessions.{contains_open, open_contains, closed_ids}

-- ---- The session of which the next line is run.

ready_contained : (st : State) (from s : ℕ) → first_ready st from ≡ Some s → Contains (state_ids st) s
ready_contained st from s h =
    all_found (Contains (state_ids st)) (λ i. nat_le from i && may_run st i) (state_ids st) s
    (All-contains_itself (state_ids st)) h

ready_may_run : (st : State) (from s : ℕ) → first_ready st from ≡ Some s → may_run st s ≡ true
ready_may_run st from s h =
    let parts = and_parts (nat_le from s) (may_run st s)
    (found_passes (λ i. nat_le from i && may_run st i) (state_ids st) s h) in
    parts.1

one_of : (a b : Option ℕ) (s : ℕ) → or_else a b ≡ Some s → (a ≡ Some s) ⊎ (b ≡ Some s)
one_of None b s h = inr h
one_of (Some a) b s h = inl h

none_of : (a b : Option ℕ) → or_else a b ≡ None → b ≡ None
none_of None b h = h
none_of (Some a) b h = absurd cc

-- it is open, and a line of it may be run
pub next_open : (st : State) (from s : ℕ) → next_ready st from ≡ Some s → IsOpen st s
next_open st from s h = elim (one_of (first_ready st from) (first_ready st 0) s h) [
  | inl is ↦ contains_open st s (ready_contained st from s is)
  | inr is ↦ contains_open st s (ready_contained st 0 s is)
]

pub next_may_run : (st : State) (from s : ℕ) → next_ready st from ≡ Some s → may_run st s ≡ true
next_may_run st from s h = elim (one_of (first_ready st from) (first_ready st 0) s h) [
  | inl is ↦ ready_may_run st from s is
  | inr is ↦ ready_may_run st 0 s is
]

pub next_none : (st : State) (from : ℕ) → next_ready st from ≡ None → first_ready st 0 ≡ None
next_none st from h = none_of (first_ready st from) (first_ready st 0) h

-- ---- Where there is none, each session that is open has ended or holds no whole line.

all_fail : (p : ℕ → Bool) (xs : List ℕ) → find p xs ≡ None → All (λ x. p x ≡ false) xs
all_fail p [] h = All-nil (λ x. p x ≡ false)
all_fail p (x ∷ xs) h = at_first (p x) refl h (λ k. all_fail p xs k)
  where
    at_first : (b : Bool) → p x ≡ b → cond b (Some x) (find p xs) ≡ None
        → (find p xs ≡ None → All (λ y. p y ≡ false) xs) → All (λ y. p y ≡ false) (x ∷ xs)
    at_first true e k more = absurd cc
    at_first false e k more = All-cons (λ y. p y ≡ false) x xs e (more k)

mays_nothing : (any a : Bool) (c : Option EndCause) (d : Bool) → any ≡ true → a ≡ false
    → (any && (not a && (is_none c && not d))) ≡ false → IsSome c ⊎ (d ≡ true)
mays_nothing false a c d all e h = absurd cc
mays_nothing true true c d all e h = absurd cc
mays_nothing true false (Some c) d all e h = inl refl
mays_nothing true false None true all e h = inr refl
mays_nothing true false None false all e h = absurd cc

pub none_dry : (st : State) → first_ready st 0 ≡ None → st.stopped ≡ false → (s : ℕ) → IsOpen st s
    → IsSome (cause_of st s) ⊎ (is_dry (held_of st s) ≡ true)
none_dry st none going s there =
    mays_nothing (nat_le 0 s) st.stopped (cause_of st s) (is_dry (held_of st s)) (le-leb 0 s (omega arith)) going
    (All-contains (λ i. (nat_le 0 i && may_run st i) ≡ false) (state_ids st) s
    (all_fail (λ i. nat_le 0 i && may_run st i) (state_ids st) none) (open_contains st s there))

-- ---- Sums over lists of numbers.

sum_less : (f g : ℕ → ℕ) (xs : List ℕ) → ((x : ℕ) → g x ≤ f x) → sum_by g xs ≤ sum_by f xs
sum_less f g [] less = omega arith
sum_less f g (x ∷ xs) less = omega (arith, less x, sum_less f g xs less, sum_by-cons g x xs, sum_by-cons f x xs)

sum_fewer : (f g : ℕ → ℕ) (xs : List ℕ) (s : ℕ) → ((x : ℕ) → g x ≤ f x) → g s < f s
    → list_any (λ i. nat_eq i s) xs ≡ true → sum_by g xs < sum_by f xs
sum_fewer f g [] s less fewer h = absurd cc
sum_fewer f g (x ∷ xs) s less fewer h = at_first (nat_eq x s) refl h (λ k. sum_fewer f g xs s less fewer k)
  where
    at_first : (b : Bool) → nat_eq x s ≡ b → (b || list_any (λ i. nat_eq i s) xs) ≡ true
        → (list_any (λ i. nat_eq i s) xs ≡ true → sum_by g xs < sum_by f xs)
        → sum_by g (x ∷ xs) < sum_by f (x ∷ xs)
    at_first true e k more =
        let here : g x < f x = subst (λ (i : ℕ). g i < f i) (sym (eqb-true x s e)) fewer in
        omega (arith, here, sum_less f g xs less, sum_by-cons g x xs, sum_by-cons f x xs)
    at_first false e k more = omega (arith, less x, more k, sum_by-cons g x xs, sum_by-cons f x xs)

sum_without : (f g : ℕ → ℕ) (s : ℕ) (xs : List ℕ) → ((x : ℕ) → (s == x) ≡ false → g x ≤ f x)
    → sum_by g (filter (λ i. not (i == s)) xs) ≤ sum_by f xs
sum_without f g s [] less = omega arith
sum_without f g s (x ∷ xs) less = at_first (x == s) refl (sum_without f g s xs less)
  where
    apart : (x == s) ≡ false → (b : Bool) → (s == x) ≡ b → b ≡ false
    apart e true same = absurd (differ (sym (eq-eqb x s (sym (eqb-true s x same))) ∙ e))
      where
        differ : true ≡ false → ⊥
        differ w = cc
    apart e false same = refl

    at_first : (b : Bool) → (x == s) ≡ b → sum_by g (filter (λ i. not (i == s)) xs) ≤ sum_by f xs
        → sum_by g (cond (not b) (x ∷ filter (λ i. not (i == s)) xs) (filter (λ i. not (i == s)) xs))
        ≤ sum_by f (x ∷ xs)
    at_first true e more = omega (arith, more, sum_by-cons f x xs)
    at_first false e more =
        let here = less x (apart e (s == x) refl) in
        omega (arith, more, here, sum_by-cons f x xs, sum_by-cons g x (filter (λ i. not (i == s)) xs))

-- ---- How much may be run, after a step.

work_ended : (cause : Option EndCause) (held : Bytes) → IsSome cause → work_by cause held ≡ 0
work_ended None held h = absurd cc
work_ended (Some c) held h = refl

work_most : (cause : Option EndCause) (held : Bytes) → work_by cause held ≤ 1 + length held
work_most None held = omega arith
work_most (Some c) held = omega arith

work_same : (cause cause' : Option EndCause) (held held' : Bytes) → held' ≡ held → (IsSome cause → IsSome cause')
    → work_by cause' held' ≤ work_by cause held
work_same None cause' held held' is so = omega (arith, work_most cause' held', ap length is)
work_same (Some c) cause' held held' is so = omega (arith, work_ended cause' held' (so refl))

work_held : (lines : List Bytes) (held held' : Bytes) (cause cause' : Option EndCause)
    → HeldStep [] lines held held' cause cause' → work_by cause' held' ≤ work_by cause held
work_held lines held held' cause cause' (holds none is so) =
    work_same cause cause' held held' (is ∙ append-nil held) (λ k. (so k).0)
work_held lines held held' cause cause' (takes l is none front running) =
    omega (
      arith,
      work_most cause' held',
      front_fewer held l held' front,
      ap (λ (c : Option EndCause). work_by c held) running,
    )
work_held lines held held' cause cause' (drops none is so) = omega (arith, work_ended cause' held' so)

-- a session of which a line came to something
line_less : (outcome : LineOutcome) (held held' : Bytes) (cause cause' : Option EndCause) → cause ≡ None
    → CausedBy outcome cause' → LeavesHeldBytes outcome held held' → work_by cause' held' < work_by cause held
line_less outcome held held' cause cause' running caused leaves =
    at outcome caused leaves
  where
    before : work_by cause held ≡ 1 + length held
    before = ap (λ (c : Option EndCause). work_by c held) running

    fewer : (l : Bytes) → LeavesHeldBytes (blank l) held held' → work_by cause' held' < work_by cause held
    fewer l front = omega (arith, before, work_most cause' held', front_fewer held l held' front)

    at : (o : LineOutcome) → CausedBy o cause' → LeavesHeldBytes o held held' → work_by cause' held' < work_by cause held
    at long is same = omega (arith, before, ap (λ (c : Option EndCause). work_by c held') is)
    at (blank l) is front = fewer l front
    at (slow l) is front = fewer l front
    at (no_room l) is front = fewer l front
    at (run l) is front = fewer l front

-- a line was run: less may be
pub line_works : (old : State) (s : ℕ) (outcome : LineOutcome) (e : Effect) (new : State)
    → Step old (stepped s outcome) e new → IsOpen old s → work new < work old
line_works old s outcome e new h there =
    let ids = step_ids old (stepped s outcome) e new h in
    let facts = stepped_facts old s outcome e new h in
    let fewer : sum_by (work_left_of new) (state_ids old) < sum_by (work_left_of old) (state_ids old) =
    sum_fewer (work_left_of old) (work_left_of new) (state_ids old) s
    (λ t. work_held _ (held_of old t) (held_of new t) (cause_of old t) (cause_of new t)
    (step_holds old (stepped s outcome) e new h t tt))
    (line_less outcome (held_of old s) (held_of new s) (cause_of old s) (cause_of new s) facts.running facts.cause
    facts.held)
    ((is_member (state_ids old) s).1 (open_contains old s there)) in
    omega (arith, fewer, ap (λ (is : List ℕ). sum_by (work_left_of new) is) ids)

-- bytes of a session were taken, or it was closed: no more may be
pub took_spares : (old : State) (s : ℕ) (bytes : Bytes) (new : State) → Makes old (took s bytes) new → Spares old new
took_spares old s bytes new m =
    let ids = step_ids old (took s bytes) m.effect new m.step in
    let less : sum_by (work_left_of new) (state_ids old) ≤ sum_by (work_left_of old) (state_ids old) =
    sum_less (work_left_of old) (work_left_of new) (state_ids old)
    (λ t. work_held _ (held_of old t) (held_of new t) (cause_of old t) (cause_of new t)
    (step_holds old (took s bytes) m.effect new m.step t tt)) in
    record {
      fewer = omega (arith, less, ap (λ (is : List ℕ). sum_by (work_left_of new) is) ids);
      lines = made_holds_lines old (took s bytes) new m;
    }

pub closed_spares : (old : State) (s : ℕ) (bytes : Bytes) (new : State) → Makes old (closed s bytes) new
    → Spares old new
closed_spares old s bytes new m =
    let less = sum_without (work_left_of old) (work_left_of new) s (state_ids old)
    (λ t apart. work_held _ (held_of old t) (held_of new t) (cause_of old t) (cause_of new t)
    (step_holds old (closed s bytes) m.effect new m.step t apart)) in
    record {
      fewer = omega (arith, less, ap (λ (is : List ℕ). sum_by (work_left_of new) is) (closed_ids old s bytes new m));
      lines = made_holds_lines old (closed s bytes) new m;
    }

pub spares_same : (st : State) → Spares st st
spares_same st = record { fewer = omega arith; lines = λ h. h }

pub spares_then : (a b c : State) → Spares a b → Spares b c → Spares a c
spares_then a b c g h = record { fewer = omega (arith, g.fewer, h.fewer); lines = λ k. h.lines (g.lines k) }
