-- Which session's line is run next, and of which sessions a line may be run still.
use Rattle.std.specs.Prelude.{ℕ, suc, List, [], ◌∷◌, ◌++◌, ◌==◌, ◌≡◌, ◌+◌, ◌<◌, ◌≤◌, ◌⊎◌, ◌&&◌, Bool, true, false, not, cond}
use Rattle.std.specs.Prelude.{nat_le, Option, None, Some, IsSome, is_none, find, map, All, AllPairs}
use Rattle.std.proofs.Common.{refl, sym, ap, ◌∙◌, subst, inl, inr, arith, append-nil}
use Rattle.std.proofs.lemmas.Bool.{eqb-true, leb-true, le-leb, and_parts, and_from, both_ways, not-true, false≢true, cases_order}
use Rattle.djq_protocol.specs.declared.answer.EndCause.{EndCause}
use Rattle.djq_model.specs.Data.{Bytes}
use Rattle.djq_machine.specs.State.{State, Session, session_of}
use Rattle.djq_machine.specs.Effect.{Effect}
use Rattle.djq_machine.specs.LineStep.{LineOutcome}
use Rattle.djq_machine.specs.Step.{Event, stepped, took, ended, closed, Step, is_dry}
use Rattle.djq_machine.specs.Run.{fed_by, line_by}
use Rattle.djq_machine.specs.Call.{cause_of, held_of, held_in, state_ids, may_run, first_ready}
use Rattle.djq_run_laws.specs.Moved.{SparesSession}
use Rattle.djq_run_laws.specs.Rising.{AreRising}
use Rattle.djq_run_laws.proofs.Lists.{stepped_held}
use Rattle.djq_run_laws.proofs.Sessions.{IsNoLine, step_stopped}
use Rattle.djq_run_laws.proofs.Events.{gone_same}
use Rattle.djq_run_laws.proofs.Deltas.{some_of}
use Rattle.djq_run_laws.proofs.TakenLines.{at_found, HeldStep, holds, takes, drops, step_holds}
use Rattle.djq_serve.specs.Server.{or_else, next_ready}

pairs_head : {A : Type 0} (R : A → A → Type 0) (x : A) (xs : List A) → AllPairs R (x ∷ xs) → All (R x) xs
pairs_head R x xs h = λ k d lt. h 0 (suc k) d (omega arith) (omega (arith, lt))

pairs_tail : {A : Type 0} (R : A → A → Type 0) (x : A) (xs : List A) → AllPairs R (x ∷ xs) → AllPairs R xs
pairs_tail R x xs h = λ i j d lt within. h (suc i) (suc j) d (omega (arith, lt)) (omega (arith, within))

-- ---- When a line of a session may be run, part by part.

-- no session sent `stop`, this one hasn't ended, and what it holds isn't dry
pub record Runs (stopped : Bool) (cause : Option EndCause) (held : Bytes) : Type 0 where
  pub going : stopped ≡ false
  pub running : cause ≡ None
  pub wet : is_dry held ≡ false

abbrev runs_by : Bool → Option EndCause → Bytes → Bool
runs_by stopped cause held = not stopped && (is_none cause && not (is_dry held))

no_cause : (c : Option EndCause) → is_none c ≡ true → c ≡ None
no_cause None e = refl
no_cause (Some c) e = absurd (false≢true e)

runs_parts : (stopped : Bool) (cause : Option EndCause) (held : Bytes) → runs_by stopped cause held ≡ true
    → Runs stopped cause held
runs_parts stopped cause held e =
    let a = and_parts (not stopped) (is_none cause && not (is_dry held)) e in
    let b = and_parts (is_none cause) (not (is_dry held)) a.1 in
    record { going = not-true stopped a.0; running = no_cause cause b.0; wet = not-true (is_dry held) b.1 }

runs_whole : (stopped : Bool) (cause : Option EndCause) (held : Bytes) → Runs stopped cause held
    → runs_by stopped cause held ≡ true
runs_whole stopped cause held r = rw (r.going, r.running, r.wet) refl

pub may_parts : (st : State) (t : ℕ) → may_run st t ≡ true → Runs st.stopped (cause_of st t) (held_of st t)
may_parts st t e = runs_parts st.stopped (cause_of st t) (held_of st t) e

-- ---- The first ready session is the least, where the ids rise.

-- what a search in rising ids finds of which this one passes: an id that passes, and none above it
abbrev FoundBelow : (ℕ → Bool) → ℕ → Option ℕ → Type 0
FoundBelow p t None = ⊥
FoundBelow p t (Some u) = (u ≤ t) × (p u ≡ true)

found_below : (p : ℕ → Bool) (t : ℕ) (xs : List Session) → AllPairs (λ i j. i < j) (map (λ (x : Session). x.id) xs)
    → IsSome (find (λ (x : Session). x.id == t) xs) → p t ≡ true
    → FoundBelow p t (find p (map (λ (x : Session). x.id) xs))
found_below p t [] rising there passes = absurd cc
found_below p t (x ∷ xs) rising there passes =
    at (p x.id) (x.id == t) refl refl there
    (λ k. found_below p t xs (pairs_tail (λ i j. i < j) x.id (map (λ (y : Session). y.id) xs) rising) k passes)
  where
    less : IsSome (find (λ (y : Session). y.id == t) xs) → x.id < t
    less k =
        let f = some_of (find (λ (y : Session). y.id == t) xs) k in
        at_found (λ i. x.id < i) t xs f.0 f.1
        (pairs_head (λ i j. i < j) x.id (map (λ (y : Session). y.id) xs) rising)

    at : (a b : Bool) → p x.id ≡ a → (x.id == t) ≡ b
        → IsSome (cond b (Some x) (find (λ (y : Session). y.id == t) xs))
        → (IsSome (find (λ (y : Session). y.id == t) xs) → FoundBelow p t (find p (map (λ (y : Session). y.id) xs)))
        → FoundBelow p t (cond a (Some x.id) (find p (map (λ (y : Session). y.id) xs)))
    at true true e same k rest = let i : x.id ≡ t = eqb-true x.id t same in (omega (arith, i), e)
    at true false e other k rest = let l : x.id < t = less k in (omega (arith, l), e)
    at false true e same k rest =
        absurd (both_ways (p x.id) e (subst (λ i. p i ≡ true) (sym (eqb-true x.id t same)) passes))
    at false false e other k rest = rest k

-- what a search finds passes
found_passes : (p : ℕ → Bool) (xs : List ℕ) (u : ℕ) → find p xs ≡ Some u → p u ≡ true
found_passes p [] u e = absurd cc
found_passes p (x ∷ xs) u e = at (p x) refl e (λ k. found_passes p xs u k)
  where
    at : (b : Bool) → p x ≡ b → cond b (Some x) (find p xs) ≡ Some u → (find p xs ≡ Some u → p u ≡ true) → p u ≡ true
    at true passes k rest = let i : x ≡ u = cc in subst (λ j. p j ≡ true) i passes
    at false fails k rest = rest k

-- a session of which a line may be run is open
not_open : (o : Option Session) → IsSome o ⊎ (o ≡ None)
not_open None = inr refl
not_open (Some x) = inl refl

dry_nothing : is_dry [] ≡ true
dry_nothing = refl

pub ready_is_open : (st : State) (t : ℕ) → may_run st t ≡ true → IsSome (session_of st t)
ready_is_open st t e = at (session_of st t) refl (not_open (session_of st t))
  where
    at : (o : Option Session) → session_of st t ≡ o → IsSome o ⊎ (o ≡ None) → IsSome o
    at o is (inl there) = there
    at o is (inr none) =
        absurd (both_ways (is_dry (held_of st t)) (may_parts st t e).wet
        (subst (λ (held : Bytes). is_dry held ≡ true) (sym (ap held_in (is ∙ none))) dry_nothing))

-- The first ready session of at least this id, where there is one of which a line may be run.
pub record ReadyFrom (st : State) (from u : ℕ) : Type 0 where
  pub from_there : from ≤ u
  pub may : may_run st u ≡ true

pub ready_from : (st : State) (from u : ℕ) → first_ready st from ≡ Some u → ReadyFrom st from u
ready_from st from u e =
    let passes = and_parts (nat_le from u) (may_run st u)
    (found_passes (λ s. nat_le from s && may_run st s) (state_ids st) u e) in
    record { from_there = leb-true from u passes.0; may = passes.1 }

-- it is this one or comes before it
abbrev pub NoneAbove : ℕ → Option ℕ → Type 0
NoneAbove t None = ⊥
NoneAbove t (Some u) = u ≤ t

none_above : (p : ℕ → Bool) (t : ℕ) (o : Option ℕ) → FoundBelow p t o → NoneAbove t o
none_above p t None h = h
none_above p t (Some u) h = h.0

pub ready_below : (st : State) (from t : ℕ) → AreRising st → may_run st t ≡ true → from ≤ t
    → NoneAbove t (first_ready st from)
ready_below st from t rising may within =
    none_above (λ s. nat_le from s && may_run st s) t (first_ready st from)
    (found_below (λ s. nat_le from s && may_run st s) t st.sessions rising (ready_is_open st t may)
    (and_from (nat_le from t) (may_run st t) (le-leb from t within) may))

-- Where no session is ready no line may be run.
pub none_may : (st : State) → AreRising st → first_ready st 0 ≡ None → (t : ℕ) → may_run st t ≡ false
none_may st rising none t = at (may_run st t) refl
  where
    at : (b : Bool) → may_run st t ≡ b → may_run st t ≡ false
    at false e = e
    at true e =
        absurd (subst (λ (o : Option ℕ). NoneAbove t o) none (ready_below st 0 t rising e (omega arith)))

-- the search from this id on finds the next one, or there is none and it begins anew
from_or_first : (st : State) (from : ℕ) (v : ℕ) (found : Option ℕ) → first_ready st from ≡ Some v
    → next_ready st from ≡ found → first_ready st from ≡ found
from_or_first st from v found is k = is ∙ sym (ap (λ (o : Option ℕ). or_else o (first_ready st 0)) is) ∙ k

first_of_all : (st : State) (from : ℕ) (found : Option ℕ) → first_ready st from ≡ None → next_ready st from ≡ found
    → first_ready st 0 ≡ found
first_of_all st from found none k = sym (ap (λ (o : Option ℕ). or_else o (first_ready st 0)) none) ∙ k

-- a line of the next one may be run
pub next_may : (st : State) (from u : ℕ) → next_ready st from ≡ Some u → may_run st u ≡ true
next_may st from u e = at (first_ready st from) refl
  where
    at : (o : Option ℕ) → first_ready st from ≡ o → may_run st u ≡ true
    at (Some v) is = (ready_from st from u (from_or_first st from v (Some u) is e)).may
    at None none = (ready_from st 0 u (first_of_all st from (Some u) none e)).may

-- where there is no next one, none is ready
pub next_none : (st : State) (from : ℕ) → next_ready st from ≡ None → first_ready st 0 ≡ None
next_none st from e = at (first_ready st from) refl
  where
    at : (o : Option ℕ) → first_ready st from ≡ o → first_ready st 0 ≡ None
    at (Some v) is = let same : Some v ≡ None = sym is ∙ from_or_first st from v None is e in absurd cc
    at None none = first_of_all st from None none e

-- ---- Between two lines of one session each other one that is ready is served.

-- Behind a line of a session the search goes on at an id. Another session is ahead where the search comes to it before
-- it comes to the first again.
pub record IsAhead (s t from : ℕ) : Type 0 where
  pub above : s < t → (s < from) × (from ≤ t)
  pub below : t < s → (s < from) ⊎ (from ≤ t)

pub ahead_behind : (s t : ℕ) → IsAhead s t (s + 1)
ahead_behind s t = record { above = λ less. (omega arith, omega (arith, less)); below = λ less. inl (omega arith) }

strictly : (u t : ℕ) → u ≤ t → (u ≡ t → ⊥) → u < t
strictly u t within other = at (cases_order u t)
  where
    at : (u ≡ t) ⊎ ((u < t) ⊎ (t < u)) → u < t
    at (inl same) = absurd (other same)
    at (inr (inl less)) = less
    at (inr (inr more)) = omega (arith, within, more)

-- the search finds one from its place on, which doesn't go past t
further : (s t from u : ℕ) → (s ≡ t → ⊥) → (u ≡ t → ⊥) → IsAhead s t from → from ≤ u → (from ≤ t → u ≤ t)
    → (u ≡ s → ⊥) × IsAhead s t (u + 1)
further s t from u other unserved ahead later within = at (cases_order s t)
  where
    upward : s < t → (s < from) × (from ≤ t) → (u ≡ s → ⊥) × IsAhead s t (u + 1)
    upward less (past, far) =
        let under = strictly u t (within far) unserved in (
          λ same. absurd (omega (arith, same, past, later)),
          record {
            above = λ k. (omega (arith, past, later), omega (arith, under));
            below = λ k. absurd (omega (arith, k, less));
          },
        )

    downward : t < s → (s < from) ⊎ (from ≤ t) → (u ≡ s → ⊥) × IsAhead s t (u + 1)
    downward less (inl past) = (
      λ same. absurd (omega (arith, same, past, later)),
      record { above = λ k. absurd (omega (arith, k, less)); below = λ k. inl (omega (arith, past, later)) },
    )
    downward less (inr far) =
        let under = strictly u t (within far) unserved in (
          λ same. absurd (omega (arith, same, under, less)),
          record { above = λ k. absurd (omega (arith, k, less)); below = λ k. inr (omega (arith, under)) },
        )

    at : (s ≡ t) ⊎ ((s < t) ⊎ (t < s)) → (u ≡ s → ⊥) × IsAhead s t (u + 1)
    at (inl same) = absurd (other same)
    at (inr (inl less)) = upward less (ahead.above less)
    at (inr (inr more)) = downward more (ahead.below more)

-- it finds none from its place on, and begins anew
anew : (s t from u : ℕ) → (s ≡ t → ⊥) → (u ≡ t → ⊥) → IsAhead s t from → (from ≤ t → ⊥) → u ≤ t
    → (u ≡ s → ⊥) × IsAhead s t (u + 1)
anew s t from u other unserved ahead past within = at (cases_order s t)
  where
    at : (s ≡ t) ⊎ ((s < t) ⊎ (t < s)) → (u ≡ s → ⊥) × IsAhead s t (u + 1)
    at (inl same) = absurd (other same)
    at (inr (inl less)) = absurd (past (ahead.above less).1)
    at (inr (inr more)) =
        let under = strictly u t within unserved in (
          λ same. absurd (omega (arith, same, under, more)),
          record { above = λ k. absurd (omega (arith, k, more)); below = λ k. inr (omega (arith, under)) },
        )

pub pick_is_ahead : (st : State) (s t from u : ℕ) → AreRising st → may_run st t ≡ true → (s ≡ t → ⊥) → (u ≡ t → ⊥)
    → IsAhead s t from → next_ready st from ≡ Some u → (u ≡ s → ⊥) × IsAhead s t (u + 1)
pick_is_ahead st s t from u rising may other unserved ahead e = at (first_ready st from) refl
  where
    at : (o : Option ℕ) → first_ready st from ≡ o → (u ≡ s → ⊥) × IsAhead s t (u + 1)
    at (Some v) is =
        let found = from_or_first st from v (Some u) is e in
        further s t from u other unserved ahead (ready_from st from u found).from_there
        (λ k. subst (λ (o : Option ℕ). NoneAbove t o) found (ready_below st from t rising may k))
    at None none =
        let found = first_of_all st from (Some u) none e in
        anew s t from u other unserved ahead
        (λ k. subst (λ (o : Option ℕ). NoneAbove t o) none (ready_below st from t rising may k))
        (subst (λ (o : Option ℕ). NoneAbove t o) found (ready_below st 0 t rising may (omega arith)))

-- ---- A step that brings a session nothing, and takes no line of it, leaves it no line that it hadn't.

some_none : (o : Option EndCause) → o ≡ None → IsSome o → ⊥
some_none o none some = absurd cc

earlier : (came : Bytes) (lines : List Bytes) (held held' : Bytes) (cause cause' : Option EndCause) (a b : Bool)
    → HeldStep came lines held held' cause cause' → came ≡ [] → lines ≡ [] → Runs b cause' held' → a ≡ false
    → Runs a cause held
earlier came lines held held' cause cause' a b (holds empty is so) none unread r going = record {
  going = going;
  running = was_none cause (λ k. (so k).0);
  wet = subst (λ (bytes : Bytes). is_dry bytes ≡ false)
      (is ∙ ap (λ (more : Bytes). held ++ more) none ∙ append-nil held) r.wet;
}
  where
    was_none : (c : Option EndCause) → (IsSome c → IsSome cause') → c ≡ None
    was_none None so = refl
    was_none (Some c) so = absurd (some_none cause' r.running (so refl))
earlier came lines held held' cause cause' a b (takes l one still front running) none unread r going =
    let no_one : l ∷ [] ≡ [] = sym one ∙ unread in absurd cc
earlier came lines held held' cause cause' a b (drops empty is so) none unread r going =
    absurd (some_none cause' r.running so)

calm_step : (t : ℕ) (old : State) (event : Event) (e : Effect) (new : State) → Step old event e new
    → SparesSession event t → fed_by t event ≡ [] → line_by t event ≡ [] → (new.stopped ≡ false → old.stopped ≡ false)
    → may_run new t ≡ true → may_run old t ≡ true
calm_step t old event e new h spared none unread going may =
    let r = may_parts new t may in
    runs_whole old.stopped (cause_of old t) (held_of old t)
    (earlier (fed_by t event) (line_by t event) (held_of old t) (held_of new t) (cause_of old t) (cause_of new t)
    old.stopped new.stopped (step_holds old event e new h t spared) none unread r (going r.going))

still_going : (old : State) (event : Event) (e : Effect) (new : State) → Step old event e new → IsNoLine event
    → new.stopped ≡ false → old.stopped ≡ false
still_going old event e new h other going = sym (step_stopped old event e new h other) ∙ going

-- a line of another session
pub line_calm : (t s : ℕ) (outcome : LineOutcome) (old : State) (e : Effect) (new : State)
    → Step old (stepped s outcome) e new → (s == t) ≡ false → old.stopped ≡ false → may_run new t ≡ true
    → may_run old t ≡ true
line_calm t s outcome old e new h other going may =
    calm_step t old (stepped s outcome) e new h tt refl (rw other refl) (λ k. going) may

pub took_calm : (t s : ℕ) (bytes : Bytes) (old : State) (e : Effect) (new : State) → Step old (took s bytes) e new
    → may_run new t ≡ true → may_run old t ≡ true
took_calm t s bytes old e new h may =
    calm_step t old (took s bytes) e new h tt refl refl (still_going old (took s bytes) e new h tt) may

pub ended_calm : (t s : ℕ) (old : State) (e : Effect) (new : State) → Step old (ended s) e new
    → may_run new t ≡ true → may_run old t ≡ true
ended_calm t s old e new h may =
    calm_step t old (ended s) e new h tt refl refl (still_going old (ended s) e new h tt) may

-- a session that is closed holds nothing
gone_is_dry : (s : ℕ) (bytes : Bytes) (old : State) (e : Effect) (new : State) → Step old (closed s bytes) e new
    → is_dry (held_of new s) ≡ true
gone_is_dry s bytes old e new h =
    let gone : session_of h.mid s ≡ None = ap (λ (st : State). session_of st s) h.acts.2 ∙ gone_same s old.sessions in
    subst (λ (held : Bytes). is_dry held ≡ true)
    (sym (stepped_held old (closed s bytes) e new h s ∙ ap held_in gone)) dry_nothing

pub closed_calm : (t s : ℕ) (bytes : Bytes) (old : State) (e : Effect) (new : State)
    → Step old (closed s bytes) e new → may_run new t ≡ true → may_run old t ≡ true
closed_calm t s bytes old e new h may = at (s == t) refl
  where
    at : (b : Bool) → (s == t) ≡ b → may_run old t ≡ true
    at true same =
        let i : s ≡ t = eqb-true s t same in
        absurd (both_ways (is_dry (held_of new t)) (may_parts new t may).wet
        (subst (λ (u : ℕ). is_dry (held_of new u) ≡ true) i (gone_is_dry s bytes old e new h)))
    at false other =
        calm_step t old (closed s bytes) e new h other refl refl (still_going old (closed s bytes) e new h tt) may
