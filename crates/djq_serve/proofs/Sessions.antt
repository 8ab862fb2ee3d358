-- The sessions of the machine and of the hub.
use Rattle.std.specs.Prelude.{ℕ, List, [], ◌∷◌, ◌++◌, ◌==◌, ◌≡◌, ◌<◌, ◌≤◌, ◌⊎◌, ◌&&◌, ◌||◌, Bool, true, false, not}
use Rattle.std.specs.Prelude.{cond, nat_eq, nat_le, nat_lt, Option, None, Some, is_some, IsSome, IsSomeAnd}
use Rattle.std.specs.Prelude.{IfSome, find, filter, slice_get, length, map, All, Contains, ◌+◌, take, sum_by}
use Rattle.std.specs.List.{list_any}
use Rattle.std.proofs.Common.{refl, sym, ap, ◌∙◌, subst, inl, inr, arith, length-append, length-take}
use Rattle.std.proofs.lemmas.Bool.{and_parts, eqb-true, eq-eqb, leb-true}
use Rattle.std.proofs.lemmas.List.Elements.{All-nil, All-cons, All-head, All-tail, All-filter, All-contains}
use Rattle.std.proofs.lemmas.List.Elements.{All-contains_itself, Contains-push, filter_passes}
use Rattle.std.proofs.lemmas.Option.{same_Some}
use Rattle.std.proofs.lemmas.List.Sums.{sum_by-cons}
use Rattle.std.proofs.lemmas.List.Filters.{sum_by-filter_both}
use Rattle.djq_io.specs.Hub.{Ids, IsNewId, IsRunning, with_opened, EndsInput, without}
use Rattle.djq_io.proofs.Hubs.{is_member}
use Rattle.djq_model.specs.Data.{Bytes, change_first}
use Rattle.djq_machine.specs.State.{State, Session, session_of}
use Rattle.djq_machine.specs.Step.{opened, Event, took, closed, Step, TookStep}
use Rattle.djq_machine.specs.Step.{with_relations}
use Rattle.djq_machine.specs.Run.{pending_of}
use Rattle.djq_machine.specs.Call.{IsOpen, Makes, cause_of, state_ids, is_due, first_due}
use Rattle.djq_machine.specs.Effect.{Effect, nothing, queue_all}
use Rattle.djq_run_laws.proofs.Lists.{all_found, found_passes, some_there}
use Rattle.djq_run_laws.proofs.Sessions.{step_ids}
use Rattle.djq_serve.specs.Server.{first_open}
use Rattle.djq_serve.specs.Kept.{Agrees, IsNewSession, flush_ahead}

-- ---- That the machine and the hub have the same sessions, and which of them a flush is at.

-- an id is that of an open session exactly where it is among the ids
open_any : (xs : List Session) (s : ℕ) → is_some (find (λ (x : Session). x.id == s) xs)
    ≡ list_any (λ i. nat_eq i s) (map (λ (x : Session). x.id) xs)
open_any [] s = refl
open_any (x ∷ xs) s = at_first (x.id == s) (open_any xs s)
  where
    at_first : (b : Bool) → is_some (find (λ (y : Session). y.id == s) xs)
        ≡ list_any (λ i. nat_eq i s) (map (λ (y : Session). y.id) xs)
        → is_some (cond b (Some x) (find (λ (y : Session). y.id == s) xs))
        ≡ (b || list_any (λ i. nat_eq i s) (map (λ (y : Session). y.id) xs))
    at_first true h = refl
    at_first false h = h

pub open_contains : (st : State) (s : ℕ) → IsOpen st s → Contains (state_ids st) s
open_contains st s h = (is_member (state_ids st) s).0 (sym (open_any st.sessions s) ∙ h)

pub contains_open : (st : State) (s : ℕ) → Contains (state_ids st) s → IsOpen st s
contains_open st s h = open_any st.sessions s ∙ (is_member (state_ids st) s).1 h

-- The session that a flush is at is open, of at least the id that the flush is from, and something is due to it.
pub due_open : (st : State) (from s : ℕ) → first_due st from ≡ Some s → IsOpen st s
due_open st from s h =
    contains_open st s (all_found (Contains (state_ids st)) (λ i. nat_le from i && is_due st i) (state_ids st) s
    (All-contains_itself (state_ids st)) h)

due_parts : (st : State) (from s : ℕ) → first_due st from ≡ Some s → (nat_le from s ≡ true) × (is_due st s ≡ true)
due_parts st from s h = and_parts (nat_le from s) (is_due st s)
    (found_passes (λ i. nat_le from i && is_due st i) (state_ids st) s h)

pub due_above : (st : State) (from s : ℕ) → first_due st from ≡ Some s → from ≤ s
due_above st from s h = leb-true from s (due_parts st from s h).0

-- it has ended, where nothing is pending for it
pub due_ended : (st : State) (from s : ℕ) → first_due st from ≡ Some s → pending_of st s ≡ [] → IsSome (cause_of st s)
due_ended st from s h none =
    ap (λ (bytes : Bytes). nat_lt 0 (length bytes) || is_some (cause_of st s)) (sym none) ∙ (due_parts st from s h).1

-- The hub has the machine's sessions, after a change that opens and closes none.
pub agrees_same : (old new : State) (ids ids' : Ids) → state_ids new ≡ state_ids old → ids' ≡ ids → Agrees old ids
    → Agrees new ids'
agrees_same old new ids ids' same hub a = record {
  same = ap (λ (i : Ids). i.open_ids) hub ∙ a.same ∙ sym same;
  newest = subst (λ (i : Ids). All (λ s. IsSomeAnd i.newest (λ n. s ≤ n)) (state_ids new)) (sym hub)
      (subst (λ (is : List ℕ). All (λ s. IsSomeAnd ids.newest (λ n. s ≤ n)) is) (sym same) a.newest);
}

-- a session was closed at both
pub agrees_closed : (old new : State) (ids ids' : Ids) (s : ℕ) → state_ids new ≡ filter (λ i. not (i == s))
    (state_ids old)
    → ids' ≡ without ids s → Agrees old ids → Agrees new ids'
agrees_closed old new ids ids' s gone hub a = record {
  same = ap (λ (i : Ids). i.open_ids) hub ∙ ap (λ (is : List ℕ). filter (λ i. not (i == s)) is) a.same ∙ sym gone;
  newest = subst (λ (i : Ids). All (λ t. IsSomeAnd i.newest (λ n. t ≤ n)) (state_ids new)) (sym hub)
      (subst (λ (is : List ℕ). All (λ t. IsSomeAnd ids.newest (λ n. t ≤ n)) is) (sym gone)
      (All-filter (λ i. not (i == s)) (λ t. IsSomeAnd ids.newest (λ n. t ≤ n)) (state_ids old) a.newest));
}

-- the input of a session ended at the hub
pub agrees_ended : (st : State) (ids ids' : Ids) (s : ℕ) → EndsInput s ids ids' → Agrees st ids → Agrees st ids'
agrees_ended st ids ids' s ends a = record {
  same = ends.1 ∙ a.same;
  newest = subst (λ (o : Option ℕ). All (λ t. IsSomeAnd o (λ n. t ≤ n)) (state_ids st)) (sym ends.0) a.newest;
}

-- a session opened at the hub
above_newest : (o : Option ℕ) (s t : ℕ) → IfSome o (λ n. n < s) → IsSomeAnd o (λ n. t ≤ n) → t < s
above_newest None s t new known = absurd known
above_newest (Some n) s t new known = omega (arith, new, known)

all_as : (P Q : ℕ → Type 0) → ((x : ℕ) → P x → Q x) → (xs : List ℕ) → All P xs → All Q xs
all_as P Q f [] h = All-nil Q
all_as P Q f (x ∷ xs) h = All-cons Q x xs (f x (All-head P x xs h)) (all_as P Q f xs (All-tail P x xs h))

pub is_new : (st : State) (ids ids' : Ids) (s : ℕ) → IsNewId ids s → ids' ≡ with_opened ids s → Agrees st ids
    → IsNewSession st ids' s
is_new st ids ids' s new hub a = record {
  same = ap (λ (i : Ids). i.open_ids) hub ∙ ap (λ (is : List ℕ). is ++ s ∷ []) a.same;
  newest = ap (λ (i : Ids). i.newest) hub;
  above = all_as (λ t. IsSomeAnd ids.newest (λ n. t ≤ n)) (λ t. t < s)
      (λ t known. above_newest ids.newest s t new known) (state_ids st) a.newest;
}

-- that an id is above the open ones, as the machine asks for it
above_in : (xs : List Session) (s : ℕ) → All (λ t. t < s) (map (λ (x : Session). x.id) xs)
    → All (λ (x : Session). x.id < s) xs
above_in [] s h = All-nil (λ (x : Session). x.id < s)
above_in (x ∷ xs) s h =
    All-cons (λ (y : Session). y.id < s) x xs (All-head (λ t. t < s) x.id (map (λ (y : Session). y.id) xs) h)
    (above_in xs s (All-tail (λ t. t < s) x.id (map (λ (y : Session). y.id) xs) h))

pub is_above : (st : State) (ids : Ids) (s : ℕ) → IsNewSession st ids s → All (λ (x : Session). x.id < s) st.sessions
is_above st ids s n = above_in st.sessions s n.above

pub not_open : (st : State) (s : ℕ) → All (λ t. t < s) (state_ids st) → IsOpen st s → ⊥
not_open st s above there =
    let less : s < s = All-contains (λ t. t < s) (state_ids st) s above (open_contains st s there) in
    absurd (omega (arith, less))

-- it was let in
opened_ids : (old new : State) (s : ℕ) (above : All (λ t. t < s) (state_ids old)) → IsOpen new s
    → (state_ids new ≡ state_ids old ++ s ∷ []) ⊎ (state_ids new ≡ state_ids old) → state_ids new ≡ state_ids old ++ s
    ∷ []
opened_ids old new s above there (inl h) = h
opened_ids old new s above there (inr h) =
    absurd (not_open new s (subst (λ (is : List ℕ). All (λ t. t < s) is) (sym h) above) there)

all_push : (P : ℕ → Type 0) (xs : List ℕ) (s : ℕ) → All P xs → P s → All P (xs ++ s ∷ [])
all_push P [] s h p = All-cons P s [] p (All-nil P)
all_push P (x ∷ xs) s h p = All-cons P x (xs ++ s ∷ []) (All-head P x xs h) (all_push P xs s (All-tail P x xs h) p)

pub opens_in : (old new : State) (ids ids' : Ids) (s : ℕ) → IsNewSession old ids s → Makes old (opened s) new
    → IsOpen new s
    → ids' ≡ ids → Agrees new ids'
opens_in old new ids ids' s n m there hub =
    let both = opened_ids old new s n.above there (step_ids old (opened s) m.effect new m.step) in
    let all : All (λ t. t ≤ s) (state_ids old ++ s ∷ []) =
    all_push (λ t. t ≤ s) (state_ids old) s
    (all_as (λ t. t < s) (λ t. t ≤ s) (λ t less. omega (arith, less)) (state_ids old) n.above) (omega arith) in
    record {
      same = ap (λ (i : Ids). i.open_ids) hub ∙ n.same ∙ sym both;
      newest = subst (λ (o : Option ℕ). All (λ t. IsSomeAnd o (λ k. t ≤ k)) (state_ids new))
          (sym (ap (λ (i : Ids). i.newest) hub ∙ n.newest))
          (subst (λ (is : List ℕ). All (λ t. t ≤ s) is) (sym both) all);
    }

-- it was not, and is closed at the hub
dropped_last : (xs : List ℕ) (s : ℕ) → All (λ t. t < s) xs → filter (λ i. not (i == s)) (xs ++ s ∷ []) ≡ xs
dropped_last [] s h = at_last (s == s) (eq-eqb s s refl)
  where
    at_last : (b : Bool) → b ≡ true → cond (not b) (s ∷ []) [] ≡ []
    at_last true e = refl
    at_last false e = absurd cc
dropped_last (x ∷ xs) s h = at_first (x == s) refl (dropped_last xs s (All-tail (λ t. t < s) x xs h))
  where
    at_first : (b : Bool) → (x == s) ≡ b → filter (λ i. not (i == s)) (xs ++ s ∷ []) ≡ xs
        → cond (not b) (x ∷ filter (λ i. not (i == s)) (xs ++ s ∷ [])) (filter (λ i. not (i == s)) (xs ++ s ∷ []))
        ≡ x ∷ xs
    at_first true e rest = let less = All-head (λ t. t < s) x xs h in absurd (omega (arith, less, eqb-true x s e))
    at_first false e rest = ap (λ (is : List ℕ). x ∷ is) rest

pub refused_in : (st : State) (ids ids' : Ids) (s : ℕ) → IsNewSession st ids s → ids' ≡ without ids s → Agrees st ids'
refused_in st ids ids' s n hub = record {
  same = ap (λ (i : Ids). i.open_ids) hub ∙ ap (λ (is : List ℕ). filter (λ i. not (i == s)) is) n.same
      ∙ dropped_last (state_ids st) s n.above;
  newest = subst (λ (o : Option ℕ). All (λ t. IsSomeAnd o (λ k. t ≤ k)) (state_ids st))
      (sym (ap (λ (i : Ids). i.newest) hub ∙ n.newest))
      (all_as (λ t. t < s) (λ t. t ≤ s) (λ t less. omega (arith, less)) (state_ids st) n.above);
}

-- a session that runs at the hub is open in the machine
pub running_open : (st : State) (ids : Ids) (s : ℕ) → Agrees st ids → IsRunning ids s → IsOpen st s
running_open st ids s a running = contains_open st s (subst (λ (is : List ℕ). Contains is s) a.same running.0)

pub open_at_hub : (st : State) (ids : Ids) (s : ℕ) → Agrees st ids → IsOpen st s → Contains ids.open_ids s
open_at_hub st ids s a there = subst (λ (is : List ℕ). Contains is s) (sym a.same) (open_contains st s there)

-- no session is open at either
pub agrees_none : (st : State) (ids : Ids) → st.sessions ≡ [] → ids.open_ids ≡ [] → Agrees st ids
agrees_none st ids none hub =
    let no_ids : state_ids st ≡ [] = ap (λ (xs : List Session). map (λ (x : Session). x.id) xs) none in
    record {
      same = hub ∙ sym no_ids;
      newest = subst (λ (is : List ℕ). All (λ s. IsSomeAnd ids.newest (λ n. s ≤ n)) is) (sym no_ids)
          (All-nil (λ s. IsSomeAnd ids.newest (λ n. s ≤ n)));
    }

-- The first open session: it is open, and closed it is one fewer.
pub first_is_open : (st : State) (s : ℕ) → first_open st ≡ Some s → IsOpen st s
first_is_open st s h = contains_open st s (in_front (state_ids st) h)
  where
    in_front : (is : List ℕ) → slice_get is 0 ≡ Some s → Contains is s
    in_front [] e = absurd cc
    in_front (i ∷ is) e = (0, omega arith, same_Some i s e)

filter_fewer : (s : ℕ) (xs : List ℕ) → length (filter (λ i. not (i == s)) xs) ≤ length xs
filter_fewer s [] = omega arith
filter_fewer s (x ∷ xs) = at_first (x == s) (filter_fewer s xs)
  where
    at_first : (b : Bool) → length (filter (λ i. not (i == s)) xs) ≤ length xs
        → length (cond (not b) (x ∷ filter (λ i. not (i == s)) xs) (filter (λ i. not (i == s)) xs)) ≤ length (x ∷ xs)
    at_first true h = omega (arith, h)
    at_first false h = omega (arith, h)

pub first_fewer : (st : State) (s : ℕ) → first_open st ≡ Some s
    → length (filter (λ i. not (i == s)) (state_ids st)) < length (state_ids st)
first_fewer st s h = without_first (state_ids st) h
  where
    without_first : (is : List ℕ) → slice_get is 0 ≡ Some s → length (filter (λ i. not (i == s)) is) < length is
    without_first [] e = absurd cc
    without_first (i ∷ is) e = at_first (i == s) (eq-eqb i s (same_Some i s e))
      where
        at_first : (b : Bool) → b ≡ true
            → length (cond (not b) (i ∷ filter (λ j. not (j == s)) is) (filter (λ j. not (j == s)) is)) < length
            (i ∷ is)
        at_first true same = omega (arith, filter_fewer s is)
        at_first false same = absurd cc

-- none is open where none is the first
pub none_first : (st : State) → first_open st ≡ None → state_ids st ≡ []
none_first st none = no_ids (state_ids st) none
  where
    no_ids : (is : List ℕ) → slice_get is 0 ≡ None → is ≡ []
    no_ids [] e = refl
    no_ids (i ∷ is) e = absurd cc

-- whether a session is open, as the code asks
pub open_by : (st : State) (s : ℕ) → is_some (session_of st s) ≡ list_any (λ i. nat_eq i s) (state_ids st)
open_by st s = open_any st.sessions s

pub new_at_hub : (st : State) (ids : Ids) (s : ℕ) → IsNewSession st ids s → Contains ids.open_ids s
new_at_hub st ids s n = subst (λ (is : List ℕ). Contains is s) (sym n.same) (Contains-push (state_ids st) s)

-- ---- A session that is closed.

-- the ids without that of a session don't have it
pub without_it : (s : ℕ) (xs : List ℕ) → Contains (filter (λ i. not (i == s)) xs) s → ⊥
without_it s xs h =
    let fails : not (s == s)
    ≡ true = All-contains (λ i. not (i == s) ≡ true) (filter (λ i. not (i == s)) xs) s
    (filter_passes (λ i. not (i == s)) xs) h in
    let same : (s == s) ≡ true = eq-eqb s s refl in
    absurd cc

pub closed_ids : (old : State) (s : ℕ) (bytes : Bytes) (new : State) → Makes old (closed s bytes) new → state_ids new
    ≡ filter (λ i. not (i == s)) (state_ids old)
closed_ids old s bytes new m = step_ids old (closed s bytes) m.effect new m.step

pub is_closed : (old : State) (s : ℕ) (bytes : Bytes) (new : State) → Makes old (closed s bytes) new → IsOpen new s → ⊥
is_closed old s bytes new m there =
    without_it s (state_ids old)
    (subst (λ (is : List ℕ). Contains is s) (closed_ids old s bytes new m) (open_contains new s there))

-- ---- That each visit of a flush gets it nearer to its end.

-- how many bytes are pending for sessions
abbrev total : List Session → ℕ
total xs = sum_by (λ (x : Session). length x.pending) xs

inside : (x y : Session) → Some x ≡ Some y → x ≡ y
inside x y e = cc

-- one session has other bytes pending
changed_total : (p : Session → Bool) (rest : Bytes) (xs : List Session) (x : Session) → find p xs ≡ Some x
    → total (change_first p (λ (y : Session). record y { pending = rest }) xs) + length x.pending
    ≡ total xs + length rest
changed_total p rest [] x e = absurd cc
changed_total p rest (y ∷ xs) x e = at_first (p y) e (λ k. changed_total p rest xs x k)
  where
    at_first : (b : Bool) → cond b (Some y) (find p xs) ≡ Some x
        → (find p xs ≡ Some x
        → total (change_first p (λ (z : Session). record z { pending = rest }) xs) + length x.pending
        ≡ total xs + length rest)
        → total (cond b (record y { pending = rest } ∷ xs)
        (y ∷ change_first p (λ (z : Session). record z { pending = rest }) xs)) + length x.pending
        ≡ total (y ∷ xs) + length rest
    at_first true k more =
        omega (
          arith,
          ap (λ (z : Session). length z.pending) (inside y x k),
          sum_by-cons
              (λ (z : Session). length z.pending) (record y { pending = rest }) xs,
          sum_by-cons
              (λ (z : Session). length z.pending) y xs,
        )
    at_first false k more =
        omega (
          arith,
          more k,
          sum_by-cons (λ (z : Session). length z.pending) y
              (change_first p (λ (z : Session). record z { pending = rest }) xs),
          sum_by-cons
              (λ (z : Session). length z.pending) y xs,
        )

-- a step that queues nothing leaves the sessions that the event left
same_sessions : (old : State) (event : Event) (e : Effect) (new : State) (h : Step old event e new) → e ≡ nothing
    → new.sessions ≡ (h.mid).sessions
same_sessions old event e new h quiet = ap (λ (st : State). st.sessions) h.queued
    ∙ ap (λ (f : Effect). (queue_all (with_relations h.mid h.relations) f.queued).sessions) quiet

took_total : (old : State) (s : ℕ) (bytes : Bytes) (new : State) → Makes old (took s bytes) new
    → total new.sessions + length bytes ≡ total old.sessions
took_total old s bytes new m =
    let h = m.step in
    let f = some_there (session_of old s) (λ (x : Session). TookStep old s bytes x m.effect h.mid) h.acts in
    let rest = f.2.1.0 in
    let left : total new.sessions
    ≡ total (change_first (λ (x : Session). x.id == s) (λ (x : Session). record x { pending = rest }) old.sessions)
    = ap total (same_sessions old (took s bytes) m.effect new h f.2.0 ∙ ap (λ (st : State). st.sessions) f.2.1.2) in
    let changed = changed_total (λ (x : Session). x.id == s) rest old.sessions f.0 f.1 in
    omega (arith, left, changed, ap length f.2.1.1, length-append bytes rest)

closed_total : (old : State) (s : ℕ) (bytes : Bytes) (new : State) → Makes old (closed s bytes) new
    → total new.sessions ≤ total old.sessions
closed_total old s bytes new m =
    let h = m.step in
    let left : total new.sessions ≡ total (filter (λ (x : Session). not (x.id == s)) old.sessions)
    = ap total (same_sessions old (closed s bytes) m.effect new h (h.acts).0
    ∙ ap (λ (st : State). st.sessions) (h.acts).2) in
    omega (
      arith,
      left,
      sum_by-filter_both (λ (x : Session). not (x.id == s)) (λ (x : Session). x.id == s)
          (λ x. twice (x.id == s)) (λ (x : Session). length x.pending) old.sessions,
    )
  where
    twice : (b : Bool) → b ≡ not (not b)
    twice true = refl
    twice false = refl

-- Bytes of a session were taken, and the flush stays at it.
pub took_nearer : (old new : State) (s to n : ℕ) (piece : Bytes) → to ≡ s → piece ≡ pending_of old s → 1 ≤ n
    → n ≤ length piece → Makes old (took s (take n (pending_of old s))) new
    → (from : ℕ) → from ≤ s → flush_ahead new to < flush_ahead old from
took_nearer old new s to n piece here is_piece some within makes from before =
    omega (
      arith,
      here,
      took_total old s (take n (pending_of old s)) new makes,
      length-take n (pending_of old s),
      some,
      within,
      ap length is_piece,
      before,
    )

-- A session was closed, and the flush goes past it.
pub closed_nearer : (old new : State) (s to : ℕ) (bytes : Bytes) → s < 18446744073709551616 → to ≡ s + 1
    → Makes old (closed s bytes) new → (from : ℕ) → from ≤ s → flush_ahead new to < flush_ahead old from
closed_nearer old new s to bytes small behind makes from before = omega
    (arith, closed_total old s bytes new makes, small, behind, before)
