-- What a session is sent that watches a query all along a run.
use Rattle.std.specs.Prelude.{ℕ, List, [], ◌∷◌, ◌==◌, ◌≡◌, ◌<◌, ◌++◌, ◌&&◌, Bool, true, false, not}
use Rattle.std.specs.Prelude.{Option, None, Some, is_some, IsSomeAnd, if◌then◌else◌, filter, map}
use Rattle.std.specs.Prelude.{AllPairs}
use Rattle.std.specs.List.{flat_map}
use Rattle.djq_model.specs.Data.{Bytes, Tuple}
use Rattle.djq_model.specs.Answer.{IsListing}
use Rattle.djq_model.specs.Listed.{Listed, listed_name, AnswersOf, listed_of}
use Rattle.djq_protocol.specs.declared.command.Command.TheVariants.{Add, Del, Done}
use Rattle.djq_protocol.specs.Grammar.{Reading, says_command, reading_of}
use Rattle.djq_protocol.specs.Reply.{text_of}
use Rattle.djq_store_spec.specs.Store.{Store}
use Rattle.djq_store_spec.specs.Held.{HeldTransaction}
use Rattle.djq_store_spec.specs.Done.{has_changed}
use Rattle.djq_store_spec.specs.Transaction.{first_read}
use Rattle.djq_machine.specs.State.{State, session_of}
use Rattle.djq_store_spec.specs.Stale.{by_relation}
use Rattle.djq_store_spec.specs.Delta.{Change, delta_lines}
use Rattle.djq_machine.specs.Watch.{is_watching}
use Rattle.djq_machine.specs.LineStep.{run}
use Rattle.djq_machine.specs.Step.{Event, stepped, Step}
use Rattle.djq_machine.specs.Run.{Did, Walk, out}
use Rattle.djq_run_laws.specs.Added.{added_up}
pub use Rattle.djq_run_laws.specs.Moved.{batch_in, batch_of}

-- A session isn't ended, and watches a registered query.
pub record IsWatcher (q : Listed) (s : ℕ) (st : State) : Type 0 where
  pub registered : listed_of st.store.queries (listed_name q) ≡ Some q
  pub watches : IsSomeAnd (session_of st s) (λ x. (x.cause ≡ None) × (is_watching (listed_name q) x ≡ true))

-- It does so before a step and after it.
pub record WatchesStep (q : Listed) (s : ℕ) (old : State) (d : Did) (new : State) : Type 0 where
  pub before : IsWatcher q s old
  pub step : Step old d.event d.effect new
  pub behind : IsWatcher q s new

-- A run in each state of which it does so.
abbrev pub WatchesAlong : Listed → ℕ → State → List Did → State → Type 0
WatchesAlong q s = Walk (WatchesStep q s)

-- the relation whose change by `add` or `del` outdates a query, if no batch is open
abbrev pub row_outdater : Option HeldTransaction → Bytes → Listed → Option Bytes
row_outdater None name q = by_relation name q
row_outdater (Some held) name q = None

-- the relation whose change by `done` does: the first that held lines name of which a row is inserted or deleted
abbrev pub done_outdater : Store → Option HeldTransaction → Listed → Option Bytes
done_outdater st None q = None
done_outdater st (Some held) q = first_read held.lines (has_changed st.relations held.lines) q

-- the relation whose change by a line outdates a query, if the line may change one: it is a line of
-- a session with such a batch
abbrev pub line_outdater : Store → Option HeldTransaction → Reading → Listed → Option Bytes
line_outdater st batch (says_command (Add name row)) q = row_outdater batch name q
line_outdater st batch (says_command (Del name row)) q = row_outdater batch name q
line_outdater st batch (says_command (Done given)) q = done_outdater st batch q
line_outdater st batch _ q = None

-- whether an event runs a line that may change rows of a relation that a query reads
abbrev pub event_changes : Listed → State → Event → Bool
event_changes q old (stepped t (run l)) =
    is_some (line_outdater old.store (batch_of old t) (reading_of l) q)
event_changes q old _ = false

-- the number of an accepted change by such an event
abbrev pub number_by : Listed → State → Event → State → List ℕ
number_by q old event new = if not (new.store.seq == old.store.seq) && event_changes q old event
    then new.store.seq ∷ [] else []

-- the numbers of all of a run
abbrev pub numbers_along : (q : Listed) (s : ℕ) (old : State) (done : List Did) (new : State)
    → WatchesAlong q s old done new → List ℕ
numbers_along q s old [] new walk = []
numbers_along q s old (d ∷ done) new walk =
    number_by q old d.event walk.0 ++ numbers_along q s walk.0 done new walk.2

-- the parts for a session, of those that are queued
abbrev pub parts_for : ℕ → List (ℕ × Bytes) → List Bytes
parts_for s queued = map (λ p. p.1) (filter (λ p. p.0 == s) queued)

-- the parts that a run queues to a session, in order
abbrev pub parts_to : ℕ → List Did → List Bytes
parts_to s done = flat_map (λ d. parts_for s d.effect.queued) done

-- The first are among the second, in their order.
abbrev pub AreAmong : List Bytes → List Bytes → Type 0
AreAmong [] parts = Unit {0}
AreAmong (t ∷ ts) parts = (before : List Bytes) × (behind : List Bytes)
    × (parts ≡ before ++ t ∷ behind) × AreAmong ts behind

-- the number of a change, and how it changed the answers of a query
pub record Told : Type 0 where
  pub number : ℕ
  pub changes : List Change

-- its lines
abbrev pub told_text : Bytes → Told → Bytes
told_text query t = text_of (delta_lines query t.changes t.number)

-- what a session has that adds up one delta after another
abbrev pub all_added_up : List Tuple → List Told → List Tuple
all_added_up ts [] = ts
all_added_up ts (t ∷ more) = all_added_up (added_up ts t.changes) more

-- Along a run in which a session watches a query it is sent a delta for each accepted change of a
-- relation that the query reads, by rising number: their lines are parts of all that is queued to
-- it. They add up from any listing of the answers at the start to a listing of those at the end.
pub record DeltasAreTold (q : Listed) (s : ℕ) (old : State) (done : List Did) (new : State)
    (walk : WatchesAlong q s old done new) : Type 0 where
  pub told : List Told
  pub whole : flat_map (λ part. part) (parts_to s done) ≡ out s done
  pub among : AreAmong (map (told_text (listed_name q)) told) (parts_to s done)
  pub numbers : map (λ t. t.number) told ≡ numbers_along q s old done new walk
  pub rising : AllPairs (λ m n. m < n) (map (λ t. t.number) told)
  pub adds_up : (ts : List Tuple) → IsListing (AnswersOf old.store.relations q) ts
      → IsListing (AnswersOf new.store.relations q) (all_added_up ts told)

-- So it is from any state on, whatever the other sessions do.
abbrev pub WatchersHaveAnswers : Type 0
WatchersHaveAnswers = (q : Listed) (s : ℕ) (old : State) (done : List Did) (new : State)
    (walk : WatchesAlong q s old done new) → DeltasAreTold q s old done new walk
