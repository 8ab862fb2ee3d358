-- What a session has that lists a query through a cursor, and watches it from then on.
use Rattle.std.specs.Prelude.{ℕ, List, ◌≡◌, ◌<◌, true, Some, map, All, AllPairs, Contains}
use Rattle.std.specs.List.{flat_map}
use Rattle.djq_model.specs.Data.{Tuple}
use Rattle.djq_model.specs.Answer.{IsListing}
use Rattle.djq_model.specs.Listed.{Listed, listed_name, AnswersOf, listed_of}
use Rattle.djq_machine.specs.State.{State, Session, Cursor, session_of}
use Rattle.djq_store_spec.specs.Store.{open_at}
use Rattle.djq_machine.specs.Run.{Did, Run, out}
use Rattle.djq_machine.specs.Gives.{CursorsGive}
use Rattle.djq_run_laws.specs.Watched.{
  IsWatcher,
  WatchesAlong,
  numbers_along,
  Told,
  told_text,
  parts_to,
  AreAmong,
  all_added_up,
}
use Rattle.djq_run_laws.specs.Staying.{GoesOn, KeepsWatch}
use Rattle.djq_run_laws.specs.Sound.{IsStart}

-- A cursor of a session was sent the end, and has given these.
pub record HasListed (q : Listed) (s : ℕ) (st : State) (given : List Tuple) : Type 0 where
  pub session : Session
  pub is_session : session_of st s ≡ Some session
  pub cursor : Cursor
  pub is_cursor : Contains session.cursors cursor
  pub of_query : listed_of st.store.queries cursor.query ≡ Some q
  pub is_finished : cursor.position ≡ open_at given true

-- What a session was given, and the deltas that it is sent along a run, add up to a listing of the
-- answers at the end. It watches the query all the while, and is sent one delta for each accepted
-- change of a relation that the query reads, by rising number: their lines are parts of all that is
-- queued to it.
pub record StaysLive (q : Listed) (s : ℕ) (given : List Tuple) (old : State) (done : List Did)
    (new : State) : Type 0 where
  pub walk : WatchesAlong q s old done new
  pub told : List Told
  pub whole : flat_map (λ part. part) (parts_to s done) ≡ out s done
  pub among : AreAmong (map (told_text (listed_name q)) told) (parts_to s done)
  pub numbers : map (λ t. t.number) told ≡ numbers_along q s old done new walk
  pub rising : AllPairs (λ m n. m < n) (map (λ t. t.number) told)
  pub listing : IsListing (AnswersOf new.store.relations q) (all_added_up given told)

-- So it is along every run from a state in which it has listed and watches a query, if it doesn't
-- unwatch it, and isn't ended at the end.
abbrev pub LiveFrom : State → Type 0
LiveFrom old = (q : Listed) (s : ℕ) (given : List Tuple) → HasListed q s old given → IsWatcher q s old
    → (done : List Did) (new : State) → Run old done new → All (λ d. KeepsWatch q s d.event) done
    → GoesOn new s → StaysLive q s given old done new

-- It is so if cursors give what they should.
abbrev pub ListingsStayLive : Type 0
ListingsStayLive = (old : State) → CursorsGive old → LiveFrom old

-- So it is from each state on that a run reaches from a state to start from.
abbrev pub RunsStayLive : Type 0
RunsStayLive = (start : State) → IsStart start → (done : List Did) (new : State) → Run start done new
    → LiveFrom new
