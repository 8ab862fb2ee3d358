-- What a cursor that was sent the end has listed.
use Rattle.std.specs.Prelude.{List, ◌≡◌, true, IsSomeAnd, Contains}
use Rattle.djq_model.specs.Data.{Tuple}
use Rattle.djq_model.specs.Answer.{IsListing}
use Rattle.djq_model.specs.Listed.{AnswersOf, listed_of}
use Rattle.djq_machine.specs.State.{State, Session, Cursor}
use Rattle.djq_store_spec.specs.Store.{open_at}
use Rattle.djq_run_laws.specs.Course.{Outside}
use Rattle.djq_run_laws.specs.Given.{PassedThrough}
use Rattle.djq_run.specs.declared.status.Status.{Status}
use Rattle.djq_program_laws.specs.Ends.{Serves}

-- However `run` ends: at each moment of it, a cursor that was open and had been sent the end had
-- given a listing of its query: each answer over the rows that were there then, once, and nothing
-- else.
abbrev pub FinishedCursors : Type 0
FinishedCursors = (start : State) (status : Status) (before now : Outside)
    (serves : Serves start status before now)
    → (mid : State) → PassedThrough start serves.run.course.done mid serves.state
    → (x : Session) → Contains mid.sessions x
    → (c : Cursor) → Contains x.cursors c
    → (given : List Tuple) → c.position ≡ open_at given true
    → IsSomeAnd (listed_of mid.store.queries c.query) (λ q. IsListing (AnswersOf mid.store.relations q) given)
