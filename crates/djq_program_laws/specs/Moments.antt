-- What a crash leaves of a log at each moment of serving.
use Rattle.std.specs.Prelude.{ℕ, List, ◌∷◌, ◌++◌, ◌≡◌, Some, IfSome, length}
use Rattle.std.specs.List.{AllByRecursion}
use Rattle.djq_disk.specs.Leaving.{LeavesOnly}
use Rattle.djq_model.specs.Data.{Bytes}
use Rattle.djq_machine.specs.State.{State}
use Rattle.djq_machine.specs.Run.{Group, lines_in}
use Rattle.djq_machine.specs.Call.{Counts}
use Rattle.djq_serve.specs.declared.served.Served.{Served}
use Rattle.djq_serve.specs.Told.{Shown}
use Rattle.djq_serve.specs.Server.{Move, all_logged}
use Rattle.djq_serve.specs.Ends.{ServeEnds}
use Rattle.djq_program_laws.specs.Logged.{LogSeen, Begins, IsStored}
use Rattle.djq_program_laws.specs.Reopened.{Reopens}

-- A crash at any moment of serving with a log leaves a file that opens to lines which give what was there after the
-- first of the groups that the run logs, among them those of each commit before the move in which the moment ends.
-- Nothing of that move's commit was sent yet.
abbrev pub MomentsReopen : Type 0
MomentsReopen = (log : LogSeen) (found : List Bytes) (first : List Group) (counted : Counts) (start : State)
    (loaded : Counts)
    → Begins (Some log) found first counted start loaded
    → (answer : Served) (turns most : ℕ) (hub hub' : Shown) (counted' : Counts) (state : State)
    → (ends : ServeEnds answer turns most hub loaded start hub' counted' state)
    → IsStored (Some log) found first ends.goes.moves
    → (before : List Move) (m : Move) (later : List Move) → ends.goes.moves ≡ before ++ m ∷ later
    → IfSome log.now.told (λ _. AllByRecursion (LeavesOnly (Reopens (found ++ lines_in first) start ends.goes.moves
    state (length (all_logged before)))) m.moments)
