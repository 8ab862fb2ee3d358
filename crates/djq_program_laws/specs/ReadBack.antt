-- What `mirror` makes of all that the program sent a session.
use Rattle.std.specs.Prelude.{ℕ, List, [], ◌≡◌, Option}
use Rattle.djq_io.specs.Sink.{bytes_of}
use Rattle.djq_model.specs.Data.{Bytes}
use Rattle.djq_model.specs.Listed.{Listed}
use Rattle.djq_machine.specs.State.{State, opening}
use Rattle.djq_machine.specs.Run.{Did, out, all_taken, pending_of}
use Rattle.djq_machine.specs.Call.{Counts}
use Rattle.djq_run_laws.specs.Course.{Outside}
use Rattle.djq_run_laws.specs.Given.{PassedThrough}
use Rattle.djq_run.specs.declared.status.Status.{Status}
use Rattle.djq_io.specs.Calls.{sent_to}
use Rattle.djq_serve.specs.Server.{all_told, all_done}
use Rattle.djq_serve.specs.Ends.{RunsThrough}
use Rattle.djq_mirror_laws.specs.Whole.{ReadsSinceOpened}
use Rattle.djq_program_laws.specs.Logged.{LogSeen}
use Rattle.djq_program_laws.specs.Mirrored.{IsMirroredBack}
use Rattle.djq_program_laws.specs.Ends.{Serves, HubSeen, ServesHub}

-- However `run` ends: if session 1 waited, watched a query, and read it through one cursor at a time,
-- and all that was queued to it was written, the sink's bytes are refused nowhere by `mirror` of the query;
-- and what that writes in the end are the answers over the rows that there are, or that there were as the
-- session's input ended.
abbrev pub RunIsReadBack : Type 0
RunIsReadBack = (status : Status) (before now : Outside) (serves : Serves opening status before now)
    → pending_of serves.state 1 ≡ [] → (q : Listed) (at : State)
    → ReadsSinceOpened q 1 opening serves.run.course.done at serves.state
    → IsMirroredBack q (bytes_of serves.run.course.writes) at

-- However `serve` ends: likewise, of each session for which the hub accepted all that was queued to it.
abbrev pub ServeIsReadBack : Type 0
ServeIsReadBack = (log : Option LogSeen) (status : Status) (addr : Bytes) (turns : ℕ) (hub : HubSeen)
    (counted : Counts) (hub' : HubSeen) (counted' : Counts)
    → (serves : ServesHub log status addr turns hub counted hub' counted')
    → (q : Listed) (s : ℕ) (at : State)
    → ReadsSinceOpened q s serves.start (all_done serves.ends.goes.moves) at serves.state
    → sent_to s (all_told serves.ends.goes.moves) ≡ out s (all_done serves.ends.goes.moves)
    → IsMirroredBack q (sent_to s (all_told serves.ends.goes.moves)) at

-- So it is at each moment of `run` at which nothing is pending, of what the sink had accepted until then:
-- the answers are those over the rows that were there at that moment, if the session wasn't ended.
abbrev pub RunMomentsAreReadBack : Type 0
RunMomentsAreReadBack = (status : Status) (before now : Outside) (serves : Serves opening status before now)
    → (mid : State) (passed : PassedThrough opening serves.run.course.done mid serves.state)
    → pending_of mid 1 ≡ [] → (q : Listed) (at : State) → ReadsSinceOpened q 1 opening passed.0 at mid
    → IsMirroredBack q (all_taken 1 passed.0) at

-- And so it is at each moment of `serve`, of each session of which all that was queued was sent by then.
abbrev pub ServeMomentsAreReadBack : Type 0
ServeMomentsAreReadBack = (log : Option LogSeen) (status : Status) (addr : Bytes) (turns : ℕ) (hub : HubSeen)
    (counted : Counts) (hub' : HubSeen) (counted' : Counts)
    → (serves : ServesHub log status addr turns hub counted hub' counted')
    → (earlier : List Did) (mid : State) (later : List Did)
    → RunsThrough serves.start (all_done serves.ends.goes.moves) earlier mid later serves.state
    → (q : Listed) (s : ℕ) (at : State) → ReadsSinceOpened q s serves.start earlier at mid
    → all_taken s earlier ≡ out s earlier → IsMirroredBack q (all_taken s earlier) at
