-- The runs of the machine that the program makes, as runs of the core.
use Rattle.std.specs.Prelude.{ℕ, List, Option}
use Rattle.djq_model.specs.Data.{Bytes}
use Rattle.djq_machine.specs.State.{State, opening}
use Rattle.djq_machine.specs.Run.{Did, Run}
use Rattle.djq_machine.specs.Call.{Counts}
use Rattle.djq_run_laws.specs.Course.{Outside}
use Rattle.djq_run_laws.specs.Given.{PassedThrough}
use Rattle.djq_run.specs.declared.status.Status.{Status}
use Rattle.djq_serve.specs.Server.{all_done}
use Rattle.djq_serve.specs.Ends.{RunsThrough}
use Rattle.djq_program_laws.specs.Logged.{LogSeen}
use Rattle.djq_program_laws.specs.Ends.{Serves, HubSeen, ServesHub}
use Rattle.djq_refinement.specs.Refinement.{RefinesRun}

-- These steps, from one state to another, are a run of the core.
pub record IsRunOfCore (start : State) (done : List Did) (state : State) : Type 0 where
  pub walk : Run start done state
  pub refines : RefinesRun start done state walk

-- However `run` ends: so are its steps up to each state that it passed through.
abbrev pub RunMakesCoreRuns : Type 0
RunMakesCoreRuns = (status : Status) (before now : Outside) (serves : Serves opening status before now)
    → (mid : State) → (passed : PassedThrough opening serves.run.course.done mid serves.state)
    → IsRunOfCore opening passed.0 mid

-- However `serve` ends, with a log and without: so are its steps up to each state that it passed through, from what the
-- lines of the log gave.
abbrev pub ServeMakesCoreRuns : Type 0
ServeMakesCoreRuns = (log : Option LogSeen) (status : Status) (addr : Bytes) (turns : ℕ) (hub : HubSeen)
    (counted : Counts) (hub' : HubSeen) (counted' : Counts)
    → (serves : ServesHub log status addr turns hub counted hub' counted')
    → (earlier : List Did) (mid : State) (later : List Did)
    → RunsThrough serves.start (all_done serves.ends.goes.moves) earlier mid later serves.state
    → IsRunOfCore serves.start earlier mid
