-- What a session has that lists a query and watches it from then on, while the program runs.
use Rattle.std.specs.Prelude.{ℕ, List, Option}
use Rattle.djq_model.specs.Data.{Bytes}
use Rattle.djq_machine.specs.State.{State}
use Rattle.djq_machine.specs.Run.{Did}
use Rattle.djq_machine.specs.Call.{Counts}
use Rattle.djq_run_laws.specs.Course.{Outside}
use Rattle.djq_run_laws.specs.Given.{PassedThrough}
use Rattle.djq_run_laws.specs.Live.{LiveFrom}
use Rattle.djq_run.specs.declared.status.Status.{Status}
use Rattle.djq_serve.specs.Server.{all_done}
use Rattle.djq_serve.specs.Ends.{RunsThrough}
use Rattle.djq_program_laws.specs.Logged.{LogSeen}
use Rattle.djq_program_laws.specs.Ends.{Serves, HubSeen, ServesHub}

-- However `run` ends: from each state that it passed through a listing stays live.
abbrev pub RunIsLive : Type 0
RunIsLive = (start : State) (status : Status) (before now : Outside)
    (serves : Serves start status before now)
    → (mid : State) → PassedThrough start serves.run.course.done mid serves.state → LiveFrom mid

-- However `serve` ends: likewise, of each of its sessions, with a log and without.
abbrev pub ServeIsLive : Type 0
ServeIsLive = (log : Option LogSeen) (status : Status) (addr : Bytes) (turns : ℕ) (hub : HubSeen) (counted : Counts)
    (hub' : HubSeen) (counted' : Counts)
    → (serves : ServesHub log status addr turns hub counted hub' counted')
    → (earlier : List Did) (mid : State) (later : List Did)
    → RunsThrough serves.start (all_done serves.ends.goes.moves) earlier mid later serves.state
    → LiveFrom mid
