-- The numbers of statuses.
use Rattle.std.specs.Prelude.{ℕ}
use Rattle.djq_run.specs.declared.status.Status.{Status}
use Rattle.djq_run.specs.declared.status.Status.TheVariants.{Done, Usage, ReadFault, WriteFault}
use Rattle.djq_run.specs.declared.status.Status.TheVariants.{HubFault, TurnsUsed, NoMemory}
use Rattle.djq_run.specs.declared.status.Status.TheVariants.{Schedule, SessionEnded, DiskFault}
use Rattle.djq_run.specs.declared.status.Status.TheVariants.{LogFull, BadLog, Mirror}

-- The number with which the process ends.
abbrev pub exit_number : Status → ℕ
exit_number Done = 0
exit_number Usage = 1
exit_number ReadFault = 2
exit_number WriteFault = 3
exit_number HubFault = 4
exit_number TurnsUsed = 5
exit_number NoMemory = 6
exit_number (Schedule n) = 7
exit_number SessionEnded = 8
exit_number DiskFault = 9
exit_number LogFull = 10
exit_number (BadLog at) = 11
exit_number (Mirror n) = 12
