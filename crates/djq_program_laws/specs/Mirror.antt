-- How `mirror` ends, by its status.
use Rattle.std.specs.Prelude.{◌≡◌}
use Rattle.djq_model.specs.Data.{Bytes}
use Rattle.djq_run_laws.specs.Course.{Outside}
use Rattle.djq_mirror.specs.declared.command.Mirrored.{Mirrored}
use Rattle.djq_mirror.specs.declared.command.Mirrored.TheVariants.{Done as Followed}
use Rattle.djq_mirror.specs.declared.command.Mirrored.TheVariants.{Outside as Halted}
use Rattle.djq_mirror.specs.declared.command.Mirrored.TheVariants.{ReadFault as FailedRead}
use Rattle.djq_mirror.specs.declared.command.Mirrored.TheVariants.{WriteFault as FailedWrite}
use Rattle.djq_mirror.specs.declared.command.Mirrored.TheVariants.{TooMany, NoMemory as Lacking}
use Rattle.djq_mirror.specs.Ends.{MirrorEnds}
use Rattle.djq_run.specs.declared.status.Status.{Status}
use Rattle.djq_run.specs.declared.status.Status.TheVariants.{Done, ReadFault, WriteFault, TurnsUsed, NoMemory, Mirror}

-- the status for it
abbrev pub mirror_status : Mirrored → Status
mirror_status Followed = Done
mirror_status (Halted n) = Mirror n
mirror_status FailedRead = ReadFault
mirror_status FailedWrite = WriteFault
mirror_status TooMany = TurnsUsed
mirror_status Lacking = NoMemory

-- **The theorem of `mirror`.** What the source had is followed as what one session was sent, and what
-- that leaves of a query's answers is written; nothing else is counted or done.
pub record MirrorsSource (query : Bytes) (status : Status) (before now : Outside) : Type 0 where
  pub answer : Mirrored
  pub ends : MirrorEnds answer query before.reading now.reading before.read_faults now.read_faults
      before.writing now.writing before.write_faults now.write_faults
  pub is : status ≡ mirror_status answer
  pub counted : now.counted ≡ before.counted
