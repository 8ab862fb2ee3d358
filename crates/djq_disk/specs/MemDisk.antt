-- What callers see of a disk in memory, and what it answers.
use Rattle.std.specs.Prelude.{ℕ, List, if◌then◌else◌}
use Rattle.djq_io.specs.Failing.{is_failing}
use Rattle.djq_disk.specs.File.{piece_put}
use Rattle.djq_disk.specs.CallLog.{Calls}
use Rattle.djq_disk.specs.declared.disk.DiskDid.{DiskDid}
use Rattle.djq_disk.specs.declared.disk.DiskDid.TheVariants.{Done, Failed}

-- A disk in memory: its calls, and the later ones that are to fail.
pub record MemDiskInside : Type 0 where
  pub log : Calls
  pub to_fail : List ℕ

-- what a call answers that only does or fails, such as a write or a sync
abbrev pub did_of : MemDiskInside → DiskDid
did_of disk = if is_failing disk.to_fail then Failed else Done

-- the bytes of a disk in memory after a write with this answer
abbrev pub put_by : DiskDid → ℕ → List ℕ → List ℕ → List ℕ
put_by Done at piece bytes = piece_put at piece bytes
put_by Failed at piece bytes = bytes
