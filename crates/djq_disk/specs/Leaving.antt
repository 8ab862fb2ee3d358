-- What a stop may leave at each moment of a stretch of time, and what no call of a disk breaks.
use Rattle.std.specs.Prelude.{◌≡◌, ℕ, List, ◌++◌}
use Rattle.std.specs.List.{AllByRecursion}
use Rattle.djq_disk.specs.File.{File, IsImage}
use Rattle.djq_disk.specs.History.{History, OpensPath, Sizes, DiskReads, DiskWrites, Syncs}
use Rattle.djq_disk.specs.History.{BeginsNext, WritesNext, SyncsNext, Replaces}
use Rattle.djq_disk.specs.declared.disk.DiskLen.{DiskLen}
use Rattle.djq_disk.specs.declared.disk.DiskRead.{DiskRead}
use Rattle.djq_disk.specs.declared.disk.DiskDid.{DiskDid}

-- whatever a stop leaves of the file has P
abbrev pub LeavesOnly : (List ℕ → Type 0) → File → Type 0
LeavesOnly P file = (image : List ℕ) → IsImage file image → P image

-- At each moment from an earlier history to a later one, the later one's file among them, a crash leaves only
-- what has P. The moment of the earlier one is among them if anything was written or synced since.
pub record LeavesSince (P : List ℕ → Type 0) (old new : History) : Type 0 where
  pub more : List File
  pub past : new.past ≡ old.past ++ more
  pub paths : new.paths ≡ old.paths
  pub each : AllByRecursion (LeavesOnly P) more
  pub now : LeavesOnly P new.file

-- A file as it reads is one of its images.
abbrev pub ReadsAsImage : File → Type 0
ReadsAsImage file = IsImage file file.bytes

-- Each of both files reads as one of its images afterwards if it did before.
abbrev pub StayImages : History → History → Type 0
StayImages old new = (ReadsAsImage old.file → ReadsAsImage new.file) × (ReadsAsImage old.next → ReadsAsImage new.next)

-- So it is in each call of a disk, whatever it answers. If the next file replaces the file, its images
-- are those of the file from then on, so both have to read as theirs before.
pub record StaysAnImage : Type 0 where
  pub opening : (path : List ℕ) (old new : History) → OpensPath path old new → StayImages old new
  pub sizing : (answer : DiskLen) (old new : History) → Sizes answer old new → StayImages old new
  pub reading : (answer : DiskRead) (at : ℕ) (buf : List ℕ) (old new : History) → DiskReads answer at buf old new
      → StayImages old new
  pub writing : (did : DiskDid) (at : ℕ) (piece : List ℕ) (old new : History) → DiskWrites did at piece old new
      → StayImages old new
  pub syncing : (did : DiskDid) (old new : History) → Syncs did old new → StayImages old new
  pub beginning_next : (did : DiskDid) (old new : History) → BeginsNext did old new → StayImages old new
  pub writing_next : (did : DiskDid) (at : ℕ) (piece : List ℕ) (old new : History) → WritesNext did at piece old new
      → StayImages old new
  pub syncing_next : (did : DiskDid) (old new : History) → SyncsNext did old new → StayImages old new
  pub replacing : (did : DiskDid) (old new : History) → Replaces did old new → ReadsAsImage old.file
      → ReadsAsImage old.next → ReadsAsImage new.file × ReadsAsImage new.next
