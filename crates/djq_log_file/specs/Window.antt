-- A window over a file: a part of it that is held, a look ahead from a place on, and what is read through it.
use Rattle.std.specs.Prelude.{◌≡◌, ℕ, ◌+◌, ◌<◌, ◌≤◌, List, [], length, take, drop}
use Rattle.djq_disk.specs.History.{History}
use Rattle.djq_disk.specs.declared.disk.DiskRead.{DiskRead}
use Rattle.djq_disk.specs.declared.disk.DiskRead.TheVariants.{Got, End, Failed}
use Rattle.djq_disk.specs.declared.filling.Filled.{Filled}
use Rattle.djq_disk.specs.declared.filling.Filled.TheVariants.{Whole, Short, Failed as Unfilled}

-- a part of a file: the place of its first byte, and its bytes
pub record FilePart : Type 0 where
  pub start : ℕ
  pub held : List ℕ

-- it holds what a file of these bytes has there
abbrev pub WindowHolds : FilePart → List ℕ → Type 0
WindowHolds part bytes = part.held ≡ take (length part.held) (drop part.start bytes)

-- A look ahead changes nothing of the file. What is held is the file's, as it was before; and the file ends if and
-- only if no byte is ahead.
abbrev pub LooksAhead : DiskRead → ℕ → FilePart → FilePart → History → History → Type 0
LooksAhead (Got n) at old new o h = (h ≡ o) × (WindowHolds old o.file.bytes → WindowHolds new o.file.bytes)
LooksAhead End at old new o h = (h ≡ o) × (length o.file.bytes ≤ at)
LooksAhead Failed at old new o h = h ≡ o

-- So many bytes are held from a place on, up to the end of the part.
abbrev pub ReachesAhead : DiskRead → ℕ → FilePart → Type 0
ReachesAhead (Got n) at part =
    (1 ≤ n) × (part.start ≤ at) × (at + n ≡ part.start + length part.held) × (at + n ≤ 18446744073709551615)
ReachesAhead End at part = part.held ≡ []
ReachesAhead Failed at part = part.held ≡ []

-- Reading through a window changes nothing of the file. If the window holds the file's bytes it still does, and
-- this is found in them.
abbrev pub ReadsThrough : (List ℕ → Type 0) → FilePart → FilePart → History → History → Type 0
ReadsThrough Found old new o n =
    (n ≡ o) × (WindowHolds old o.file.bytes → WindowHolds new o.file.bytes × Found o.file.bytes)

-- A buffer is filled from a place on with the bytes that a file has there, or the file ends before it.
abbrev pub FillsPart : Filled → ℕ → List ℕ → List ℕ → Type 0
FillsPart Whole at buf bytes = buf ≡ take (length buf) (drop at bytes)
FillsPart Short at buf bytes = length bytes < at + length buf
FillsPart Unfilled at buf bytes = Unit {0}
