-- What a buffer is filled with.
use Rattle.std.specs.Prelude.{◌≡◌, ℕ, ◌+◌, ◌<◌, ◌≤◌, List, length, take, drop}
use Rattle.djq_disk.specs.History.{History}
use Rattle.djq_disk.specs.declared.filling.Filled.{Filled}
use Rattle.djq_disk.specs.declared.filling.Filled.TheVariants.{Whole, Short, Failed}

-- A buffer is filled from a place on with the bytes that the file has there, or the file ends before
-- it, or the disk fails. Nothing of the file changes.
abbrev pub FillsBuffer : Filled → ℕ → List ℕ → History → History → Type 0
FillsBuffer Whole at buf old new = (buf ≡ take (length buf) (drop at old.file.bytes)) × (new ≡ old)
FillsBuffer Short at buf old new = (length old.file.bytes < at + length buf) × (new ≡ old)
FillsBuffer Failed at buf old new = new ≡ old

-- a buffer that was filled ends at a place that a number names, shown or not
abbrev pub FillsWithin : Filled → ℕ → List ℕ → Type 0
FillsWithin Whole at buf = at + length buf ≤ 18446744073709551615
FillsWithin Short at buf = Unit {0}
FillsWithin Failed at buf = Unit {0}
