-- The moments of a disk, whatever is written.
use Rattle.std.specs.Prelude.{◌≡◌, List, ◌++◌}
use Rattle.djq_disk.specs.File.{File}
use Rattle.djq_disk.specs.History.{History}

-- A disk moved on by these moments, which have ended: the file as it was at each. No path was opened.
pub record PassesMoments (moments : List File) (old new : History) : Type 0 where
  pub past : new.past ≡ old.past ++ moments
  pub paths : new.paths ≡ old.paths

-- A disk moved on by some moments.
abbrev pub HasPassed : History → History → Type 0
HasPassed old new = (moments : List File) × PassesMoments moments old new
