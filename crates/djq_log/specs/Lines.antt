-- Which lines a file opens to, as a log of either format, and the place at which such a log ends.
use Rattle.std.specs.Prelude.{◌≡◌, ℕ, ◌⊎◌, List}
use Rattle.std.specs.List.{flat_map}
use Rattle.djq_disk.specs.File.{File, IsImage, IsSettled}
use Rattle.djq_journal.specs.Format.{FileOpensTo}
use Rattle.djq_journal.specs.Standing.{IsIdle}
use Rattle.djq_log_file.specs.Standing.{HoldsGroups, EndsRead}
use Rattle.djq_log.specs.declared.end.LogEnd.{LogEnd}
use Rattle.djq_log.specs.declared.end.LogEnd.TheVariants.{First, Second}

-- the lines of groups
abbrev pub whole_lines : List (List (List ℕ)) → List (List ℕ)
whole_lines groups = flat_map (λ group. group) groups

-- A file has these lines as a log of the second format: they are those of its groups.
pub record HasLogLines (lines : List (List ℕ)) (file : List ℕ) : Type 0 where
  pub groups : List (List (List ℕ))
  pub holds : HoldsGroups groups file
  pub are : lines ≡ whole_lines groups

-- A file opens to these lines, as a log of the first format or of the second.
abbrev pub LogOpensToLines : List (List ℕ) → List ℕ → Type 0
LogOpensToLines lines file = FileOpensTo lines file ⊎ HasLogLines lines file

-- A log of these lines ends here, in a file in which all is synced.
abbrev pub IsIdleAt : List (List ℕ) → LogEnd → File → Type 0
IsIdleAt lines (First gate) file = IsIdle lines gate file
IsIdleAt lines (Second place) file = EndsRead lines place file.bytes × IsSettled file

-- It outlives a crash.
abbrev pub IdleLogLasts : Type 0
IdleLogLasts = (lines : List (List ℕ)) (end : LogEnd) (file : File) (image : List ℕ) → IsIdleAt lines end file
    → IsImage file image → LogOpensToLines lines image

-- A file opens to one list of lines.
abbrev pub LogOpensToOne : Type 0
LogOpensToOne = (lines others : List (List ℕ)) (file : List ℕ) → LogOpensToLines lines file
    → LogOpensToLines others file → lines ≡ others
