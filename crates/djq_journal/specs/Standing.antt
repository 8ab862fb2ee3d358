-- The place of a journal in its file.
use Rattle.std.specs.Prelude.{◌≡◌, ℕ, List, ◌++◌, length}
use Rattle.std.specs.List.{AllByRecursion}
use Rattle.djq_disk.specs.File.{File, IsImage, IsSettled}
use Rattle.djq_journal.specs.Format.{IsJournalLine, front, FileOpensTo}

-- A journal is at a gate's place, after these lines, in a file that is settled.
pub record IsAtGate (lines : List (List ℕ)) (gate : ℕ) (file : File) : Type 0 where
  pub are_lines : AllByRecursion IsJournalLine lines
  pub rest : List ℕ
  pub is : file.bytes ≡ front lines ++ rest
  pub place : gate ≡ length (front lines)
  pub still : IsSettled file

-- A journal is idle: it is at the gate that ends these lines, in a file that is settled.
pub record IsIdle (lines : List (List ℕ)) (gate : ℕ) (file : File) : Type 0 where
  pub opens : FileOpensTo lines file.bytes
  pub place : gate ≡ length (front lines)
  pub still : IsSettled file

-- An idle journal outlives a stop.
abbrev pub IdleLasts : Type 0
IdleLasts = (lines : List (List ℕ)) (gate : ℕ) (file : File) (image : List ℕ)
    → IsIdle lines gate file → IsImage file image → FileOpensTo lines image
