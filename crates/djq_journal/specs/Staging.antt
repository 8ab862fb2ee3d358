-- What follows a gate while a group is appended there.
use Rattle.std.specs.Prelude.{◌≡◌, ℕ, suc, ◌+◌, ◌≤◌, List, [], ◌∷◌, ◌++◌, length, take, drop}
use Rattle.std.specs.List.{flat_map, AllByRecursion}
use Rattle.djq_disk.specs.File.{Span, File}
use Rattle.djq_disk.specs.History.{History}
use Rattle.djq_disk.specs.Leaving.{LeavesSince}
use Rattle.djq_disk.specs.declared.disk.DiskDid.{DiskDid}
use Rattle.djq_disk.specs.declared.disk.DiskDid.TheVariants.{Done, Failed}
use Rattle.djq_journal.specs.Format.{record_of, FileOpensTo}
use Rattle.djq_journal.specs.Standing.{IsIdle}
use Rattle.djq_journal.specs.Appending.{gate_after, IsBeforeOrAfter}

-- The first so many bytes of a file are as these; they were synced, and no write since was in them.
pub record IsFirm (n : ℕ) (bytes : List ℕ) (file : File) : Type 0 where
  pub long : n ≤ length bytes
  pub synced : n ≤ file.synced
  pub behind : AllByRecursion (λ (span : Span). n ≤ span.at) file.written
  pub same : take n file.bytes ≡ take n bytes

-- the gate before these lines' records: open if there is one, and closed if there is none
abbrev pub gate_before : List (List ℕ) → ℕ
gate_before [] = 0
gate_before (line ∷ lines) = 1

-- what follows a gate if the records of these lines do, and this gate after them
abbrev pub behind_gate : List (List ℕ) → ℕ → List ℕ
behind_gate lines next = drop 1 (flat_map record_of lines ++ next ∷ [])

-- These bytes were written after the gate, in whatever pieces, and the gate stays as it was. So at each
-- moment a crash leaves the lines before it.
pub record Stages (lines : List (List ℕ)) (gate : ℕ) (laid : List ℕ) (old new : History) : Type 0 where
  pub firm : IsFirm (suc gate) old.file.bytes new.file
  pub rest : List ℕ
  pub is : drop (suc gate) new.file.bytes ≡ laid ++ rest
  pub leaves : LeavesSince (FileOpensTo lines) old new

-- the whole of the group follows the gate if all was written
abbrev pub IsStaged : DiskDid → List (List ℕ) → ℕ → List (List ℕ) → History → History → Type 0
IsStaged Done lines gate group old new = Stages lines gate (behind_gate group 0) old new
IsStaged Failed lines gate group old new = LeavesSince (FileOpensTo lines) old new

-- The first lines of a group are laid out, as what follows the gate so far: the bytes that were written,
-- up to this place, and after them those that are gathered.
pub record StagesLines (group : List (List ℕ)) (i gate at : ℕ) (written gathered : List ℕ) : Type 0 where
  pub place : at ≡ suc (gate + length written)
  pub are : behind_gate (take i group) (gate_before (drop i group)) ≡ written ++ gathered

-- what an append at a gate leaves, done or failed
abbrev pub AppendsAt : DiskDid → List (List ℕ) → ℕ → List (List ℕ) → History → History → Type 0
AppendsAt Done lines gate group old new =
    IsIdle (lines ++ group) (gate_after gate group) new.file × LeavesSince (IsBeforeOrAfter lines group) old new
AppendsAt Failed lines gate group old new = LeavesSince (IsBeforeOrAfter lines group) old new
