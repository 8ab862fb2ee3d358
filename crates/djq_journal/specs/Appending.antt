-- What an append of a group leaves, at each moment and in the end.
use Rattle.std.specs.Prelude.{◌≡◌, ℕ, ◌+◌, ◌<◌, ◌≤◌, ◌⊎◌, List, ◌++◌, length}
use Rattle.std.specs.List.{flat_map}
use Rattle.djq_io.specs.Faults.{Counted}
use Rattle.djq_disk.specs.History.{History}
use Rattle.djq_disk.specs.Leaving.{LeavesSince}
use Rattle.djq_journal.specs.Format.{record_of, FileOpensTo}
use Rattle.djq_journal.specs.Standing.{IsIdle}
use Rattle.djq_journal.specs.declared.journal.Appended.{Appended}
use Rattle.djq_journal.specs.declared.journal.Appended.TheVariants.{Done, Failed, Full}
use Rattle.djq_journal.specs.declared.limits.TheConstants.{LAST_GATE}

-- the place of the gate after a group that is appended at this one
abbrev pub gate_after : ℕ → List (List ℕ) → ℕ
gate_after gate group = gate + length (flat_map record_of group)

-- A file opens to the lines before an append or to those and the whole group.
abbrev pub IsBeforeOrAfter : List (List ℕ) → List (List ℕ) → List ℕ → Type 0
IsBeforeOrAfter lines group file = FileOpensTo lines file ⊎ FileOpensTo (lines ++ group) file

-- How an append of a group changes an idle journal: idle again, with the group; at each moment a
-- crash leaves the lines before, or those and the whole group; and if it is full, nothing changes.
abbrev pub Appends : Appended → List (List ℕ) → List (List ℕ) → History → History → Type 0
Appends (Done gate) lines group old new = IsIdle (lines ++ group) gate new.file
    × LeavesSince (IsBeforeOrAfter lines group) old new
Appends Failed lines group old new = LeavesSince (IsBeforeOrAfter lines group) old new
Appends Full lines group old new = new ≡ old

-- A journal is full if and only if the gate after the group would be past the last place.
abbrev pub HasGroupRoom : Appended → ℕ → List (List ℕ) → Type 0
HasGroupRoom (Done gate') gate group = (gate' ≡ gate_after gate group) × (gate_after gate group ≤ LAST_GATE)
HasGroupRoom Failed gate group = gate_after gate group ≤ LAST_GATE
HasGroupRoom Full gate group = LAST_GATE < gate_after gate group

-- The disk's count of faults rises if an append fails, and else stays.
abbrev pub CountsAppended : Appended → ℕ → ℕ → Type 0
CountsAppended (Done gate) old new = new ≡ old
CountsAppended Failed old new = Counted old new
CountsAppended Full old new = new ≡ old
