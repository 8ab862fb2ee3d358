-- What `add`, `del` and `done` do to the number of copies of each row.
use Rattle.std.specs.Prelude.{ℕ, List, [], ◌∷◌, ◌==◌, ◌≡◌, ◌+◌, ◌-◌, ◌&&◌, ◌||◌, Bool, false, nat_le, nat_lt}
use Rattle.std.specs.Prelude.{if◌then◌else◌, Option, Ok}
use Rattle.std.specs.List.{list_any}
use Rattle.djq_model.specs.Data.{Bytes, Tuple, bytes_eq, tuple_eq, rows_of, has_row}
use Rattle.djq_protocol.specs.declared.answer.AddOutcome.{AddOutcome}
use Rattle.djq_protocol.specs.declared.answer.AddOutcome.TheVariants.{First, More}
use Rattle.djq_protocol.specs.declared.answer.DeleteOutcome.{DeleteOutcome}
use Rattle.djq_protocol.specs.declared.answer.DeleteOutcome.TheVariants.{Last, Left, Absent}
use Rattle.djq_store_spec.specs.Store.{Store}
use Rattle.djq_store_spec.specs.Rows.{copies_of, AddsRow, DeletesRow}
use Rattle.djq_store_spec.specs.Held.{HeldLine}
use Rattle.djq_store_spec.specs.Lines.{after_verb}
use Rattle.djq_store_spec.specs.Transaction.{SuitAll, DoesAll}
use Rattle.djq_run_laws.specs.Sound.{IsSoundStore}

-- A row is there if and only if it has a copy.
abbrev pub RowsHaveCopies : Type 0
RowsHaveCopies = (st : Store) → IsSoundStore st → (name : Bytes) (row : Tuple)
    → has_row (rows_of st.relations name) row ≡ nat_le 1 (copies_of st name row)

-- A row has so many copies afterwards, and every other one as many as before; if this is a change,
-- it is counted.
pub record LeavesCopies (old : Store) (name : Bytes) (row : Tuple) (copies : ℕ) (is_change : Bool)
    (new : Store) : Type 0 where
  pub row_has : copies_of new name row ≡ copies
  pub others : (n : Bytes) (t : Tuple) → (bytes_eq n name && tuple_eq row t) ≡ false
      → copies_of new n t ≡ copies_of old n t
  pub counted : new.seq ≡ (if is_change then old.seq + 1 else old.seq)

-- the copies that are reported
abbrev pub copies_added : AddOutcome → ℕ
copies_added First = 1
copies_added (More copies) = copies

-- the copies of a row that are reported to be left
abbrev pub copies_left : DeleteOutcome → ℕ
copies_left Last = 0
copies_left (Left copies) = copies
copies_left Absent = 0

-- An `add` that is done makes one copy more, and returns how many there are then. The first is a change.
abbrev pub AddsCopy : Type 0
AddsCopy = (old : Store) → IsSoundStore old → (name : Bytes) (row : Tuple) (outcome : AddOutcome)
    (new : Store) → AddsRow old name row (Ok outcome) new
    → LeavesCopies old name row (copies_of old name row + 1) (copies_of old name row == 0) new
    × (copies_added outcome ≡ copies_of new name row)

-- A `del` that is done removes one copy, if there is one, and returns how many are left. The last is a
-- change.
abbrev pub TakesCopy : Type 0
TakesCopy = (old : Store) → IsSoundStore old → (name : Bytes) (row : Tuple) (outcome : DeleteOutcome)
    (new : Store) → DeletesRow old name row (Ok outcome) new
    → LeavesCopies old name row (copies_of old name row - 1) (copies_of old name row == 1) new
    × (copies_left outcome ≡ copies_of new name row)

-- the copies of a row that lines, one after another, leave of so many
abbrev pub lines_leave : List HeldLine → Bytes → Tuple → ℕ → ℕ
lines_leave [] name row n = n
lines_leave (h ∷ hs) name row n =
    lines_leave hs name row (if bytes_eq h.relation name && tuple_eq h.row row then after_verb h.verb n else n)

-- whether the row of a line gets its first copy, or loses its last
abbrev pub has_turned : Store → Store → HeldLine → Bool
has_turned old new h =
    ((copies_of old h.relation h.row == 0) && nat_lt 0 (copies_of new h.relation h.row))
    || (nat_lt 0 (copies_of old h.relation h.row) && (copies_of new h.relation h.row == 0))

-- Each row has the copies that lines, in order, leave of those that it had. If a row of a line gets its first or loses
-- its last, one change is counted.
pub record LeavesLines (old : Store) (lines : List HeldLine) (new : Store) : Type 0 where
  pub each : (name : Bytes) (row : Tuple)
      → copies_of new name row ≡ lines_leave lines name row (copies_of old name row)
  pub counted : new.seq ≡ (if list_any (has_turned old new) lines then old.seq + 1 else old.seq)

-- So it is if a `done` isn't refused.
abbrev pub LinesLeaveCopies : Type 0
LinesLeaveCopies = (old : Store) → IsSoundStore old → (lines : List HeldLine) → SuitAll old lines
    → (given : Option ℕ) (n : ℕ) (new : Store) → DoesAll old lines given (Ok n) new → LeavesLines old lines new
