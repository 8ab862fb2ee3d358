-- What a change of rows is, and the outcome of a command that may make one.
use Rattle.std.specs.Prelude.{List, Bool, true, false, Option, None, Some, is_some, Result, Ok, Err}
use Rattle.djq_model.specs.declared.relation.Relation.{Relation}
use Rattle.djq_model.specs.declared.relation.CountedRow.{CountedRow}
use Rattle.djq_model.specs.Data.{Bytes, Tuple, bytes_eq, counted_of, with_row, without_copies}
use Rattle.djq_model.specs.Listed.{Listed}
use Rattle.djq_protocol.specs.declared.answer.Refusal.{Refusal}
use Rattle.djq_protocol.specs.declared.answer.Refusal.TheVariants.{NoMemory}
use Rattle.djq_protocol.specs.declared.answer.AddOutcome.{AddOutcome}
use Rattle.djq_protocol.specs.declared.answer.AddOutcome.TheVariants.{First, More}
use Rattle.djq_protocol.specs.declared.answer.DeleteOutcome.{DeleteOutcome}
use Rattle.djq_protocol.specs.declared.answer.DeleteOutcome.TheVariants.{Last, Left, Absent}
use Rattle.djq_store_spec.specs.Relations.{with_rows}
use Rattle.djq_store_spec.specs.Stale.{by_relation}

-- The halves of a change that inserts rows and then deletes others.
pub record Halves : Type 0 where
  -- the relations between: those before, with the rows that are inserted
  pub mid : List Relation
  -- whether rows of a relation of this name are inserted and others deleted
  pub both : Bytes → Bool

-- What a change of rows is, of one relation or of several: rows are inserted that weren't there, or
-- deleted with their last copy.
pub record RowsChange : Type 0 where
  -- the relations after it
  pub after : List Relation
  -- the relation whose change outdates a query, if one does
  pub outdater : Listed → Option Bytes
  -- whether it changes the rows of a relation of this name
  pub touches : Bytes → Bool
  -- its halves, if rows may be inserted and others deleted
  pub halves : Option Halves

-- the change of one relation, with the relations after it: rows are inserted, or rows are deleted
abbrev pub one_change : Bytes → List Relation → RowsChange
one_change name after = record {
  after = after;
  outdater = by_relation name;
  touches = λ relation. bytes_eq relation name;
  halves = None;
}

-- the change by which one relation has other rows
abbrev pub new_rows : List Relation → Bytes → List CountedRow → RowsChange
new_rows relations name rows = one_change name (with_rows relations name rows)

-- the change by which a row is inserted
abbrev pub row_in : List Relation → Bytes → Tuple → RowsChange
row_in relations name row = new_rows relations name (with_row (counted_of relations name) row)

-- the change by which a row is deleted, with all its copies
abbrev pub row_out : List Relation → Bytes → Tuple → RowsChange
row_out relations name row = new_rows relations name (without_copies (counted_of relations name) row)

-- The outcome of a command that may change rows.
pub data RowsOutcome : Type 0 where
  -- they change so
  accepted : RowsChange → RowsOutcome
  -- they were to change so, and memory was refused once the line was read
  out_of_memory : RowsChange → RowsOutcome
  -- no row was to be inserted or deleted, or the command was refused before
  unchanged : RowsOutcome

-- A row that was inserted is a change; a further copy of one is none.
abbrev pub add_outcome : RowsChange → Result AddOutcome Refusal → RowsOutcome
add_outcome change (Ok First) = accepted change
add_outcome change (Ok (More copies)) = unchanged
add_outcome change (Err NoMemory) = out_of_memory change
add_outcome change (Err _) = unchanged

-- A row whose last copy was deleted is one, and a row is deleted without memory.
abbrev pub delete_outcome : RowsChange → Result DeleteOutcome Refusal → RowsOutcome
delete_outcome change (Ok Last) = accepted change
delete_outcome change (Ok (Left copies)) = unchanged
delete_outcome change (Ok Absent) = unchanged
delete_outcome change (Err _) = unchanged

-- whether rows changed
abbrev pub is_made : RowsOutcome → Bool
is_made (accepted change) = true
is_made (out_of_memory change) = false
is_made unchanged = false

-- the change that was made or tried: it outdates cursors either way
abbrev pub tried : RowsOutcome → Option RowsChange
tried (accepted change) = Some change
tried (out_of_memory change) = Some change
tried unchanged = None

-- whether a change outdates a query
abbrev pub is_outdated : RowsChange → Listed → Bool
is_outdated change q = is_some (change.outdater q)
