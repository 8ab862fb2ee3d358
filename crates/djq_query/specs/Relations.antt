-- Relations by number: a relation's number is its place in the list.
use Rattle.std.specs.Prelude.{ℕ, List, ◌≡◌, ◌<◌, Option, None, Some, length, slice_get}
use Rattle.djq_model.specs.declared.relation.ColumnType.{ColumnType}
use Rattle.djq_model.specs.declared.relation.Relation.{Relation}
use Rattle.djq_model.specs.Data.{Bytes, relation_of}
use Rattle.djq_protocol.specs.Columns.{types_of}

-- The number of the relation of a name; none if no relation has it.
abbrev pub IsId : List Relation → Bytes → Option ℕ → Type 0
IsId relations name None = relation_of relations name ≡ None
IsId relations name (Some id) =
    (id < length relations) × (slice_get relations id ≡ relation_of relations name)

-- the column types of the relation of a number
abbrev pub columns_at : List Relation → ℕ → List ColumnType
columns_at relations id = types_of (slice_get relations id)
