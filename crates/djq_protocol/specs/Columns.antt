-- The columns of relations, and what fits them.
use Rattle.std.specs.Prelude.{List, [], Option, None, Some}
use Rattle.djq_model.specs.declared.relation.ColumnType.{ColumnType}
use Rattle.djq_model.specs.declared.relation.Relation.{Relation}
use Rattle.djq_model.specs.Data.{Bytes, relation_of}
pub use Rattle.djq_model.specs.Typed.{is_of, same_type}

-- the column types of a relation; none if there is no relation
abbrev pub types_of : Option Relation → List ColumnType
types_of None = []
types_of (Some r) = r.types

-- those of the relation of a name
abbrev pub columns_of : List Relation → Bytes → List ColumnType
columns_of relations name = types_of (relation_of relations name)
