-- One variable at columns of two types, place by place.
use Rattle.std.specs.Prelude.{List, ◌&&◌, Bool, false, not}
use Rattle.djq_model.specs.declared.relation.ColumnType.{ColumnType}
use Rattle.djq_model.specs.declared.relation.Relation.{Relation}
use Rattle.djq_model.specs.declared.query.Atom.{Atom}
use Rattle.djq_model.specs.declared.query.Term.{Term}
use Rattle.djq_model.specs.declared.query.Term.TheVariants.{Variable, Hole, Constant}
use Rattle.djq_model.specs.Data.{Bytes, bytes_eq}
use Rattle.djq_protocol.specs.Columns.{same_type}
use Rattle.djq_protocol.specs.QueryFault.{any_place, is_clash}

-- a term that is this variable, at a column of another type than this
abbrev pub clashes_with : Bytes → ColumnType → Term → ColumnType → Bool
clashes_with x c (Variable y) d = bytes_eq y x && not (same_type d c)
clashes_with x c Hole d = false
clashes_with x c (Constant v) d = false

-- a term whose variable is at a column of another type
unfoldable pub mixes : List Relation → List Atom → Term → ColumnType → Bool
mixes relations atoms t c = any_place (is_clash t c) relations atoms
