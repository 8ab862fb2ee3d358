-- Which values the columns of a relation hold.
use Rattle.std.specs.Prelude.{List, [], ◌∷◌, ◌&&◌, Bool, true, false}
use Rattle.djq_model.specs.declared.value.Value.{Value}
use Rattle.djq_model.specs.declared.value.Value.TheVariants.{Int, Text}
use Rattle.djq_model.specs.declared.relation.ColumnType.{ColumnType}
use Rattle.djq_model.specs.declared.relation.ColumnType.TheVariants.{Int as IntColumn, Text as TextColumn}
use Rattle.djq_model.specs.Data.{Tuple}

-- whether a value is of a column's type
abbrev pub is_of : ColumnType → Value → Bool
is_of IntColumn (Int i) = true
is_of TextColumn (Text t) = true
is_of IntColumn (Text t) = false
is_of TextColumn (Int i) = false

-- whether two columns are of one type
abbrev pub same_type : ColumnType → ColumnType → Bool
same_type IntColumn IntColumn = true
same_type TextColumn TextColumn = true
same_type IntColumn TextColumn = false
same_type TextColumn IntColumn = false

-- whether each value is of its column's type
abbrev pub fits : List ColumnType → Tuple → Bool
fits [] [] = true
fits (c ∷ cs) (v ∷ vs) = is_of c v && fits cs vs
fits [] (v ∷ vs) = false
fits (c ∷ cs) [] = false
