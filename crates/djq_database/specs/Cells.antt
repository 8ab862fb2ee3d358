-- The cells of a row: of an integer its 64 bits, of a text its number, its place among the known
-- texts.
use Rattle.std.specs.Prelude.{
  ◌≡◌,
  ℕ,
  zero,
  suc,
  ⊤,
  true,
  List,
  [],
  ◌∷◌,
  map,
  if◌then◌else◌,
  FitsSigned,
}
use Rattle.std.specs.Int.{w64, cast_unsigned}
use Rattle.djq_model.specs.declared.value.Value.{Value}
use Rattle.djq_model.specs.declared.value.Value.TheVariants.{Int, Text}
use Rattle.djq_model.specs.declared.relation.ColumnType.{ColumnType}
use Rattle.djq_model.specs.Data.{Bytes, Tuple, bytes_eq}
use Rattle.djq_model.specs.Typed.{is_of, fits}
use Rattle.djq_model.specs.Known.{knows}

-- the place of a text among the known ones; past their end if it isn't known
abbrev pub text_place : List Bytes → Bytes → ℕ
text_place [] text = zero
text_place (t ∷ ts) text = if bytes_eq t text then zero else suc (text_place ts text)

-- the cell of a value
abbrev pub cell_for : List Bytes → Value → ℕ
cell_for texts (Int i) = cast_unsigned w64 i
cell_for texts (Text t) = text_place texts t

-- the cells of a row
abbrev pub cells_of : List Bytes → Tuple → List ℕ
cells_of texts row = map (cell_for texts) row

-- A value has a cell if it is an integer of 64 bits, or a known text.
abbrev pub HasCell : List Bytes → Value → Type 0
HasCell texts (Int i) = FitsSigned w64 i
HasCell texts (Text t) = knows texts t ≡ true

-- each of these values has a cell
abbrev pub HaveCells : List Bytes → Tuple → Type 0
HaveCells texts [] = ⊤
HaveCells texts (v ∷ vs) = HasCell texts v × HaveCells texts vs

-- in a column of this type, the cell represents the value
pub record CellStandsFor (texts : List Bytes) (column : ColumnType) (cell : ℕ) (value : Value) : Type 0
  where
    pub of : is_of column value ≡ true
    pub has : HasCell texts value
    pub is : cell ≡ cell_for texts value

-- in a column of this type, the cell represents some value
pub record IsCell (texts : List Bytes) (column : ColumnType) (cell : ℕ) : Type 0 where
  pub value : Value
  pub stands : CellStandsFor texts column cell value

-- in columns of these types, the cells represent the row
pub record StandFor (texts : List Bytes) (types : List ColumnType) (cells : List ℕ) (row : Tuple) :
    Type 0 where
  pub of : fits types row ≡ true
  pub have : HaveCells texts row
  pub are : cells ≡ cells_of texts row

-- in columns of these types, the cells represent some row
pub record AreCells (texts : List Bytes) (types : List ColumnType) (cells : List ℕ) : Type 0 where
  pub row : Tuple
  pub stand : StandFor texts types cells row
