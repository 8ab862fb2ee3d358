-- Atoms whose constants are cells, and the rows that they give.
use Rattle.std.specs.Prelude.{ℕ, ℤ, ◌==◌, ◌≡◌, ◌≤◌, ◌<◌, List, [], ◌∷◌, ◌++◌, Bool, true, false}
use Rattle.std.specs.Prelude.{not, nat_lt, All, if◌then◌else◌, length, map, slice_index, slice_set}
use Rattle.std.specs.Int.{w64, cast_signed}
use Rattle.std.specs.Int.Signed.{lt_z}
use Rattle.std.specs.List.{list_all, list_any, position_or_len}
use Rattle.djq_query.specs.declared.numbered.NumberedTerm.{NumberedTerm}
use Rattle.djq_query.specs.declared.numbered.NumberedTerm.TheVariants.{Variable as Number, Constant as Fixed}
use Rattle.djq_model.specs.declared.query.Operator.{Operator}
use Rattle.djq_model.specs.declared.query.Operator.TheVariants.{
  Less,
  LessOrEqual,
  Greater,
  GreaterOrEqual,
  Equal,
  NotEqual,
}
use Rattle.djq_hypergraph.specs.Hypergraph.{member}
use Rattle.djq_query.specs.declared.numbered.NumberedComparison.{NumberedComparison}
use Rattle.djq_query.specs.declared.pattern.Test.{Test}
use Rattle.djq_query.specs.declared.pattern.Slot.{Slot}
use Rattle.djq_query.specs.declared.pattern.Slot.TheVariants.{Place, Cell}
use Rattle.djq_index.specs.declared.cells.TheConstants.{CELLS}

-- how many variables there are, the slot of each column, and what has to hold of the variables
pub record Shape : Type 0 where
  pub width : ℕ
  pub slots : List Slot
  pub tests : List Test

-- the cell that a tuple gives a column
unfoldable pub cell_of : List ℕ → Slot → ℕ
cell_of u (Place p) = slice_index u p
cell_of u (Cell c) = c

-- The row that a tuple put into an atom gives.
unfoldable pub filled : List ℕ → List Slot → List ℕ
filled u slots = map (cell_of u) slots

-- the integer of a cell, whose bits it is
abbrev pub integer : ℕ → ℤ
integer cell = cast_signed w64 cell

-- Whether an operator holds of a cell and a constant's cell. Equal values have equal cells; an
-- order is that of the cells' integers.
abbrev pub passes : Operator → ℕ → ℕ → Bool
passes Equal cell constant = cell == constant
passes NotEqual cell constant = not (cell == constant)
passes Less cell constant = lt_z (integer cell) (integer constant)
passes LessOrEqual cell constant = not (lt_z (integer constant) (integer cell))
passes Greater cell constant = lt_z (integer constant) (integer cell)
passes GreaterOrEqual cell constant = not (lt_z (integer cell) (integer constant))

-- A tuple's cell passes a test.
abbrev pub Passes : List ℕ → Test → Type 0
Passes u t = passes t.operator (slice_index u t.place) t.cell ≡ true

-- A tuple gives a row: it has a cell for each variable, put into the atom its cells are the row's, and
-- they pass every test.
pub record GivesRow (p : Shape) (u row : List ℕ) : Type 0 where
  pub wide : length u ≡ p.width
  pub fills : filled u p.slots ≡ row
  pub passes : All (Passes u) p.tests

-- a tuple with the cell of a row's column, if the column has a variable
unfoldable pub put_cell : List ℕ → Slot → ℕ → List ℕ
put_cell u (Place p) c = slice_set u p c
put_cell u (Cell d) c = u

-- whether a slot is this place
abbrev pub is_place : ℕ → Slot → Bool
is_place p (Place q) = p == q
is_place p (Cell c) = false

-- whether a slot is a place below the width, or a cell
abbrev pub slot_is_within : ℕ → Slot → Bool
slot_is_within width (Place p) = nat_lt p width
slot_is_within width (Cell c) = true

-- Each place is that of a variable, and each variable has a place; each test is of a variable.
pub record IsPattern (p : Shape) : Type 0 where
  pub narrow : p.width ≤ CELLS
  pub within : list_all (slot_is_within p.width) p.slots ≡ true
  pub all : (x : ℕ) → x < p.width → list_any (is_place x) p.slots ≡ true
  pub tested : list_all (λ t. nat_lt t.place p.width) p.tests ≡ true

-- A row of the atom is the tuple that gives it: the variables are at its columns in their order.
pub record IsPlain (width : ℕ) (slots : List Slot) : Type 0 where
  pub long : length slots ≡ width
  pub same : (u : List ℕ) → length u ≡ width → filled u slots ≡ u

-- a pattern, with whether it is known to be plain
pub record PatternIsMade (p : Shape) (plain : Bool) : Type 0 where
  pub pattern : IsPattern p
  pub straight : plain ≡ true → IsPlain p.width p.slots

-- The slot of a column of an atom over these variables: the place of a variable among them, and the
-- cell of a constant.
unfoldable pub slot_of : List ℕ → NumberedTerm → ℕ → Slot
slot_of label (Number x) c = Place (position_or_len (λ y. y == x) label)
slot_of label (Fixed v) c = Cell c

-- the slots of the columns of these terms, one by one
unfoldable pub bound : List ℕ → List NumberedTerm → List ℕ → List Slot
bound label [] cs = []
bound label (t ∷ ts) [] = []
bound label (t ∷ ts) (c ∷ cs) = slot_of label t c ∷ bound label ts cs

-- The test that a comparison is for a tuple over these variables, given its constant's cell: none if
-- its variable isn't among them.
unfoldable pub test_of : List ℕ → NumberedComparison → ℕ → List Test
test_of label c cell =
    if member c.variable label then (record {
      place = position_or_len (λ y. y == c.variable) label;
      operator = c.operator;
      cell = cell;
    }) ∷ [] else []

-- the tests that comparisons are, in their order
unfoldable pub tests_of : List ℕ → List NumberedComparison → List ℕ → List Test
tests_of label [] cells = []
tests_of label (c ∷ cs) [] = []
tests_of label (c ∷ cs) (cell ∷ cells) = test_of label c cell ++ tests_of label cs cells
