-- Cells in the order of a query's head, and cells of an answer of the tree, which has them in
-- rising order of the variables.
use Rattle.std.specs.Prelude.{◌≡◌, ℕ, List, map, slice_index}
use Rattle.djq_reduct.specs.Columns.{column}
use Rattle.djq_reduct.specs.Reducts.{Reducts}
use Rattle.djq_reduct.specs.Answers.{IsAnswerOf}

-- the cell of the variable x, if these are the cells of the variables xs
abbrev pub cell_of_variable : List ℕ → List ℕ → ℕ → ℕ
cell_of_variable xs cells x = slice_index cells (column xs x)

-- In the head's order these are the cells of an answer of the tree.
pub record AreCellsOfAnswer (r : Reducts) (head cells : List ℕ) : Type 0 where
  pub is_answer : IsAnswerOf r (map (cell_of_variable head cells) r.tree.head)
  -- a variable that occurs in the head twice has one cell
  pub are : map (cell_of_variable head cells) head ≡ cells
