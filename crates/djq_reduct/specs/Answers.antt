-- The answers that reducts have: Idris, Ugarte and Vansummeren (2017).
use Rattle.std.specs.Prelude.{◌≡◌, ℕ, ◌<◌, true, List, length}
use Rattle.djq_index.specs.Tuple.{pick}
use Rattle.djq_index.specs.Entries.{count_of}
use Rattle.djq_tree.specs.Labels.{label_at}
use Rattle.djq_tree.specs.Tree.{Tree, is_out}
use Rattle.djq_reduct.specs.Columns.{columns}
use Rattle.djq_reduct.specs.Tables.{entries_at}
use Rattle.djq_reduct.specs.Reducts.{Reducts}

-- the projection of an answer on the label of the node j; an answer has a cell for each variable of
-- the head, in rising order
unfoldable pub on_node : Tree → ℕ → List ℕ → List ℕ
on_node t j a = pick (columns t.head (label_at t.labels j)) a

-- an answer: on each node of `out` its projection is in the node's table
pub record IsAnswerOf (r : Reducts) (a : List ℕ) : Type 0 where
  pub wide : length a ≡ length r.tree.head
  pub there : (j : ℕ) → is_out r.tree.out j ≡ true
      → 0 < count_of (entries_at r.tables j) (on_node r.tree j a)
