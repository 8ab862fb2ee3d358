-- The levels of a listing: at each of them a tuple of the child of a trim is chosen, and its cells
-- are written into the answer.
use Rattle.std.specs.Prelude.{
  ◌≡◌,
  ℕ,
  ◌<◌,
  ◌≤◌,
  true,
  cond,
  ◌==◌,
  List,
  [],
  ◌∷◌,
  map,
  length,
  slice_set,
}
use Rattle.djq_index.specs.declared.place.Place.{Place}
use Rattle.djq_index.specs.Entries.{Entry, group_of}
use Rattle.djq_tree.specs.declared.node.Node.{Node}
use Rattle.djq_tree.specs.declared.node.Node.TheVariants.{Leaf, Trim, Meet}
use Rattle.djq_tree.specs.Labels.{label_at}
use Rattle.djq_tree.specs.Tree.{Tree, node_at}
use Rattle.djq_tree.specs.Levels.{levels_below}
use Rattle.djq_tree.specs.Counts.{is_trim}
use Rattle.djq_reduct.specs.Columns.{column}
use Rattle.djq_reduct.specs.Tables.{entries_at, key_at}
use Rattle.djq_reduct.specs.Reducts.{Reducts}

-- k is a level: a trim of the second stage
pub record IsLevel (t : Tree) (k : ℕ) : Type 0 where
  pub late : t.second_stage ≤ k
  pub within : k < length t.nodes
  pub trim : is_trim (node_at t.nodes k) ≡ true

-- k is the next level below the number n
abbrev pub IsNextLevel : Tree → ℕ → ℕ → Type 0
IsNextLevel t n k = levels_below t n ≡ k ∷ levels_below t k

-- the node of which a trim is one
abbrev pub child_of : Node → ℕ
child_of (Leaf a) = 0
child_of (Trim c) = c
child_of (Meet g s) = g

-- the node from whose table a level's tuple is chosen
unfoldable pub source : Tree → ℕ → ℕ
source t k = child_of (node_at t.nodes k)

-- the tuple at a place
unfoldable pub tuple_at : List Entry → Place → List ℕ
tuple_at [] p = []
tuple_at (e ∷ es) p = cond (e.at.slot == p.slot) e.tuple (tuple_at es p)

-- the tuples of a level's group with these cells
unfoldable pub group_at : Reducts → ℕ → List ℕ → List (List ℕ)
group_at r k w = map (λ e. e.tuple)
    (group_of (key_at r.tables (source r.tree k)) (entries_at r.tables (source r.tree k)) w)

-- an answer over the head F, once the cells u of the variables l are written
abbrev pub written_cells : List ℕ → List ℕ → List ℕ → List ℕ → List ℕ
written_cells F [] us s = s
written_cells F (x ∷ l) [] s = s
written_cells F (x ∷ l) (u ∷ us) s = written_cells F l us (slice_set s (column F x) u)

-- cells, once the cells us are put at these columns
abbrev pub cells_put : List ℕ → List ℕ → List ℕ → List ℕ
cells_put [] us s = s
cells_put (c ∷ cs) [] s = s
cells_put (c ∷ cs) (u ∷ us) s = cells_put cs us (slice_set s c u)

-- an answer, once the tuple u is chosen at the level k
unfoldable pub step : Tree → ℕ → List ℕ → List ℕ → List ℕ
step t k s u = written_cells t.head (label_at t.labels (source t k)) u s
