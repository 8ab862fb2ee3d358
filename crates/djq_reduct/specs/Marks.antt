-- The marks of an unfinished update of a leaf, which are on the leaf's path to the root.
use Rattle.std.specs.Prelude.{◌≡◌, ◌≢◌, ℕ, zero, suc, ◌*◌, ◌<◌, ◌≤◌, Bool, true, false, cond, ◌==◌, List}
use Rattle.djq_index.specs.Tuple.{pick}
use Rattle.djq_index.specs.Entries.{Entry, count_of, group_size, marks, plain}
use Rattle.djq_index.specs.Table.{Table}
use Rattle.djq_tree.specs.declared.node.Node.{Node}
use Rattle.djq_tree.specs.declared.node.Node.TheVariants.{Leaf, Trim, Meet}
use Rattle.djq_tree.specs.Tree.{Tree, node_at, has_child}
use Rattle.djq_reduct.specs.Tables.{entries_at, key_at}
use Rattle.djq_reduct.specs.Reducts.{Reducts}

-- the node of the path from the leaf a that is the highest one below k
unfoldable pub path_at : List Node → ℕ → ℕ → ℕ
path_at nodes a zero = a
path_at nodes a (suc k) = cond (has_child (node_at nodes k) (path_at nodes a k)) k (path_at nodes a k)

-- whether the node k is on the path from the leaf a, above a
unfoldable pub on_path : List Node → ℕ → ℕ → Bool
on_path nodes a k = has_child (node_at nodes k) (path_at nodes a k)

-- the node i isn't on the path from the leaf a
abbrev pub IsOff : List Node → ℕ → ℕ → Type 0
IsOff nodes a i = (i ≢ a) × (on_path nodes a i ≡ false)

-- no tuple is marked
pub record IsBare (ts : List Table) : Type 0 where
  pub none : (i : ℕ) (v : List ℕ) → count_of (marks (entries_at ts i)) v ≡ 0

-- marks are on the path from the leaf a alone
pub record AreOnPath (t : Tree) (ts : List Table) (a : ℕ) : Type 0 where
  pub off : (i : ℕ) → IsOff t.nodes a i → (v : List ℕ) → count_of (marks (entries_at ts i)) v ≡ 0

-- how many of the entries es of its child j agree with a node's tuple w on the common variables
unfoldable pub agreeing : Node → ℕ → List Table → List Entry → List ℕ → ℕ
agreeing (Leaf a) j ts es w = 0
agreeing (Trim c) j ts es w = group_size (key_at ts c) es w
agreeing (Meet g s) j ts es w = cond (g == j) (count_of es w) (count_of es (pick (key_at ts g) w))

-- the marked tuples of the node k are those that agree with a marked tuple of its child j
pub record AgreeAt (n : Node) (ts : List Table) (j k : ℕ) : Type 0 where
  pub up : (w : List ℕ) → 0 < count_of (marks (entries_at ts k)) w → 0 < agreeing n j ts (marks (entries_at ts j)) w
  pub down : (w : List ℕ) → 0 < count_of (entries_at ts k) w → 0 < agreeing n j ts (marks (entries_at ts j)) w
      → 0 < count_of (marks (entries_at ts k)) w

-- the unmarked tuples of the node k are what its children's unmarked tuples make of it
unfoldable pub ArePlainAt : Node → List Table → ℕ → Type 0
ArePlainAt (Leaf a) ts k = (w : List ℕ) → 0 ≤ count_of (plain (entries_at ts k)) w
ArePlainAt (Trim c) ts k = (w : List ℕ)
    → (0 < count_of (plain (entries_at ts k)) w → 0 < group_size (key_at ts c) (plain (entries_at ts c)) w)
    × (0 < group_size (key_at ts c) (plain (entries_at ts c)) w → 0 < count_of (plain (entries_at ts k)) w)
ArePlainAt (Meet g s) ts k = (w : List ℕ) → count_of (plain (entries_at ts k)) w
    ≡ count_of (plain (entries_at ts g)) w * count_of (plain (entries_at ts s)) (pick (key_at ts g) w)

-- the marks of an unfinished update of the leaf a. On its path, up to the lowest node in `out`, the marked
-- tuples are those that would not be there without the leaf's marked ones; above it those that agree with
-- a marked tuple of the path's next lower node. No other node has marks
pub record AreMarks (t : Tree) (ts : List Table) (a : ℕ) : Type 0 where
  pub path : AreOnPath t ts a
  pub low : (k : ℕ) → k < t.second_stage → on_path t.nodes a k ≡ true → ArePlainAt (node_at t.nodes k) ts k
  pub high : (k : ℕ) → t.second_stage ≤ k → on_path t.nodes a k ≡ true
      → AgreeAt (node_at t.nodes k) ts (path_at t.nodes a k) k

-- `small` is `big` without the marked tuples of the leaf a
pub record IsWithout (big small : Reducts) (a : ℕ) : Type 0 where
  pub tree : small.tree ≡ big.tree
  pub leaf : (v : List ℕ) → count_of (entries_at small.tables a) v ≡ count_of (plain (entries_at big.tables a)) v
  pub others : (j : ℕ) (v : List ℕ) → j < big.tree.leaves → j ≢ a → count_of (entries_at small.tables j) v
      ≡ count_of (entries_at big.tables j) v
