-- Tuples are marked in place.
use Rattle.std.specs.Prelude.{◌≡◌, ◌≢◌, ℕ, ◌+◌, ◌*◌, ◌<◌, ◌≤◌, Bool, true, false, cond, ◌==◌, List, [], ◌∷◌, length}
use Rattle.djq_index.specs.Tuple.{same, pick, one_if}
use Rattle.djq_index.specs.Entries.{Entry, supports_of, count_of, group_size, group_of, marks, plain}
use Rattle.djq_index.specs.Table.{Table}
use Rattle.djq_tree.specs.declared.node.Node.{Node}
use Rattle.djq_tree.specs.declared.node.Node.TheVariants.{Leaf, Trim, Meet}
use Rattle.djq_tree.specs.Tree.{Tree, node_at, has_child}
use Rattle.djq_reduct.specs.Tables.{entries_at, key_at}
use Rattle.djq_reduct.specs.Reducts.{IsFamily, AreReduced}
use Rattle.djq_reduct.specs.Marks.{path_at, on_path, IsOff, agreeing, AgreeAt, ArePlainAt}

-- those tuples of the node k that f counts are marked now, and nothing else changed but the order in groups
pub record IsTouched (t : Tree) (old new : List Table) (k : ℕ) (f : List ℕ → ℕ) : Type 0 where
  pub family : IsFamily t new
  pub others : (i : ℕ) → i ≢ k → entries_at new i ≡ entries_at old i
  pub supports : (v : List ℕ) → supports_of (entries_at new k) v ≡ supports_of (entries_at old k) v
  pub long : length (entries_at new k) ≡ length (entries_at old k)
  pub keeps : (v : List ℕ) → count_of (marks (entries_at old k)) v ≤ count_of (marks (entries_at new k)) v
  pub comes : (v : List ℕ) → 0 < count_of (entries_at old k) v → 0 < f v → 0 < count_of (marks (entries_at new k)) v
  pub only : (v : List ℕ) → 0 < count_of (marks (entries_at new k)) v → 0 < count_of (marks (entries_at old k)) v + f v

-- whether a trim's tuple with so many unmarked ones of its child is to be marked: if tuples are to be
-- removed, only if all of them are
unfoldable pub is_marked_by : Bool → ℕ → Bool
is_marked_by false n = true
is_marked_by true n = n == 0

-- what a marked tuple u of the child j reaches at a node, and what the marked tuples es reach
unfoldable pub reach_one : Node → Bool → ℕ → List Table → List ℕ → List ℕ → ℕ
reach_one (Leaf a) going j ts u w = 0
reach_one (Trim c) going j ts u w = one_if (same (pick (key_at ts c) u) w) * one_if
    (is_marked_by going (group_size (key_at ts c) (plain (entries_at ts c)) w))
reach_one (Meet g s) going j ts u w = cond (g == j) (one_if (same u w))
    (count_of (group_of (key_at ts g) (entries_at ts g) u) w)

-- what the marked tuples es of the child j reach at a node
unfoldable pub reach : Node → Bool → ℕ → List Table → List Entry → List ℕ → ℕ
reach (Leaf a) going j ts es w = 0
reach (Trim c) going j ts es w = group_size (key_at ts c) es w * one_if
    (is_marked_by going (group_size (key_at ts c) (plain (entries_at ts c)) w))
reach (Meet g s) going j ts es w = cond (g == j) (count_of es w) (count_of (entries_at ts g) w * count_of es
    (pick (key_at ts g) w))

-- what it counts
unfoldable pub cost_one : Node → ℕ → List Table → List ℕ → ℕ
cost_one (Leaf a) j ts u = 0
cost_one (Trim c) j ts u = 3
cost_one (Meet g s) j ts u = cond (g == j) 2 (1 + 3 * group_size (key_at ts g) (entries_at ts g) u)

-- what that of the tuples es counts
unfoldable pub cost : Node → ℕ → List Table → List Entry → ℕ
cost n j ts [] = 0
cost n j ts (e ∷ es) = 1 + cost_one n j ts e.tuple + cost n j ts es

-- the node k has the child j
pub record IsStepUp (t : Tree) (ts : List Table) (j k : ℕ) : Type 0 where
  pub family : IsFamily t ts
  pub within : k < length t.nodes
  pub child : has_child (node_at t.nodes k) j ≡ true

-- tuples of the nodes on the path from the leaf a were marked, and nothing else changed but the order in
-- groups
pub record IsTouchedUp (t : Tree) (old new : List Table) (a : ℕ) : Type 0 where
  pub family : IsFamily t new
  pub supports : (i : ℕ) (v : List ℕ) → supports_of (entries_at new i) v ≡ supports_of (entries_at old i) v
  pub long : (i : ℕ) → length (entries_at new i) ≡ length (entries_at old i)
  pub leaves : (i : ℕ) → i < t.leaves → entries_at new i ≡ entries_at old i
  pub off : (i : ℕ) → IsOff t.nodes a i → entries_at new i ≡ entries_at old i

-- each marked tuple of the node k agrees with a marked one of its child j
pub record IsCovered (n : Node) (ts : List Table) (j k : ℕ) : Type 0 where
  pub each : (w : List ℕ) → 0 < count_of (marks (entries_at ts k)) w → 0 < agreeing n j ts (marks (entries_at ts j)) w

-- marks can be made along the path from the leaf a: those above it follow from marks below, and
-- before a removal there are none above it
pub record CanWalk (t : Tree) (ts : List Table) (a : ℕ) (removal : Bool) : Type 0 where
  pub reduced : AreReduced t ts 0
  pub covered : (k : ℕ) → t.second_stage ≤ k → on_path t.nodes a k ≡ true
      → IsCovered (node_at t.nodes k) ts (path_at t.nodes a k) k
  pub bare : removal ≡ true → (i : ℕ) → i ≢ a → (v : List ℕ) → count_of (marks (entries_at ts i)) v ≡ 0

-- at most n tuples are marked in each table
pub record HaveMarksUpTo (n : ℕ) (ts : List Table) : Type 0 where
  pub each : (i : ℕ) → length (marks (entries_at ts i)) ≤ n

-- at most one is
abbrev pub HaveFew : List Table → Type 0
HaveFew ts = HaveMarksUpTo 1 ts

-- no tuple of another node than a is marked
pub record HaveMarksOnlyAt (ts : List Table) (a : ℕ) : Type 0 where
  pub none : (i : ℕ) → i ≢ a → (v : List ℕ) → count_of (marks (entries_at ts i)) v ≡ 0

-- those tuples of the nodes with numbers below k are marked that are to be, and no others
pub record IsWalked (t : Tree) (old new : List Table) (a : ℕ) (removal : Bool) (k : ℕ) : Type 0 where
  pub later : (i : ℕ) → k ≤ i → entries_at new i ≡ entries_at old i
  pub keeps : (i : ℕ) (v : List ℕ) → count_of (marks (entries_at old i)) v ≤ count_of (marks (entries_at new i)) v
  pub skipped : removal ≡ false → (i : ℕ) → i < t.second_stage → entries_at new i ≡ entries_at old i
  pub low : (i : ℕ) → i < k → i < t.second_stage → removal ≡ true → on_path t.nodes a i ≡ true
      → ArePlainAt (node_at t.nodes i) new i
  pub high : (i : ℕ) → i < k → t.second_stage ≤ i → on_path t.nodes a i ≡ true
      → AgreeAt (node_at t.nodes i) new (path_at t.nodes a i) i
