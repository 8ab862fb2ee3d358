-- What the calls of an update leave.
use Rattle.std.specs.Prelude.{◌≡◌, ◌≢◌, ◌↔◌, ◌⊎◌, ℕ, zero, suc, ◌+◌, ◌<◌, ◌≤◌, true, List, length}
use Rattle.djq_index.specs.Tuple.{same, one_if}
use Rattle.djq_index.specs.Entries.{supports_of, count_of, marks}
use Rattle.djq_index.specs.Table.{Table}
use Rattle.djq_tree.specs.declared.node.Node.{Node}
use Rattle.djq_tree.specs.Tree.{Tree}
use Rattle.djq_tree.specs.Counts.{trims}
use Rattle.djq_reduct.specs.Tables.{entries_at}
use Rattle.djq_reduct.specs.Reducts.{Reducts, IsReducts, IsFamily, SameTables}
use Rattle.djq_reduct.specs.Marks.{on_path, IsOff, IsBare, AreMarks, IsWithout}
use Rattle.djq_propagate.specs.Walks.{Fewer}
use Rattle.djq_propagate.specs.Touches.{HaveMarksOnlyAt}

-- the tuple u was inserted into the leaf a, and is the marked one there
pub record HasInserted (old new : Reducts) (a : ℕ) (u : List ℕ) : Type 0 where
  pub sound : IsReducts new
  pub without : IsWithout new old a
  pub marked : (v : List ℕ) → count_of (marks (entries_at new.tables a)) v ≡ one_if (same u v)
  pub are_marks : AreMarks new.tree new.tables a

-- the tuple u of the leaf a is the marked one there, and all tables hold what they held
pub record HasMarked (old new : Reducts) (a : ℕ) (u : List ℕ) : Type 0 where
  pub sound : IsReducts new
  pub tree : new.tree ≡ old.tree
  pub tables : SameTables old new
  pub marked : (v : List ℕ) → count_of (marks (entries_at new.tables a)) v ≡ one_if (same u v)
  pub are_marks : AreMarks new.tree new.tables a

-- the tuple u of the leaf a is marked, too, and all tables hold what they held
pub record HasMarkedMore (old new : Reducts) (a : ℕ) (u : List ℕ) : Type 0 where
  pub sound : IsReducts new
  pub tree : new.tree ≡ old.tree
  pub tables : SameTables old new
  pub marked : (v : List ℕ) → (0 < count_of (marks (entries_at new.tables a)) v)
      ↔ ((0 < count_of (marks (entries_at old.tables a)) v) ⊎ (u ≡ v))
  pub few : length (marks (entries_at new.tables a)) ≤ length (marks (entries_at old.tables a)) + 1
  pub more : count_of (marks (entries_at old.tables a)) u ≡ 0
      → length (marks (entries_at old.tables a)) + 1 ≤ length (marks (entries_at new.tables a))
  pub only : HaveMarksOnlyAt new.tables a

-- what depends on the marked tuples of the leaf a is marked, and all tables hold what they held
pub record HasMarkedAbove (old new : Reducts) (a : ℕ) : Type 0 where
  pub sound : IsReducts new
  pub tree : new.tree ≡ old.tree
  pub tables : SameTables old new
  pub marked : (v : List ℕ) → count_of (marks (entries_at new.tables a)) v
      ≡ count_of (marks (entries_at old.tables a)) v
  pub are_marks : AreMarks new.tree new.tables a

-- all tables hold what they held, without a mark
pub record HasKept (old new : Reducts) : Type 0 where
  pub sound : IsReducts new
  pub tree : new.tree ≡ old.tree
  pub tables : SameTables old new
  pub bare : IsBare new.tables

-- the marked tuples of the leaf a were removed, and no mark is left
pub record HasDropped (old new : Reducts) (a : ℕ) : Type 0 where
  pub sound : IsReducts new
  pub without : IsWithout old new a
  pub bare : IsBare new.tables

-- the tuple u was inserted into the leaf a, each other leaf holds what it held, and no tuple is marked
pub record HasGained (old new : Reducts) (a : ℕ) (u : List ℕ) : Type 0 where
  pub sound : IsReducts new
  pub tree : new.tree ≡ old.tree
  pub leaf : (v : List ℕ)
      → count_of (entries_at new.tables a) v ≡ count_of (entries_at old.tables a) v + one_if (same u v)
  pub others : (j : ℕ) (v : List ℕ) → j < old.tree.leaves → j ≢ a → count_of (entries_at new.tables j) v
      ≡ count_of (entries_at old.tables j) v
  pub bare : IsBare new.tables

-- the tuple u was deleted from the leaf a, each other leaf holds what it held, and no tuple is marked
pub record HasLost (old new : Reducts) (a : ℕ) (u : List ℕ) : Type 0 where
  pub sound : IsReducts new
  pub tree : new.tree ≡ old.tree
  pub leaf : (v : List ℕ)
      → count_of (entries_at old.tables a) v ≡ count_of (entries_at new.tables a) v + one_if (same u v)
  pub others : (j : ℕ) (v : List ℕ) → j < old.tree.leaves → j ≢ a → count_of (entries_at new.tables j) v
      ≡ count_of (entries_at old.tables j) v
  pub bare : IsBare new.tables

-- the marked tuples of the leaf a were removed from its table, and from those above what depended on them
pub record HasTaken (old new : Reducts) (a : ℕ) : Type 0 where
  pub sound : IsReducts new
  pub without : IsWithout old new a
  pub fewer : Fewer old.tables new.tables

-- the marks of the leaf a and of the nodes above it with numbers below k were cleared, and nothing else
-- changed
pub record HasCleared (t : Tree) (old new : List Table) (a k : ℕ) : Type 0 where
  pub family : IsFamily t new
  pub supports : (i : ℕ) (v : List ℕ) → supports_of (entries_at new i) v ≡ supports_of (entries_at old i) v
  pub long : (i : ℕ) → length (entries_at new i) ≡ length (entries_at old i)
  pub off : (i : ℕ) → IsOff t.nodes a i → entries_at new i ≡ entries_at old i
  pub leaf : (v : List ℕ) → count_of (marks (entries_at new a)) v ≡ 0
  pub path : (i : ℕ) → i < k → on_path t.nodes a i ≡ true → (v : List ℕ) → count_of (marks (entries_at new i)) v ≡ 0

-- how many nodes with numbers below k are on the path from the leaf a, above a
unfoldable pub steps : List Node → ℕ → ℕ → ℕ
steps nodes a zero = 0
steps nodes a (suc k) = steps nodes a k + one_if (on_path nodes a k)

-- no path of the tree has more nodes than this, and it is at most the number of atoms and variables
abbrev pub paths : Tree → ℕ
paths t = t.leaves + trims t.nodes

-- no leaf has more than n tuples
pub record HasAtMost (r : Reducts) (n : ℕ) : Type 0 where
  pub each : (j : ℕ) → j < r.tree.leaves → length (entries_at r.tables j) ≤ n
