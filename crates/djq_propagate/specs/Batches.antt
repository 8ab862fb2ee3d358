-- Many tuples are inserted into a leaf at once, or deleted from it.
use Rattle.std.specs.Prelude.{◌≡◌, ◌≢◌, ℕ, ◌+◌, ◌<◌, ◌≤◌, List, [], ◌∷◌, length}
use Rattle.djq_index.specs.Tuple.{same, one_if}
use Rattle.djq_index.specs.Entries.{Entry, count_of, marks}
use Rattle.djq_index.specs.Table.{Table}
use Rattle.djq_tree.specs.Tree.{Tree}
use Rattle.djq_reduct.specs.Tables.{entries_at}
use Rattle.djq_reduct.specs.Reducts.{Reducts, IsReducts}
use Rattle.djq_reduct.specs.Marks.{IsBare, AreMarks, IsWithout}

-- how often the tuple v occurs in a list
unfoldable pub times : List (List ℕ) → List ℕ → ℕ
times [] v = 0
times (u ∷ us) v = one_if (same u v) + times us v

-- tuples of one width that differ, and of which none is among the entries
pub record AreNew (width : ℕ) (es : List Entry) (us : List (List ℕ)) : Type 0 where
  pub wide : (v : List ℕ) → 0 < times us v → length v ≡ width
  pub differ : (v : List ℕ) → times us v ≤ 1
  pub absent : (v : List ℕ) → 0 < times us v → count_of es v ≡ 0

-- tuples that differ, and of which each is among the entries of a table
pub record AreThere (es : List Entry) (us : List (List ℕ)) : Type 0 where
  pub each : (v : List ℕ) → times us v ≤ count_of es v

-- the tuples us were inserted into the leaf a, and each other leaf holds what it held
pub record HaveCome (t : Tree) (old new : List Table) (a : ℕ) (us : List (List ℕ)) : Type 0 where
  pub sound : IsReducts (record { tree = t; tables = new })
  pub leaf : (v : List ℕ) → count_of (entries_at new a) v ≡ count_of (entries_at old a) v + times us v
  pub others : (j : ℕ) (v : List ℕ) → j < t.leaves → j ≢ a → count_of (entries_at new j) v ≡ count_of
      (entries_at old j) v

-- the tuples us were deleted from the leaf a, and each other leaf holds what it held
pub record HaveGone (t : Tree) (old new : List Table) (a : ℕ) (us : List (List ℕ)) : Type 0 where
  pub sound : IsReducts (record { tree = t; tables = new })
  pub leaf : (v : List ℕ) → count_of (entries_at old a) v ≡ count_of (entries_at new a) v + times us v
  pub others : (j : ℕ) (v : List ℕ) → j < t.leaves → j ≢ a → count_of (entries_at new j) v ≡ count_of
      (entries_at old j) v

-- the tuples us were inserted into the leaf a, and are the marked ones there: an update that is unfinished
pub record HasInsertedAll (old new : Reducts) (a : ℕ) (us : List (List ℕ)) : Type 0 where
  pub sound : IsReducts new
  pub without : IsWithout new old a
  pub marked : (v : List ℕ) → count_of (marks (entries_at new.tables a)) v ≡ times us v
  pub are_marks : AreMarks new.tree new.tables a

-- the tuples us were inserted into the leaf a, each other leaf holds what it held, and no tuple is marked
pub record HasGainedAll (old new : Reducts) (a : ℕ) (us : List (List ℕ)) : Type 0 where
  pub sound : IsReducts new
  pub tree : new.tree ≡ old.tree
  pub leaf : (v : List ℕ) → count_of (entries_at new.tables a) v ≡ count_of (entries_at old.tables a) v + times us v
  pub others : (j : ℕ) (v : List ℕ) → j < old.tree.leaves → j ≢ a → count_of (entries_at new.tables j) v
      ≡ count_of (entries_at old.tables j) v
  pub bare : IsBare new.tables

-- the tuples us were deleted from the leaf a, each other leaf holds what it held, and no tuple is marked
pub record HasLostAll (old new : Reducts) (a : ℕ) (us : List (List ℕ)) : Type 0 where
  pub sound : IsReducts new
  pub tree : new.tree ≡ old.tree
  pub leaf : (v : List ℕ) → count_of (entries_at old.tables a) v ≡ count_of (entries_at new.tables a) v + times us v
  pub others : (j : ℕ) (v : List ℕ) → j < old.tree.leaves → j ≢ a → count_of (entries_at new.tables j) v
      ≡ count_of (entries_at old.tables j) v
  pub bare : IsBare new.tables
