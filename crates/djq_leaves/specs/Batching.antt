-- Updates of reducts by many rows of a relation at once, leaf after leaf.
use Rattle.std.specs.Prelude.{
  ◌≡◌,
  ◌↔◌,
  ◌⊎◌,
  ◌+◌,
  ◌*◌,
  ℕ,
  ◌<◌,
  ◌≤◌,
  List,
  length,
  Contains,
  slice_get,
  Option,
  Some,
  None,
  map,
}
use Rattle.djq_index.specs.Entries.{Entry, count_of, marks}
use Rattle.djq_tree.specs.Flat.{HasEqualMeets}
use Rattle.djq_tree.specs.Tree.{Tree}
use Rattle.djq_tree.specs.Labels.{label_at}
use Rattle.djq_reduct.specs.Tables.{entries_at}
use Rattle.djq_reduct.specs.Reducts.{Reducts, IsReducts, SameTables}
use Rattle.djq_propagate.specs.Touches.{HaveMarksOnlyAt}
use Rattle.djq_propagate.specs.Batches.{times, AreNew}
use Rattle.djq_propagate.specs.Updates.{HasAtMost, paths}
use Rattle.djq_query.specs.declared.numbered.NumberedAtom.{NumberedAtom}
use Rattle.djq_query.specs.Pattern.{Shape}
use Rattle.djq_leaves.specs.Leaves.{GivesOne}
use Rattle.djq_index.specs.declared.table.TheConstants.{TUPLES}

-- no row occurs twice
pub record AreDistinct (rows : List (List ℕ)) : Type 0 where
  pub each : (row : List ℕ) → times rows row ≤ 1

-- The tuples that put into an atom give one of these rows of cells, each once.
pub record AreTuplesOf (rows : List (List ℕ)) (p : Shape) (us : List (List ℕ)) : Type 0 where
  pub exact : (u : List ℕ) → (0 < times us u) ↔ GivesOne (Contains rows) p u
  pub differ : (u : List ℕ) → times us u ≤ 1
  pub few : length us ≤ length rows

-- The tuples that were made of rows; or the rows, if none were, since each is its own.
abbrev pub row_tuples : List (List ℕ) → Option (List (List ℕ)) → List (List ℕ)
row_tuples rows (Some us) = us
row_tuples rows None = rows

-- the tuples of rows for each atom
abbrev pub batch_tuples : List (List ℕ) → List (Option (List (List ℕ))) → List (List (List ℕ))
batch_tuples rows made = map (row_tuples rows) made

-- A row has a cell for each slot.
abbrev pub RowsFit : List (List ℕ) → Shape → Type 0
RowsFit rows p = (row : List ℕ) → Contains rows row → length row ≡ length p.slots

-- A batch has so many tuples at most for each atom.
pub record HasFew (n : ℕ) (batch : List (List (List ℕ))) : Type 0 where
  pub each : (j : ℕ) (us : List (List ℕ)) → slice_get batch j ≡ Some us → length us ≤ n

-- The batch has the tuples of these rows for each atom over the relation at a place.
pub record AreTuples (at : ℕ) (rows : List (List ℕ)) (atoms : List NumberedAtom)
    (ps : List Shape) (batch : List (List (List ℕ))) : Type 0 where
  pub long : length batch ≡ length atoms
  pub few : HasFew (length rows) batch
  pub each : (j : ℕ) (m : NumberedAtom) (p : Shape) (us : List (List ℕ))
      → slice_get atoms j ≡ Some m → slice_get ps j ≡ Some p → slice_get batch j ≡ Some us
      → m.relation ≡ at → AreTuplesOf rows p us

-- The leaves over the relation at a place can have the tuples of the batch inserted.
pub record CanTake (at : ℕ) (atoms : List NumberedAtom) (batch : List (List (List ℕ)))
    (r : Reducts) : Type 0 where
  pub leaves : r.tree.leaves ≡ length atoms
  pub long : length batch ≡ length atoms
  pub fresh : (j : ℕ) (m : NumberedAtom) (us : List (List ℕ)) → slice_get atoms j ≡ Some m
      → slice_get batch j ≡ Some us → m.relation ≡ at
      → AreNew (length (label_at r.tree.labels j)) (entries_at r.tables j) us
  pub room : (j : ℕ) (m : NumberedAtom) (us : List (List ℕ)) → slice_get atoms j ≡ Some m
      → slice_get batch j ≡ Some us → m.relation ≡ at
      → length (entries_at r.tables j) + length us ≤ TUPLES

-- the entries gained these tuples
abbrev pub GainsTuples : List (List ℕ) → List Entry → List Entry → Type 0
GainsTuples us old new = (u : List ℕ) → count_of new u ≡ count_of old u + times us u

-- the entries lost these tuples
abbrev pub LosesTuples : List (List ℕ) → List Entry → List Entry → Type 0
LosesTuples us old new = (u : List ℕ) → count_of old u ≡ count_of new u + times us u

-- The tuples of rows are the marked ones of the leaf j, which no other table has, and all tables hold what they
-- held: rows that are about to be deleted.
pub record HasMarkedRows (rows : List (List ℕ)) (p : Shape) (j : ℕ) (r s : Reducts) : Type 0 where
  pub sound : IsReducts s
  pub tree : s.tree ≡ r.tree
  pub tables : SameTables r s
  pub marked : (u : List ℕ) → (0 < count_of (marks (entries_at s.tables j)) u) ↔ GivesOne (Contains rows) p u
  pub few : length (marks (entries_at s.tables j)) ≤ length rows
  pub only : HaveMarksOnlyAt s.tables j

-- no leaf has more than so many tuples more
pub record GrowsBy (more : ℕ) (r s : Reducts) : Type 0 where
  pub each : (j : ℕ) → j < r.tree.leaves
      → length (entries_at s.tables j) ≤ length (entries_at r.tables j) + more

-- Tuples that were inserted into the leaf j count so many times a bound at most, if no leaf has more than n
-- tuples with these counted in.
abbrev pub CountsTuples : Reducts → ℕ → ℕ → ℕ → ℕ → ℕ → Type 0
CountsTuples r j more times before now = (n b : ℕ) → 0 < n → HasAtMost r n
    → length (entries_at r.tables j) + more ≤ n → 16 * (paths r.tree * n) ≤ b
    → now ≤ before + times * b

-- Updates count so many times a bound at most, if no leaf has more than n tuples before all of them, and so many
-- more are inserted into a leaf.
abbrev pub CountsMany : ℕ → Reducts → ℕ → ℕ → ℕ → Type 0
CountsMany more r times before now = (n b : ℕ) → HasAtMost r n
    → 16 * (paths r.tree * (n + more + 1)) ≤ b → now ≤ before + times * b

-- Over equal meets so many tuples that were inserted into a leaf count such a bound at most, whatever the number
-- of tuples there.
abbrev pub CountsFlatTuples : Reducts → ℕ → ℕ → ℕ → Type 0
CountsFlatTuples r more before now = (k b : ℕ) → more ≤ k → HasEqualMeets r.tree → 16 * (k * paths r.tree) ≤ b
    → now ≤ before + b

-- Over equal meets updates count so many times such a bound at most, if so many tuples are inserted into a leaf.
abbrev pub CountsFlatMany : ℕ → Reducts → ℕ → ℕ → ℕ → Type 0
CountsFlatMany more r times before now = (b : ℕ) → HasEqualMeets r.tree → 16 * (more * paths r.tree) ≤ b
    → now ≤ before + times * b

-- b bounds what so many rows that are deleted from one leaf count, if no leaf has more than n tuples before; over
-- equal meets it is the same whatever n is.
abbrev pub BoundsRows : ℕ → Tree → ℕ → ℕ → Type 0
BoundsRows k t n b = (16 * (paths t * (n + 1)) ≤ b) ⊎ (HasEqualMeets t × (16 * (k * paths t) ≤ b))

-- So many rows that are deleted count so many times such a bound at most.
abbrev pub CountsGone : ℕ → Reducts → ℕ → ℕ → ℕ → Type 0
CountsGone k r times before now = (n b : ℕ) → HasAtMost r n → BoundsRows k r.tree n b
    → now ≤ before + times * b

-- Tuples that are deleted count so many times a bound at most, if no leaf has more than n before.
abbrev pub CountsGiven : Reducts → ℕ → ℕ → ℕ → Type 0
CountsGiven r times before now = (n b : ℕ) → HasAtMost r n → 16 * (paths r.tree * n) ≤ b
    → now ≤ before + times * b
