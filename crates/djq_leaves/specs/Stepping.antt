-- How reducts change as a row's tuples are inserted or deleted, leaf after leaf, and what a log has
-- of it.
use Rattle.std.specs.Prelude.{
  ◌≡◌,
  ◌≢◌,
  ◌==◌,
  ◌+◌,
  ◌*◌,
  ℕ,
  ◌<◌,
  ◌≤◌,
  ◌⊎◌,
  Bool,
  true,
  false,
  List,
  ◌++◌,
  length,
  map,
  take,
  filter,
  Some,
  Contains,
  slice_get,
}
use Rattle.djq_store_spec.specs.Registering.{most_steps}
use Rattle.djq_index.specs.Entries.{Entry, count_of}
use Rattle.djq_tree.specs.Flat.{HasEqualMeets}
use Rattle.djq_tree.specs.Labels.{label_at}
use Rattle.djq_tree.specs.Tree.{Tree}
use Rattle.djq_reduct.specs.Tables.{entries_at}
use Rattle.djq_reduct.specs.Reducts.{Reducts, IsReducts}
use Rattle.djq_reduct.specs.Marks.{IsBare}
use Rattle.djq_propagate.specs.Updates.{HasAtMost, paths}
use Rattle.djq_enumeration.specs.Listing.{ListsTuples}
use Rattle.djq_enumeration.specs.declared.log.Line.{Line}
use Rattle.djq_enumeration.specs.Log.{Log}
use Rattle.djq_query.specs.declared.numbered.NumberedAtom.{NumberedAtom}
use Rattle.djq_query.specs.Pattern.{Shape, GivesRow}
use Rattle.djq_leaves.specs.Leaves.{GivesOne}
use Rattle.djq_leaves.specs.Changes.{KeepsTuples}

-- no entry's tuple gives one of these rows of cells, put into the atom
abbrev pub LacksAll : List (List ℕ) → Shape → List Entry → Type 0
LacksAll rows p es = (u : List ℕ) → GivesOne (Contains rows) p u → count_of es u ≡ 0

-- no entry's tuple gives these cells
abbrev pub LacksCells : List ℕ → Shape → List Entry → Type 0
LacksCells cells p es = (u : List ℕ) → GivesRow p u cells → count_of es u ≡ 0

-- each tuple that gives these cells is there
abbrev pub Has : List ℕ → Shape → List Entry → Type 0
Has cells p es = (u : List ℕ) → GivesRow p u cells → 0 < count_of es u

-- each tuple that gives one of these rows of cells, put into the atom, is there
abbrev pub HasAll : List (List ℕ) → Shape → List Entry → Type 0
HasAll rows p es = (u : List ℕ) → GivesOne (Contains rows) p u → 0 < count_of es u

-- One leaf changed so, each other one holds what it held, and no update is unfinished.
pub record ChangesAt {A : Type 0} (Changes : A → List Entry → List Entry → Type 0) (p : A) (j : ℕ)
    (r s : Reducts) : Type 0 where
  pub sound : IsReducts s
  pub tree : s.tree ≡ r.tree
  pub bare : IsBare s.tables
  pub leaf : Changes p (entries_at r.tables j) (entries_at s.tables j)
  pub others : (i : ℕ) → i < r.tree.leaves → i ≢ j
      → KeepsTuples (entries_at r.tables i) (entries_at s.tables i)

-- So did the leaves below k whose atoms are over the relation at a place, each by the item at its
-- place in a list, as its pattern; each other one holds what it held.
pub record ChangesBelow {A : Type 0} (Changes : A → List Entry → List Entry → Type 0) (at : ℕ)
    (atoms : List NumberedAtom) (ps : List A) (k : ℕ) (r s : Reducts) : Type 0 where
  pub sound : IsReducts s
  pub tree : s.tree ≡ r.tree
  pub bare : IsBare s.tables
  pub over : (j : ℕ) (m : NumberedAtom) (p : A) → j < k → slice_get atoms j ≡ Some m
      → slice_get ps j ≡ Some p → m.relation ≡ at
      → Changes p (entries_at r.tables j) (entries_at s.tables j)
  pub others : (j : ℕ) (m : NumberedAtom) → slice_get atoms j ≡ Some m
      → (j < k → m.relation ≢ at) → KeepsTuples (entries_at r.tables j) (entries_at s.tables j)

-- the leaves of the one have all tuples that those of the other have
pub record HasMore (small big : Reducts) : Type 0 where
  pub tree : big.tree ≡ small.tree
  pub more : (j : ℕ) (u : List ℕ) → j < small.tree.leaves → 0 < count_of (entries_at small.tables j) u
      → 0 < count_of (entries_at big.tables j) u

-- The reducts have a leaf for each atom, whose pattern has the leaf's width and a slot for each of
-- the cells of a row of the relation at a place.
pub record AreLeaves (at : ℕ) (cells : List ℕ) (atoms : List NumberedAtom) (ps : List Shape)
    (r : Reducts) : Type 0 where
  pub long : r.tree.leaves ≡ length atoms
  pub patterns : length ps ≡ length atoms
  pub wide : (j : ℕ) (p : Shape) → slice_get ps j ≡ Some p
      → p.width ≡ length (label_at r.tree.labels j)
  pub fits : (j : ℕ) (m : NumberedAtom) (p : Shape) → slice_get atoms j ≡ Some m
      → slice_get ps j ≡ Some p → m.relation ≡ at → length cells ≡ length p.slots

-- the leaves below k whose atoms are over the relation at a place hold such entries
pub record HoldBelow {A : Type 0} (Holds : A → List Entry → Type 0) (at : ℕ)
    (atoms : List NumberedAtom) (ps : List A) (k : ℕ) (r : Reducts) : Type 0 where
  pub each : (j : ℕ) (m : NumberedAtom) (p : A) → j < k → slice_get atoms j ≡ Some m
      → slice_get ps j ≡ Some p → m.relation ≡ at → Holds p (entries_at r.tables j)

-- how many of the first k atoms are over the relation at a place
abbrev pub atoms_below : ℕ → List NumberedAtom → ℕ → ℕ
atoms_below at atoms k = length (filter (λ a. a.relation == at) (take k atoms))

-- the lines of answers
abbrev pub answer_lines : Bool → List (List ℕ) → List Line
answer_lines came us = map (λ u. record { came = came; answer = u }) us

-- Unless it is lost, these answers are appended to the log.
pub record LogTellsOf (came : Bool) (us : List (List ℕ)) (old new : Log) : Type 0 where
  pub behind : new.lost ≡ false → new.lines ≡ old.lines ++ answer_lines came us
  pub stays : old.lost ≡ true → new.lost ≡ true

-- The log has all tuples that changed; listing them needed a call for each, and so many more, each
-- of which counts at most what it may in a head of h variables.
pub record ListsAll (came : Bool) (Changed : List ℕ → Type 0) (h calls : ℕ) (old new : Log)
    (before now : ℕ) : Type 0 where
  pub answers : List (List ℕ)
  pub listing : ListsTuples Changed answers
  pub tells : LogTellsOf came answers old new
  pub counted : now ≤ before + (length answers + calls) * most_steps h

-- So it is if the delta is wanted; else nothing is listed.
abbrev pub ListsWhere : Bool → Bool → (List ℕ → Type 0) → ℕ → ℕ → Log → Log → ℕ → ℕ → Type 0
ListsWhere true came Changed h calls old new before now =
    ListsAll came Changed h calls old new before now
ListsWhere false came Changed h calls old new before now = (new ≡ old) × (now ≡ before)

-- No leaf has more than n + 1 tuples, with the one counted in that is to be inserted into the leaf j.
pub record LeavesHaveRoom (r : Reducts) (j n : ℕ) : Type 0 where
  pub leaf : length (entries_at r.tables j) ≤ n
  pub all : HasAtMost r (n + 1)

-- The leaf j has one tuple more at most, and each other one no more than it had.
pub record GrowsAt (j : ℕ) (r s : Reducts) : Type 0 where
  pub leaf : length (entries_at s.tables j) ≤ length (entries_at r.tables j) + 1
  pub others : (i : ℕ) → i < r.tree.leaves → i ≢ j
      → length (entries_at s.tables i) ≤ length (entries_at r.tables i)

-- no leaf has more than one tuple more
pub record GrowsByOne (r s : Reducts) : Type 0 where
  pub each : (j : ℕ) → j < r.tree.leaves
      → length (entries_at s.tables j) ≤ length (entries_at r.tables j) + 1

-- b bounds what an update of one leaf counts, if no leaf has more than n tuples before it; over
-- equal meets it is the same whatever n is.
abbrev pub BoundsLeaf : Tree → ℕ → ℕ → Type 0
BoundsLeaf t n b = (16 * (paths t * (n + 1)) ≤ b) ⊎ (HasEqualMeets t × (16 * paths t ≤ b))

-- A tuple that was inserted into the leaf j counts so many times such a bound at most.
abbrev pub CountsLeaf : Reducts → ℕ → ℕ → ℕ → ℕ → Type 0
CountsLeaf r j times before now = (n b : ℕ) → LeavesHaveRoom r j n → BoundsLeaf r.tree n b
    → now ≤ before + times * b

-- Updates count so many times such a bound at most, if no leaf has more than n tuples before all
-- of them.
abbrev pub CountsLeaves : Reducts → ℕ → ℕ → ℕ → Type 0
CountsLeaves r times before now = (n b : ℕ) → HasAtMost r n → BoundsLeaf r.tree n b
    → now ≤ before + times * b
