-- What the calls of an update of one leaf count at most, and how that adds up. Each function gives the most
-- that a count x has become after the call, if no leaf has more than n tuples, the one that is inserted or
-- deleted counted in.
use Rattle.std.specs.Prelude.{◌≡◌, ℕ, ◌+◌, ◌*◌, ◌<◌, ◌≤◌, true, List}
use Rattle.djq_hypergraph.specs.Hypergraph.{member, degree}
use Rattle.djq_tree.specs.Tree.{Tree, leaf_labels}
use Rattle.djq_propagate.specs.Updates.{paths}

-- a tuple is inserted into a leaf, with what follows from it
abbrev pub after_insert : Tree → ℕ → ℕ → ℕ
after_insert t n x = x + 10 * (paths t * n)

-- one is inserted, there is no memory for what follows from it, and it is removed again
abbrev pub after_refusal : Tree → ℕ → ℕ → ℕ
after_refusal t n x = x + 18 * (paths t * n)

-- a tuple that is to be deleted is marked, and what depends on it
abbrev pub after_mark : Tree → ℕ → ℕ → ℕ
after_mark t n x = x + 6 * (paths t * n)

-- what depends on the marked tuples of a leaf is marked
abbrev pub after_mark_above : Tree → ℕ → ℕ → ℕ
after_mark_above t n x = x + paths t * (1 + 5 * n)

-- an insertion ends: its marks are cleared
abbrev pub after_keep : Tree → ℕ → ℕ → ℕ
after_keep t n x = x + paths t * (1 + n)

-- a removal ends, or an insertion is undone: the marked tuples are removed
abbrev pub after_drop : Tree → ℕ → ℕ → ℕ
after_drop t n x = x + 1 + 5 * (paths t * n) + paths t * (1 + n)

-- a tuple is inserted into a leaf without a mark
abbrev pub after_add : Tree → ℕ → ℕ → ℕ
after_add t n x = x + 4 * (paths t * n)

-- a tuple is deleted from a leaf, without a mark
abbrev pub after_take : Tree → ℕ → ℕ → ℕ
after_take t n x = x + 5 * (paths t * n)

-- the bound of an update of one of m leaves over v variables: 16 (m + v) n
abbrev pub leaf_update_bound : ℕ → ℕ → ℕ → ℕ
leaf_update_bound m v n = 16 * ((m + v) * n)

-- each variable of a leaf is in the list
abbrev pub HasVariables : Tree → List ℕ → Type 0
HasVariables t V = (x : ℕ) → 0 < degree x (leaf_labels t) → member x V ≡ true

-- the calls of an update count the bound at most, and twice the bound if it is undone
pub record AddUp (t : Tree) (v n : ℕ) : Type 0 where
  pub inserted : (x : ℕ) → after_keep t n (after_insert t n x) ≤ x + leaf_update_bound t.leaves v n
  pub removed : (x : ℕ) → after_drop t n (after_mark t n x) ≤ x + leaf_update_bound t.leaves v n
  pub undone : (x : ℕ) → after_drop t n (after_insert t n x) ≤ x + 2 * leaf_update_bound t.leaves v n
  pub refused : (x : ℕ) → after_refusal t n x ≤ x + 2 * leaf_update_bound t.leaves v n
  pub added : (x : ℕ) → after_add t n x ≤ x + leaf_update_bound t.leaves v n
  pub taken : (x : ℕ) → after_take t n x ≤ x + leaf_update_bound t.leaves v n
