-- Sets of variables as lists.
use Rattle.std.specs.Prelude.{◌≡◌, ℕ, ◌<◌, true, List, length, All}
use Rattle.std.specs.List.Sorted.{IsStrictlyIncreasing}
use Rattle.djq_hypergraph.specs.declared.var_set.TheConstants.{VARIABLES}
use Rattle.djq_hypergraph.specs.Hypergraph.{member, degree, edge_at}

-- the list of a set: its variables in rising order, each a number below VARIABLES
pub record IsVariableSet (e : List ℕ) : Type 0 where
  pub rising : IsStrictlyIncreasing e
  pub below : All (λ x. x < VARIABLES) e

-- each edge is such a list
abbrev pub AreVariableSets : List (List ℕ) → Type 0
AreVariableSets E = (p : ℕ) → IsVariableSet (edge_at E p)

-- each variable of the set lies in an edge
abbrev pub AreCovered : List ℕ → List (List ℕ) → Type 0
AreCovered F E = (x : ℕ) → member x F ≡ true → 0 < degree x E

-- each variable of an edge has a name
abbrev pub AreNamed : List (List ℕ) → List (List ℕ) → Type 0
AreNamed names E = (p x : ℕ) → member x (edge_at E p) ≡ true → x < length names
