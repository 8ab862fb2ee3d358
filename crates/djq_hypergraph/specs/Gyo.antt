-- The reduction of Graham (1979) and of Yu and Ozsoyoglu (1979).
use Rattle.std.specs.Prelude.{◌≡◌, ◌≢◌, ℕ, ◌<◌, true, List, [], ◌∷◌, length, slice_set, remove}
use Rattle.djq_hypergraph.specs.declared.step.Step.{Step}
use Rattle.djq_hypergraph.specs.declared.step.Step.TheVariants.{Vertex, Edge}
use Rattle.djq_hypergraph.specs.Hypergraph.{member, subset, difference, degree, edge_at}

-- the step applies: its variable lies in its edge and in no other, or its edge lies within another one
abbrev pub IsStep : List (List ℕ) → Step → Type 0
IsStep E (Vertex i x) = (i < length E) × (member x (edge_at E i) ≡ true) × (degree x E ≡ 1)
IsStep E (Edge i j) = (i < length E) × (j < length E) × (i ≢ j) × (subset (edge_at E i) (edge_at E j) ≡ true)

-- the edges after the step
abbrev pub reduced : List (List ℕ) → Step → List (List ℕ)
reduced E (Vertex i x) = slice_set E i (difference (edge_at E i) (x ∷ []))
reduced E (Edge i j) = remove E i

-- the steps lead from the edges E to the edges R
abbrev pub Leads : List (List ℕ) → List Step → List (List ℕ) → Type 0
Leads E [] R = E ≡ R
Leads E (s ∷ S) R = IsStep E s × Leads (reduced E s) S R

-- no step applies
abbrev pub IsIrreducible : List (List ℕ) → Type 0
IsIrreducible E = (s : Step) → IsStep E s → ⊥

-- no edge has a variable
abbrev pub HasNoVariables : List (List ℕ) → Type 0
HasNoVariables E = (x : ℕ) → degree x E ≡ 0

-- R has no empty edge, no two equal ones, and no variable that lies in no edge of E
pub record IsLean (E R : List (List ℕ)) : Type 0 where
  pub no_empty : (i : ℕ) → i < length R → edge_at R i ≢ []
  pub no_equal : (i j : ℕ) → i < length R → j < length R → edge_at R i ≡ edge_at R j → i ≡ j
  pub no_new : (x : ℕ) → 0 < degree x R → 0 < degree x E

-- R is a rest of E: steps lead from E to R, no step applies to R, and R has a variable
pub record IsRest (E R : List (List ℕ)) : Type 0 where
  pub steps : List Step
  pub leads : Leads E steps R
  pub irreducible : IsIrreducible R
  pub variable : ℕ
  pub lies : 0 < degree variable R
