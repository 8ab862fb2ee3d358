-- Flat queries, called q-hierarchical by Berkholz, Keppeler and Schweikardt (2017).
use Rattle.std.specs.Prelude.{◌≡◌, ℕ, Bool, true, false, not, ◌&&◌, ◌||◌, List}
use Rattle.std.specs.List.{list_all}
use Rattle.djq_hypergraph.specs.Hypergraph.{member}

-- whether each edge with the variable x has y too
abbrev pub edges_are_within : List (List ℕ) → ℕ → ℕ → Bool
edges_are_within H x y = list_all (λ e. not (member x e) || member y e) H

-- whether no edge has both x and y
abbrev pub is_apart : List (List ℕ) → ℕ → ℕ → Bool
is_apart H x y = list_all (λ e. not (member x e && member y e)) H

-- the variable x and any other are as in a flat query with the edges H and the head F
pub record IsFlatAt (H : List (List ℕ)) (F : List ℕ) (x : ℕ) : Type 0 where
  -- all edges of one have the other, or no edge has both
  pub nested : (y : ℕ) → (edges_are_within H x y || edges_are_within H y x || is_apart H x y) ≡ true
  -- if x is in the head, and y has all edges of x and further ones, y is in the head
  pub headed : (y : ℕ) → member x F ≡ true → edges_are_within H x y ≡ true → edges_are_within H y x ≡ false
      → member y F ≡ true

-- the query with the edges H and the head F is flat
abbrev pub IsFlat : List (List ℕ) → List ℕ → Type 0
IsFlat H F = (x : ℕ) → IsFlatAt H F x
