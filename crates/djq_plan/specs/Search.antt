-- What the search for a step looks for.
use Rattle.std.specs.Prelude.{◌≡◌, ℕ, ◌<◌, true, List, length}
use Rattle.djq_hypergraph.specs.Hypergraph.{member, degree, edge_at}

-- no edge has a variable that lies in no other
abbrev pub HasNoOwn : List (List ℕ) → Type 0
HasNoOwn E = (i x : ℕ) → i < length E → member x (edge_at E i) ≡ true → degree x E ≡ 1 → ⊥
