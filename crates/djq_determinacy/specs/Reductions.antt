-- In which order a reduction takes its steps doesn't matter.
use Rattle.std.specs.Prelude.{ℕ, List, ◌≡◌, ◌<◌, length}
use Rattle.djq_hypergraph.specs.Hypergraph.{member, edge_at}
use Rattle.djq_hypergraph.specs.Gyo.{IsRest}

-- **One rest.** Each edge of a rest has the variables of an edge of any other rest of the same edges.
abbrev pub RestsAgree : Type 0
RestsAgree = (E A B : List (List ℕ)) → IsRest E A → IsRest E B → (p : ℕ) → p < length A
    → (q : ℕ) × (q < length B) × ((x : ℕ) → member x (edge_at A p) ≡ member x (edge_at B q))
