use Rattle.std.specs.Prelude.{◌≡◌, ℕ, ◌<◌, true}
use Rattle.djq_hypergraph.specs.Hypergraph.{member, degree, edge_at}
use Rattle.djq_plan.proofs.find.find_vertex.Given as goal

abbrev pub invariant-sets : goal.invariant-sets
invariant-sets l = (i x : ℕ) → i < l.edge → member x (edge_at l.sets i) ≡ true → degree x l.sets ≡ 1 → ⊥
