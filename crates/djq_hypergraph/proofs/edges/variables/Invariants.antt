use Rattle.std.specs.Prelude.{◌≡◌, ℕ, nat_lt, take}
use Rattle.djq_hypergraph.specs.Hypergraph.{member, degree}
use Rattle.djq_hypergraph.proofs.edges.variables.Given as goal

abbrev pub invariant-sets : goal.invariant-sets
invariant-sets l = (x : ℕ) → member x l.all ≡ nat_lt 0 (degree x (take l.i l.sets))
