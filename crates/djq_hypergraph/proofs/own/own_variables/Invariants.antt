use Rattle.std.specs.Prelude.{◌≡◌, ℕ, nat_lt, take}
use Rattle.djq_hypergraph.specs.Hypergraph.{member, degree}
use Rattle.djq_hypergraph.proofs.own.own_variables.Given as goal

abbrev pub invariant-sets : goal.invariant-sets
invariant-sets l = record {
  once : (x : ℕ) → member x l.once ≡ nat_lt 0 (degree x (take l.i l.sets));
  twice : (x : ℕ) → member x l.twice ≡ nat_lt 1 (degree x (take l.i l.sets));
}
