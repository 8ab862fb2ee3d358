use Rattle.std.specs.Prelude.{◌≡◌, ℕ, take}
use Rattle.djq_hypergraph.specs.Hypergraph.{degree}
use Rattle.djq_plan.proofs.find.find_variable.Given as goal

abbrev pub invariant-sets : goal.invariant-sets
invariant-sets l = (x : ℕ) → degree x (take l.i l.sets) ≡ 0
