use Rattle.std.specs.Prelude.{ℕ, ◌<◌}
use Rattle.djq_hypergraph.specs.declared.step.Step.TheVariants.{Edge}
use Rattle.djq_hypergraph.specs.Gyo.{IsStep}
use Rattle.djq_plan.proofs.find.find_edge.Given as goal

abbrev pub invariant-sets : goal.invariant-sets
invariant-sets l = (i j : ℕ) → i < l.edge → IsStep l.sets (Edge i j) → ⊥
