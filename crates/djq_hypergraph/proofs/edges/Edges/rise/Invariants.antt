use Rattle.std.specs.Prelude.{ℕ, ◌<◌}
use Rattle.djq_hypergraph.specs.Hypergraph.{edge_at}
use Rattle.djq_hypergraph.specs.Variables.{IsVariableSet}
use Rattle.djq_hypergraph.proofs.edges.Edges.rise.Given as goal

abbrev pub invariant-loop-set : goal.invariant-loop-set
invariant-loop-set l = (p : ℕ) → p < l.set-index → IsVariableSet (edge_at l.self p)
