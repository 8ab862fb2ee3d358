use Rattle.std.specs.Prelude.{length}
use Rattle.djq_hypergraph.proofs.Labels.{Naming}
use Rattle.djq_hypergraph.proofs.edges.Edges.is_named.Given as goal

abbrev pub invariant-loop-variable : goal.invariant-loop-variable
invariant-loop-variable l = Naming l.names l.self l.rest

abbrev pub decreases-loop-variable : goal.decreases-loop-variable
decreases-loop-variable l = length l.rest
