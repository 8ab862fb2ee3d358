use Rattle.std.specs.Prelude.{take}
use Rattle.djq_hypergraph.proofs.Labels.{Compares}
use Rattle.djq_hypergraph.proofs.flat.is_flat_at.Given as goal

abbrev pub invariant-edges : goal.invariant-edges
invariant-edges l = Compares (take l.i l.edges) l.fn.all l.variable l.shared l.near l.far
