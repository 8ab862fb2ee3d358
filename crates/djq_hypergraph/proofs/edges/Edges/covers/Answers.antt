-- A variable lies in an edge exactly where it is one of the variables of all edges.
use Rattle.djq_hypergraph.proofs.Labels.{covered}
use Rattle.djq_hypergraph.proofs.edges.Edges.covers.Goals as goal

pub returns : goal.returns
returns c = covered c.args.self.now c.args.set c.variables.result c.is_subset.result c.variables.ensures
    c.is_subset.ensures
