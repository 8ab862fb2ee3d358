use Rattle.std.proofs.Common.{◌≡◌, take, map}
use Rattle.djq_protocol.specs.Hypergraph.{label_name}
use Rattle.djq_query.specs.Numbered.{labels}
use Rattle.djq_binder.proofs.names.variable_names.Given as goal

abbrev pub invariant-variables : goal.invariant-variables
invariant-variables l = l.names ≡ map label_name (labels (take l.i l.variables))
