-- Tables that hold no tuple have no marked one.
use Rattle.djq_propagate.proofs.Updates.{bare_empty}
use Rattle.djq_examples_tables.proofs.propagate.planned.Goals as goal

pub returns : goal.returns
returns c = bare_empty c.in_ok-reducts.reducts.tables c.in_ok-reducts.ensures.empty
