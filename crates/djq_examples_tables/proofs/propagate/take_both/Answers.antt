-- No tuple was marked, so marks come to the leaf alone, and then to its path.
use Rattle.djq_propagate.proofs.Removals.{bare_only}
use Rattle.djq_examples_tables.proofs.propagate.take_both.Goals as goal

pub mark-one-requires-clause-only : goal.mark-one-requires-clause-only
mark-one-requires-clause-only g c = bare_only c.args.reducts.now.tables c.args.leaf c.requires
