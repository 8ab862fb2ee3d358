-- Before any call nothing was told and no choice was made, whatever the reducts and the leaf are.
use Rattle.djq_enumeration.proofs.Deltas.{start_fits, start_told}
use Rattle.djq_enumeration.proofs.delta.DeltaCursor.start.Goals as goal

pub returns-clause-fits : goal.returns-clause-fits
returns-clause-fits c = λ r. start_fits r c.args.leaf c.new.result c.new-2.result c.new.ensures

pub returns-clause-none : goal.returns-clause-none
returns-clause-none c = λ r. start_told r c.args.leaf c.new.result c.new-2.result
