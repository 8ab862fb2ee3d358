-- By the law that a tree is small a path has no more nodes than there are leaves and variables.
use Rattle.djq_propagate.proofs.Costs.{adds_up}
use Rattle.djq_propagate.proofs.update.counts_add_up.Goals as goal

pub returns : goal.returns
returns c = λ variables n all some. adds_up c.args.tree.now c.is_small.ensures variables n all some
