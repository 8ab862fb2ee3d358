-- No variable stands in a head twice, so what its cells make as a tuple of the tree reads them again.
use Rattle.djq_live_query.proofs.TreeAnswers.{tree_stand}
use Rattle.djq_live_query.proofs.member.cells_in_tree_stand.Goals as goal

pub returns : goal.returns
returns c = tree_stand
