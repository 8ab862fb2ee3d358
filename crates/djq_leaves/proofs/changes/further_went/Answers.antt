-- Texts stay, so cells stand for the rows that they stood for, and rows are left out one after another, in LeafRows.
use Rattle.djq_leaves.proofs.LeafRows.{further_went}
use Rattle.djq_leaves.proofs.changes.further_went.Goals as goal

pub returns : goal.returns
returns c = further_went
