-- By the conditions under which a row is refused.
use Rattle.djq_transaction.proofs.SuitingLines.{lines_suit}
use Rattle.djq_transaction.proofs.laws.lines_suit.Goals as goal

pub returns : goal.returns
returns c = lines_suit
