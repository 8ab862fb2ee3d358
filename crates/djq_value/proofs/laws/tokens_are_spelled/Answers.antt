-- That bytes have exactly the tokens that they spell is a law of its own, in Spellings.
use Rattle.djq_value.proofs.Tokens.{tokens_are_spelled}
use Rattle.djq_value.proofs.laws.tokens_are_spelled.Goals as goal

pub returns : goal.returns
returns c = tokens_are_spelled
