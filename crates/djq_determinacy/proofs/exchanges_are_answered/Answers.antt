use Rattle.djq_determinacy.proofs.Dialogues.{all_answered}
use Rattle.djq_determinacy.proofs.exchanges_are_answered.Goals as goal

pub returns : goal.returns
returns c = all_answered
