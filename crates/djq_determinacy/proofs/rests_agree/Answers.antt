use Rattle.djq_determinacy.proofs.RestsSame.{rests_agree}
use Rattle.djq_determinacy.proofs.rests_agree.Goals as goal

pub returns : goal.returns
returns c = rests_agree
