-- Known texts keep their numbers, so a cell stands for the same value over any later catalog.
use Rattle.djq_live_query.proofs.ShownAnswers.{stays_showable}
use Rattle.djq_live_query.proofs.laws.showable_stays.Goals as goal

pub returns : goal.returns
returns c = stays_showable
