-- No atom is over the relation out of which the row went, so what each leaf should hold is what it held.
use Rattle.djq_live_query.proofs.ShownAnswers.{went_lives}
use Rattle.djq_live_query.proofs.staying.went_passes.Goals as goal

pub returns : goal.returns
returns c = went_lives
