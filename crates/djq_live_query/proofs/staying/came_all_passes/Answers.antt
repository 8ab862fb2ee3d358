-- No atom is over the relation into which the rows came, so what each leaf should hold is what it held.
use Rattle.djq_live_query.proofs.ShownAnswers.{came_all_lives}
use Rattle.djq_live_query.proofs.staying.came_all_passes.Goals as goal

pub returns : goal.returns
returns c = came_all_lives
