-- No atom is over the row's relation, so what each leaf should hold is what it held: it is one of many rows.
use Rattle.djq_live_query.proofs.ShownAnswers.{came_lives}
use Rattle.djq_live_query.proofs.staying.other_queries_stay.Goals as goal

pub returns : goal.returns
returns c = came_lives
