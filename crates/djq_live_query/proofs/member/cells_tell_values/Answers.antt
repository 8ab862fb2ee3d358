-- Within one catalog a cell of a type stands for one value, and each value has one cell, place by place.
use Rattle.djq_live_query.proofs.HeadAnswers.{cells_tell}
use Rattle.djq_live_query.proofs.member.cells_tell_values.Goals as goal

pub returns : goal.returns
returns c = cells_tell
