-- A course is a run from a state without sessions; what was sent, taken and given are laws of that run.
use Rattle.djq_run_laws.proofs.Courses.{headline}
use Rattle.djq_run_laws.proofs.courses_give.Goals as goal

pub returns : goal.returns
returns c = headline
