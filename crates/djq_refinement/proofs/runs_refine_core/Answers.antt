-- Each run of the machine is one of the core.
use Rattle.djq_refinement.proofs.Runs.{runs_refine_core, courses_refine_core}
use Rattle.djq_refinement.proofs.runs_refine_core.Goals as goal

pub returns : goal.returns
returns c = record { runs = runs_refine_core; courses = courses_refine_core }
