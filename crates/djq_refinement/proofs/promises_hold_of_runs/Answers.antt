-- The core's promises, of runs of the machine.
use Rattle.djq_refinement.proofs.Promises.{reached, machine_finished_listed, machine_subscribers_have_answers}
use Rattle.djq_refinement.proofs.promises_hold_of_runs.Goals as goal

pub returns : goal.returns
returns c = record { reached = reached; finished = machine_finished_listed; subscribers = machine_subscribers_have_answers }
