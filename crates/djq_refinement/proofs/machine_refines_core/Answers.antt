-- Each step of the machine is a run of the core.
use Rattle.djq_refinement.proofs.Steps.{machine_refines_core}
use Rattle.djq_refinement.proofs.machine_refines_core.Goals as goal

pub returns : goal.returns
returns c = machine_refines_core
