-- The runs that the program makes are runs of the core.
use Rattle.djq_program_refinement.proofs.CoreRuns.{run_makes_core_runs, serve_makes_core_runs}
use Rattle.djq_program_refinement.proofs.program_refines_core.Goals as goal

pub returns : goal.returns
returns c = record { run = run_makes_core_runs; serve = serve_makes_core_runs }
