-- What the program passes through are runs from a state to start from.
use Rattle.djq_machine.specs.State.{opening}
use Rattle.djq_run_laws.proofs.Events.{next_runs}
use Rattle.djq_run_laws.proofs.SoundStates.{opening_is_start, start_sound}
use Rattle.djq_program_laws.proofs.ProgramRuns.{starts}
use Rattle.djq_refinement.proofs.Runs.{runs_refine_core}
use Rattle.djq_program_refinement.specs.ProgramRuns.{RunMakesCoreRuns, ServeMakesCoreRuns}

pub run_makes_core_runs : RunMakesCoreRuns
run_makes_core_runs status before now serves mid passed =
    let walk = next_runs opening passed.0 mid passed.3 in
    record {
      walk = walk;
      refines = runs_refine_core opening (start_sound opening opening_is_start) passed.0 mid walk;
    }

pub serve_makes_core_runs : ServeMakesCoreRuns
serve_makes_core_runs log status addr turns hub counted hub' counted' serves earlier mid later passed =
    let start = starts log serves.found serves.first counted serves.start serves.loaded serves.begins in
    record {
      walk = passed.1;
      refines = runs_refine_core serves.start (start_sound serves.start start) earlier mid passed.1;
    }
