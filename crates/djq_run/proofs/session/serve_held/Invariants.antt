use Rattle.std.proofs.Common.{◌≡◌, false, Some}
use Rattle.djq_protocol.specs.declared.answer.EndCause.TheVariants.{Input}
use Rattle.djq_machine.specs.Call.{IsOpen, counts, cause_of}
use Rattle.djq_run_laws.specs.Course.{Outside}
use Rattle.djq_run.specs.Parts.{GoesTo, with_sink, IsAlone}
use Rattle.djq_run.proofs.Runs.{work}
use Rattle.djq_run.proofs.session.serve_held.Given as goal

-- The run went on from the entry, no line ended the input, and no write failed.
abbrev pub invariant-lines : goal.invariant-lines
invariant-lines g l =
    let state = g.M.Machine.state in
    let told = g.K.Sink.told in
    let faults = g.K.Sink.faults in
    record {
      is_open : IsOpen (state l.machine) 1;
      alone : IsAlone (state l.machine);
      course : (o : Outside) → GoesTo false (state l.fn.machine)
          (with_sink o (told l.fn.sink) (faults l.fn.sink)
          (counts l.fn.steps.listing l.fn.steps.update l.fn.steps.rows))
          (with_sink o (told l.sink) (faults l.sink) (counts l.steps.listing l.steps.update l.steps.rows))
          (state l.machine);
      input : cause_of (state l.machine) 1 ≡ Some Input → cause_of (state l.fn.machine) 1 ≡ Some Input;
      same : faults l.sink ≡ faults l.fn.sink;
    }

abbrev pub decreases-lines : goal.decreases-lines
decreases-lines g l = work (g.M.Machine.state l.machine)
