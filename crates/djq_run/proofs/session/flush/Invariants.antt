use Rattle.std.proofs.Common.{◌≡◌, false, length}
use Rattle.djq_machine.specs.Run.{pending_of}
use Rattle.djq_machine.specs.Call.{IsOpen, cause_of, held_of}
use Rattle.djq_run_laws.specs.Course.{Outside}
use Rattle.djq_run.specs.Parts.{GoesTo, with_sink}
use Rattle.djq_run.proofs.session.flush.Given as goal

-- Some of what was pending was written, and no write failed.
abbrev pub invariant-writes : goal.invariant-writes
invariant-writes g l =
    let state = g.M.Machine.state in
    let told = g.K.Sink.told in
    let faults = g.K.Sink.faults in
    record {
      is_open : IsOpen (state l.machine) 1;
      course : (o : Outside) → GoesTo false (state l.fn.machine)
          (with_sink o (told l.fn.sink) (faults l.fn.sink) o.counted)
          (with_sink o (told l.sink) (faults l.sink) o.counted) (state l.machine);
      held : held_of (state l.machine) 1 ≡ held_of (state l.fn.machine) 1;
      cause : cause_of (state l.machine) 1 ≡ cause_of (state l.fn.machine) 1;
      same : faults l.sink ≡ faults l.fn.sink;
    }

abbrev pub decreases-writes : goal.decreases-writes
decreases-writes g l = length (pending_of (g.M.Machine.state l.machine) 1)
