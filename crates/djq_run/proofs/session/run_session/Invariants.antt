use Rattle.std.proofs.Common.{◌≡◌, ◌≤◌, false, length}
use Rattle.djq_machine.specs.Run.{all_fed}
use Rattle.djq_machine.specs.Call.{counts}
use Rattle.djq_run_laws.specs.Course.{outside, Course}
use Rattle.djq_run.specs.Ends.{Awaits}
use Rattle.djq_run.specs.Parts.{IsAlone}
use Rattle.djq_run.proofs.session.run_session.Given as goal

-- The run went on from the entry to a state that awaits input, each read gave a byte at least, and no fault was met.
abbrev pub invariant-loop : goal.invariant-loop
invariant-loop g l =
    let state = g.M.Machine.state in
    let told = g.S.Source.told in
    let reads = g.S.Source.faults in
    let wrote = g.K.Sink.told in
    let writes = g.K.Sink.faults in
    let entry = outside (told l.fn.source) (reads l.fn.source) (wrote l.fn.sink) (writes l.fn.sink)
    (counts l.fn.steps.listing l.fn.steps.update l.fn.steps.rows) in
    let now = outside (told l.source) (reads l.source) (wrote l.sink) (writes l.sink)
    (counts l.steps.listing l.steps.update l.steps.rows) in
    record {
      awaits : Awaits (state l.machine);
      alone : IsAlone (state l.machine);
      so_far : (course : Course (state l.fn.machine) entry now (state l.machine)) × (course.failed ≡ false)
          × (l.counter ≤ length (all_fed 1 course.done));
      reads : reads l.source ≡ reads l.fn.source;
      writes : writes l.sink ≡ writes l.fn.sink;
      room : length l.buffer ≡ length l.fn.buffer;
    }
