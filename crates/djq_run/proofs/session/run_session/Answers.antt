-- The course so far goes on by what each read does, and each read that doesn't end it gave a byte at least.
use Rattle.std.proofs.Common.{refl, sym, ◌∙◌, arith}
use Rattle.djq_machine.specs.Call.{counts}
use Rattle.djq_run_laws.specs.Course.{outside}
use Rattle.djq_run.proofs.Runs.{run_ends, so_far_more, turns_used, not_opened, begun}
use Rattle.djq_run.proofs.Alone.{begun_alone, alone_reads}
use Rattle.djq_run.proofs.session.run_session.Goals as goal

-- The session isn't opened.
pub returns-then-is_err : goal.returns-then-is_err
returns-then-is_err g c = not_opened _ _ _ c.open_session.result (sym c.if-is_err.ensures.value) c.open_session.ensures

-- It is, and nothing was read.
pub loop-init : goal.loop-init
loop-init g c =
    let entry = outside (g.S.Source.told c.args.source.now) (g.S.Source.faults c.args.source.now)
    (g.K.Sink.told c.args.sink.now) (g.K.Sink.faults c.args.sink.now)
    (counts c.args.steps.now.listing c.args.steps.now.update c.args.steps.now.rows) in
    let b = begun entry _ _ c.open_session.result (sym c.if-is_err.ensures.value) c.open_session.ensures
    c.requires.alone in
    record {
      awaits = b.0;
      alone = begun_alone _ _ c.open_session.result (sym c.if-is_err.ensures.value) c.open_session.ensures c.requires.alone
          c.requires.going;
      so_far = b.1;
      reads = refl;
      writes = refl;
      room = refl;
    }

-- The run so far, and a read that ends it.
pub returns-in-Some : goal.returns-in-Some
returns-in-Some g c = run_ends c.in-Some.status _ _ _ _ _ _ c.loop.invariant.so_far.0 c.loop.invariant.so_far.1
    c.in-Some.ensures c.loop.invariant.reads c.loop.invariant.writes

-- The run so far, and a read that gave a byte at least.
pub loop-preserved : goal.loop-preserved
loop-preserved g c =
    let read = c.in_default.ensures in
    record {
      awaits = read.goes_on.0;
      alone = alone_reads _ _ _ _ _ read c.loop.invariant.alone;
      so_far = so_far_more _ _ _ _ _ _ c.loop.counter c.loop.invariant.so_far.0 c.loop.invariant.so_far.1
          c.loop.invariant.so_far.2 read;
      reads = read.goes_on.2 ∙ c.loop.invariant.reads;
      writes = read.goes_on.3 ∙ c.loop.invariant.writes;
      room = c.serve_read.auto.buffer ∙ c.loop.invariant.room;
    }

-- Every read was made.
pub returns : goal.returns
returns g c = turns_used _ _ _ _ c.loop.invariant.so_far.0 c.loop.invariant.so_far.1
    (omega (arith, c.loop.invariant.so_far.2, c.loop-test.false)) c.loop.invariant.awaits c.loop.invariant.reads
    c.loop.invariant.writes
