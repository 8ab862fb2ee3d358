-- The session is open behind a piece and behind its input's end, and the course goes on with what follows.
use Rattle.std.proofs.Common.{◌<◌, ◌≤◌, true, false, length, take, refl, sym, subst, length-take, arith}
use Rattle.std.specs.Prelude.{Option}
use Rattle.djq_machine.specs.Call.{counts}
use Rattle.djq_io.specs.declared.limits.TheConstants.{READ_BYTES}
use Rattle.djq_io.proofs.Streams.{none_left_at_end}
use Rattle.djq_run_laws.specs.Course.{outside}
use Rattle.djq_run_laws.proofs.Courses.{fed_facts, ended_facts}
use Rattle.djq_run.specs.declared.status.Status.{Status}
use Rattle.djq_run.specs.Parts.{ReadEnds}
use Rattle.djq_run.proofs.Runs.{by_piece, by_end, by_failure, goes_then, piece_open, piece_ends, end_open, input_ended}
use Rattle.djq_run.proofs.Runs.{ends_done}
use Rattle.djq_run.proofs.Alone.{alone_fed}
use Rattle.djq_run.proofs.session.serve_read.Goals as goal

pub serve_held-requires : goal.serve_held-requires
serve_held-requires g c =
    let reads = c.in-Got.ensures.reads in
    let some : 0 < length (take c.in-Got.count c.read.new.buf) = omega
    (arith, length-take c.in-Got.count c.read.new.buf, reads.0, reads.1) in
    let few : length (take c.in-Got.count c.read.new.buf) ≤ READ_BYTES = omega
    (arith, length-take c.in-Got.count c.read.new.buf, reads.1, c.read.auto.buf, c.requires.most) in
    record {
      is_open = piece_open _ _ _ (fed_facts _ 1 _ _ _ c.feed.ensures.makes.step);
      alone = alone_fed _ _ _ c.feed.ensures.makes (refl, some, few, c.requires.awaits) c.requires.alone;
    }

pub flush-requires : goal.flush-requires
flush-requires g c = end_open _ _ (ended_facts _ 1 _ _ c.end_session.ensures.makes.step)

-- A piece comes, and its lines are run.
pub returns-in-Got : goal.returns-in-Got
returns-in-Got g c =
    let state = g.M.Machine.state in
    let told = g.S.Source.told in
    let rf = g.S.Source.faults in
    let wrote = g.K.Sink.told in
    let wf = g.K.Sink.faults in
    let old = state c.args.machine.now in
    let mid = state c.feed.new.self in
    let new = state c.serve_held.new.machine in
    let before = counts c.args.steps.now.listing c.args.steps.now.update c.args.steps.now.rows in
    let now = counts c.serve_held.new.steps.listing c.serve_held.new.steps.update c.serve_held.new.steps.rows in
    let o = outside (told c.args.source.now) (rf c.args.source.now) (wrote c.args.sink.now)
    (wf c.args.sink.now) before in
    let mid_o = outside (told c.read.new.self) (rf c.read.new.self) (wrote c.args.sink.now)
    (wf c.args.sink.now) before in
    let o' = outside (told c.read.new.self) (rf c.read.new.self) (wrote c.serve_held.new.sink)
    (wf c.serve_held.new.sink) now in
    let reads = c.in-Got.ensures.reads in
    let bytes = take c.in-Got.count c.read.new.buf in
    let some : 0 < length bytes = omega (arith, length-take c.in-Got.count c.read.new.buf, reads.0, reads.1) in
    let few : length bytes ≤ READ_BYTES = omega
    (arith, length-take c.in-Got.count c.read.new.buf, reads.1, c.read.auto.buf, c.requires.most) in
    let m = c.feed.ensures.makes in
    let piece = by_piece (told c.args.source.now) (told c.read.new.self) (rf c.args.source.now) (rf c.read.new.self)
    (wrote c.args.sink.now) (wf c.args.sink.now) before old mid bytes c.requires.awaits some few reads.2 m in
    subst (λ (s : Option Status). ReadEnds s o o' old new) (sym c.status.ensures)
    (piece_ends c.serve_held.result o mid_o o' old mid new bytes piece (c.serve_held.ensures.course mid_o)
    c.requires.awaits (fed_facts old 1 bytes m.effect mid m.step)
    c.serve_held.ensures.serves some c.in-Got.ensures.faults c.serve_held.ensures.faults)

-- The input ends, and what that queued is written.
pub returns-then-flush : goal.returns-then-flush
returns-then-flush g c =
    let state = g.M.Machine.state in
    let told = g.S.Source.told in
    let rf = g.S.Source.faults in
    let wrote = g.K.Sink.told in
    let wf = g.K.Sink.faults in
    let old = state c.args.machine.now in
    let mid = state c.end_session.new.self in
    let new = state c.flush.new.machine in
    let counted = counts c.args.steps.now.listing c.args.steps.now.update c.args.steps.now.rows in
    let o = outside (told c.args.source.now) (rf c.args.source.now) (wrote c.args.sink.now)
    (wf c.args.sink.now) counted in
    let mid_o = outside (told c.read.new.self) (rf c.read.new.self) (wrote c.args.sink.now)
    (wf c.args.sink.now) counted in
    let o' = outside (told c.read.new.self) (rf c.read.new.self) (wrote c.flush.new.sink)
    (wf c.flush.new.sink) counted in
    let reads = c.in-End.ensures.reads in
    let m = c.end_session.ensures.makes in
    let at_end = none_left_at_end (told c.args.source.now) (told c.read.new.self) reads in
    let flushed = c.if-flush.ensures in
    let first = by_end (told c.args.source.now) (told c.read.new.self) (rf c.args.source.now) (rf c.read.new.self)
    (wrote c.args.sink.now) (wf c.args.sink.now) counted old mid reads c.requires.awaits m in
    let whole = goes_then o mid_o o' old mid new false first (flushed.course mid_o) in
    record {
      course = whole.0;
      failed = whole.1;
      goes_on = (
        ends_done (told c.read.new.self) mid new
            (input_ended old mid c.requires.awaits (ended_facts old 1 m.effect mid m.step)) flushed.cause flushed.held
            flushed.pending at_end,
        c.in-End.ensures.faults,
        flushed.faults,
      );
    }

pub returns-else-flush : goal.returns-else-flush
returns-else-flush g c =
    let state = g.M.Machine.state in
    let told = g.S.Source.told in
    let rf = g.S.Source.faults in
    let wrote = g.K.Sink.told in
    let wf = g.K.Sink.faults in
    let old = state c.args.machine.now in
    let mid = state c.end_session.new.self in
    let new = state c.flush.new.machine in
    let counted = counts c.args.steps.now.listing c.args.steps.now.update c.args.steps.now.rows in
    let o = outside (told c.args.source.now) (rf c.args.source.now) (wrote c.args.sink.now)
    (wf c.args.sink.now) counted in
    let mid_o = outside (told c.read.new.self) (rf c.read.new.self) (wrote c.args.sink.now)
    (wf c.args.sink.now) counted in
    let o' = outside (told c.read.new.self) (rf c.read.new.self) (wrote c.flush.new.sink)
    (wf c.flush.new.sink) counted in
    let reads = c.in-End.ensures.reads in
    let m = c.end_session.ensures.makes in
    let at_end = none_left_at_end (told c.args.source.now) (told c.read.new.self) reads in
    let flushed = c.if-flush.ensures in
    let first = by_end (told c.args.source.now) (told c.read.new.self) (rf c.args.source.now) (rf c.read.new.self)
    (wrote c.args.sink.now) (wf c.args.sink.now) counted old mid reads c.requires.awaits m in
    let whole = goes_then o mid_o o' old mid new true first (flushed.course mid_o) in
    record {
      course = whole.0;
      failed = whole.1;
      goes_on = (record { some = flushed.pending; at_end = λ e. at_end }, c.in-End.ensures.faults, flushed.faults);
    }

-- The read failed, and nothing was done.
pub returns-in-Failed : goal.returns-in-Failed
returns-in-Failed g c =
    let told = g.S.Source.told in
    let rf = g.S.Source.faults in
    let wrote = g.K.Sink.told c.args.sink.now in
    let wf = g.K.Sink.faults c.args.sink.now in
    let counted = counts c.args.steps.now.listing c.args.steps.now.update c.args.steps.now.rows in
    let none = by_failure (told c.args.source.now) (told c.read.new.self) (rf c.args.source.now)
    (rf c.read.new.self) wrote wf counted (g.M.Machine.state c.args.machine.now) c.in-Failed.ensures.reads in
    record { course = none.0; failed = none.1; goes_on = (c.requires.awaits, c.in-Failed.ensures.faults, refl) }
