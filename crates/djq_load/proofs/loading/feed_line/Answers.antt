-- An idle session that is fed one line runs it, and is served where the reply isn't that memory is wanting.
use Rattle.djq_machine.specs.Run.{pending_of}
use Rattle.djq_load.proofs.IdleSessions.{apart, some_byte, line_loads, line_idle, line_feeds}
use Rattle.djq_load.proofs.loading.feed_line.Goals as goal

pub returns-clause-loads : goal.returns-clause-loads
returns-clause-loads g c =
    let served = apart (pending_of (g.M.Machine.state c.run_line.new.machine) 1) c.pending.result.now
    c.as_slice.result.now c.eq.result c.if-eq.false c.eq.ensures c.pending.ensures c.as_slice.ensures in
    line_loads _ _ _ _ _ _ c.requires.idle c.requires.one c.requires.short c.in_ok-run_line.ensures.runs served
    c.take_reply.ensures

pub returns-clause-idle : goal.returns-clause-idle
returns-clause-idle g c = line_idle _ _ _ _ _ _ c.requires.idle c.requires.one c.in_ok-run_line.ensures.runs
    c.take_reply.ensures

pub returns-then-eq-clause-breaks : goal.returns-then-eq-clause-breaks
returns-then-eq-clause-breaks g c = line_feeds _ _ _ _ _ c.requires.idle (some_byte _ c.requires.one) c.requires.short
    c.in_ok-run_line.ensures.runs
