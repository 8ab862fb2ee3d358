-- A cursor that wasn't told its end is served its next page, behind the pages that were read before.
use Rattle.std.proofs.Common.{refl, arith}
use Rattle.djq_load.proofs.IdleSessions.{line_loads, line_idle}
use Rattle.djq_load.proofs.WholeLoads.{read_on, read_served}
use Rattle.djq_load.proofs.loading.read_more.Goals as goal

pub returns-clause-loads : goal.returns-clause-loads
returns-clause-loads g c = line_loads _ _ _ _ _ _ c.requires.idle refl (omega arith) c.in_ok-run_line.ensures.runs
    (read_served _ _ _ _ _ c.requires.idle c.in_ok-run_line.ensures.runs c.requires.reads) c.take_reply.ensures

pub returns-clause-idle : goal.returns-clause-idle
returns-clause-idle g c = line_idle _ _ _ _ _ _ c.requires.idle refl c.in_ok-run_line.ensures.runs c.take_reply.ensures

pub returns-clause-read : goal.returns-clause-read
returns-clause-read g c most h = read_on _ _ _ _ _ _ _ _ most c.requires.idle c.in_ok-run_line.ensures.runs
    c.pending.ensures c.read-after.ensures c.take_reply.ensures c.requires.going h
