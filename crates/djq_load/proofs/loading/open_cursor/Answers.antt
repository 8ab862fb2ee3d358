-- One line came to an idle session, and its reply `ok open` says that the cursor is there and gave nothing.
use Rattle.std.proofs.Common.{refl, sym, ◌∙◌, rules, arith}
use Rattle.djq_load.proofs.IdleSessions.{line_loads, line_idle, line_feeds, opened}
use Rattle.djq_load.proofs.Cursors.{open_stands}
use Rattle.djq_load.proofs.loading.open_cursor.Goals as goal

pub returns-clause-loads : goal.returns-clause-loads
returns-clause-loads g c = line_loads _ _ _ _ _ _ c.requires refl (omega arith) c.in_ok-run_line.ensures.runs
    (opened _ (sym c.pending.ensures ∙ search rules)) c.take_reply.ensures

pub returns-clause-idle : goal.returns-clause-idle
returns-clause-idle g c = line_idle _ _ _ _ _ _ c.requires refl c.in_ok-run_line.ensures.runs c.take_reply.ensures

pub returns-clause-stands : goal.returns-clause-stands
returns-clause-stands g c = open_stands _ _ _ _ _ c.requires c.in_ok-run_line.ensures.runs
    (sym c.pending.ensures ∙ search rules) c.take_reply.ensures

pub returns-then-ne-clause-breaks : goal.returns-then-ne-clause-breaks
returns-then-ne-clause-breaks g c = line_feeds _ _ _ _ _ c.requires (omega arith) (omega arith)
    c.in_ok-run_line.ensures.runs
