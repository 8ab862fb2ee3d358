-- The number is that of a line of the group, or all its lines stand before it.
use Rattle.std.proofs.Common.{sym}
use Rattle.djq_journal.proofs.Records.{open_before, past_lines}
use Rattle.djq_journal.proofs.appending.gate_before.Goals as goal

pub returns-in-Some : goal.returns-in-Some
returns-in-Some g c = sym
    (open_before (g.G.Group.lines c.args.group.now) c.args.i c.in-Some._line.now c.in-Some.ensures)

pub returns-in-None : goal.returns-in-None
returns-in-None g c = sym (past_lines (g.G.Group.lines c.args.group.now) c.args.i c.in-None.ensures).1
