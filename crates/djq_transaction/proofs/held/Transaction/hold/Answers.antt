-- The line stands last in the buffer, or all is as before.
use Rattle.djq_transaction.proofs.Buffers.{buffer_after, holds_after}
use Rattle.djq_transaction.proofs.held.Transaction.hold.Goals as goal

pub invariant_of-self : goal.invariant_of-self
invariant_of-self c =
    buffer_after c.self.inside.buffer c.append_line.new.buffer c.args.self.now c.args.verb c.args.relation
    c.args.row.now c.args.line.now c.append_line.result c.self.view_is c.requires c.self.invariant
    c.append_line.ensures.ok c.append_line.ensures.err

pub returns-clause-ok : goal.returns-clause-ok
returns-clause-ok c =
    holds_after c.self.inside.buffer c.append_line.new.buffer c.args.self.now c.args.verb c.args.relation
    c.args.row.now c.args.line.now c.append_line.result c.self.view_is c.self.invariant c.append_line.ensures.ok
