-- A held line, `done`, or none.
use Rattle.std.proofs.Common.{arith}
use Rattle.djq_transaction.proofs.Buffers.{reads_held, reads_done, reads_none}
use Rattle.djq_transaction.proofs.held.Transaction.line.Goals as goal

pub returns-then-at-len : goal.returns-then-at-len
returns-then-at-len c =
    reads_held c.self.inside.buffer c.args.self.now c.args.at c.index-entry.result.now c.deref.result.now
    c.self.view_is (omega (arith, c.if-at-eq0.false)) (omega (arith, c.if-at-len.true, c.len.ensures))
    c.index-entry.ensures c.deref.ensures.value

pub returns-then-at-len-2 : goal.returns-then-at-len-2
returns-then-at-len-2 c =
    reads_done c.self.inside.buffer c.args.self.now c.args.at c.self.view_is
    (omega (arith, c.if-at-len-2.true, c.len-2.ensures))

pub returns : goal.returns
returns c =
    reads_none c.self.inside.buffer c.args.self.now c.args.at c.self.view_is
    (omega (arith, c.if-at-len.false, c.if-at-len-2.false, c.len.ensures, c.len-2.ensures))
