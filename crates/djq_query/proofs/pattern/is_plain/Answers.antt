-- Slots that are at their own columns give each tuple back up to the index, and past the end the whole of it.
use Rattle.djq_query.proofs.Atoms.{filled_none, plain_more, plain_all}
use Rattle.djq_query.proofs.pattern.is_plain.Goals as goal

pub columns-init : goal.columns-init
columns-init c u wide = filled_none u

pub columns-preserved : goal.columns-preserved
columns-preserved c =
    plain_more c.args.width c.args.slots.now c.columns.i _ c.if-slots-width.false c.columns-test.true
    (λ u. c.is_at.ensures u c.if-not-is_at.false) c.columns.invariant

pub returns : goal.returns
returns c told = plain_all c.args.width c.args.slots.now c.columns.i c.if-slots-width.false c.columns-test.false
    c.columns.invariant
