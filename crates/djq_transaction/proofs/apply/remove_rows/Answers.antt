-- Once all rows are gone through each has its copies.
use Rattle.std.proofs.Common.{arith}
use Rattle.djq_transaction.proofs.AppliedRows.{all_changed}
use Rattle.djq_transaction.proofs.apply.remove_rows.Goals as goal

pub returns-clause-after : goal.returns-clause-after
returns-clause-after g c = λ relations lines i.
    all_changed relations lines c.args.net.now c.loop-place.catalog c.loop-place.place
    (omega (arith, c.loop-place-test.false, c.len-place-end.ensures)) (c.loop-place.invariant.changed relations lines i)
