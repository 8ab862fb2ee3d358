-- All inserted rows are those of the first so many, up to the last one.
use Rattle.std.proofs.Common.{arith}
use Rattle.djq_transaction.proofs.AppliedRows.{from_all}
use Rattle.djq_transaction.proofs.apply.undo_rows.Goals as goal

pub take_back-requires-clause-first : goal.take_back-requires-clause-first
take_back-requires-clause-first g c =
    let i = c.requires.inserted in
    (i.0, i.1, from_all i.0 i.1 c.args.net.now c.args.catalog.now c.len.result (omega (arith, c.len.ensures)) i.2)

pub returns-clause-back : goal.returns-clause-back
returns-clause-back g c = λ relations lines i.
    c.take_back.ensures.back relations lines
    (from_all relations lines c.args.net.now c.args.catalog.now c.len.result (omega (arith, c.len.ensures)) i)
