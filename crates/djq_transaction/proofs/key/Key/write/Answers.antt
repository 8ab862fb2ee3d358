-- The row's cells are written over zeros.
use Rattle.djq_transaction.proofs.Slotted.{written}
use Rattle.djq_transaction.proofs.key.Key.write.Goals as goal

pub returns : goal.returns
returns c = written c.args.width c.args.place _ c.args.row.now c.copy_from_slice.ensures.after c.requires.wide
    c.requires.narrow
