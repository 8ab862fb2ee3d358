-- A slot that is prepared and then linked is a row put in.
use Rattle.djq_arena.proofs.Rows.{puts}
use Rattle.djq_arena.proofs.store.put_ready.Goals as goal

pub returns : goal.returns
returns c =
    puts c.args.store.now c.fresh-slot.new.store c.link.new.store c.fresh-slot.result c.args.cells.now
    c.fresh-slot.ensures c.link.ensures.linked
