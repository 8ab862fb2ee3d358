-- Other buckets and more room leave the rows as they were, so the row comes behind those of the beginning.
use Rattle.djq_arena.proofs.Rows.{puts_after, same_twice}
use Rattle.djq_arena.proofs.store.put_growing.Goals as goal

pub returns-clause-put : goal.returns-clause-put
returns-clause-put c = puts_after c.args.store.now c.reserve.new.store c.put_ready.new.store c.put_ready.result
    c.args.cells.now
    (same_twice c.args.store.now c.grow_full.new.store c.reserve.new.store c.grow_full.ensures.same
    c.reserve.ensures.same)
    c.put_ready.ensures
