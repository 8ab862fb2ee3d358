-- The new slot's number is how many slots there were, so no slot of either chain is changed by it.
use Rattle.std.proofs.Common.{◌≡◌, refl, length, arith}
use Rattle.djq_arena.proofs.Slots.{extends_at}
use Rattle.djq_arena.proofs.store.fresh.Goals as goal

pub returns : goal.returns
returns c =
    let long : length c.args.store.now.order.items
    ≡ c.len-slot.result = omega (arith, c.args.store.now.order.ok.0, c.len-slot.ensures) in
    extends_at c.args.store.now _ c.args.cells.now c.len-slot.result long c.requires.sound
    (record {
      pair = record { prev = c.none.result; next = c.none-2.result };
      other = c.none-3.result;
      width = refl;
      cells = c.append.ensures;
      order = c.push_reserved.ensures.items;
      live = refl;
      bucket = c.push_reserved-2.ensures.items;
      heads = refl;
      free = refl;
      len = refl;
      spare = refl;
    })
    c.requires.wide (omega arith)
