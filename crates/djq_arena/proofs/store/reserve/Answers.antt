-- An array that may have moved has the items it had, and what holds of a store speaks of these alone.
use Rattle.std.proofs.Common.{refl}
use Rattle.djq_arena.proofs.Slots.{stays}
use Rattle.djq_arena.proofs.store.reserve.Goals as goal

pub returns-in_err-reserve-clause-same : goal.returns-in_err-reserve-clause-same
returns-in_err-reserve-clause-same c = stays c.args.store.now _ c.requires.sound
    (record {
      width = refl;
      cells = refl;
      order = c.reserve.ensures.items;
      live = refl;
      bucket = refl;
      heads = refl;
      free = refl;
      len = refl;
      spare = refl;
    })

pub returns-in_err-reserve-2-clause-same : goal.returns-in_err-reserve-2-clause-same
returns-in_err-reserve-2-clause-same c = stays c.args.store.now _ c.requires.sound
    (record {
      width = refl;
      cells = refl;
      order = c.reserve.ensures.items;
      live = refl;
      bucket = c.reserve-2.ensures.items;
      heads = refl;
      free = refl;
      len = refl;
      spare = refl;
    })

pub returns-clause-same : goal.returns-clause-same
returns-clause-same c = stays c.args.store.now _ c.requires.sound
    (record {
      width = refl;
      cells = c.reserve-3.ensures.items;
      order = c.reserve.ensures.items;
      live = refl;
      bucket = c.reserve-2.ensures.items;
      heads = refl;
      free = refl;
      len = refl;
      spare = refl;
    })
