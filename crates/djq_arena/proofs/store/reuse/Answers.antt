-- The first of the free slots is within the arrays and holds no row; its cells end within theirs.
use Rattle.std.proofs.Common.{refl, ap, arith}
use Rattle.djq_arena.specs.declared.chain.Pair.{Pair}
use Rattle.djq_arena.proofs.Slots.{newest_free, newest_fits, reuses}
use Rattle.djq_arena.proofs.store.reuse.Goals as goal

pub pair_of-requires : goal.pair_of-requires
pair_of-requires c = newest_free c.args.store.now c.args.slot c.requires.sound c.requires.newest

pub overflow_mul-slot : goal.overflow_mul-slot
overflow_mul-slot c = let fits = newest_fits c.args.store.now c.args.slot c.args.cells.now c.requires.sound
    c.requires.newest c.requires.wide in grind (arith, fits)

pub overwrite-requires : goal.overwrite-requires
overwrite-requires c = newest_fits c.args.store.now c.args.slot c.args.cells.now c.requires.sound c.requires.newest
    c.requires.wide

pub returns : goal.returns
returns c = record {
  prepared = reuses c.args.store.now _ c.args.slot c.args.cells.now c.requires.sound c.requires.newest
      (record {
        width = refl;
        cells = c.overwrite.ensures;
        order = refl;
        live = refl;
        bucket = refl;
        heads = refl;
        free = ap (λ (p : Pair). p.next) c.pair_of.ensures;
        len = refl;
        spare = refl;
      })
      c.requires.wide;
}
