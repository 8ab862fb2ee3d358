-- A loose slot is in neither chain and within the arrays, so it can come before the first free one.
use Rattle.std.proofs.Common.{refl, arith}
use Rattle.djq_arena.proofs.Stores.{releases}
use Rattle.djq_arena.proofs.store.release.Goals as goal

pub follow-requires : goal.follow-requires
follow-requires c = c.requires.loose.within

pub to-store-requires : goal.to-store-requires
to-store-requires c = omega (arith, c.requires.loose.within, c.requires.sound.store.numbers)

pub returns : goal.returns
returns c = record {
  released = releases c.args.store.now _ c.args.slot c.requires.sound c.requires.loose
      (record {
        width = refl;
        cells = refl;
        order = c.follow.ensures;
        live = refl;
        bucket = refl;
        heads = refl;
        free =
            c.to-store.ensures;
        len = refl;
        spare = refl;
      });
}
