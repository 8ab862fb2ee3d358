-- As each slot holds a row, the slots that went into the buckets by their numbers are those of the rows.
use Rattle.std.proofs.Common.{refl, ◌∙◌, ap, List, length, Option, ℕ, arith}
use Rattle.std.proofs.lemmas.List.{with_items_is}
use Rattle.djq_arena.proofs.Stores.{rebuilt}
use Rattle.djq_arena.proofs.store.rebuild.Goals as goal

pub returns : goal.returns
returns c =
    let bucket = with_items_is c.args.store.now.bucket c.list_all.new.bucket
    (omega (arith, c.list_all.ensures.slots, c.as_mut_slice.ensures.len)) in
    let heads = with_items_is c.args.heads c.list_all.new.heads
    (omega (arith, c.list_all.ensures.buckets, c.as_mut_slice-2.ensures.len)) in
    record {
      same = rebuilt c.args.store.now _ c.requires.sound c.requires.full
          (record {
            width = refl;
            cells = refl;
            order = refl;
            live = refl;
            free = refl;
            len = refl;
            spare = refl;
            pairs = ap (λ (os : List (Option ℕ)). length os) bucket ∙ c.list_all.ensures.slots
                ∙ ap (λ (os : List (Option ℕ)). length os) c.as_mut_slice.ensures.value;
            some = rw heads (omega (arith, c.requires.some, c.list_all.ensures.buckets));
            listed = rw (bucket, heads, ← c.as_slice.ensures.value, ← c.as_mut_slice.ensures.value)
                c.list_all.ensures.listed;
          });
    }
