-- No slot has a union and nobody watches any of the 256 places, for all of which room was taken.
use Rattle.djq_store.proofs.Relations.{fresh_whole}
use Rattle.djq_store.proofs.store.Store.new.Goals as goal

pub invariant_of-result : goal.invariant_of-result
invariant_of-result c =
    fresh_whole (record {
      alloc = c.args.alloc;
      engine = c.in_ok-new.field-0;
      unions = c.new-2.result;
      order =
          c.in_ok-with_capacity.field-0;
      sessions = c.in_ok-vec.field-0;
      affected = c.in_ok-with_capacity-2.field-0;
    })
    c.in_ok-new.ensures.registered c.new-2.ensures.items c.in_ok-with_capacity.ensures.items
    (c.in_ok-vec.ensures.items_if_clones_equal (λ y is. is)) c.in_ok-with_capacity.ensures.capacity
    c.in_ok-with_capacity-2.ensures.capacity
