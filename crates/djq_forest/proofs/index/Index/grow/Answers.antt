-- More are wanted only where each slot has an entry, so that all of them can go into other buckets; new slots come
-- behind the others once there are links for them.
use Rattle.std.proofs.Common.{refl}
use Rattle.djq_arena.proofs.Slots.{either}
use Rattle.djq_forest.proofs.IndexChanges.{more_links, links_long, grown_index}
use Rattle.djq_forest.proofs.index.Index.grow.Goals as goal

pub returns-clause-index : goal.returns-clause-index
returns-clause-index c = either c.grow.result _ _ _ c.grow.ensures.grown c.grow.ensures.refused
    (λ _ is. grown_index _ c.args.slots.now c.grow.new.self c.args.count
    (more_links c.add_buckets.new.self _ c.args.slots.now.tuples _ c.add_buckets.ensures
    c.in_ok-resize_links.ensures.more refl refl refl) c.requires.wanted.more c.requires.wanted.few
    (links_long _ _ _ c.in_ok-resize_links.ensures.more) is)
    (λ same. rw same (more_links c.add_buckets.new.self _ c.args.slots.now.tuples _ c.add_buckets.ensures
    c.in_ok-resize_links.ensures.more refl refl refl))
