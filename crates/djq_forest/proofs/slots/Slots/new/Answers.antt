-- Without slots there are no notes and no cells.
use Rattle.djq_forest.proofs.SlotChanges.{none_sound, none_seen}
use Rattle.djq_forest.proofs.slots.Slots.new.Goals as goal

pub invariant_of-result : goal.invariant_of-result
invariant_of-result c = rw (c.new.ensures.items, c.new-2.ensures.items) (none_sound c.args.width)

pub returns : goal.returns
returns c = rw (c.new.ensures.items, c.new-2.ensures.items) (none_seen c.args.width)
