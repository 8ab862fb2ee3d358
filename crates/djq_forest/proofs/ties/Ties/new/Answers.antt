-- Without slots there are no ties and no lists.
use Rattle.djq_forest.proofs.TieGrowth.{none_sound, none_seen}
use Rattle.djq_forest.proofs.ties.Ties.new.Goals as goal

pub invariant_of-result : goal.invariant_of-result
invariant_of-result c = rw (c.new.ensures.items, c.new-2.ensures.items) none_sound

pub returns : goal.returns
returns c = rw (c.new.ensures.items, c.new-2.ensures.items) none_seen
