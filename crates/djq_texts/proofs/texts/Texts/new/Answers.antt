-- No texts, and as few buckets as at first.
use Rattle.djq_texts.proofs.Uses.{at_first}
use Rattle.djq_texts.proofs.texts.Texts.new.Goals as goal

pub invariant_of-result : goal.invariant_of-result
invariant_of-result c = at_first c.new.result.items c.new-2.result.items c.in_ok-first_buckets.field-0.items
    c.new.ensures.items c.new-2.ensures.items c.in_ok-first_buckets.ensures
