-- Each id of the list is below this one, by the loop, and the list has the ids of all open sessions.
use Rattle.std.proofs.Common.{ℕ, List, ◌<◌, length, get_or, subst, arith}
use Rattle.djq_core.proofs.Queues.{listed_above}
use Rattle.djq_examples_store.proofs.sessions.is_above.Goals as goal

pub returns : goal.returns
returns c = λ _. listed_above ((c.args.core.now).state).sessions c.args.id
    (subst (λ (ns : List ℕ). (k : ℕ) → k < length ns → get_or ns k 0 < c.args.id) c.ids-ids.ensures
    (λ k h. c.loop-at.invariant k (omega (arith, h, c.loop-at-test.false))))
