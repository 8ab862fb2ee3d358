-- The id stands at a place of the list, and each id of the list is that of an open session.
use Rattle.std.proofs.Common.{ℕ, List, subst}
use Rattle.std.specs.Prelude.{Contains}
use Rattle.djq_core.proofs.Queues.{listed_open, listed_at}
use Rattle.djq_examples_store.proofs.sessions.is_open.Goals as goal

pub returns-then-ids-at : goal.returns-then-ids-at
returns-then-ids-at c = λ _. listed_open (c.args.core.now).state c.args.id
    (subst (λ (ns : List ℕ). Contains ns c.args.id) c.ids-ids.ensures
    (listed_at c.ids-ids.result.now c.args.id c.loop-at.at c.loop-at-test.true c.if-ids-at.true))
