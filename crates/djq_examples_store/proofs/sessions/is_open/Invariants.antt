use Rattle.djq_examples_store.proofs.sessions.is_open.Given as goal

abbrev pub invariant-loop-at : goal.invariant-loop-at
invariant-loop-at l = Unit {0}
