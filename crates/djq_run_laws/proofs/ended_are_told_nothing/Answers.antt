-- A session that has ended watches nothing and is replied nothing, and it stays ended in every step.
use Rattle.djq_run_laws.proofs.EndedSessions.{over_is_silent, over_once}
use Rattle.djq_run_laws.proofs.ended_are_told_nothing.Goals as goal

pub returns-clause-silent : goal.returns-clause-silent
returns-clause-silent c = over_is_silent

pub returns-clause-once : goal.returns-clause-once
returns-clause-once c = over_once
