-- An assignment that finds its rows finds them among more rows too, and added rows are more, deleted fewer.
use Rattle.djq_answer_laws.proofs.Choices.{answer_stays, answers_come, answers_go, row_comes, row_goes}
use Rattle.djq_answer_laws.proofs.answers_follow_rows.Goals as goal

pub returns-clause-come : goal.returns-clause-come
returns-clause-come c = answers_come

pub returns-clause-go : goal.returns-clause-go
returns-clause-go c = answers_go

pub returns-clause-added : goal.returns-clause-added
returns-clause-added c = row_comes

pub returns-clause-deleted : goal.returns-clause-deleted
returns-clause-deleted c = row_goes

pub returns-clause-stay : goal.returns-clause-stay
returns-clause-stay c = answer_stays
