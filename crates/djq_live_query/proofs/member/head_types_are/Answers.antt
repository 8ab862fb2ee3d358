-- A name of the head and its number have one type, since a kept query is asked by its numbers.
use Rattle.djq_live_query.proofs.HeadAnswers.{head_are}
use Rattle.djq_live_query.proofs.member.head_types_are.Goals as goal

pub returns : goal.returns
returns c = head_are
