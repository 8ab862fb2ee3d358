-- Queries of the same shape have the same heads and types, so they can be members as they could.
use Rattle.djq_united.proofs.Cursors.{members_stayed}
use Rattle.djq_united.proofs.laws.members_stay.Goals as goal

pub returns : goal.returns
returns c = members_stayed
