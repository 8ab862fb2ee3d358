-- The listings before and behind a change are compared: what one lacks of the other came or went.
use Rattle.djq_answer_laws.proofs.Listings.{deltas_exist}
use Rattle.djq_answer_laws.proofs.deltas_exist.Goals as goal

pub returns : goal.returns
returns c = deltas_exist
