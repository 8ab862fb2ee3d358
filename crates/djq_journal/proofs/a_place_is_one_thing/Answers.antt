-- The gate's byte and the length behind it say which of the three the place is.
use Rattle.djq_journal.proofs.Records.{one_of_three}
use Rattle.djq_journal.proofs.a_place_is_one_thing.Goals as goal

pub returns : goal.returns
returns c = one_of_three
