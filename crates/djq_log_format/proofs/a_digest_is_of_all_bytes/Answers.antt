-- Eight bytes taken one by one make the word that they are.
use Rattle.djq_log_format.proofs.Digesting.{digests_in_pieces}
use Rattle.djq_log_format.proofs.a_digest_is_of_all_bytes.Goals as goal

pub returns : goal.returns
returns c = digests_in_pieces
