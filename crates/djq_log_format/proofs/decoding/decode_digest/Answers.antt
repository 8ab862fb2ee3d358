-- A number's bytes are those that it was read from.
use Rattle.std.proofs.lemmas.Nat.{be_bytes_8}
use Rattle.djq_log_format.proofs.decoding.decode_digest.Goals as goal

pub returns-clause-encoded : goal.returns-clause-encoded
returns-clause-encoded c =
    be_bytes_8 c.args.stored.now c.from_be_bytes.result c.told-stored c.fits-stored c.from_be_bytes.ensures
