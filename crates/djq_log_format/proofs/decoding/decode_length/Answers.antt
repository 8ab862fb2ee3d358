-- A multiple's bytes are those that it was read from.
use Rattle.std.proofs.Common.{◌*◌, ◌/◌, ◌∙◌, arith}
use Rattle.std.proofs.lemmas.Nat.{be_bytes_8}
use Rattle.djq_log_format.proofs.decoding.decode_length.Goals as goal

pub returns-then-number-eq0-clause-encoded : goal.returns-then-number-eq0-clause-encoded
returns-then-number-eq0-clause-encoded c =
    let number = c.from_be_bytes-number.result in
    be_bytes_8 c.args.stored.now (number / 257 * 257) c.told-stored c.fits-stored
    (omega (arith, c.if-number-eq0.true) ∙ c.from_be_bytes-number.ensures)
