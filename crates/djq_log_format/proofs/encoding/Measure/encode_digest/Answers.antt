-- The digest is the one behind the record.
use Rattle.std.proofs.Common.{ap, ◌∙◌}
use Rattle.std.specs.Int.{to_be_bytes, w64}
use Rattle.djq_log_format.proofs.encoding.Measure.encode_digest.Goals as goal

pub returns : goal.returns
returns c digest lines is =
    c.to_be_bytes.ensures ∙ ap (λ n. to_be_bytes w64 n) (c.digest.ensures digest lines is)
