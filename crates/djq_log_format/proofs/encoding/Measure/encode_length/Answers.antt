-- The size is the body's.
use Rattle.std.proofs.Common.{◌*◌, ap, ◌∙◌}
use Rattle.std.specs.Int.{to_be_bytes, w64}
use Rattle.djq_log_format.specs.Encoding.{Measured}
use Rattle.djq_log_format.proofs.encoding.Measure.encode_length.Goals as goal

pub returns : goal.returns
returns c digest lines is =
    c.to_be_bytes.ensures ∙ ap (λ (m : Measured). to_be_bytes w64 (m.size * 257)) (c.self.view_is ∙ is)
