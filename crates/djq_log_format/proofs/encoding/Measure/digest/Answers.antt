-- The digest on its way ends as that of the body.
use Rattle.std.proofs.Common.{◌∙◌}
use Rattle.djq_log_format.specs.Encoding.{Measured}
use Rattle.djq_log_format.proofs.Measuring.{measured_digest}
use Rattle.djq_log_format.proofs.encoding.Measure.digest.Goals as goal

pub returns : goal.returns
returns c digest lines is =
    let now : Measured = record { size = c.self.inside.size; digesting = c.self.inside.digest } in
    c.finish.ensures ∙ measured_digest digest lines now (c.self.view_is ∙ is)
