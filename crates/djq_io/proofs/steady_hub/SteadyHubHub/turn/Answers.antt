-- No call was to fail, so none is, and what it brings adds nothing to the past that finds a session gone.
use Rattle.std.proofs.Common.{refl, ap, ◌∙◌}
use Rattle.djq_io.specs.Failing.{after_call}
use Rattle.djq_io.proofs.Failures.{quiet_more}
use Rattle.djq_io.proofs.steady_hub.SteadyHubHub.turn.Goals as goal

pub invariant_of-self : goal.invariant_of-self
invariant_of-self c =
    let brought = c.turn.ensures in
    record {
      listens = brought.listens ∙ c.self.invariant.listens;
      turns = brought.turns ∙ ap after_call c.self.invariant.turns;
      sends = brought.sends ∙ c.self.invariant.sends;
      past = quiet_more _ _ _ refl brought.past c.self.invariant.past;
    }
