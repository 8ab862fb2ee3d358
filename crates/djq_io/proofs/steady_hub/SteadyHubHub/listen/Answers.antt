-- No call was to fail, so none is, and what is put behind the past finds no session gone.
use Rattle.std.proofs.Common.{refl, ap, ◌∙◌}
use Rattle.djq_io.specs.Failing.{after_call}
use Rattle.djq_io.specs.MemHub.{Recorded}
use Rattle.djq_io.proofs.Failures.{quiet_more}
use Rattle.djq_io.proofs.steady_hub.SteadyHubHub.listen.Goals as goal

pub invariant_of-self : goal.invariant_of-self
invariant_of-self c =
    let heard = c.listen.ensures in
    record {
      listens = heard.listens ∙ ap after_call c.self.invariant.listens;
      turns = ap (λ (h : Recorded). h.failing_turns) heard.others ∙ c.self.invariant.turns;
      sends = ap (λ (h : Recorded). h.failing_sends) heard.others ∙ c.self.invariant.sends;
      past = quiet_more _ _ _ refl heard.past c.self.invariant.past;
    }
