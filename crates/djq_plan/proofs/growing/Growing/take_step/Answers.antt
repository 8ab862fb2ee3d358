-- What the rule names stands among the current labels: a trim's place, and the two different ones of a meet.
use Rattle.std.proofs.Common.{◌∙◌, ap}
use Rattle.djq_tree.specs.Growing.{Growth}
use Rattle.djq_plan.proofs.GrowthSteps.{trim_place, meet_places}
use Rattle.djq_plan.proofs.growing.Growing.take_step.Goals as goal

pub take_trim-requires : goal.take_trim-requires
take_trim-requires c = trim_place c.args.keep c.deref.result.now c.args.self.now.current c.in-Trim.place
    c.in-Trim.removed (c.deref.ensures.value ∙ ap (λ (g : Growth). g.current) c.self.view_is) c.in-Trim.ensures

pub take_meet-requires-clause-guard : goal.take_meet-requires-clause-guard
take_meet-requires-clause-guard c =
    (meet_places c.args.keep c.deref.result.now c.args.self.now.current c.in-Meet.guard c.in-Meet.side
    (c.deref.ensures.value ∙ ap (λ (g : Growth). g.current) c.self.view_is) c.in-Meet.ensures).0

pub take_meet-requires-clause-side : goal.take_meet-requires-clause-side
take_meet-requires-clause-side c =
    (meet_places c.args.keep c.deref.result.now c.args.self.now.current c.in-Meet.guard c.in-Meet.side
    (c.deref.ensures.value ∙ ap (λ (g : Growth). g.current) c.self.view_is) c.in-Meet.ensures).1

pub take_meet-requires-clause-apart : goal.take_meet-requires-clause-apart
take_meet-requires-clause-apart c =
    (meet_places c.args.keep c.deref.result.now c.args.self.now.current c.in-Meet.guard c.in-Meet.side
    (c.deref.ensures.value ∙ ap (λ (g : Growth). g.current) c.self.view_is) c.in-Meet.ensures).2
