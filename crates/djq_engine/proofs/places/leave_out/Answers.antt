-- In a list of different places the one that is found is the only one of its number.
use Rattle.std.proofs.Common.{◌==◌, ◌∙◌, ap}
use Rattle.std.specs.Prelude.{position}
use Rattle.djq_engine.proofs.QueryPlaces.{left_out, none_left_out}
use Rattle.djq_engine.proofs.places.leave_out.Goals as goal

pub returns-in-Some : goal.returns-in-Some
returns-in-Some c =
    c.remove.ensures.others
    ∙ left_out c.args.places.now c.args.at c.in-Some.place c.requires
    (c.in-Some.ensures ∙ ap (position (λ i. i == c.args.at)) c.as_slice.ensures)

pub returns-in_default : goal.returns-in_default
returns-in_default c = none_left_out c.args.places.now c.args.at
    (c.in_default.ensures ∙ ap (position (λ i. i == c.args.at)) c.as_slice.ensures)
