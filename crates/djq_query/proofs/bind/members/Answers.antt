-- Variables taken and left make up the label, so there is room for the next; at the end none is left.
use Rattle.std.proofs.Common.{◌∙◌, ap, List, ℕ, ◌++◌}
use Rattle.djq_query.proofs.Atoms.{taken_on, taken_room, taken_all}
use Rattle.djq_query.proofs.bind.members.Goals as goal

pub rest-preserved : goal.rest-preserved
rest-preserved c =
    ap (λ (l : List ℕ). l ++ c.pop.new.self) c.push.ensures
    ∙ taken_on c.rest.members c.rest.rest c.pop.new.self c.args.label c.pop.result c.in-Some.variable
    c.pop.ensures.taken c.in-Some.is c.rest.invariant

pub push-requires : goal.push-requires
push-requires c = taken_room c.rest.members c.rest.rest c.pop.new.self c.args.label c.pop.result c.in-Some.variable
    c.pop.ensures.taken c.in-Some.is c.rest.invariant c.requires

pub returns : goal.returns
returns c = taken_all c.rest.members c.rest.rest c.args.label (c.in_default.ensures.none) c.rest.invariant
