-- The edges have a join tree but none rooted at the head, so with the head in front a rest is left.
use Rattle.std.proofs.Common.{true, refl}
use Rattle.djq_plan.proofs.GrownTrees.{rest_says, bare_rest}
use Rattle.djq_plan.proofs.refusal.find_rest.Goals as goal

pub returns : goal.returns
returns c =
    rest_says c.args.edges.now c.args.head c.in_ok-fronted.fronted c.in_ok-rest.field-0.rest c.in_ok-rest-2.field-0.rest
    c.requires (bare_rest c.in_ok-rest.field-0.rest true c.if-not-is_empty.ensures refl)
    c.in_ok-rest.ensures.acyclic c.in_ok-fronted.ensures c.in_ok-rest-2.ensures.acyclic c.in_ok-rest-2.ensures.rest
