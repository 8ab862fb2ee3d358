-- Each step up tells one entry; at the end all has been told, or a side is left.
use Rattle.std.proofs.Common.{sym, arith}
use Rattle.djq_forest.specs.Rising.{HasRisen, RisesWith}
use Rattle.djq_forest.specs.Steps.{forest_with}
use Rattle.djq_forest.specs.declared.climb.Stop.{Stop}
use Rattle.djq_forest.proofs.StepChanges.{tied_tie}
use Rattle.djq_forest.proofs.Rises.{same_on}
use Rattle.djq_forest.proofs.Sides.{risings}
use Rattle.djq_forest.proofs.Climbs.{ups_same, lead_by, next_by, stop_same, stop_risen, climb_can, may_within, option_on, stop_here, stops_from}
use Rattle.djq_forest.proofs.climb.+climb.Goals as goal

pub up_from-requires : goal.up_from-requires
up_from-requires t c =
    let l = may_within (forest_with c.args.knots.now.items c.args.edges.now.items) c.args.knot c.args.slot c.requires.rise in
    let long = c.requires.ups.long in
    omega (arith, l, long)

pub returns-in-None-clause-risen : goal.returns-in-None-clause-risen
returns-in-None-clause-risen t c = risings.top (forest_with c.args.knots.now.items c.args.edges.now.items) c.args.knot c.args.slot
    (λ j l up. c.requires.ups.none c.args.knot j (sym c.in-None.ensures) l up)

pub feeds_at-requires : goal.feeds_at-requires
feeds_at-requires t c = (c.requires.ups.edge c.args.knot c.in-Some.edge (sym c.in-Some.ensures)).0

pub small_at-small-requires : goal.small_at-small-requires
small_at-small-requires t c = (c.requires.ups.edge c.args.knot c.in-Some.edge (sym c.in-Some.ensures)).0

pub to_at-to-requires-clause-within : goal.to_at-to-requires-clause-within
to_at-to-requires-clause-within t c = (c.requires.ups.edge c.args.knot c.in-Some.edge (sym c.in-Some.ensures)).0

pub to_at-to-requires-clause-ties : goal.to_at-to-requires-clause-ties
to_at-to-requires-clause-ties t c = tied_tie (forest_with c.args.knots.now.items c.args.edges.now.items) c.in-Some.edge c.args.slot
    (climb_can (forest_with c.args.knots.now.items c.args.edges.now.items) c.args.knot c.args.slot c.in-Some.edge
    (lead_by c.args.ups.now.items (forest_with c.args.knots.now.items c.args.edges.now.items) c.args.knot c.in-Some.edge c.feeds_at.result c.requires.entries c.requires.ups c.in-Some.ensures c.feeds_at.ensures (grind (arith, c.if-not-feeds_at.false))) c.requires.rise).is_tied

pub tell_fed-requires : goal.tell_fed-requires
tell_fed-requires t c = climb_can (forest_with c.args.knots.now.items c.args.edges.now.items) c.args.knot c.args.slot c.in-Some.edge
    (lead_by c.args.ups.now.items (forest_with c.args.knots.now.items c.args.edges.now.items) c.args.knot c.in-Some.edge c.feeds_at.result c.requires.entries c.requires.ups c.in-Some.ensures c.feeds_at.ensures (grind (arith, c.if-not-feeds_at.false))) c.requires.rise

pub returns-then-not-tell_fed-clause-same : goal.returns-then-not-tell_fed-clause-same
returns-then-not-tell_fed-clause-same t c = stop_same (forest_with c.args.knots.now.items c.args.edges.now.items) (forest_with c.tell_fed.new.knots.items c.tell_fed.new.edges.items) c.args.knot c.args.slot c.in-Some.edge
    (lead_by c.args.ups.now.items (forest_with c.args.knots.now.items c.args.edges.now.items) c.args.knot c.in-Some.edge c.feeds_at.result c.requires.entries c.requires.ups c.in-Some.ensures c.feeds_at.ensures (grind (arith, c.if-not-feeds_at.false))) c.tell_fed.ensures.told

pub returns-then-not-tell_fed-clause-risen : goal.returns-then-not-tell_fed-clause-risen
returns-then-not-tell_fed-clause-risen t c = stop_risen (forest_with c.args.knots.now.items c.args.edges.now.items) (forest_with c.tell_fed.new.knots.items c.tell_fed.new.edges.items) c.args.knot c.args.slot c.in-Some.edge c.tell_fed.result
    (lead_by c.args.ups.now.items (forest_with c.args.knots.now.items c.args.edges.now.items) c.args.knot c.in-Some.edge c.feeds_at.result c.requires.entries c.requires.ups c.in-Some.ensures c.feeds_at.ensures (grind (arith, c.if-not-feeds_at.false))) c.requires.rise c.tell_fed.ensures.told c.tell_fed.ensures.lives (grind (arith, c.if-not-tell_fed.true))

pub climb-requires : goal.climb-requires
climb-requires t c =
    let next = next_by (forest_with c.args.knots.now.items c.args.edges.now.items) (forest_with c.tell_fed.new.knots.items c.tell_fed.new.edges.items) c.args.knot c.args.slot c.in-Some.edge c.small_at-small.result c.to_at-to.result c.tell_fed.result (lead_by c.args.ups.now.items (forest_with c.args.knots.now.items c.args.edges.now.items) c.args.knot c.in-Some.edge c.feeds_at.result c.requires.entries c.requires.ups c.in-Some.ensures c.feeds_at.ensures (grind (arith, c.if-not-feeds_at.false))) c.requires.rise c.tell_fed.ensures.told c.small_at-small.ensures c.to_at-to.ensures c.tell_fed.ensures.lives (grind (arith, c.if-not-tell_fed.false)) in
    let near = next.nearer in
    let d = c.decreases in
    (omega arith, (next.entries, (ups_same c.args.ups.now.items (forest_with c.args.knots.now.items c.args.edges.now.items) (forest_with c.tell_fed.new.knots.items c.tell_fed.new.edges.items) next.same c.requires.ups, next.rise)))

pub returns-clause-same : goal.returns-clause-same
returns-clause-same t c =
    let next = next_by (forest_with c.args.knots.now.items c.args.edges.now.items) (forest_with c.tell_fed.new.knots.items c.tell_fed.new.edges.items) c.args.knot c.args.slot c.in-Some.edge c.small_at-small.result c.to_at-to.result c.tell_fed.result (lead_by c.args.ups.now.items (forest_with c.args.knots.now.items c.args.edges.now.items) c.args.knot c.in-Some.edge c.feeds_at.result c.requires.entries c.requires.ups c.in-Some.ensures c.feeds_at.ensures (grind (arith, c.if-not-feeds_at.false))) c.requires.rise c.tell_fed.ensures.told c.small_at-small.ensures c.to_at-to.ensures c.tell_fed.ensures.lives (grind (arith, c.if-not-tell_fed.false)) in
    same_on (forest_with c.args.knots.now.items c.args.edges.now.items) (forest_with c.tell_fed.new.knots.items c.tell_fed.new.edges.items) (forest_with c.climb.new.knots.items c.climb.new.edges.items) next.same c.climb.ensures.same

pub returns-clause-risen : goal.returns-clause-risen
returns-clause-risen t c =
    let next = next_by (forest_with c.args.knots.now.items c.args.edges.now.items) (forest_with c.tell_fed.new.knots.items c.tell_fed.new.edges.items) c.args.knot c.args.slot c.in-Some.edge c.small_at-small.result c.to_at-to.result c.tell_fed.result (lead_by c.args.ups.now.items (forest_with c.args.knots.now.items c.args.edges.now.items) c.args.knot c.in-Some.edge c.feeds_at.result c.requires.entries c.requires.ups c.in-Some.ensures c.feeds_at.ensures (grind (arith, c.if-not-feeds_at.false))) c.requires.rise c.tell_fed.ensures.told c.small_at-small.ensures c.to_at-to.ensures c.tell_fed.ensures.lives (grind (arith, c.if-not-tell_fed.false)) in
    option_on c.climb.result (HasRisen (forest_with c.tell_fed.new.knots.items c.tell_fed.new.edges.items) (forest_with c.climb.new.knots.items c.climb.new.edges.items) c.small_at-small.result c.to_at-to.result)
    (HasRisen (forest_with c.args.knots.now.items c.args.edges.now.items) (forest_with c.climb.new.knots.items c.climb.new.edges.items) c.args.knot c.args.slot)
    (λ stop. RisesWith (forest_with c.tell_fed.new.knots.items c.tell_fed.new.edges.items) (forest_with c.climb.new.knots.items c.climb.new.edges.items) c.small_at-small.result c.to_at-to.result stop.knot stop.slot)
    (λ stop. RisesWith (forest_with c.args.knots.now.items c.args.edges.now.items) (forest_with c.climb.new.knots.items c.climb.new.edges.items) c.args.knot c.args.slot stop.knot stop.slot)
    (λ risen. next.on (forest_with c.climb.new.knots.items c.climb.new.edges.items) risen) (λ stop rises e done. next.on e (rises e done)) c.climb.ensures.risen

pub returns-then-not-feeds_at-clause-left : goal.returns-then-not-feeds_at-clause-left
returns-then-not-feeds_at-clause-left t c = stop_here c.args.ups.now.items (forest_with c.args.knots.now.items c.args.edges.now.items) c.args.knot c.args.slot c.in-Some.edge c.feeds_at.result c.requires.ups c.in-Some.ensures c.feeds_at.ensures (grind (arith, c.if-not-feeds_at.true)) c.requires.rise

pub returns-clause-left : goal.returns-clause-left
returns-clause-left t c =
    let next = next_by (forest_with c.args.knots.now.items c.args.edges.now.items) (forest_with c.tell_fed.new.knots.items c.tell_fed.new.edges.items) c.args.knot c.args.slot c.in-Some.edge c.small_at-small.result c.to_at-to.result c.tell_fed.result (lead_by c.args.ups.now.items (forest_with c.args.knots.now.items c.args.edges.now.items) c.args.knot c.in-Some.edge c.feeds_at.result c.requires.entries c.requires.ups c.in-Some.ensures c.feeds_at.ensures (grind (arith, c.if-not-feeds_at.false))) c.requires.rise c.tell_fed.ensures.told c.small_at-small.ensures c.to_at-to.ensures c.tell_fed.ensures.lives (grind (arith, c.if-not-tell_fed.false)) in
    stops_from c.climb.result (λ (s : Stop). s.knot) (λ (s : Stop). s.edge) (λ (s : Stop). s.slot) (forest_with c.args.knots.now.items c.args.edges.now.items) (forest_with c.tell_fed.new.knots.items c.tell_fed.new.edges.items) (forest_with c.climb.new.knots.items c.climb.new.edges.items) c.args.knot c.args.slot c.small_at-small.result c.to_at-to.result next c.climb.ensures.left
