-- Each slot that is listed for the side's entry is told in its turn.
use Rattle.std.proofs.Common.{refl, sym, arith, rules}
use Rattle.djq_forest.specs.Steps.{forest_with}
use Rattle.djq_forest.proofs.SideWalks.{stop_listed, walk_start, walk_within, walk_listed, walk_can, walk_came, walk_stay}
use Rattle.djq_forest.proofs.SideWalks.{walk_rise, walk_end, walk_nearer, walk_listing}
use Rattle.djq_forest.proofs.climb.+rise.Goals as goal

pub first_at-rest-requires-clause-lists : goal.first_at-rest-requires-clause-lists
first_at-rest-requires-clause-lists t c = stop_listed (forest_with c.args.knots.now.items c.args.edges.now.items) (forest_with c.climb.new.knots.items c.climb.new.edges.items) c.args.knot c.in-Some.stop.knot c.in-Some.stop.edge c.in-Some.stop.slot c.requires.entries c.in-Some.ensures.same c.in-Some.ensures.left

pub loop-rest-init : goal.loop-rest-init
loop-rest-init t c = walk_start c.args.ups.now.items (forest_with c.args.knots.now.items c.args.edges.now.items) (forest_with c.climb.new.knots.items c.climb.new.edges.items) c.args.knot c.args.slot c.in-Some.stop.knot c.in-Some.stop.edge c.in-Some.stop.slot c.big_at-big.result c.first_at-rest.result c.requires.entries c.requires.ups c.in-Some.ensures.same c.in-Some.ensures.risen c.in-Some.ensures.left c.big_at-big.ensures c.first_at-rest.ensures

pub next_at-rest-requires-clause-within : goal.next_at-rest-requires-clause-within
next_at-rest-requires-clause-within t c = walk_within c.args.ups.now.items (forest_with c.args.knots.now.items c.args.edges.now.items) (forest_with c.loop-rest.knots.items c.loop-rest.edges.items) c.args.knot c.args.slot c.in-Some.stop.edge c.in-Some.stop.slot c.big_at-big.result c.loop-rest.rest c.loop-rest.invariant

pub next_at-rest-requires-clause-listed : goal.next_at-rest-requires-clause-listed
next_at-rest-requires-clause-listed t c = walk_listed c.args.ups.now.items (forest_with c.args.knots.now.items c.args.edges.now.items) (forest_with c.loop-rest.knots.items c.loop-rest.edges.items) c.args.knot c.args.slot c.in-Some.stop.edge c.in-Some.stop.slot c.big_at-big.result c.in-Some-rest.tied c.loop-rest.rest c.loop-rest.invariant (sym c.in-Some-rest.is)

pub tell_side-requires : goal.tell_side-requires
tell_side-requires t c = walk_can c.args.ups.now.items (forest_with c.args.knots.now.items c.args.edges.now.items) (forest_with c.loop-rest.knots.items c.loop-rest.edges.items) c.args.knot c.args.slot c.in-Some.stop.edge c.in-Some.stop.slot c.big_at-big.result c.in-Some-rest.tied c.loop-rest.rest c.loop-rest.invariant (sym c.in-Some-rest.is)

pub rise-requires : goal.rise-requires
rise-requires t c =
    let came = walk_came c.args.ups.now.items (forest_with c.args.knots.now.items c.args.edges.now.items) (forest_with c.loop-rest.knots.items c.loop-rest.edges.items) (forest_with c.tell_side.new.knots.items c.loop-rest.edges.items) c.args.knot c.args.slot c.in-Some.stop.edge c.in-Some.stop.slot c.big_at-big.result c.in-Some-rest.tied c.loop-rest.rest c.tell_side.result c.loop-rest.invariant (sym c.in-Some-rest.is) c.tell_side.ensures.told c.tell_side.ensures.lives (grind (arith, c.if-tell_side.true)) in
    let near = came.nearer in
    let d = c.decreases in
    (omega arith, (came.entries, (came.ups_are, came.rise)))

pub loop-rest-smaller-then-tell_side : goal.loop-rest-smaller-then-tell_side
loop-rest-smaller-then-tell_side t c = walk_nearer c.args.ups.now.items (forest_with c.args.knots.now.items c.args.edges.now.items) (forest_with c.loop-rest.knots.items c.loop-rest.edges.items) c.args.knot c.args.slot c.in-Some.stop.edge c.in-Some.stop.slot c.big_at-big.result c.in-Some-rest.tied c.loop-rest.rest c.next_at-rest.result _ c.loop-rest.invariant (sym c.in-Some-rest.is) c.next_at-rest.ensures
    (walk_listing c.args.ups.now.items (forest_with c.args.knots.now.items c.args.edges.now.items) (forest_with c.loop-rest.knots.items c.loop-rest.edges.items) (forest_with c.tell_side.new.knots.items c.loop-rest.edges.items) (forest_with c.rise.new.knots.items c.rise.new.edges.items) c.args.knot c.args.slot c.in-Some.stop.edge c.in-Some.stop.slot c.big_at-big.result c.in-Some-rest.tied c.loop-rest.rest c.loop-rest.invariant c.tell_side.ensures.told c.rise.ensures)

pub loop-rest-preserved-then-tell_side : goal.loop-rest-preserved-then-tell_side
loop-rest-preserved-then-tell_side t c = walk_rise c.args.ups.now.items (forest_with c.args.knots.now.items c.args.edges.now.items) (forest_with c.loop-rest.knots.items c.loop-rest.edges.items) (forest_with c.tell_side.new.knots.items c.loop-rest.edges.items) (forest_with c.rise.new.knots.items c.rise.new.edges.items) c.args.knot c.args.slot c.in-Some.stop.edge c.in-Some.stop.slot c.big_at-big.result c.in-Some-rest.tied c.loop-rest.rest c.next_at-rest.result c.tell_side.result c.loop-rest.invariant (sym c.in-Some-rest.is) c.next_at-rest.ensures c.tell_side.ensures.told c.tell_side.ensures.lives (grind (arith, c.if-tell_side.true)) c.rise.ensures

pub loop-rest-smaller : goal.loop-rest-smaller
loop-rest-smaller t c = walk_nearer c.args.ups.now.items (forest_with c.args.knots.now.items c.args.edges.now.items) (forest_with c.loop-rest.knots.items c.loop-rest.edges.items) c.args.knot c.args.slot c.in-Some.stop.edge c.in-Some.stop.slot c.big_at-big.result c.in-Some-rest.tied c.loop-rest.rest c.next_at-rest.result _ c.loop-rest.invariant (sym c.in-Some-rest.is) c.next_at-rest.ensures refl

pub loop-rest-preserved : goal.loop-rest-preserved
loop-rest-preserved t c = walk_stay c.args.ups.now.items (forest_with c.args.knots.now.items c.args.edges.now.items) (forest_with c.loop-rest.knots.items c.loop-rest.edges.items) (forest_with c.tell_side.new.knots.items c.loop-rest.edges.items) c.args.knot c.args.slot c.in-Some.stop.edge c.in-Some.stop.slot c.big_at-big.result c.in-Some-rest.tied c.loop-rest.rest c.next_at-rest.result c.tell_side.result c.loop-rest.invariant (sym c.in-Some-rest.is) c.next_at-rest.ensures c.tell_side.ensures.told c.tell_side.ensures.lives (grind (arith, c.if-tell_side.false))

pub returns : goal.returns
returns t c = walk_end c.args.ups.now.items (forest_with c.args.knots.now.items c.args.edges.now.items) (forest_with c.loop-rest.knots.items c.loop-rest.edges.items) c.args.knot c.args.slot c.in-Some.stop.edge c.in-Some.stop.slot c.big_at-big.result c.loop-rest.rest c.loop-rest.invariant (search rules)
