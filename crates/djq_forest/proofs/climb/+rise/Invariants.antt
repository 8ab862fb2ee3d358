-- Each side leads to a knot of a higher rank; what is ahead in its list gets shorter.
use Rattle.std.proofs.Common.{length}
use Rattle.djq_forest.specs.Forest.{nth_edge, list_of}
use Rattle.djq_forest.specs.Rising.{height_left}
use Rattle.djq_forest.specs.Steps.{forest_with}
use Rattle.djq_forest.proofs.SideWalks.{Walking, left_from}
use Rattle.djq_forest.proofs.climb.+rise.Given as goal

abbrev pub decreases-rise : goal.decreases-rise
decreases-rise l = height_left l.knots.now.items l.knot

abbrev pub invariant-loop-rest : goal.invariant-loop-rest
invariant-loop-rest l = Walking l.ups.items (forest_with l.fn.knots.items l.fn.edges.items)
    (forest_with l.knots.items l.edges.items) l.knot l.slot l.stop.edge l.stop.slot l.big l.rest

abbrev pub decreases-loop-rest : goal.decreases-loop-rest
decreases-loop-rest l = length (left_from l.rest (list_of (nth_edge l.edges.items l.stop.edge) l.stop.slot))
