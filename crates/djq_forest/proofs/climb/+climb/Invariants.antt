-- Each step leads to a knot of a higher rank.
use Rattle.djq_forest.specs.Rising.{height_left}
use Rattle.djq_forest.proofs.climb.+climb.Given as goal

abbrev pub decreases-climb : goal.decreases-climb
decreases-climb l = height_left l.knots.now.items l.knot
