-- How many members there are from the i-th on.
use Rattle.std.proofs.Common.{◌-◌, length}
use Rattle.djq_union.proofs.cursor.UnionCursor.+advance_from.Given as goal

abbrev pub decreases-advance_from : goal.decreases-advance_from
decreases-advance_from g l = length (g.G.Members.members l.members.now) - l.i
