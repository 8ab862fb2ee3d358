-- How many members there are from the i-th on.
use Rattle.std.proofs.Common.{◌-◌, length}
use Rattle.djq_union.proofs.cursor.UnionCursor.+is_left_from.Given as goal

abbrev pub decreases-is_left_from : goal.decreases-is_left_from
decreases-is_left_from g l = length (g.G.Members.members l.members.now) - l.i
