-- How many members there are from the i-th on.
use Rattle.std.proofs.Common.{◌-◌, length}
use Rattle.djq_union.proofs.cursor.+has_from.Given as goal

abbrev pub decreases-has_from : goal.decreases-has_from
decreases-has_from g l = length (g.G.Members.members l.members.now) - l.i
