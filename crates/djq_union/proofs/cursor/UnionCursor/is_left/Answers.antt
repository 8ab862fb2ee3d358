-- Where each member counts at most so much, their sum is at most their number times that.
use Rattle.std.proofs.Common.{arith}
use Rattle.std.proofs.lemmas.List.Sums.{sum_by-le}
use Rattle.djq_union.proofs.cursor.UnionCursor.is_left.Goals as goal

pub returns-clause-counted : goal.returns-clause-counted
returns-clause-counted g c k few =
    let within = sum_by-le g.M.Listing.most k (g.G.Members.members c.args.members.now) few in
    let counted = c.is_left_from.ensures.counted in
    omega (arith, counted, within)
