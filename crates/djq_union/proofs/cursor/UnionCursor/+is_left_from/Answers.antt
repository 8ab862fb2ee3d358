-- Of the union from here on an answer is left exactly where this member has one left, or the later ones do.
use Rattle.std.proofs.Common.{arith}
use Rattle.djq_union.proofs.UnionMembers.{fit_state, left_here_at, left_later_at, sum_here}
use Rattle.djq_union.proofs.cursor.UnionCursor.+is_left_from.Goals as goal

pub has_one_left-requires-clause-fits : goal.has_one_left-requires-clause-fits
has_one_left-requires-clause-fits g t c =
    let l = g.M.Listing in
    fit_state l.has l.given l.fits (g.G.Members.members c.args.members.now) c.args.self.now c.args.i
    c.member.result.now c.state.result.now c.member.ensures c.requires.fits c.state.ensures

pub returns-then-has_one_left-clause-left : goal.returns-then-has_one_left-clause-left
returns-then-has_one_left-clause-left g t c =
    let l = g.M.Listing in
    left_here_at l.has l.given l.fits (g.G.Members.members c.args.members.now) c.args.self.now
    c.args.i c.member.result.now c.state.result.now c.has_one_left.result c.member.ensures
    c.requires.fits c.state.ensures c.if-has_one_left.true c.has_one_left.ensures.left

pub returns-then-has_one_left-clause-counted : goal.returns-then-has_one_left-clause-counted
returns-then-has_one_left-clause-counted g t c =
    let l = g.M.Listing in
    let sum = sum_here l.asks l.most (g.G.Members.members c.args.members.now) c.args.i
    c.member.result.now c.member.ensures in
    let one = c.has_one_left.ensures.counted in
    omega (arith, one, sum)

pub returns-clause-left : goal.returns-clause-left
returns-clause-left g t c =
    let l = g.M.Listing in
    left_later_at l.has l.given l.fits (g.G.Members.members c.args.members.now) c.args.self.now
    c.args.i c.member.result.now c.state.result.now c.has_one_left.result c.is_left_from.result
    c.member.ensures c.requires.fits c.state.ensures c.if-has_one_left.false
    c.has_one_left.ensures.left c.is_left_from.ensures.left

pub returns-clause-counted : goal.returns-clause-counted
returns-clause-counted g t c =
    let l = g.M.Listing in
    let sum = sum_here l.asks l.most (g.G.Members.members c.args.members.now) c.args.i
    c.member.result.now c.member.ensures in
    let one = c.has_one_left.ensures.counted in
    let rest = c.is_left_from.ensures.counted in
    omega (arith, one, rest, sum)
