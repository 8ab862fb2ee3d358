-- Where this member has the answer, some member from here on has it, and its tests are among theirs.
use Rattle.std.proofs.Common.{arith}
use Rattle.djq_union.proofs.UnionMembers.{has_here, sum_here}
use Rattle.djq_union.proofs.cursor.+has_from.Goals as goal

pub returns-then-has-clause-has : goal.returns-then-has-clause-has
returns-then-has-clause-has g t c =
    let l = g.M.Listing in
    has_here l.has l.given l.fits (g.G.Members.members c.args.members.now) c.args.i c.member.result.now
    c.args.answer.now c.has.result c.member.ensures c.has.ensures.has c.if-has.true

pub returns-then-has-clause-counted : goal.returns-then-has-clause-counted
returns-then-has-clause-counted g t c =
    let l = g.M.Listing in
    let sum = sum_here l.most l.asks (g.G.Members.members c.args.members.now) c.args.i
    c.member.result.now c.member.ensures in
    let here = c.has.ensures.counted in
    omega (arith, here, sum)
