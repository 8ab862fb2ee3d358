-- What was given are different answers of the members, so it is a listing exactly where none is left.
use Rattle.std.proofs.Common.{arith}
use Rattle.djq_union.specs.Union.{some_has, union_given}
use Rattle.djq_union.proofs.UnionMembers.{end_of, union_some, steps_within}
use Rattle.djq_union.proofs.cursor.UnionCursor.advance.Goals as goal

pub returns-clause-end : goal.returns-clause-end
returns-clause-end g c =
    let l = g.M.Listing in
    let ms = g.G.Members.members c.args.members.now in
    end_of (some_has l.has ms) (union_given l.has l.given ms c.args.self.now)
    (union_given l.has l.given ms c.advance_from.new.self) c.advance_from.result
    c.advance_from.new.out (union_some l.has l.given l.fits ms c.args.self.now c.requires.fits)
    c.advance_from.ensures.goes.goes

pub returns-clause-counted : goal.returns-clause-counted
returns-clause-counted g c k few =
    let l = g.M.Listing in
    let ms = g.G.Members.members c.args.members.now in
    let within = steps_within l.most l.asks k ms few in
    let counted = c.advance_from.ensures.counted in
    omega (arith, counted, within)
