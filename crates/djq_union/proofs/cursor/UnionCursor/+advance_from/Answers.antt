-- How this member went on, and whether a later one has its answer, says how the union from here on does.
use Rattle.std.proofs.Common.{◌+◌, ◌-◌, ◌<◌, length, rules, arith}
use Rattle.djq_union.proofs.UnionMembers.{fit_here, fit_moved, kept_by, kept_both, goes_own_at, goes_shared_at}
use Rattle.djq_union.proofs.UnionMembers.{goes_rest_at}
use Rattle.djq_union.proofs.cursor.UnionCursor.+advance_from.Goals as goal

pub move_at-requires-clause-fits : goal.move_at-requires-clause-fits
move_at-requires-clause-fits g t c =
    let l = g.M.Listing in
    fit_here l.has l.given l.fits (g.G.Members.members c.args.members.now) c.args.self.now c.args.i
    c.member-member.result.now c.member-member.ensures c.requires.fits

pub advance_from-requires : goal.advance_from-requires
advance_from-requires g t c κs within =
    let l = g.M.Listing in
    let ms = g.G.Members.members c.args.members.now in
    let low = c.if-i-count.false in
    let count = c.count.ensures.count in
    let falls : length ms - (c.args.i + 1) < length ms - c.args.i = omega (arith, low, count) in
    let later = fit_moved l.has l.given l.fits ms c.args.self.now c.move_at.new.self c.args.i
    c.member-member.result.now c.move_at.result c.move_at.new.out c.member-member.ensures
    c.requires.fits c.move_at.ensures.moves in
    search (rules, later, falls)

pub returns-then-not-move_at-clause-kept : goal.returns-then-not-move_at-clause-kept
returns-then-not-move_at-clause-kept g t c =
    let l = g.M.Listing in
    kept_both l.has l.given l.fits c.member-member.result.now c.args.self.now c.move_at.new.self
    c.advance_from.new.self c.args.i c.move_at.result c.move_at.new.out c.move_at.ensures.moves
    c.advance_from.ensures.kept

pub returns-then-not-move_at-clause-goes : goal.returns-then-not-move_at-clause-goes
returns-then-not-move_at-clause-goes g t c =
    let l = g.M.Listing in
    goes_rest_at l.has l.given l.fits (g.G.Members.members c.args.members.now) c.args.self.now
    c.move_at.new.self c.advance_from.new.self c.args.i c.member-member.result.now c.move_at.result
    c.advance_from.result c.move_at.new.out c.advance_from.new.out c.member-member.ensures
    c.requires.fits c.move_at.ensures.moves c.if-not-move_at.true c.advance_from.ensures.kept
    c.advance_from.ensures.goes

pub returns-then-not-has_from-clause-kept : goal.returns-then-not-has_from-clause-kept
returns-then-not-has_from-clause-kept g t c =
    let l = g.M.Listing in
    kept_by l.has l.given l.fits c.member-member.result.now c.args.self.now c.move_at.new.self
    c.args.i c.move_at.result c.move_at.new.out c.move_at.ensures.moves

pub returns-then-not-has_from-clause-goes : goal.returns-then-not-has_from-clause-goes
returns-then-not-has_from-clause-goes g t c =
    let l = g.M.Listing in
    goes_own_at l.has l.given l.fits (g.G.Members.members c.args.members.now) c.args.self.now
    c.move_at.new.self c.args.i c.member-member.result.now c.move_at.result c.has_from.result c.move_at.new.out
    c.member-member.ensures c.requires.fits c.move_at.ensures.moves c.if-not-move_at.false
    c.has_from.ensures.has c.if-not-has_from.true

pub advance_from-requires-2 : goal.advance_from-requires-2
advance_from-requires-2 g t c κs within =
    let l = g.M.Listing in
    let ms = g.G.Members.members c.args.members.now in
    let low = c.if-i-count.false in
    let count = c.count.ensures.count in
    let falls : length ms - (c.args.i + 1) < length ms - c.args.i = omega (arith, low, count) in
    let later = fit_moved l.has l.given l.fits ms c.args.self.now c.move_at.new.self c.args.i
    c.member-member.result.now c.move_at.result c.move_at.new.out c.member-member.ensures
    c.requires.fits c.move_at.ensures.moves in
    search (rules, later, falls)

pub returns-clause-kept : goal.returns-clause-kept
returns-clause-kept g t c =
    let l = g.M.Listing in
    kept_both l.has l.given l.fits c.member-member.result.now c.args.self.now c.move_at.new.self
    c.advance_from-2.new.self c.args.i c.move_at.result c.move_at.new.out c.move_at.ensures.moves
    c.advance_from-2.ensures.kept

pub returns-clause-goes : goal.returns-clause-goes
returns-clause-goes g t c =
    let l = g.M.Listing in
    goes_shared_at l.has l.given l.fits (g.G.Members.members c.args.members.now) c.args.self.now
    c.move_at.new.self c.advance_from-2.new.self c.args.i c.member-member.result.now
    c.move_at.result c.advance_from-2.result c.has_from.result c.move_at.new.out c.advance_from-2.new.out
    c.member-member.ensures c.requires.fits c.move_at.ensures.moves c.if-not-move_at.false
    c.has_from.ensures.has c.if-not-has_from.false c.advance_from-2.ensures.kept
    c.advance_from-2.ensures.goes
