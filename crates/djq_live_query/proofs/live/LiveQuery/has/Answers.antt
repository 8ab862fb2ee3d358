-- A tuple that suits is as wide as the head, so its cells have room; an answer's texts are all known.
use Rattle.std.proofs.Common.{◌≡◌, ◌≤◌, length, ap, arith}
use Rattle.djq_live_query.specs.Live.{Live}
use Rattle.djq_live_query.proofs.HeadTuples.{suits_long, tells_answer, tells_unknown, has_counted}
use Rattle.djq_live_query.proofs.live.LiveQuery.has.Goals as goal

pub cells-requires : goal.cells-requires
cells-requires g c =
    let long : length c.args.tuple.now ≡ length c.args.self.now.numbered.head =
    suits_long c.args.catalog.now c.args.self.now c.args.tuple.now c.requires.live
    c.requires.suits in
    let same = ap (λ (l : Live). length l.numbered.head) c.self.view_is in
    let few : length c.self.inside.numbered.head ≤ 16 = c.within.ensures.narrow in
    let all : length c.args.tuple.now ≤ 16 = omega arith in
    all

pub returns-in_default-clause-tells : goal.returns-in_default-clause-tells
returns-in_default-clause-tells g c =
    tells_unknown c.args.catalog.now c.args.self.now c.args.tuple.now c.requires.live
    c.in_default.ensures.tells

pub returns-clause-tells : goal.returns-clause-tells
returns-clause-tells g c =
    tells_answer c.args.catalog.now _ c.args.self.now c.args.tuple.now c.head.result.now
    c.in-Some.cells c.has_cells.result c.self.view_is c.requires.live c.requires.suits
    c.in-Some.ensures.tells.0 c.in-Some.ensures.tells.1 c.head.ensures c.has_cells.ensures.exact

pub returns-clause-counted : goal.returns-clause-counted
returns-clause-counted g c =
    let leaves = has_counted c.args.catalog.now _ c.args.self.now c.self.view_is c.requires.live in
    let counted = c.has_cells.ensures.counted in
    omega arith
