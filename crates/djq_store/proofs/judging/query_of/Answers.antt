-- What is registered under the name is no union, so the engine has an id for it, and the query in its place.
use Rattle.djq_store.proofs.Lookups.{under_registered, none_impossible, types_are}
use Rattle.djq_live_query.proofs.HeadAnswers.{head_are as head_types_are}
use Rattle.djq_store.proofs.judging.query_of.Goals as goal

pub live-requires : goal.live-requires
live-requires c =
    let p = c.args.parts.now in
    under_registered p.engine c.laws.ensures p.unions.items p.order.items p.sessions.items
    p.affected.items c.requires.whole.listed c.args.name.now
    c.requires.known c.requires.query c.in-Some.id c.in-Some.ensures

pub unreachable-requires : goal.unreachable-requires
unreachable-requires c =
    let p = c.args.parts.now in
    none_impossible p.engine c.laws.ensures p.unions.items p.order.items p.sessions.items
    p.affected.items c.requires.whole.listed c.args.name.now
    c.requires.known c.requires.query (c.in-None.ensures)

pub returns : goal.returns
returns c =
    let p = c.args.parts.now in
    types_are p.engine c.laws.ensures p.unions.items p.order.items p.sessions.items p.affected.items
    c.requires.whole.listed c.args.name.now
    c.requires.known c.requires.query head_types_are c.in-Some.id c.live.result.now c.in-Some.ensures
    c.live.ensures.place
