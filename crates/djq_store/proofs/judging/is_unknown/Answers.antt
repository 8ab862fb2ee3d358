-- Under a name stands a union in a slot or a query of the engine; where neither is found nothing is there.
use Rattle.std.proofs.Common.{sym, ◌∙◌}
use Rattle.djq_store.proofs.Lookups.{union_known, query_unknown}
use Rattle.djq_store.proofs.Places.{unsought_none, unsought_some}
use Rattle.djq_store.proofs.judging.is_unknown.Goals as goal

pub returns-then-is_none : goal.returns-then-is_none
returns-then-is_none c =
    let p = c.args.parts.now in
    query_unknown p.engine c.laws.ensures p.unions.items p.order.items p.sessions.items p.affected.items
    c.requires.listed c.args.name.now
    (unsought_none p.unions.items c.as_slice.result.now c.args.name.now c.as_slice.ensures.value c.find_union.result
    c.find_union.ensures c.is_none.result c.is_none.ensures c.if-is_none.true)
    c.query_id.result c.query_id.ensures c.is_none-then-is_none.result c.is_none-then-is_none.ensures

pub returns-else-is_none : goal.returns-else-is_none
returns-else-is_none c =
    let p = c.args.parts.now in
    let f = unsought_some p.unions.items c.as_slice.result.now c.args.name.now c.as_slice.ensures.value
    c.find_union.result c.find_union.ensures c.is_none.result c.is_none.ensures c.if-is_none.false in
    c.if-is_none.false ∙ sym
    (union_known p.engine c.laws.ensures p.unions.items p.order.items p.sessions.items p.affected.items
    c.requires.listed c.args.name.now f.0 f.1)
