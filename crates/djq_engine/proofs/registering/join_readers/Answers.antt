-- The lists behind the index are as they were, so a place comes last once in each list that it joins.
use Rattle.std.proofs.Common.{◌∙◌, ◌<◌, ◌++◌, ◌∷◌, [], ap, arith, cond, length, List, ℕ}
use Rattle.djq_store_spec.specs.Stale.{reads}
use Rattle.djq_model.specs.Data.{Bytes}
use Rattle.djq_database.specs.Catalog.{relation_at}
use Rattle.djq_engine.proofs.QueryPlaces.{join_more, join_whole, joined_some, list_read}
use Rattle.djq_engine.proofs.registering.join_readers.Goals as goal

pub loop-list-preserved : goal.loop-list-preserved
loop-list-preserved c =
    let low : c.loop-list.list < length c.loop-list.lists.items = omega (
      arith,
      c.loop-list-test.true,
      c.len-list-end.ensures,
      c.loop-list.lists.ok.0,
      c.args.lists.now.ok.0,
      c.loop-list.invariant.long,
    ) in
    let is = list_read c.loop-list.lists.items c.args.lists.now.items c.loop-list.list
    c.index_mut.result.now low c.index_mut.ensures.value
    (c.loop-list.invariant.rest c.loop-list.list (omega arith)) in
    join_more c.args.catalog.now.relations c.args.query.now c.args.at c.args.lists.now.items c.loop-list.lists.items
    c.loop-list.list c.join.new.list low c.loop-list.invariant.long c.loop-list.invariant.done
    c.loop-list.invariant.rest
    (c.in-Ok.ensures.ok
    ∙ ap (λ b. cond b (c.index_mut.result.now ++ c.args.at ∷ []) c.index_mut.result.now)
    (c.reads.ensures ∙ ap (λ (n : Bytes). reads c.args.query.now n) c.name-name.ensures)
    ∙ ap (λ (xs : List ℕ). cond
    (reads c.args.query.now (relation_at c.args.catalog.now.relations c.loop-list.list).name) (xs ++ c.args.at ∷ [])
    xs) is)

pub returns-in-Err-clause-err : goal.returns-in-Err-clause-err
returns-in-Err-clause-err c =
    let low : c.loop-list.list < length c.loop-list.lists.items = omega (
      arith,
      c.loop-list-test.true,
      c.len-list-end.ensures,
      c.loop-list.lists.ok.0,
      c.args.lists.now.ok.0,
      c.loop-list.invariant.long,
    ) in
    let is = list_read c.loop-list.lists.items c.args.lists.now.items c.loop-list.list
    c.index_mut.result.now low c.index_mut.ensures.value
    (c.loop-list.invariant.rest c.loop-list.list (omega arith)) in
    joined_some c.args.catalog.now.relations c.args.query.now c.args.at c.args.lists.now.items c.loop-list.lists.items
    c.loop-list.list c.join.new.list low c.loop-list.invariant.long c.loop-list.invariant.done
    c.loop-list.invariant.rest (c.in-Err.ensures.err ∙ is)

pub returns-clause-ok : goal.returns-clause-ok
returns-clause-ok c =
    join_whole c.args.catalog.now.relations c.args.query.now c.args.at c.args.lists.now.items c.loop-list.lists.items
    c.loop-list.list
    (omega (arith, c.loop-list-test.false, c.loop-list.auto.list-end, c.len-list-end.ensures, c.args.lists.now.ok.0))
    c.loop-list.invariant.long c.loop-list.invariant.done
