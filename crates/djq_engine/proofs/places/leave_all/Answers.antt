-- The lists behind the index are as they were, so in the next one places differ still.
use Rattle.std.proofs.Common.{◌∙◌, ap, sym, subst, arith, ◌<◌, length}
use Rattle.djq_engine.specs.Places.{places_without}
use Rattle.djq_reach.specs.Places.{AreOnce}
use Rattle.djq_engine.proofs.QueryPlaces.{list_read, left_more, left_whole}
use Rattle.djq_engine.proofs.places.leave_all.Goals as goal

pub leave_out-requires : goal.leave_out-requires
leave_out-requires c =
    let low : c.loop-list.list < length c.loop-list.lists.items = omega (
      arith,
      c.loop-list-test.true,
      c.len-list-end.ensures,
      c.loop-list.lists.ok.0,
      c.args.lists.now.ok.0,
      c.loop-list.invariant.long,
    ) in
    subst AreOnce
    (sym (list_read c.loop-list.lists.items c.args.lists.now.items c.loop-list.list
    c.index_mut.result.now low c.index_mut.ensures.value
    (c.loop-list.invariant.rest c.loop-list.list (omega arith)))) (c.requires c.loop-list.list)

pub loop-list-preserved : goal.loop-list-preserved
loop-list-preserved c =
    let low : c.loop-list.list < length c.loop-list.lists.items = omega (
      arith,
      c.loop-list-test.true,
      c.len-list-end.ensures,
      c.loop-list.lists.ok.0,
      c.args.lists.now.ok.0,
      c.loop-list.invariant.long,
    ) in
    let is = list_read c.loop-list.lists.items c.args.lists.now.items c.loop-list.list
    c.index_mut.result.now low c.index_mut.ensures.value
    (c.loop-list.invariant.rest c.loop-list.list (omega arith)) in
    left_more c.args.at c.args.lists.now.items c.loop-list.lists.items c.loop-list.list
    c.leave_out.new.places low c.loop-list.invariant.long c.loop-list.invariant.done
    c.loop-list.invariant.rest (c.leave_out.ensures ∙ ap (places_without c.args.at) is)

pub returns : goal.returns
returns c = left_whole c.args.at c.args.lists.now.items c.loop-list.lists.items c.loop-list.list
    (omega (arith, c.loop-list-test.false, c.loop-list.auto.list-end, c.len-list-end.ensures, c.args.lists.now.ok.0))
    c.loop-list.invariant.long c.loop-list.invariant.done
