-- By the loop those before the index came; as they differ, the next is absent; refused, all that came go.
use Rattle.std.proofs.Common.{ℕ, List, take, subst, sym, ◌∙◌, arith}
use Rattle.std.proofs.lemmas.List.{take_all}
use Rattle.djq_reduct.specs.Tables.{entries_at}
use Rattle.djq_propagate.specs.Batches.{HaveCome}
use Rattle.djq_propagate.proofs.Batches.{read_as, come_none, come_more, come_refused, come_there, come_length}
use Rattle.djq_propagate.proofs.Batches.{next_absent, next_wide, back_kept, refused_counted}
use Rattle.djq_propagate.proofs.Additions.{one_come}
use Rattle.djq_propagate.proofs.PathMarks.{plain_refl, plain_trans, still_bare}
use Rattle.djq_propagate.proofs.Updates.{leaf_within, ready_leaf}
use Rattle.djq_propagate.proofs.many.insert_all.Goals as goal

pub loop-i-init : goal.loop-i-init
loop-i-init g c = record {
  come = come_none c.args.tree.now c.args.tables.now.items c.args.leaf c.args.tuples.now c.requires.reducts;
  unchanged = plain_refl c.args.tables.now.items;
  grows = λ meets j. omega arith;
  counted = omega arith;
}

pub insert_tuple-requires-clause-ready : goal.insert_tuple-requires-clause-ready
insert_tuple-requires-clause-ready g c = ready_leaf c.args.tree.now c.loop-i.tables.items c.args.leaf
    c.loop-i.invariant.come.sound c.requires.leaf

pub insert_tuple-requires-clause-absent : goal.insert_tuple-requires-clause-absent
insert_tuple-requires-clause-absent g c =
    next_absent c.args.tree.now c.args.tables.now.items c.loop-i.tables.items c.args.leaf c.loop-i.i _ c.args.tuples.now
    _ c.requires.fresh c.loop-i.invariant.come c.loop-i-test.true
    (read_as c.args.tuples.now c.loop-i.i c.index-tuples-i.result c.as_slice.result.now c.as_slice.ensures
    c.index-tuples-i.is)

pub insert_tuple-requires-clause-wide : goal.insert_tuple-requires-clause-wide
insert_tuple-requires-clause-wide g c =
    next_wide c.loop-i.i _ (entries_at c.args.tables.now.items c.args.leaf) c.args.tuples.now _ c.requires.fresh
    c.loop-i-test.true (read_as c.args.tuples.now c.loop-i.i c.index-tuples-i.result c.as_slice.result.now
    c.as_slice.ensures c.index-tuples-i.is)
    ∙ sym (c.loop-i.invariant.come.sound.family.keyed c.args.leaf
    (leaf_within c.args.tree.now c.args.leaf c.requires.reducts.family.is_tree c.requires.leaf)).width

pub insert_tuple-requires-clause-few : goal.insert_tuple-requires-clause-few
insert_tuple-requires-clause-few g c =
    let h = c.loop-i-test.true in
    let f = c.requires.few in
    omega (
      arith,
      come_length c.args.tree.now c.args.tables.now.items c.loop-i.tables.items c.args.leaf c.loop-i.i
          c.args.tuples.now c.loop-i.invariant.come (omega arith),
    )

pub insert_tuple-requires-clause-bare : goal.insert_tuple-requires-clause-bare
insert_tuple-requires-clause-bare g c = still_bare c.args.marked c.args.tables.now.items c.loop-i.tables.items
    c.loop-i.invariant.unchanged (λ e. c.requires.bare)

pub loop-i-preserved : goal.loop-i-preserved
loop-i-preserved g c = record {
  come = come_more c.args.tree.now c.args.tables.now.items c.loop-i.tables.items c.insert_tuple.new.tables.items
      c.args.leaf
      c.loop-i.i c.args.tuples.now _ c.requires.leaf c.loop-i-test.true
      (read_as c.args.tuples.now c.loop-i.i c.index-tuples-i.result c.as_slice.result.now c.as_slice.ensures
      c.index-tuples-i.is) c.loop-i.invariant.come c.in-Ok.ensures.ok;
  unchanged = plain_trans c.args.tables.now.items c.loop-i.tables.items c.insert_tuple.new.tables.items
      c.loop-i.invariant.unchanged c.insert_tuple.ensures.plain;
  grows = λ meets j. omega (
    arith,
    c.loop-i.invariant.grows meets j,
    one_come c.args.tree.now c.loop-i.tables.items c.insert_tuple.new.tables.items c.args.leaf _ meets
        c.loop-i.invariant.come.sound c.requires.leaf c.in-Ok.ensures.ok j,
  );
  counted = omega (arith, c.loop-i.invariant.counted, c.in-Ok.ensures.counted);
}

pub remove_all-requires-clause-reducts : goal.remove_all-requires-clause-reducts
remove_all-requires-clause-reducts g c =
    (come_refused c.args.tree.now c.args.tables.now.items c.loop-i.tables.items c.insert_tuple.new.tables.items
    c.args.leaf
    (take c.loop-i.i c.args.tuples.now) c.loop-i.invariant.come c.in-Err.ensures.refused).sound

pub remove_all-requires-clause-leaf : goal.remove_all-requires-clause-leaf
remove_all-requires-clause-leaf g c = c.requires.leaf

pub remove_all-requires-clause-count : goal.remove_all-requires-clause-count
remove_all-requires-clause-count g c = let h = c.loop-i-test.true in omega arith

pub remove_all-requires-clause-there : goal.remove_all-requires-clause-there
remove_all-requires-clause-there g c =
    come_there c.args.tree.now c.args.tables.now.items c.insert_tuple.new.tables.items c.args.leaf
    (take c.loop-i.i c.args.tuples.now)
    (come_refused c.args.tree.now c.args.tables.now.items c.loop-i.tables.items c.insert_tuple.new.tables.items
    c.args.leaf
    (take c.loop-i.i c.args.tuples.now) c.loop-i.invariant.come c.in-Err.ensures.refused)

pub returns-in-Err-clause-refused : goal.returns-in-Err-clause-refused
returns-in-Err-clause-refused g c =
    back_kept c.args.tree.now c.args.tables.now.items c.insert_tuple.new.tables.items c.remove_all.new.tables.items
    c.args.leaf
    (take c.loop-i.i c.args.tuples.now) c.requires.reducts
    (come_refused c.args.tree.now c.args.tables.now.items c.loop-i.tables.items c.insert_tuple.new.tables.items
    c.args.leaf
    (take c.loop-i.i c.args.tuples.now) c.loop-i.invariant.come c.in-Err.ensures.refused)
    c.remove_all.ensures.gone
    (plain_trans c.args.tables.now.items c.loop-i.tables.items c.insert_tuple.new.tables.items
    c.loop-i.invariant.unchanged
    c.insert_tuple.ensures.plain) c.remove_all.ensures.fewer c.requires.bare

pub returns-in-Err-clause-bounded : goal.returns-in-Err-clause-bounded
returns-in-Err-clause-bounded g c =
    λ n few room.
    refused_counted c.args.tree.now c.args.tables.now.items c.loop-i.tables.items c.insert_tuple.new.tables.items
    c.remove_all.new.tables.items c.args.leaf c.loop-i.i n c.args.tally.now c.loop-i.tally c.insert_tuple.new.tally
    c.remove_all.new.tally c.args.tuples.now c.requires.reducts
    c.loop-i.invariant.come c.in-Err.ensures.refused c.remove_all.ensures.gone c.loop-i-test.true few room
    c.loop-i.invariant.counted c.in-Err.ensures.bounded c.remove_all.ensures.counted

pub returns-clause-come : goal.returns-clause-come
returns-clause-come g c =
    let h = c.loop-i-test.false in
    subst (λ (us : List (List ℕ)). HaveCome c.args.tree.now c.args.tables.now.items c.loop-i.tables.items c.args.leaf
    us) (take_all c.loop-i.i c.args.tuples.now (omega arith)) c.loop-i.invariant.come

pub returns-clause-plain : goal.returns-clause-plain
returns-clause-plain g c = c.loop-i.invariant.unchanged

pub returns-clause-grows : goal.returns-clause-grows
returns-clause-grows g c = λ meets j. omega (
  arith,
  c.loop-i.invariant.grows meets j,
  c.loop-i.auto.i-end,
)

pub returns-clause-counted : goal.returns-clause-counted
returns-clause-counted g c = c.loop-i.invariant.counted
