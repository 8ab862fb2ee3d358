-- By the loop those before the index went; as the tuples differ, the next one is still in the leaf.
use Rattle.std.proofs.Common.{◌≡◌, ℕ, take, subst, arith}
use Rattle.djq_propagate.specs.Batches.{HaveGone}
use Rattle.djq_propagate.proofs.Batches.{read_as, gone_none, gone_more, next_held}
use Rattle.djq_propagate.proofs.PathMarks.{fewer_refl, fewer_trans}
use Rattle.djq_propagate.proofs.Updates.{ready_leaf}
use Rattle.djq_propagate.proofs.many.remove_all.Goals as goal

pub loop-i-init : goal.loop-i-init
loop-i-init g c = record {
  gone = gone_none c.args.tree.now c.args.tables.now.items c.args.leaf c.args.tuples.now c.requires.reducts;
  lesser
      = fewer_refl c.args.tables.now.items;
  counted = omega arith;
}

pub find_and_remove-requires-clause-ready : goal.find_and_remove-requires-clause-ready
find_and_remove-requires-clause-ready g c = ready_leaf c.args.tree.now c.loop-i.tables.items c.args.leaf
    c.loop-i.invariant.gone.sound c.requires.leaf

pub find_and_remove-requires-clause-there : goal.find_and_remove-requires-clause-there
find_and_remove-requires-clause-there g c =
    next_held c.args.tree.now c.args.tables.now.items c.loop-i.tables.items c.args.leaf c.loop-i.i c.args.count
    c.args.tuples.now _ c.requires.there c.loop-i.invariant.gone c.loop-i-test.true c.requires.count
    (read_as c.args.tuples.now c.loop-i.i c.index-tuples-i.result c.as_slice.result.now c.as_slice.ensures
    c.index-tuples-i.is)

pub loop-i-preserved : goal.loop-i-preserved
loop-i-preserved g c = record {
  gone = gone_more c.args.tree.now c.args.tables.now.items c.loop-i.tables.items c.find_and_remove.new.tables.items
      c.args.leaf c.loop-i.i c.args.tuples.now _ c.requires.leaf
      (let h = c.loop-i-test.true in let n = c.requires.count in omega arith)
      (read_as c.args.tuples.now c.loop-i.i c.index-tuples-i.result c.as_slice.result.now c.as_slice.ensures
      c.index-tuples-i.is) c.loop-i.invariant.gone c.find_and_remove.ensures.died;
  lesser = fewer_trans c.args.tables.now.items c.loop-i.tables.items c.find_and_remove.new.tables.items
      c.loop-i.invariant.lesser c.find_and_remove.ensures.fewer;
  counted = omega (arith, c.loop-i.invariant.counted, c.find_and_remove.ensures.counted);
}

pub returns-clause-gone : goal.returns-clause-gone
returns-clause-gone g c =
    let h = c.loop-i-test.false in
    let x = c.loop-i.auto.i-end in
    let e : c.loop-i.i ≡ c.args.count = omega arith in
    subst (λ (k : ℕ). HaveGone c.args.tree.now c.args.tables.now.items c.loop-i.tables.items c.args.leaf
    (take k c.args.tuples.now)) e c.loop-i.invariant.gone

pub returns-clause-fewer : goal.returns-clause-fewer
returns-clause-fewer g c = c.loop-i.invariant.lesser

pub returns-clause-counted : goal.returns-clause-counted
returns-clause-counted g c = c.loop-i.invariant.counted
