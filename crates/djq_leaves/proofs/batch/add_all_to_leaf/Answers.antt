-- No table grows by more than the tuples that came, so a count by the later tables is one by the earlier ones.
use Rattle.std.proofs.Common.{true, length, sym, ◌∙◌, arith}
use Rattle.std.proofs.lemmas.Bool.{eqb-true, eqb-false}
use Rattle.djq_leaves.proofs.Batches.{none_gained}
use Rattle.djq_leaves.proofs.Costs.{additions_count, additions_flat}
use Rattle.djq_leaves.proofs.LeafUpdates.{lists_none}
use Rattle.djq_leaves.proofs.batch.add_all_to_leaf.Goals as goal

pub returns-clause-updates : goal.returns-clause-updates
returns-clause-updates g c =
    additions_count c.args.leaf c.args.tuples.now c.args.reducts.now c.add_leaf_many.new.reducts c.args.steps.now.update
    c.add_leaf_many.new.tally c.in_ok-add_leaf_many.ensures.gained c.in_ok-add_leaf_many.ensures.counted

pub returns-clause-flat : goal.returns-clause-flat
returns-clause-flat g c =
    additions_flat c.args.tuples.now c.args.reducts.now c.args.steps.now.update c.add_leaf_many.new.tally
    c.in_ok-add_leaf_many.ensures.flat

pub returns-then-is_empty-clause-gained : goal.returns-then-is_empty-clause-gained
returns-then-is_empty-clause-gained g c =
    none_gained c.args.tuples.now c.args.leaf c.args.reducts.now
    (eqb-true (length c.args.tuples.now) 0 (sym c.is_empty.ensures ∙ c.if-is_empty.true)) c.laws.ensures.sound
    c.requires.bare

pub returns-then-is_empty-clause-listed : goal.returns-then-is_empty-clause-listed
returns-then-is_empty-clause-listed g c =
    lists_none c.args.wanted true c.args.reducts.now (length c.args.reducts.now.tree.head) 1
    c.args.log.now c.args.steps.now.listing

pub returns-then-is_empty-clause-updates : goal.returns-then-is_empty-clause-updates
returns-then-is_empty-clause-updates g c = λ n b some most room bounds. omega arith

pub returns-then-is_empty-clause-flat : goal.returns-then-is_empty-clause-flat
returns-then-is_empty-clause-flat g c = λ k b room meets bounds. omega arith

pub add_all_and_tell-requires-clause-some : goal.add_all_and_tell-requires-clause-some
add_all_and_tell-requires-clause-some g c =
    let some = eqb-false (length c.args.tuples.now) 0 (sym c.is_empty.ensures ∙ c.if-is_empty.false) in
    omega arith
