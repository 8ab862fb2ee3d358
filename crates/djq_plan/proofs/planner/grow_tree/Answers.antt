-- A stuck stage says that the query is neither free-connex nor flat; two ends make a plan, in Deciding.
use Rattle.std.proofs.Common.{sym, subst}
use Rattle.djq_tree.specs.Tree.{Tree}
use Rattle.djq_plan.specs.Plan.{IsPlan}
use Rattle.djq_plan.proofs.GrownTrees.{stuck_first, stuck_second, plan_of}
use Rattle.djq_plan.proofs.FlatQueries.{flat_first, flat_second}
use Rattle.djq_plan.proofs.planner.grow_tree.Goals as goal

pub returns-then-not-branch-clause-stuck : goal.returns-then-not-branch-clause-stuck
returns-then-not-branch-clause-stuck c =
    λ none. stuck_first c.args.edges.now c.args.head c.in_ok-growing.growing c.run_first.new.self
    c.in_ok-run_first.field-0 c.in_ok-growing.ensures c.in_ok-run_first.ensures c.if-not-branch.true

pub finish-requires : goal.finish-requires
finish-requires c =
    (plan_of c.args.edges.now c.args.head c.in_ok-growing.growing c.run_first.new.self c.grow_out.new.self
    c.in_ok-run_first.field-0 c.in-Some.out.items c.len.result c.len-second_stage.result
    c.requires.some c.requires.head c.rise.ensures c.rises.ensures c.in_ok-growing.ensures c.in_ok-run_first.ensures
    c.if-not-branch.false
    (rw c.in-Some.is at c.in_ok-out.ensures) c.len.ensures c.len-second_stage.ensures).0.tree

pub returns-in-Some-clause-connex : goal.returns-in-Some-clause-connex
returns-in-Some-clause-connex c =
    (plan_of c.args.edges.now c.args.head c.in_ok-growing.growing c.run_first.new.self c.grow_out.new.self
    c.in_ok-run_first.field-0 c.in-Some.out.items c.len.result c.len-second_stage.result
    c.requires.some c.requires.head c.rise.ensures c.rises.ensures c.in_ok-growing.ensures c.in_ok-run_first.ensures
    c.if-not-branch.false
    (rw c.in-Some.is at c.in_ok-out.ensures) c.len.ensures c.len-second_stage.ensures).1

pub returns-in-Some-clause-plan : goal.returns-in-Some-clause-plan
returns-in-Some-clause-plan c =
    subst (λ (t : Tree). IsPlan c.args.edges.now c.args.head t) (sym c.finish.ensures)
    (plan_of c.args.edges.now c.args.head c.in_ok-growing.growing c.run_first.new.self c.grow_out.new.self
    c.in_ok-run_first.field-0 c.in-Some.out.items c.len.result c.len-second_stage.result
    c.requires.some c.requires.head c.rise.ensures c.rises.ensures c.in_ok-growing.ensures c.in_ok-run_first.ensures
    c.if-not-branch.false
    (rw c.in-Some.is at c.in_ok-out.ensures) c.len.ensures c.len-second_stage.ensures).0

pub returns-in-None-clause-stuck : goal.returns-in-None-clause-stuck
returns-in-None-clause-stuck c =
    λ none. stuck_second c.args.edges.now c.args.head c.in_ok-growing.growing c.run_first.new.self c.grow_out.new.self
    c.in_ok-run_first.field-0
    c.requires.some c.in_ok-growing.ensures c.in_ok-run_first.ensures c.if-not-branch.false
    (rw c.in-None.is at c.in_ok-out.ensures)

pub returns-then-not-branch-clause-flat : goal.returns-then-not-branch-clause-flat
returns-then-not-branch-clause-flat c =
    λ none. flat_first c.args.edges.now c.args.head c.in_ok-growing.growing c.run_first.new.self
    c.in_ok-run_first.field-0 c.requires.some c.in_ok-growing.ensures c.in_ok-run_first.ensures c.if-not-branch.true

pub returns-in-None-clause-flat : goal.returns-in-None-clause-flat
returns-in-None-clause-flat c =
    λ none. flat_second c.args.edges.now c.args.head c.in_ok-growing.growing c.run_first.new.self c.grow_out.new.self
    c.in_ok-run_first.field-0
    c.requires.some c.in_ok-growing.ensures c.in_ok-run_first.ensures c.if-not-branch.false
    (rw c.in-None.is at c.in_ok-out.ensures)
