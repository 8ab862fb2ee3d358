-- An edge with a first variable gives it a degree; one without is empty, so no degree grows by it.
use Rattle.djq_hypergraph.proofs.JoinTrees.{read_at}
use Rattle.djq_plan.proofs.ReductionSteps.{variable_of, bare_more}
use Rattle.djq_plan.proofs.find.find_variable.Goals as goal

pub returns-in-Some-clause-some : goal.returns-in-Some-clause-some
returns-in-Some-clause-some c =
    variable_of c.args.sets.now c.sets.i c.in-Some.variable c.index-sets-i.result c.sets-test.true
    (read_at c.args.sets.now c.sets.i c.index-sets-i.result c.sets-test.true c.index-sets-i.is) c.in-Some.ensures

pub sets-preserved : goal.sets-preserved
sets-preserved c =
    bare_more c.args.sets.now c.sets.i c.index-sets-i.result c.sets-test.true
    (read_at c.args.sets.now c.sets.i c.index-sets-i.result c.sets-test.true c.index-sets-i.is) c.in_default.ensures
    c.sets.invariant
