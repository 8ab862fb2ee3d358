-- The first variable shared with those of one edge can be taken out; where none is shared, the edge has none.
use Rattle.std.specs.Prelude.{◌≡◌, ℕ, true}
use Rattle.std.proofs.Common.{sym, ◌∙◌, arith, inl, inr, ap}
use Rattle.std.proofs.lemmas.Bool.{cases_lt}
use Rattle.djq_hypergraph.specs.Hypergraph.{member, edge_at}
use Rattle.djq_hypergraph.proofs.JoinTrees.{read_at}
use Rattle.djq_plan.proofs.ReductionSteps.{vertex_step, no_vertex}
use Rattle.djq_plan.proofs.find.find_vertex.Goals as goal

pub returns-in-Some-clause-some : goal.returns-in-Some-clause-some
returns-in-Some-clause-some c =
    let is = read_at c.args.sets.now c.sets.edge c.index-sets-edge.result c.sets-test.true c.index-sets-edge.is in
    vertex_step c.args.sets.now c.sets.edge c.in-Some.variable c.index-sets-edge.result c.own_variables-own.result
    c.intersection-shared.result c.sets-test.true is c.own_variables-own.ensures c.intersection-shared.ensures
    c.in-Some.ensures

pub sets-preserved : goal.sets-preserved
sets-preserved c =
    let is = read_at c.args.sets.now c.sets.edge c.index-sets-edge.result c.sets-test.true c.index-sets-edge.is in
    λ i x low lies once.
    elim (cases_lt i c.sets.edge) [
      | inl before ↦ c.sets.invariant i x before lies once
      | inr last ↦
          let same : i ≡ c.sets.edge = omega arith in
          let here : member x (edge_at c.args.sets.now c.sets.edge)
          ≡ true = ap (λ (k : ℕ). member x (edge_at c.args.sets.now k)) (sym same) ∙ lies in
          no_vertex c.args.sets.now c.sets.edge c.index-sets-edge.result c.own_variables-own.result
          c.intersection-shared.result is c.own_variables-own.ensures c.intersection-shared.ensures
          c.in_default.ensures x here once
    ]
