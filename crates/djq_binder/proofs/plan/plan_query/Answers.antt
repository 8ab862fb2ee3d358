-- Rising sets with the variables of the numbered atoms and head are the query's own edges and head.
use Rattle.std.proofs.Common.{◌≡◌, ℕ, List, [], length, subst, ap, ◌∙◌, arith}
use Rattle.djq_protocol.specs.Hypergraph.{edges_of, head_of}
use Rattle.djq_protocol.specs.Variables.{variables_of}
use Rattle.djq_hypergraph.specs.JoinTree.{IsFreeConnex}
use Rattle.djq_tree.specs.Growing.{IsTreeOf}
use Rattle.djq_plan.specs.Plan.{IsRefusal}
use Rattle.djq_query.specs.Numbered.{labels}
use Rattle.djq_binder.proofs.Hypergraphs.{named_labels, edges_are, edges_long, head_is, head_covered}
use Rattle.djq_binder.proofs.plan.plan_query.Goals as goal

pub plan-requires-clause-some : goal.plan-requires-clause-some
plan-requires-clause-some c =
    let q = c.args.query.now in
    let e : c.in_ok-edges.edges ≡ edges_of q =
    edges_are c.args.catalog.now.relations q c.in_ok-numbered.numbered c.in_ok-edges.edges
    c.requires.sound c.in_ok-numbered.ensures c.within.ensures c.in_ok-edges.ensures.long
    c.rise.ensures c.in_ok-edges.ensures.edges in
    omega (
      arith,
      c.requires.some,
      ap (λ (es : List (List ℕ)). length es) e
          ∙ edges_long (length (variables_of q.atoms)) [] q.atoms,
    )

pub plan-requires-clause-head : goal.plan-requires-clause-head
plan-requires-clause-head c =
    head_covered c.args.catalog.now.relations c.args.query.now c.in_ok-numbered.numbered
    c.in_ok-edges.edges c.head_variables-head.result c.requires.sound c.in_ok-numbered.ensures
    c.in_ok-edges.ensures.edges c.head_variables-head.ensures

pub returns-in-Err-clause-refused : goal.returns-in-Err-clause-refused
returns-in-Err-clause-refused c =
    let q = c.args.query.now in
    let e : c.in_ok-edges.edges ≡ edges_of q =
    edges_are c.args.catalog.now.relations q c.in_ok-numbered.numbered c.in_ok-edges.edges
    c.requires.sound c.in_ok-numbered.ensures c.within.ensures c.in_ok-edges.ensures.long
    c.rise.ensures c.in_ok-edges.ensures.edges in
    let h : c.head_variables-head.result ≡ head_of q =
    head_is c.args.catalog.now.relations q c.in_ok-numbered.numbered
    c.head_variables-head.result c.requires.sound c.in_ok-numbered.ensures c.within.ensures
    c.rises.ensures c.head_variables-head.ensures in
    c.name_refusal.ensures q
    (ap labels c.variables.ensures
    ∙ named_labels c.args.catalog.now.relations q c.in_ok-numbered.numbered c.requires.sound c.in_ok-numbered.ensures)
    (subst (λ (f : List ℕ). IsRefusal (edges_of q) f c.in-Err.refusal) h
    (subst (λ (es : List (List ℕ)). IsRefusal es c.head_variables-head.result c.in-Err.refusal) e
    c.in-Err.ensures.refused))

pub returns-in-Ok-clause-planned : goal.returns-in-Ok-clause-planned
returns-in-Ok-clause-planned c =
    let q = c.args.query.now in
    let e : c.in_ok-edges.edges ≡ edges_of q =
    edges_are c.args.catalog.now.relations q c.in_ok-numbered.numbered c.in_ok-edges.edges
    c.requires.sound c.in_ok-numbered.ensures c.within.ensures c.in_ok-edges.ensures.long
    c.rise.ensures c.in_ok-edges.ensures.edges in
    let h : c.head_variables-head.result ≡ head_of q =
    head_is c.args.catalog.now.relations q c.in_ok-numbered.numbered
    c.head_variables-head.result c.requires.sound c.in_ok-numbered.ensures c.within.ensures
    c.rises.ensures c.head_variables-head.ensures in
    record {
      numbered = c.in_ok-numbered.ensures;
      connex = subst (λ (f : List ℕ). IsFreeConnex (edges_of q) f) h
          (subst (λ (es : List (List ℕ)). IsFreeConnex es c.head_variables-head.result) e
          c.in-Ok.ensures.connex);
      named = subst (λ (f : List ℕ). IsTreeOf (edges_of q) f c.in-Ok.tree) h
          (subst (λ (es : List (List ℕ)). IsTreeOf es c.head_variables-head.result c.in-Ok.tree) e
          c.in-Ok.ensures.plan.named);
    }
