-- The pass tells of each other variable whether all or some edges with this one have it, or one without.
use Rattle.std.proofs.Common.{refl, sym, ◌∙◌}
use Rattle.djq_hypergraph.specs.Flat.{IsFlatAt}
use Rattle.djq_hypergraph.proofs.JoinTrees.{read_at, refused}
use Rattle.djq_hypergraph.proofs.Labels.{compares_with, compares_without, compares_same, compares_all, not_nested}
use Rattle.djq_hypergraph.proofs.Labels.{nested_outside, nested_inside}
use Rattle.djq_hypergraph.proofs.flat.is_flat_at.Goals.{then-contains, else-contains}
use Rattle.djq_hypergraph.proofs.flat.is_flat_at.Goals as goal

pub edges-preserved : goal.edges-preserved
edges-preserved c =
    let edges = c.args.edges.now in
    let l = c.edges in
    let within = c.edges-test.true in
    let is = read_at edges l.i c.index-edges-i.result within c.index-edges-i.is in
    elim c.if-contains.branch [
      | then-contains w ↦
          compares_same _ _ _ _ _ _ _ _ _ (w.shared-is ∙ w.intersection-shared.ensures) w.near-is w.far-is
          (compares_with edges l.i c.index-edges-i.result c.args.all c.args.variable l.shared l.near l.far
          w.union-near.result within is (sym c.contains.ensures ∙ w.if-contains.true) l.invariant
          w.union-near.ensures)
      | else-contains w ↦
          compares_same _ _ _ _ _ _ _ _ _ w.shared-is w.near-is w.far-is
          (compares_without edges l.i c.index-edges-i.result c.args.all c.args.variable l.shared l.near l.far
          w.union-far.result within is (sym c.contains.ensures ∙ w.if-contains.false) l.invariant
          w.union-far.ensures)
    ]

pub returns-then-not-is_subset : goal.returns-then-not-is_subset
returns-then-not-is_subset c =
    let e = c.args.edges.now in
    let l = c.edges in
    refused (IsFlatAt e c.args.head c.args.variable)
    (not_nested e c.args.head c.args.all c.args.variable l.shared l.near l.far
    (compares_all e l.i c.args.all c.args.variable l.shared l.near l.far c.edges-test.false l.invariant) c.requires
    c.intersection.result c.is_subset.result c.intersection.ensures c.is_subset.ensures c.if-not-is_subset.true)

pub returns-then-not-contains : goal.returns-then-not-contains
returns-then-not-contains c =
    let e = c.args.edges.now in
    let l = c.edges in
    let flat = nested_outside e c.args.head c.args.all c.args.variable l.shared l.near l.far
    (compares_all e l.i c.args.all c.args.variable l.shared l.near l.far c.edges-test.false l.invariant) c.requires
    c.intersection.result c.is_subset.result c.intersection.ensures c.is_subset.ensures c.if-not-is_subset.false
    (sym c.contains-2.ensures ∙ c.if-not-contains.true) in
    (λ h. flat, λ f. refl)

pub returns : goal.returns
returns c =
    let e = c.args.edges.now in
    let l = c.edges in
    nested_inside e c.args.head c.args.all c.args.variable l.shared l.near l.far
    (compares_all e l.i c.args.all c.args.variable l.shared l.near l.far c.edges-test.false l.invariant) c.requires
    c.intersection.result c.intersection-2.result c.is_subset.result c.is_subset-2.result c.intersection.ensures
    c.is_subset.ensures c.if-not-is_subset.false (sym c.contains-2.ensures ∙ c.if-not-contains.false)
    c.intersection-2.ensures c.is_subset-2.ensures
