-- The variables seen are those of the links before, so what is shared has to lie in the parent.
use Rattle.std.specs.Prelude.{◌<◌, length, ℕ, List}
use Rattle.std.proofs.Common.{arith, rules, sym, ap, ◌∙◌}
use Rattle.std.proofs.lemmas.Bool.{eqb-false}
use Rattle.djq_hypergraph.specs.Checking.{FitsTree}
use Rattle.djq_hypergraph.specs.Hypergraph.{subset, intersection, edge_at}
use Rattle.djq_hypergraph.proofs.JoinTrees.{any_some, any_none, last_test, refused, read_at}
use Rattle.djq_hypergraph.proofs.check.link_fits.Goals as goal

pub returns-then-stands : goal.returns-then-stands
returns-then-stands c =
    refused (FitsTree c.args.edges.now c.args.before.now c.args.link) (λ f.
    let some = any_some c.args.link.edge c.args.before.now (sym c.stands.ensures ∙ c.if-stands.true) in
    let none = f.fresh in
    omega arith)

pub returns-then-not-stands : goal.returns-then-not-stands
returns-then-not-stands c =
    refused (FitsTree c.args.edges.now c.args.before.now c.args.link) (λ f.
    let none = any_none c.args.link.parent c.args.before.now (sym c.stands-2.ensures ∙ c.if-not-stands.true) in
    let more = eqb-false (length c.args.before.now) 0 (sym c.is_empty.ensures ∙ c.if-is_empty.false) in
    let some = f.under (omega arith) in
    omega arith)

pub offset_bounds-edges-link-2 : goal.offset_bounds-edges-link-2
offset_bounds-edges-link-2 c =
    let low : c.args.link.parent < length c.args.edges.now = c.requires.below c.args.link.parent
    (any_some c.args.link.parent c.args.before.now (sym c.stands-2.ensures ∙ c.if-not-stands.false)) in
    search rules

pub bounds-edges-link-2 : goal.bounds-edges-link-2
bounds-edges-link-2 c = c.requires.below c.args.link.parent
    (any_some c.args.link.parent c.args.before.now (sym c.stands-2.ensures ∙ c.if-not-stands.false))

pub returns : goal.returns
returns c =
    let under = any_some c.args.link.parent c.args.before.now (sym c.stands-2.ensures ∙ c.if-not-stands.false) in
    let low = c.requires.below c.args.link.parent under in
    let more = eqb-false (length c.args.before.now) 0 (sym c.is_empty.ensures ∙ c.if-is_empty.false) in
    let below : c.args.link.edge < length c.args.edges.now = omega arith in
    let own = read_at c.args.edges.now c.args.link.edge c.index-edges-link.result below c.index-edges-link.is in
    let over = read_at c.args.edges.now c.args.link.parent c.index-edges-link-2.result low c.index-edges-link-2.is in
    last_test c.args.edges.now c.args.before.now c.args.link c.args.seen c.is_subset.result c.requires.seen below
    (any_none c.args.link.edge c.args.before.now (sym c.stands.ensures ∙ c.if-stands.false))
    (omega arith) under
    (c.is_subset.ensures ∙ ap (λ (e : List ℕ). subset e c.index-edges-link-2.result)
    (c.intersection-shared.ensures ∙ ap (λ (e : List ℕ). intersection e c.args.seen) own)
    ∙ ap (λ (f : List ℕ). subset (intersection (edge_at c.args.edges.now c.args.link.edge) c.args.seen) f) over)
