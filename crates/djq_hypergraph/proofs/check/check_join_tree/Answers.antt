-- All links of a join tree fit behind those before, and as many that fit as there are edges are one.
use Rattle.std.specs.Prelude.{◌≡◌, ◌+◌, ◌++◌, ◌∷◌, [], ◌||◌, length, reverse, take, slice_index_or, ℕ, List, false}
use Rattle.std.specs.Prelude.{true, refl}
use Rattle.std.proofs.Common.{arith, sym, ap, ◌∙◌, subst}
use Rattle.std.proofs.lemmas.List.{take_more, take_all}
use Rattle.djq_hypergraph.specs.declared.join_tree.Link.{Link}
use Rattle.djq_hypergraph.specs.Hypergraph.{member}
use Rattle.djq_hypergraph.specs.JoinTree.{IsJoinTree}
use Rattle.djq_hypergraph.proofs.JoinTrees.{refused, length_of, all_fit, so_far_more, so_far_all, SoFar, read_at}
use Rattle.djq_hypergraph.proofs.JoinTrees.{seen_more, tree_moved}
use Rattle.djq_hypergraph.proofs.check.check_join_tree.Goals as goal

pub returns-then-links-sets : goal.returns-then-links-sets
returns-then-links-sets c =
    refused (IsJoinTree c.args.edges.now (reverse c.args.tree.now)) (λ t.
    let size = length_of c.args.edges.now c.args.tree.now t in
    let n = ap (λ (L : List (List ℕ)). length L) c.as_slice-sets.ensures in
    let m = ap (λ (L : List Link). length L) c.as_slice-links.ensures in
    c.if-links-sets.true (omega arith))

pub returns-then-not-link_fits : goal.returns-then-not-link_fits
returns-then-not-link_fits c =
    let sets = c.as_slice-sets.result.now in
    let links = c.as_slice-links.result.now in
    refused (IsJoinTree c.args.edges.now (reverse c.args.tree.now)) (λ t.
    let f = c.link_fits.ensures.1
    (all_fit sets links c.links.i (record { edge = 0; parent = 0 }) c.links-test.true
    (tree_moved c.args.edges.now sets c.args.tree.now links (sym c.as_slice-sets.ensures)
    (sym c.as_slice-links.ensures) t)) in
    let g : false ≡ true = sym c.if-not-link_fits.true ∙ f in
    absurd cc)

pub links-preserved : goal.links-preserved
links-preserved c =
    let sets = c.as_slice-sets.result.now in
    let links = c.as_slice-links.result.now in
    let i = c.links.i in
    let link = slice_index_or links i (record { edge = 0; parent = 0 }) in
    let fits = c.link_fits.ensures.0 c.if-not-link_fits.false in
    let more : take (i + 1) links
    ≡ take i links ++ link ∷ [] = take_more links i (record { edge = 0; parent = 0 }) c.links-test.true in
    let own = read_at sets link.edge c.index-sets-link.result fits.below c.index-sets-link.is in
    record {
      so_far = subst (λ (P : List Link). SoFar sets P) (sym more)
          (so_far_more sets (take i links) link c.links.invariant.so_far fits);
      seen = seen_more sets (take i links) (take (i + 1) links) link c.links.seen c.union-seen.result more
          c.links.invariant.seen
          (λ x. c.union-seen.ensures x ∙ ap (λ (e : List ℕ). member x c.links.seen || member x e) own);
    }

pub returns : goal.returns
returns c =
    let sets = c.as_slice-sets.result.now in
    let links = c.as_slice-links.result.now in
    let whole : take c.links.i links ≡ links = take_all c.links.i links c.links-test.false in
    let s : SoFar sets links = subst (λ (P : List Link). SoFar sets P) whole c.links.invariant.so_far in
    let t = so_far_all sets links s c.if-links-sets.false in (
      λ _. tree_moved sets c.args.edges.now links c.args.tree.now c.as_slice-sets.ensures c.as_slice-links.ensures t,
      λ
          _. refl,
    )
