-- There are as many patterns as atoms seen, so the next one stands at its atom's place, over its leaf's label.
use Rattle.std.proofs.Common.{List, ℕ, length, refl, sym, subst, ap, arith}
use Rattle.std.proofs.lemmas.List.{length_push}
use Rattle.std.proofs.lemmas.Option.{slice_get_read}
use Rattle.djq_query.specs.Pattern.{Shape}
use Rattle.djq_leaves.specs.Building.{ArePatternsOf}
use Rattle.djq_leaves.specs.Leaves.{IsPatternOf}
use Rattle.djq_leaves.proofs.LeafRows.{patterns_push}
use Rattle.djq_leaves.proofs.bind.bind_atoms.Goals as goal

pub atoms-preserved : goal.atoms-preserved
atoms-preserved c =
    let texts = c.args.catalog.now.texts in
    let labels = c.args.tree.now.labels in
    let atoms = c.args.atoms.now in
    let ks = c.args.comparisons.now in
    let m = c.index-atoms-j.result in
    let p = c.in_ok-bind_atom.field-0 in
    let pushed = c.in_ok-push.ensures.items in
    record {
      long = omega (
        arith,
        ap (λ (ps : List Shape). length ps) pushed,
        length_push c.atoms.patterns.items p,
        c.atoms.invariant.long,
      );
      are = subst (λ (ps : List Shape). ArePatternsOf texts labels ks atoms ps) (sym pushed)
          (patterns_push texts labels ks atoms c.atoms.patterns.items c.atoms.j m p
          c.atoms.invariant.are c.atoms.invariant.long c.atoms-test.true
          (slice_get_read atoms (length atoms) c.atoms.j m refl c.atoms-test.true
          c.index-atoms-j.is)
          (subst (λ (l : List ℕ). IsPatternOf texts l ks m p) c.label-label.ensures
          c.in_ok-bind_atom.ensures));
    }
