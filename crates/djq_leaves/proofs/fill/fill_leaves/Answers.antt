-- Leaves from the index on are as they were, so the next is empty and its label is that of its atom.
use Rattle.std.proofs.Common.{◌<◌, length, refl, sym, subst, arith}
use Rattle.std.proofs.lemmas.Option.{slice_get_read}
use Rattle.std.specs.Prelude.{slice_index_or}
use Rattle.djq_query.specs.declared.numbered.NumberedAtom.{NumberedAtom}
use Rattle.djq_tree.specs.Labels.{label_at}
use Rattle.djq_tree.specs.Tree.{Tree}
use Rattle.djq_leaves.specs.Building.{SuitsRelation, IsFilled}
use Rattle.djq_leaves.proofs.Fills.{step_filled}
use Rattle.djq_leaves.proofs.fill.fill_leaves.Goals as goal

pub fill_leaf-requires-clause-suits : goal.fill_leaf-requires-clause-suits
fill_leaf-requires-clause-suits g c =
    let j = c.atoms.j in
    let m = c.index-atoms-j.result in
    let p = c.index-patterns-j.result in
    let low : j < length c.args.patterns.now =
    omega (arith, c.atoms-test.true, c.requires.long) in
    subst (λ (t : Tree). SuitsRelation c.args.catalog.now (label_at t.labels j)
    (slice_index_or c.args.atoms.now j m).relation p)
    (sym c.atoms.invariant.tree)
    (subst (λ (a : NumberedAtom). SuitsRelation c.args.catalog.now
    (label_at c.args.reducts.now.tree.labels j) a.relation p) c.index-atoms-j.is
    (c.requires.suit j m p
    (slice_get_read c.args.atoms.now (length c.args.atoms.now) j m refl c.atoms-test.true
    c.index-atoms-j.is)
    (slice_get_read c.args.patterns.now (length c.args.patterns.now) j p refl low
    c.index-patterns-j.is)))

pub atoms-preserved : goal.atoms-preserved
atoms-preserved g c =
    let j = c.atoms.j in
    let m = c.index-atoms-j.result in
    let p = c.index-patterns-j.result in
    let low : j < length c.args.patterns.now =
    omega (arith, c.atoms-test.true, c.requires.long) in
    step_filled c.args.catalog.now c.args.atoms.now c.args.patterns.now j m p
    c.args.reducts.now c.atoms.reducts c.fill_leaf.new.reducts c.requires.leaves
    c.atoms-test.true
    (slice_get_read c.args.atoms.now (length c.args.atoms.now) j m refl c.atoms-test.true
    c.index-atoms-j.is)
    (slice_get_read c.args.patterns.now (length c.args.patterns.now) j p refl low
    c.index-patterns-j.is)
    c.atoms.invariant
    (subst (λ (a : NumberedAtom). IsFilled c.args.catalog.now a.relation p j c.atoms.reducts
    c.fill_leaf.new.reducts) (sym c.index-atoms-j.is) c.in_ok-fill_leaf.ensures)
