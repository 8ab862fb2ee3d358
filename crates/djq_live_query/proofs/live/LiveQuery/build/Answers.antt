-- A planned query without a fault has a leaf for each atom, over its variables, and no tuples at first.
use Rattle.std.proofs.Common.{List, length, refl, sym, subst, ap, arith}
use Rattle.djq_tree.specs.Tree.{Tree}
use Rattle.djq_query.specs.declared.numbered.NumberedAtom.{NumberedAtom}
use Rattle.djq_query.specs.declared.numbered.NumberedComparison.{NumberedComparison}
use Rattle.djq_leaves.specs.Building.{AreBindable}
use Rattle.djq_live_query.proofs.BuiltQueries.{IsGiven, bindable, given_of, leaves_count, live_there, narrow_tree}
use Rattle.djq_live_query.proofs.BuiltQueries.{none_filled, suit_there}
use Rattle.djq_live_query.proofs.live.LiveQuery.build.Goals as goal

pub bind_atoms-requires : goal.bind_atoms-requires
bind_atoms-requires g c =
    let given : IsGiven c.args.catalog.now c.args.query c.args.planned.numbered
    c.args.planned.tree =
    given_of c.args.catalog.now c.args.query c.args.planned.numbered c.args.planned.tree
    c.args.planned c.laws.ensures c.requires.sound c.requires.planned
    refl refl c.within.ensures c.len-nodes.ensures.tree
    c.requires.constants in
    subst (λ (l : List NumberedAtom). AreBindable c.args.catalog.now.texts c.args.planned.tree
    c.comparisons.result.now l)
    (sym c.atoms.ensures)
    (subst (λ (l : List NumberedComparison). AreBindable c.args.catalog.now.texts
    c.args.planned.tree l c.args.planned.numbered.atoms)
    (sym c.comparisons.ensures)
    (bindable c.args.catalog.now c.args.query c.args.planned.numbered c.args.planned.tree
    given))

pub new-requires : goal.new-requires
new-requires g c =
    let given : IsGiven c.args.catalog.now c.args.query c.args.planned.numbered
    c.args.planned.tree =
    given_of c.args.catalog.now c.args.query c.args.planned.numbered c.args.planned.tree
    c.args.planned c.laws.ensures c.requires.sound c.requires.planned
    refl refl c.within.ensures c.len-nodes.ensures.tree
    c.requires.constants in
    narrow_tree c.args.catalog.now c.args.query c.args.planned.numbered c.args.planned.tree given

pub fill_leaves-requires-clause-leaves : goal.fill_leaves-requires-clause-leaves
fill_leaves-requires-clause-leaves g c =
    let given : IsGiven c.args.catalog.now c.args.query c.args.planned.numbered
    c.args.planned.tree =
    given_of c.args.catalog.now c.args.query c.args.planned.numbered c.args.planned.tree
    c.args.planned c.laws.ensures c.requires.sound c.requires.planned
    refl refl c.within.ensures c.len-nodes.ensures.tree
    c.requires.constants in
    omega (
      arith,
      leaves_count c.args.catalog.now c.args.query c.args.planned.numbered
          c.args.planned.tree given,
      ap (λ (l : List NumberedAtom). length l) c.atoms-2.ensures,
      ap (λ (t : Tree). t.leaves) c.in_ok-reducts.ensures.tree,
    )

pub fill_leaves-requires-clause-suit : goal.fill_leaves-requires-clause-suit
fill_leaves-requires-clause-suit g c =
    let given : IsGiven c.args.catalog.now c.args.query c.args.planned.numbered
    c.args.planned.tree =
    given_of c.args.catalog.now c.args.query c.args.planned.numbered c.args.planned.tree
    c.args.planned c.laws.ensures c.requires.sound c.requires.planned
    refl refl c.within.ensures c.len-nodes.ensures.tree
    c.requires.constants in
    suit_there c.args.catalog.now c.args.query c.args.planned.numbered c.args.planned.tree
    c.in_ok-reducts.reducts.tree c.atoms.result.now c.atoms-2.result.now
    c.comparisons.result.now c.in_ok-patterns.patterns.items c.deref.result.now given
    c.atoms.ensures c.comparisons.ensures c.atoms-2.ensures
    c.deref.ensures.value c.in_ok-reducts.ensures.tree c.in_ok-patterns.ensures.patterns

pub fill_leaves-requires-clause-empty : goal.fill_leaves-requires-clause-empty
fill_leaves-requires-clause-empty g c =
    none_filled c.args.catalog.now c.atoms-2.result.now c.deref.result.now
    c.in_ok-reducts.reducts c.in_ok-reducts.ensures.empty

pub returns-clause-live : goal.returns-clause-live
returns-clause-live g c =
    let given : IsGiven c.args.catalog.now c.args.query c.args.planned.numbered
    c.args.planned.tree =
    given_of c.args.catalog.now c.args.query c.args.planned.numbered c.args.planned.tree
    c.args.planned c.laws.ensures c.requires.sound c.requires.planned
    refl refl c.within.ensures c.len-nodes.ensures.tree
    c.requires.constants in
    live_there c.args.catalog.now c.args.query c.args.planned.numbered c.args.planned.tree
    c.atoms.result.now c.atoms-2.result.now c.comparisons.result.now
    c.in_ok-patterns.patterns.items c.deref.result.now c.in_ok-reducts.reducts
    c.fill_leaves.new.reducts c.in_ok-numbered.numbered c.new-2.result given c.atoms.ensures c.comparisons.ensures
    c.atoms-2.ensures c.deref.ensures.value c.in_ok-reducts.ensures.tree
    c.in_ok-patterns.ensures.long c.in_ok-patterns.ensures.patterns c.in_ok-fill_leaves.ensures
    c.laws-2.ensures.sound c.in_ok-numbered.ensures c.new-2.ensures
