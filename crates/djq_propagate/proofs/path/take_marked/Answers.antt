-- The first marked tuple lies in the leaf, so each round makes the leaf shorter until it has no mark.
use Rattle.std.proofs.Common.{ℕ, List, length, ap, sym, subst, ◌∙◌, arith}
use Rattle.djq_index.specs.Table.{IsAt}
use Rattle.djq_index.specs.Entries.{Entry, marks, head_at}
use Rattle.djq_index.proofs.Groups.{removed_length}
use Rattle.djq_reduct.specs.Tables.{entries_at}
use Rattle.djq_propagate.specs.Sizes.{size}
use Rattle.djq_propagate.specs.Updates.{steps}
use Rattle.djq_propagate.specs.Walks.{RemovedUpwards}
use Rattle.djq_propagate.proofs.Removals.{mark_gone, size_done, size_gone, size_next}
use Rattle.djq_propagate.proofs.Gains.{width_narrow}
use Rattle.djq_propagate.proofs.PathMarks.{head_none}
use Rattle.djq_propagate.proofs.Walks.{has_table, as_live}
use Rattle.djq_propagate.proofs.Families.{family_read, marks_read, length_read}
use Rattle.djq_propagate.proofs.Updates.{leaf_within, ready_leaf, taking_none, taking_more, taking_done, no_mark}
use Rattle.djq_propagate.proofs.Updates.{no_entry, first_mark}
use Rattle.djq_propagate.proofs.path.take_marked.Goals as goal

pub index-requires : goal.index-requires
index-requires g c =
    omega (
      arith,
      has_table c.args.tree.now c.args.tables.now.items c.args.leaf c.requires.reducts.family
          (leaf_within c.args.tree.now c.args.leaf c.requires.reducts.family.is_tree c.requires.leaf),
      c.args.tables.now.ok.0,
    )

pub loop-done-init : goal.loop-done-init
loop-done-init g c =
    record {
      taking = taking_none c.args.tree.now c.args.tables.now.items c.args.leaf c.requires.reducts;
      few = omega
          arith;
      gone = omega arith;
      flat = λ meets. omega arith;
      counted = omega arith;
    }

pub index-requires-in-loop-done : goal.index-requires-in-loop-done
index-requires-in-loop-done g c =
    omega (
      arith,
      has_table c.args.tree.now c.loop-done.tables.items c.args.leaf c.loop-done.invariant.taking.sound.family
          (leaf_within c.args.tree.now c.args.leaf c.requires.reducts.family.is_tree c.requires.leaf),
      c.loop-done.tables.ok.0,
    )

pub remove_tuple-requires-clause-ready : goal.remove_tuple-requires-clause-ready
remove_tuple-requires-clause-ready g c =
    ready_leaf c.args.tree.now c.loop-done.tables.items c.args.leaf c.loop-done.invariant.taking.sound c.requires.leaf

pub read_at-requires-clause-within : goal.read_at-requires-clause-within
read_at-requires-clause-within g c =
    has_table c.args.tree.now c.loop-done.tables.items c.args.leaf c.loop-done.invariant.taking.sound.family
    (leaf_within c.args.tree.now c.args.leaf c.requires.reducts.family.is_tree c.requires.leaf)

pub read_at-requires-clause-narrow : goal.read_at-requires-clause-narrow
read_at-requires-clause-narrow g c =
    width_narrow c.args.tree.now c.loop-done.tables.items c.args.leaf c.loop-done.invariant.taking.sound.family
    (leaf_within c.args.tree.now c.args.leaf c.requires.reducts.family.is_tree c.requires.leaf)

pub read_at-requires-clause-live : goal.read_at-requires-clause-live
read_at-requires-clause-live g c =
    let m = first_mark (entries_at c.loop-done.tables.items c.args.leaf) c.in-Some.place
    (sym (c.first_marked.ensures.found ∙ ap (λ (es : List Entry). head_at es)
    (marks_read (family_read c.args.tree.now c.loop-done.tables.items c.args.leaf c.index-in-loop-done.result.now
    c.loop-done.invariant.taking.sound.family
    (leaf_within c.args.tree.now c.args.leaf c.requires.reducts.family.is_tree c.requires.leaf)
    c.index-in-loop-done.ensures))) ∙ c.in-Some.is) in
    as_live (entries_at c.loop-done.tables.items c.args.leaf) c.in-Some.place m.tuple m.is_at

pub remove_tuple-requires-clause-lies : goal.remove_tuple-requires-clause-lies
remove_tuple-requires-clause-lies g c =
    let m = first_mark (entries_at c.loop-done.tables.items c.args.leaf) c.in-Some.place
    (sym (c.first_marked.ensures.found ∙ ap (λ (es : List Entry). head_at es)
    (marks_read (family_read c.args.tree.now c.loop-done.tables.items c.args.leaf c.index-in-loop-done.result.now
    c.loop-done.invariant.taking.sound.family
    (leaf_within c.args.tree.now c.args.leaf c.requires.reducts.family.is_tree c.requires.leaf)
    c.index-in-loop-done.ensures))) ∙ c.in-Some.is) in
    subst (λ (u : List ℕ). IsAt (entries_at c.loop-done.tables.items c.args.leaf) c.in-Some.place u)
    (sym (c.as_slice.ensures ∙ c.read_at.ensures.tuple m.tuple m.is_at)) m.is_at

pub loop-done-smaller : goal.loop-done-smaller
loop-done-smaller g c =
    let h = c.loop-done-test.true in
    omega arith

pub loop-done-preserved : goal.loop-done-preserved
loop-done-preserved g c =
    let m = first_mark (entries_at c.loop-done.tables.items c.args.leaf) c.in-Some.place
    (sym (c.first_marked.ensures.found ∙ ap (λ (es : List Entry). head_at es)
    (marks_read (family_read c.args.tree.now c.loop-done.tables.items c.args.leaf c.index-in-loop-done.result.now
    c.loop-done.invariant.taking.sound.family
    (leaf_within c.args.tree.now c.args.leaf c.requires.reducts.family.is_tree c.requires.leaf)
    c.index-in-loop-done.ensures))) ∙ c.in-Some.is) in
    let died = subst (λ (u : List ℕ). RemovedUpwards c.args.tree.now c.loop-done.tables.items
    c.remove_tuple.new.tables.items c.args.leaf
    u) (c.as_slice.ensures ∙ c.read_at.ensures.tuple m.tuple m.is_at) c.remove_tuple.ensures.died in
    record {
      taking = taking_more c.args.tree.now c.args.tables.now.items c.loop-done.tables.items
          c.remove_tuple.new.tables.items
          c.args.leaf m.tuple c.requires.leaf c.loop-done.invariant.taking died c.remove_tuple.ensures.fewer m.some;
      few = omega (
        arith,
        c.loop-done.invariant.few,
        removed_length (entries_at c.loop-done.tables.items c.args.leaf)
            (entries_at c.remove_tuple.new.tables.items c.args.leaf) m.tuple died.loses,
      );
      gone = omega (
        arith,
        c.loop-done.invariant.gone,
        mark_gone c.args.tree.now c.loop-done.tables.items c.remove_tuple.new.tables.items c.args.leaf m.tuple
            c.loop-done.invariant.taking.sound died c.remove_tuple.ensures.fewer m.some,
      );
      flat = λ meets. size_next c.loop-done._done
          (steps c.args.tree.now.nodes c.args.leaf (length c.args.tree.now.nodes)) (size c.args.tables.now.items)
          (size c.loop-done.tables.items) (size c.remove_tuple.new.tables.items)
          (c.loop-done.invariant.flat meets)
          (size_gone c.args.tree.now c.loop-done.tables.items c.remove_tuple.new.tables.items c.args.leaf m.tuple meets
          c.loop-done.invariant.taking.sound c.requires.leaf died);
      counted = omega (
        arith,
        c.loop-done.invariant.counted,
        c.remove_tuple.ensures.counted,
        c.first_marked.ensures.counted,
      );
    }

pub returns-in-None-clause-taken : goal.returns-in-None-clause-taken
returns-in-None-clause-taken g c =
    taking_done c.args.tree.now c.args.tables.now.items c.loop-done.tables.items c.args.leaf
    c.loop-done.invariant.taking
    (λ v. no_mark (entries_at c.loop-done.tables.items c.args.leaf) v
    (head_none (marks (entries_at c.loop-done.tables.items c.args.leaf))
    (sym (c.first_marked.ensures.found ∙ ap (λ (es : List Entry). head_at es)
    (marks_read (family_read c.args.tree.now c.loop-done.tables.items c.args.leaf c.index-in-loop-done.result.now
    c.loop-done.invariant.taking.sound.family
    (leaf_within c.args.tree.now c.args.leaf c.requires.reducts.family.is_tree c.requires.leaf)
    c.index-in-loop-done.ensures))) ∙ c.in-None.is)))

pub returns-in-None-clause-flat : goal.returns-in-None-clause-flat
returns-in-None-clause-flat g c =
    λ meets. size_done c.loop-done._done _
    (steps c.args.tree.now.nodes c.args.leaf (length c.args.tree.now.nodes)) (size c.args.tables.now.items)
    (size c.loop-done.tables.items) (let k = c.loop-done.invariant.gone in omega arith)
    (c.loop-done.invariant.flat meets)

pub returns-in-None-clause-counted : goal.returns-in-None-clause-counted
returns-in-None-clause-counted g c =
    omega (arith, c.loop-done.invariant.counted, c.first_marked.ensures.counted)

pub returns-clause-taken : goal.returns-clause-taken
returns-clause-taken g c =
    let h = c.loop-done-test.false in
    let x = c.loop-done.auto._done-end in
    let r = family_read c.args.tree.now c.args.tables.now.items c.args.leaf c.index.result.now
    c.requires.reducts.family (leaf_within c.args.tree.now c.args.leaf c.requires.reducts.family.is_tree
    c.requires.leaf)
    c.index.ensures in
    taking_done c.args.tree.now c.args.tables.now.items c.loop-done.tables.items c.args.leaf
    c.loop-done.invariant.taking
    (λ v. no_entry (entries_at c.loop-done.tables.items c.args.leaf) v
    (omega (arith, c.loop-done.invariant.few, c.len-count.ensures, length_read r)))

pub returns-clause-flat : goal.returns-clause-flat
returns-clause-flat g c =
    λ meets. size_done c.loop-done._done _
    (steps c.args.tree.now.nodes c.args.leaf (length c.args.tree.now.nodes)) (size c.args.tables.now.items)
    (size c.loop-done.tables.items) (let k = c.loop-done.invariant.gone in omega arith)
    (c.loop-done.invariant.flat meets)

pub returns-clause-counted : goal.returns-clause-counted
returns-clause-counted g c =
    omega (arith, c.loop-done.invariant.counted)
