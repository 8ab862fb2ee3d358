-- Marked rows are the last ones, so the next row is marked, too; each step takes one mark off the rest.
use Rattle.std.proofs.Common.{subst, Option, ℕ, arith}
use Rattle.djq_index.proofs.ClearedMarks.{Clearing, clearing, cleared, over_none, over_all, step_held, step_within}
use Rattle.djq_index.proofs.ClearedMarks.{cleared_more}
use Rattle.djq_index.proofs.marking.unmark_all.Goals as goal

pub loop-done-init : goal.loop-done-init
loop-done-init g c = record {
  clearing = clearing c.args.notes.now.items c.args.rows.now.rows c.args.first c.requires.trailing c.requires.first;
  counted = omega arith;
}

pub returns-in-None-clause-cleared : goal.returns-in-None-clause-cleared
returns-in-None-clause-cleared g c =
    let i = c.loop-done.invariant.clearing in
    cleared c.args.notes.now.items c.loop-done.notes.items c.args.rows.now.rows c.loop-done.at c.loop-done._done
    c.requires.trailing i
    (over_none c.args.notes.now.items c.loop-done.notes.items c.args.rows.now.rows c.loop-done.at c.loop-done._done
    i c.in-None.is)

pub returns-in-None-clause-counted : goal.returns-in-None-clause-counted
returns-in-None-clause-counted g c =
    let i = c.loop-done.invariant.clearing in
    omega (
      arith,
      c.loop-done.invariant.counted,
      over_none c.args.notes.now.items c.loop-done.notes.items
          c.args.rows.now.rows c.loop-done.at c.loop-done._done i c.in-None.is,
    )

pub unmark-requires : goal.unmark-requires
unmark-requires g c =
    step_within c.args.notes.now.items c.loop-done.notes.items c.args.rows.now c.in-Some.slot c.loop-done._done
    c.requires.rows c.requires.notes
    (subst (λ (o : Option ℕ). Clearing c.args.notes.now.items c.loop-done.notes.items c.args.rows.now.rows o
    c.loop-done._done) c.in-Some.is c.loop-done.invariant.clearing)

pub next-at-requires : goal.next-at-requires
next-at-requires g c =
    step_held c.args.notes.now.items c.loop-done.notes.items c.args.rows.now c.in-Some.slot c.loop-done._done
    c.requires.rows c.requires.notes
    (subst (λ (o : Option ℕ). Clearing c.args.notes.now.items c.loop-done.notes.items c.args.rows.now.rows o
    c.loop-done._done) c.in-Some.is c.loop-done.invariant.clearing)

pub loop-done-preserved : goal.loop-done-preserved
loop-done-preserved g c = record {
  clearing = cleared_more c.args.notes.now.items c.loop-done.notes.items c.args.rows.now c.in-Some.slot
      c.loop-done._done c.requires.rows c.requires.notes
      (subst (λ (o : Option ℕ). Clearing c.args.notes.now.items c.loop-done.notes.items c.args.rows.now.rows o
      c.loop-done._done) c.in-Some.is c.loop-done.invariant.clearing)
      c.unmark.new.notes.items c.next-at.result c.unmark.ensures c.next-at.ensures;
  counted = omega (arith, c.loop-done.invariant.counted, c.link.ensures);
}

pub returns-clause-cleared : goal.returns-clause-cleared
returns-clause-cleared g c =
    let i = c.loop-done.invariant.clearing in
    cleared c.args.notes.now.items c.loop-done.notes.items c.args.rows.now.rows c.loop-done.at c.loop-done._done
    c.requires.trailing i
    (over_all c.args.notes.now.items c.loop-done.notes.items c.args.rows.now.rows c.loop-done.at c.loop-done._done i
    (omega (arith, c.loop-done-test.false, c.len-done-end.ensures)))

pub returns-clause-counted : goal.returns-clause-counted
returns-clause-counted g c =
    let i = c.loop-done.invariant.clearing in
    omega (
      arith,
      c.loop-done.invariant.counted,
      over_all c.args.notes.now.items c.loop-done.notes.items
          c.args.rows.now.rows c.loop-done.at c.loop-done._done i
          (omega (arith, c.loop-done-test.false, c.len-done-end.ensures)),
    )
