-- A line is judged over what those before it leave.
use Rattle.std.specs.Prelude.{List, take}
use Rattle.std.proofs.Common.{refl, sym, ◌∙◌, subst, arith}
use Rattle.djq_model.specs.declared.relation.Relation.{Relation}
use Rattle.djq_store_spec.specs.Held as spec
use Rattle.djq_store_spec.specs.Held.{transaction_line, no_line}
use Rattle.djq_transaction.specs.Net.{PassesLine, RefusesLine}
use Rattle.djq_transaction.proofs.Transactions.{Judged, few_keys, take_short, take_one_more, judged_more, stops_lines}
use Rattle.djq_transaction.proofs.transaction.judge_lines.Goals as goal

pub judge_line-requires-clause-few : goal.judge_line-requires-clause-few
judge_line-requires-clause-few g c =
    omega (
      arith,
      few_keys c.args.catalog.now.relations c.loop-at.catalog.texts c.args.width
          (take c.loop-at.at c.args.transaction.now.lines) c.loop-at.net c.loop-at.invariant.judged.net_is,
      take_short c.loop-at.at c.args.transaction.now.lines,
      c.len-at-end.ensures.value,
      c.len-at-end.ensures.few,
    )

pub returns-in-Err-clause-err : goal.returns-in-Err-clause-err
returns-in-Err-clause-err g c =
    stops_lines c.args.catalog.now.relations c.args.catalog.now.texts c.loop-at.catalog.texts
    c.judge_line.new.catalog.texts c.args.width c.args.transaction.now.lines c.loop-at.at
    (transaction_line c.args.transaction.now c.loop-at.at) no_line c.loop-at.net c.in-Err.refusal
    (omega (arith, c.loop-at-test.true, c.len-at-end.ensures.value)) refl c.loop-at.invariant.judged
    (subst (λ (rs : List Relation). RefusesLine rs c.loop-at.catalog.texts c.args.width c.loop-at.net
    (transaction_line c.args.transaction.now c.loop-at.at) c.judge_line.new.catalog.texts c.in-Err.refusal)
    c.loop-at.invariant.same
    c.in-Err.ensures.err)

pub loop-at-preserved : goal.loop-at-preserved
loop-at-preserved g c = record {
  judged = subst (λ (ls : List spec.HeldLine). Judged c.args.catalog.now.relations c.args.catalog.now.texts
      c.judge_line.new.catalog.texts c.args.width ls c.judge_line.new.net)
      (sym (take_one_more c.args.transaction.now.lines c.loop-at.at (transaction_line c.args.transaction.now c.loop-at.at)
      no_line
      (omega (arith, c.loop-at-test.true, c.len-at-end.ensures.value)) refl))
      (judged_more c.args.catalog.now.relations c.args.catalog.now.texts
      c.loop-at.catalog.texts c.judge_line.new.catalog.texts c.args.width
      (take c.loop-at.at c.args.transaction.now.lines)
      (transaction_line c.args.transaction.now c.loop-at.at) c.loop-at.net c.judge_line.new.net c.loop-at.invariant.judged
      (subst (λ (rs : List Relation). PassesLine rs c.loop-at.catalog.texts c.args.width c.loop-at.net
      (transaction_line c.args.transaction.now c.loop-at.at) c.judge_line.new.catalog.texts c.judge_line.new.net)
      c.loop-at.invariant.same
      c.in-Ok.ensures.ok));
  same = c.judge_line.ensures.relations ∙ c.loop-at.invariant.same;
}
