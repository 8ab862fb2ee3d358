-- A fresh term adds one variable to those of the terms before it, and any other term adds none.
use Rattle.std.proofs.Common.{arith, ◌∙◌, ◌+◌}
use Rattle.djq_protocol.specs.Variables.{variables_of}
use Rattle.djq_query.proofs.Numbers.{count_more, count_same, many_terms}
use Rattle.djq_query.proofs.variables.count_terms.Goals.{then-is_fresh+else-count-gt-VARIABLES, else-is_fresh}
use Rattle.djq_query.proofs.variables.count_terms.Goals as goal

pub returns-then-count-gt-VARIABLES : goal.returns-then-count-gt-VARIABLES
returns-then-count-gt-VARIABLES c =
    many_terms (variables_of c.args.before.now) c.args.terms.now (c.terms.i + 1) (c.terms.count + 1)
    (count_more c.args.before.now c.args.terms.now c.terms.i c.index-terms-i.result c.terms.count c.is_fresh.result
    c.terms-test.true c.index-terms-i.is c.terms.invariant.counted c.is_fresh.ensures c.if-is_fresh.true)
    c.if-count-gt-VARIABLES.true

pub terms-preserved : goal.terms-preserved
terms-preserved c =
    let few = c.terms.invariant.few in
    elim c.if-is_fresh.branch [
      | then-is_fresh+else-count-gt-VARIABLES w ↦
          let is = w.count-is in
          let below = w.if-count-gt-VARIABLES.false in
          record {
            few = omega arith;
            counted = is ∙ count_more c.args.before.now c.args.terms.now c.terms.i c.index-terms-i.result c.terms.count
                c.is_fresh.result c.terms-test.true c.index-terms-i.is c.terms.invariant.counted c.is_fresh.ensures
                w.if-is_fresh.true;
          }
      | else-is_fresh w ↦
          let is = w.count-is in
          record {
            few = omega arith;
            counted = is ∙ count_same c.args.before.now c.args.terms.now c.terms.i c.index-terms-i.result c.terms.count
                c.is_fresh.result c.terms-test.true c.index-terms-i.is c.terms.invariant.counted c.is_fresh.ensures
                w.if-is_fresh.false;
          }
    ]
