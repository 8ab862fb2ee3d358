-- The comparisons up to the index by number, and the next one behind them, are those one place further.
use Rattle.std.proofs.Common.{sym, ap₂, ◌∙◌, ◌++◌, ◌∷◌, []}
use Rattle.djq_query.specs.Numbered.{labels, numbered_comparison}
use Rattle.djq_query.proofs.Numbers.{compared_step}
use Rattle.djq_query.proofs.numbering.number_comparisons.Goals as goal

pub loop-comparison-preserved : goal.loop-comparison-preserved
loop-comparison-preserved c =
    c.in_ok-push.ensures.ok
    ∙ ap₂ (λ xs x. xs ++ x ∷ []) c.loop-comparison.invariant c.in_ok-number_comparison.ensures
    ∙ sym (compared_step (numbered_comparison (labels c.args.known.now)) c.args.comparisons.now
    c.loop-comparison.comparison-index c.comparison-item.result c.loop-comparison-test.true c.comparison-item.is)
