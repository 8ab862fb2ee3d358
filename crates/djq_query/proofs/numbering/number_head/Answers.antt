-- The names up to the index by number, and the next one behind them, are those one place further.
use Rattle.std.proofs.Common.{sym, ap, ap₂, ◌∙◌, ◌++◌, ◌∷◌, [], length}
use Rattle.std.specs.Prelude.{unwrap_or}
use Rattle.djq_query.specs.Numbered.{labels, number_of}
use Rattle.djq_query.proofs.Numbers.{head_step, number_or}
use Rattle.djq_query.proofs.numbering.number_head.Goals as goal

pub loop-name-preserved : goal.loop-name-preserved
loop-name-preserved c =
    let known = c.args.known.now in
    c.in_ok-push.ensures.ok
    ∙ ap₂ (λ xs x. xs ++ x ∷ []) c.loop-name.invariant
    (c.unwrap_or.ensures ∙ ap (λ o. unwrap_or o (length known)) c.place_of.ensures ∙ number_or known c.name-item.result)
    ∙ sym (head_step (number_of (labels known)) c.args.head.now c.loop-name.name-index c.name-item.result
    c.loop-name-test.true c.name-item.is)
