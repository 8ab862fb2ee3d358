-- What holds of the comparison at the index is added to what holds of those before, which all suit.
use Rattle.std.proofs.Common.{sym, ap, ap₂, ◌∙◌}
use Rattle.std.specs.Prelude.{◌||◌}
use Rattle.std.proofs.lemmas.List.Folds.{list_any_at, list_any_more}
use Rattle.djq_model.specs.declared.query.Comparison.{Comparison}
use Rattle.djq_protocol.specs.QueryFault.{any_place, is_miscompared}
use Rattle.djq_query.proofs.compared.has_miscompared.Goals as goal

pub returns-then-miscompares : goal.returns-then-miscompares
returns-then-miscompares g c =
    let p = λ (x : Comparison). any_place (is_miscompared x) (g.R.Relations.relations c.args.relations.now)
    c.args.atoms.now in
    sym (list_any_at p c.args.comparisons.now c.loop-comparison.comparison-index c.comparison-item.result
    c.loop-comparison-test.true
    (ap p (sym c.comparison-item.is) ∙ sym c.miscompares.ensures ∙ c.if-miscompares.true))

pub loop-comparison-preserved : goal.loop-comparison-preserved
loop-comparison-preserved g c =
    let p = λ (x : Comparison). any_place (is_miscompared x) (g.R.Relations.relations c.args.relations.now)
    c.args.atoms.now in
    list_any_more p c.args.comparisons.now c.loop-comparison.comparison-index c.comparison-item.result
    c.loop-comparison-test.true
    ∙ ap₂ (λ a b. a || b) c.loop-comparison.invariant
    (ap p (sym c.comparison-item.is) ∙ sym c.miscompares.ensures ∙ c.if-miscompares.false)
