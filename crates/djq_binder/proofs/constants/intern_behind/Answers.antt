-- Texts known for the comparisons seen and then for the next are those of one more; a refusal is one of all.
use Rattle.std.proofs.Common.{[], ◌∷◌, ◌∙◌, refl}
use Rattle.std.specs.Prelude.{◌==◌, if◌then◌else◌}
use Rattle.djq_model.specs.declared.query.Comparison.{Comparison}
use Rattle.djq_binder.proofs.Interning.{step_known, step_refused}
use Rattle.djq_binder.proofs.constants.intern_behind.Goals as goal

pub returns-in-Err-clause-interns : goal.returns-in-Err-clause-interns
returns-in-Err-clause-interns c =
    step_refused (λ (k : Comparison). if k.behind == c.args.count then k.constant ∷ [] else [])
    c.args.comparisons.now c.comparisons.i c.index-comparisons-i.result
    c.args.catalog.now.texts c.comparisons.catalog.texts c.intern_if.new.catalog.texts
    c.in-Err.refusal c.comparisons-test.true c.index-comparisons-i.is c.comparisons.invariant.known
    c.in-Err.ensures.interns

pub comparisons-preserved : goal.comparisons-preserved
comparisons-preserved c = record {
  known = step_known (λ (k : Comparison). if k.behind == c.args.count then k.constant ∷ [] else [])
      c.args.comparisons.now c.comparisons.i c.index-comparisons-i.result
      c.args.catalog.now.texts c.comparisons.catalog.texts c.intern_if.new.catalog.texts
      c.comparisons-test.true c.index-comparisons-i.is c.comparisons.invariant.known
      c.in-Ok.ensures.interns;
  relations = c.in-Ok.ensures.relations ∙ c.comparisons.invariant.relations;
  same = refl;
}
