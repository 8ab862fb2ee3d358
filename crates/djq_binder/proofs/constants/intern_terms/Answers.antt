-- Texts known for the terms seen and then for the next one are those of one more; a refusal is one of all.
use Rattle.std.proofs.Common.{◌∙◌}
use Rattle.djq_protocol.specs.Variables.{constant_of}
use Rattle.djq_binder.proofs.Interning.{step_known, step_refused}
use Rattle.djq_binder.proofs.constants.intern_terms.Goals as goal

pub returns-in-Err-clause-interns : goal.returns-in-Err-clause-interns
returns-in-Err-clause-interns c =
    step_refused constant_of c.args.terms.now c.terms.i c.index-terms-i.result
    c.args.catalog.now.texts c.terms.catalog.texts c.intern_term.new.catalog.texts
    c.in-Err.refusal c.terms-test.true c.index-terms-i.is c.terms.invariant.known
    c.in-Err.ensures.interns

pub terms-preserved : goal.terms-preserved
terms-preserved c = record {
  known = step_known constant_of c.args.terms.now c.terms.i c.index-terms-i.result
      c.args.catalog.now.texts c.terms.catalog.texts c.intern_term.new.catalog.texts
      c.terms-test.true c.index-terms-i.is c.terms.invariant.known c.in-Ok.ensures.interns;
  relations = c.in-Ok.ensures.relations ∙ c.terms.invariant.relations;
}
