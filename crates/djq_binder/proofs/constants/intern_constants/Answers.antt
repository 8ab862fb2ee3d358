-- The body's constants go atom by atom, each behind the comparisons before it, and end with the last ones.
use Rattle.std.proofs.Common.{List, subst, ◌∙◌, arith}
use Rattle.std.specs.Prelude.{Err}
use Rattle.djq_model.specs.declared.query.Atom.{Atom}
use Rattle.djq_model.specs.declared.query.Comparison.{Comparison}
use Rattle.djq_protocol.specs.Variables.{constants_from}
use Rattle.djq_binder.specs.Planning.{InternsConstants}
use Rattle.djq_binder.proofs.Interning.{body_known, body_refused, body_whole}
use Rattle.djq_binder.proofs.constants.intern_constants.Goals as goal

pub returns-in-Err-clause-interns : goal.returns-in-Err-clause-interns
returns-in-Err-clause-interns c =
    let old = c.args.catalog.now.texts in
    let new = c.intern_up_to.new.catalog.texts in
    let r = c.in-Err.refusal in
    subst (λ (atoms : List Atom). InternsConstants old
    (constants_from 0 atoms c.args.query.now.comparisons) (Err r) new) c.as_slice-atoms.ensures
    (subst (λ (ks : List Comparison). InternsConstants old
    (constants_from 0 c.as_slice-atoms.result.now ks) (Err r) new) c.as_slice-comparisons.ensures
    (body_refused c.atoms.i c.index-atoms-i.result c.as_slice-atoms.result.now
    c.as_slice-comparisons.result.now old c.atoms.catalog.texts new r c.atoms-test.true
    c.index-atoms-i.is c.atoms.invariant.known c.in-Err.ensures.interns))

pub atoms-preserved : goal.atoms-preserved
atoms-preserved c = record {
  known = body_known c.atoms.i c.index-atoms-i.result c.as_slice-atoms.result.now
      c.as_slice-comparisons.result.now c.args.catalog.now.texts c.atoms.catalog.texts
      c.intern_up_to.new.catalog.texts c.atoms-test.true c.index-atoms-i.is
      c.atoms.invariant.known c.in-Ok.ensures.interns;
  relations = c.in-Ok.ensures.relations ∙ c.atoms.invariant.relations;
}

pub returns-clause-interns : goal.returns-clause-interns
returns-clause-interns c =
    let old = c.args.catalog.now.texts in
    let new = c.intern_last.new.catalog.texts in
    let r = c.intern_last.result in
    subst (λ (atoms : List Atom). InternsConstants old
    (constants_from 0 atoms c.args.query.now.comparisons) r new) c.as_slice-atoms.ensures
    (subst (λ (ks : List Comparison). InternsConstants old
    (constants_from 0 c.as_slice-atoms.result.now ks) r new) c.as_slice-comparisons.ensures
    (body_whole c.atoms.i c.as_slice-atoms.result.now c.as_slice-comparisons.result.now old
    c.atoms.catalog.texts new r (omega (arith, c.atoms-test.false)) c.atoms.invariant.known
    c.intern_last.ensures.interns))
