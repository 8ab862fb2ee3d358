-- Terms to come are numbered over the names that are known by then; past the end none is to come.
use Rattle.std.proofs.Common.{◌+◌, refl, sym, ap, ap₂, ◌∙◌, arith, List, ◌++◌, ◌∷◌, [], drop}
use Rattle.djq_query.specs.declared.numbered.NumberedTerm.{NumberedTerm}
use Rattle.djq_query.specs.declared.numbered.Variable.{Variable}
use Rattle.djq_query.specs.Numbered.{labels, numbered_terms, with_places}
use Rattle.djq_query.proofs.Numbers.{numbered_step, numbered_end, places_step, places_end}
use Rattle.djq_query.proofs.numbering.number_terms.Goals as goal

pub terms-preserved : goal.terms-preserved
terms-preserved c = record {
  terms =
      ap₂ (λ (xs : List NumberedTerm) (vs : List Variable). xs ++ numbered_terms (labels vs)
      (drop (c.terms.i + 1) c.args.terms.now))
      (c.in_ok-push.ensures.ok ∙ ap (λ (n : NumberedTerm). c.terms.numbered ++ n ∷ []) c.in_ok-number_term.ensures.term)
      c.in_ok-number_term.ensures.known
      ∙ numbered_step c.terms.numbered c.terms.known c.args.terms.now c.terms.i c.index-terms-i.result _
      c.terms-test.true c.index-terms-i.is
      ∙ c.terms.invariant.terms;
  known =
      ap (λ (vs : List Variable). with_places vs (drop (c.terms.i + 1) c.args.terms.now)
      (drop (c.terms.i + 1) c.args.columns.now)) c.in_ok-number_term.ensures.known
      ∙ places_step c.terms.known c.args.terms.now c.args.columns.now c.terms.i c.index-terms-i.result _ _
      c.terms-test.true (omega (arith, c.requires)) c.index-terms-i.is refl
      ∙ c.terms.invariant.known;
}

pub returns-clause-terms : goal.returns-clause-terms
returns-clause-terms c = sym
    (numbered_end c.terms.numbered (labels c.terms.known) c.args.terms.now c.terms.i c.terms-test.false)
    ∙ c.terms.invariant.terms

pub returns-clause-known : goal.returns-clause-known
returns-clause-known c = sym (places_end c.terms.known c.args.terms.now c.args.columns.now c.terms.i c.terms-test.false)
    ∙ c.terms.invariant.known
