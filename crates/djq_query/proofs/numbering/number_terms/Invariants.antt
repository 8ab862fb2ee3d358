use Rattle.std.proofs.Common.{◌≡◌, ◌++◌, drop}
use Rattle.djq_query.specs.Numbered.{labels, numbered_terms, with_places}
use Rattle.djq_query.proofs.numbering.number_terms.Given as goal

abbrev pub invariant-terms : goal.invariant-terms
invariant-terms l = record {
  terms : l.numbered ++ numbered_terms (labels l.known) (drop l.i l.terms) ≡ numbered_terms (labels l.fn.known) l.terms;
  known : with_places l.known (drop l.i l.terms) (drop l.i l.columns) ≡ with_places l.fn.known l.terms l.columns;
}
