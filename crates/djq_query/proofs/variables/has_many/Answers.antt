-- More variables than the limit in the atoms up to the index are more in the whole body.
use Rattle.std.proofs.Common.{sym, ap, ◌∙◌, ◌≡◌}
use Rattle.djq_model.specs.declared.query.Atom.{Atom}
use Rattle.djq_query.proofs.Numbers.{many_atoms}
use Rattle.djq_query.proofs.variables.has_many.Goals as goal

pub returns-then-count-gt-VARIABLES : goal.returns-then-count-gt-VARIABLES
returns-then-count-gt-VARIABLES c =
    let same : c.as_slice.result.now ≡ c.index-atoms-i.result.terms = c.as_slice.ensures
    ∙ ap (λ (a : Atom). a.terms) (sym c.index-atoms-i.is) in
    sym (many_atoms c.args.atoms.now c.atoms.i c.index-atoms-i.result c.as_slice.result.now c.atoms-test.true
    c.index-atoms-i.is same (c.count_terms-count.ensures.many c.if-count-gt-VARIABLES.true))
