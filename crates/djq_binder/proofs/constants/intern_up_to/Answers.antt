-- Constants that are known and further ones make one list; where one of the first is refused, so is the list.
use Rattle.std.proofs.Common.{List, subst}
use Rattle.std.specs.List.{flat_map}
use Rattle.djq_model.specs.declared.query.Term.{Term}
use Rattle.djq_protocol.specs.Variables.{compared_behind, constant_of}
use Rattle.djq_binder.specs.Planning.{InternsConstants}
use Rattle.djq_binder.proofs.Interning.{known_more, refused_more}
use Rattle.djq_binder.proofs.constants.intern_up_to.Goals as goal

pub returns-in-Ok-clause-interns : goal.returns-in-Ok-clause-interns
returns-in-Ok-clause-interns c =
    let mid = c.intern_behind.new.catalog.texts in
    let new = c.intern_terms.new.catalog.texts in
    known_more c.args.catalog.now.texts mid new (compared_behind c.args.count c.args.comparisons.now)
    (flat_map constant_of c.args.atom.now.terms) c.intern_terms.result c.in-Ok.ensures.interns
    (subst (λ (terms : List Term). InternsConstants mid (flat_map constant_of terms) c.intern_terms.result new)
    c.as_slice.ensures c.intern_terms.ensures.interns)

pub returns-in-Err-clause-interns : goal.returns-in-Err-clause-interns
returns-in-Err-clause-interns c =
    refused_more c.args.catalog.now.texts c.intern_behind.new.catalog.texts
    (compared_behind c.args.count c.args.comparisons.now) (flat_map constant_of c.args.atom.now.terms)
    c.in-Err.refusal c.in-Err.ensures.interns
