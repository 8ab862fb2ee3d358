-- A body with an atom more is in range just where the body and the atom's terms are, as Bodies says.
use Rattle.std.proofs.Common.{◌∷◌, ◌++◌, ◌&&◌, [], List, Some, subst, sym, ◌∙◌}
use Rattle.std.specs.List.{list_all}
use Rattle.djq_model.specs.declared.query.Atom.{Atom}
use Rattle.djq_model.specs.declared.query.Term.{Term}
use Rattle.djq_protocol.specs.Grammar.{Body, is_small_term}
use Rattle.djq_parser.specs.Reading.{ReadsAs, is_small_body}
use Rattle.djq_parser.proofs.Bodies.{atom_pushed, small_atom}
use Rattle.djq_parser.proofs.ItemLists.{err_is, same_err}
use Rattle.djq_parser.proofs.body.add_atom.Goals as goal

pub returns-in_err-atoms : goal.returns-in_err-atoms
returns-in_err-atoms c = λ b ts kept own.
    let i : Atom = record { relation = c.args.relation; terms = ts } in
    subst (λ r. ReadsAs is_small_body (Some (b.0 ++ i ∷ [], b.1)) r)
    (sym (err_is c.from_residual.result c.in_err-atoms.field-0.0 c.from_residual.ensures.1))
    (same_err (λ (p : Body × List Term). is_small_body p.0 && list_all is_small_term p.1) is_small_body (b, ts)
    (b.0 ++ i ∷ [], b.1) c.in_err-atoms.field-0.0 (small_atom b i)
    (c.in_err-atoms.ensures is_small_body (list_all is_small_term) b ts kept own))

pub returns-in_err-push : goal.returns-in_err-push
returns-in_err-push c = λ b ts kept own.
    let i : Atom = record { relation = c.args.relation; terms = ts } in
    subst (λ r. ReadsAs is_small_body (Some (b.0 ++ i ∷ [], b.1)) r)
    (sym (err_is c.from_residual-in_err-push.result _ c.from_residual-in_err-push.ensures.1))
    (small_atom b i ∙ (c.in_ok-atoms.ensures is_small_body (list_all is_small_term) b ts kept own).1)

pub returns : goal.returns
returns c = λ b ts kept own.
    let read = c.in_ok-atoms.ensures is_small_body (list_all is_small_term) b ts kept own in (
      atom_pushed c.in_ok-atoms.atoms c.push.new.self c.in_ok-atoms.comparisons c.in_ok-atoms.terms ts b c.args.relation
          read.0 c.in_ok-push.ensures.ok,
      small_atom b (record { relation = c.args.relation; terms = ts }) ∙ read.1,
    )
