-- A list with one item more at its end is in range just where the list and the item are.
use Rattle.std.proofs.Common.{◌∷◌, ◌++◌, ◌&&◌, [], List, Some, subst, sym, ap, ◌∙◌}
use Rattle.std.specs.List.{list_all}
use Rattle.djq_parser.specs.Reading.{ReadsAs}
use Rattle.djq_parser.proofs.ItemLists.{all_last, err_is, same_err}
use Rattle.djq_parser.proofs.items.added.Goals as goal

pub returns-in_err-items : goal.returns-in_err-items
returns-in_err-items g c = λ in_range xs x kept own.
    subst (λ r. ReadsAs (list_all in_range) (Some (xs ++ x ∷ [])) r)
    (sym (err_is c.from_residual.result c.in_err-items.field-0.0 c.from_residual.ensures.1))
    (same_err (λ (p : List _ × _). list_all in_range p.0 && in_range p.1) (list_all in_range) (xs, x) (xs ++ x ∷ [])
    c.in_err-items.field-0.0 (all_last in_range xs x)
    (c.in_err-items.ensures (list_all in_range) in_range xs x kept own))

pub returns-in_err-push : goal.returns-in_err-push
returns-in_err-push g c = λ in_range xs x kept own.
    subst (λ r. ReadsAs (list_all in_range) (Some (xs ++ x ∷ [])) r)
    (sym (err_is c.from_residual-in_err-push.result _ c.from_residual-in_err-push.ensures.1))
    (all_last in_range xs x ∙ (c.in_ok-items.ensures (list_all in_range) in_range xs x kept own).1)

pub returns : goal.returns
returns g c = λ in_range xs x kept own.
    let same = (c.in_ok-items.ensures (list_all in_range) in_range xs x kept own).0 in (
      c.in_ok-push.ensures.ok ∙ ap (λ (p : List _ × _). p.0 ++ p.1 ∷ []) same,
      all_last in_range xs x
          ∙ (c.in_ok-items.ensures (list_all in_range) in_range xs x kept own).1,
    )
