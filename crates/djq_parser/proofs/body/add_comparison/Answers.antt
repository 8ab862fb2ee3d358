-- A body with a comparison more is in range just where the body and the comparison's constant are.
use Rattle.std.proofs.Common.{◌∷◌, ◌++◌, ◌&&◌, [], Some, length, subst, sym, ◌∙◌}
use Rattle.djq_value.specs.Literal.{is_small_value}
use Rattle.djq_model.specs.declared.query.Comparison.{Comparison}
use Rattle.djq_model.specs.declared.value.Value.{Value}
use Rattle.djq_protocol.specs.Grammar.{Body, compared}
use Rattle.djq_parser.specs.Reading.{ReadsAs, is_small_body}
use Rattle.djq_parser.proofs.Bodies.{comparison_pushed, small_comparison}
use Rattle.djq_parser.proofs.ItemLists.{err_is, same_err}
use Rattle.djq_parser.proofs.body.add_comparison.Goals as goal

pub returns-in_err-atoms : goal.returns-in_err-atoms
returns-in_err-atoms c = λ b v kept own.
    let i : Comparison = compared (length b.0) c.args.variable c.args.operator v in
    subst (λ r. ReadsAs is_small_body (Some (b.0, b.1 ++ i ∷ [])) r)
    (sym (err_is c.from_residual.result c.in_err-atoms.field-0.0 c.from_residual.ensures.1))
    (same_err (λ (p : Body × Value). is_small_body p.0 && is_small_value p.1) is_small_body (b, v) (b.0, b.1 ++ i ∷ [])
    c.in_err-atoms.field-0.0 (small_comparison b i)
    (c.in_err-atoms.ensures is_small_body is_small_value b v kept own))

pub returns-in_err-push : goal.returns-in_err-push
returns-in_err-push c = λ b v kept own.
    let i : Comparison = compared (length b.0) c.args.variable c.args.operator v in
    subst (λ r. ReadsAs is_small_body (Some (b.0, b.1 ++ i ∷ [])) r)
    (sym (err_is c.from_residual-in_err-push.result _ c.from_residual-in_err-push.ensures.1))
    (small_comparison b i ∙ (c.in_ok-atoms.ensures is_small_body is_small_value b v kept own).1)

pub returns : goal.returns
returns c = λ b v kept own.
    let read = c.in_ok-atoms.ensures is_small_body is_small_value b v kept own in (
      comparison_pushed c.in_ok-atoms.atoms c.in_ok-atoms.comparisons c.push.new.self c.in_ok-atoms.constant v
          c.len-behind.result b c.args.variable c.args.operator read.0 c.len-behind.ensures c.in_ok-push.ensures.ok,
      small_comparison b (compared (length b.0) c.args.variable c.args.operator v) ∙ read.1,
    )
