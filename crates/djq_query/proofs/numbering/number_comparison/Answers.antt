-- The place of the first variable with the name, or past all where there is none, is the name's number.
use Rattle.std.proofs.Common.{◌≡◌, ℕ, ap, ap₂, ◌∙◌, length}
use Rattle.std.specs.Prelude.{unwrap_or}
use Rattle.djq_model.specs.declared.value.Value.{Value}
use Rattle.djq_model.specs.declared.query.Operator.{Operator}
use Rattle.djq_query.specs.declared.numbered.NumberedComparison.{NumberedComparison}
use Rattle.djq_query.specs.Numbered.{labels, number_of}
use Rattle.djq_query.proofs.Numbers.{number_or}
use Rattle.djq_query.proofs.numbering.number_comparison.Goals as goal

abbrev of_parts : ℕ → Operator → Value → NumberedComparison
of_parts number operator constant = record { variable = number; operator = operator; constant = constant }

pub returns : goal.returns
returns c =
    let known = c.args.known.now in
    let comparison = c.args.comparison.now in
    let number : c.unwrap_or.result ≡ number_of (labels known) comparison.variable =
    c.unwrap_or.ensures ∙ ap (λ o. unwrap_or o (length known)) c.place_of.ensures
    ∙ number_or known comparison.variable in
    ap₂ (λ (k : ℕ) (v : Value). of_parts k comparison.operator v) number c.in_ok-copy_value.ensures
