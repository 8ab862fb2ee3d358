-- A constant that isn't outside the grammar is there, and with a comparison more there is an atom as before.
use Rattle.std.proofs.Common.{Some, length, option_map, subst, sym, ◌∙◌}
use Rattle.djq_value.specs.Literal.{is_small_value}
use Rattle.djq_protocol.specs.Grammar.{compared}
use Rattle.djq_parser.specs.Bodies.{HasOneMore, comparison_behind}
use Rattle.djq_parser.proofs.Bodies.{atom_still}
use Rattle.djq_parser.proofs.ItemLists.{reads_some}
use Rattle.djq_parser.proofs.body.with_comparison.Goals as goal

pub returns : goal.returns
returns c = λ b o kept own.
    let found = reads_some is_small_value o c.args.constant own (sym c.is_outside.ensures ∙ c.if-is_outside.false) in
    subst (λ p. HasOneMore b (option_map (comparison_behind (length b.0) c.args.variable c.args.operator) p)
    (Some (record { read = c.add_comparison-read.result; has_atom = c.args.parts.has_atom }))) (sym found.1) (
      c.add_comparison-read.ensures b found.0 kept.0 found.2,
      kept.1
          ∙ atom_still b (compared (length b.0) c.args.variable c.args.operator found.0),
    )
