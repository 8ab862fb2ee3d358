-- A name with `(` behind it begins an atom and a name with an operator a comparison, by the grammar's steps.
use Rattle.std.proofs.Common.{◌∷◌, length, subst, sym, ap, ◌∙◌}
use Rattle.std.specs.List.{list_all}
use Rattle.djq_value.specs.Lexing.{lexeme_of}
use Rattle.djq_value.specs.Literal.{is_small_value}
use Rattle.djq_value.specs.Token.{open_paren, word}
use Rattle.djq_protocol.specs.Grammar.{is_small_term, list_in, term_of}
use Rattle.djq_parser.specs.Bodies.{ReadsOn, atom_of, comparison_behind, constant_in}
use Rattle.djq_parser.proofs.Bodies.{atom_split, comparison_split, on_part}
use Rattle.djq_parser.proofs.body.read_item.Goals as goal

pub returns-in-Some-Open : goal.returns-in-Some-Open
returns-in-Some-Open c = λ b kept.
    let name = c.in_ok-name.name in
    let behind = c.next.new.self in
    let front = c.in_ok-name.ensures.0
    ∙ ap (λ us. word name ∷ us) (c.in-Some-Open.ensures ∙ ap (λ k. lexeme_of k ∷ behind) c.in-Some-Open.field-0-is)
    in
    subst (λ o. ReadsOn b o c.with_atom.result c.read_opened-terms.new.lexer)
    (sym (atom_split (length b.0) c.args.lexer.now behind name front c.in_ok-name.ensures.1))
    (on_part b (list_all is_small_term) (atom_of name) (list_in term_of (open_paren ∷ behind))
    c.read_opened-terms.result c.with_atom.result c.read_opened-terms.new.lexer c.read_opened-terms.ensures
    (λ p own. c.with_atom.ensures b p kept own))

pub returns-in-Some-Operator : goal.returns-in-Some-Operator
returns-in-Some-Operator c = λ b kept.
    let name = c.in_ok-name.name in
    let sign = c.in-Some-Operator.operator in
    let behind = c.next.new.self in
    let front = c.in_ok-name.ensures.0
    ∙ ap (λ us. word name ∷ us)
    (c.in-Some-Operator.ensures ∙ ap (λ k. lexeme_of k ∷ behind) c.in-Some-Operator.field-0-is) in
    subst (λ o. ReadsOn b o c.with_comparison.result c.read_constant-constant.new.lexer)
    (sym (comparison_split (length b.0) c.args.lexer.now behind name sign front c.in_ok-name.ensures.1))
    (on_part b is_small_value (comparison_behind (length b.0) name sign) (constant_in behind)
    c.read_constant-constant.result c.with_comparison.result c.read_constant-constant.new.lexer
    c.read_constant-constant.ensures
    (λ p own. c.with_comparison.ensures b p kept own))
