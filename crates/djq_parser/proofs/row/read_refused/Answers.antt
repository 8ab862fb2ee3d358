-- Before each turn the values read so far give this refusal, and the first in the order is kept with one more.
use Rattle.std.proofs.Common.{◌∙◌, ◌++◌, ◌∷◌, [], refl, subst, sym}
use Rattle.djq_value.specs.Lexing.{lexeme_of}
use Rattle.djq_value.specs.Literal.{is_small_value, literal_of}
use Rattle.djq_protocol.specs.Grammar.{all_of}
use Rattle.djq_parser.specs.Reading.{onto}
use Rattle.djq_parser.specs.RowReading.{IsRefused}
use Rattle.djq_parser.specs.declared.refusal.LineRefusal.TheVariants.{Syntax}
use Rattle.djq_parser.proofs.ItemLists.{onto_done, onto_next, onto_none, reads_none, reads_some}
use Rattle.djq_parser.proofs.row.read_refused.Goals as goal

pub returns-then-is_outside : goal.returns-then-is_outside
returns-then-is_outside c = λ xs h.
    let prev = c.values.invariant xs h in
    let t = lexeme_of c.in-Some.token in
    let none = reads_none is_small_value (literal_of t) c.read-item.result c.read-item.ensures
    (sym c.is_outside.ensures ∙ c.if-is_outside.true) in
    let whole = onto_none literal_of (onto xs (all_of literal_of c.args.lexer.now)) prev.0 c.values.lexer
    c.next.new.self t prev.1 c.in-Some.ensures none in
    subst (λ o. IsRefused o Syntax) (sym whole) refl

pub values-preserved : goal.values-preserved
values-preserved c = λ xs h.
    let prev = c.values.invariant xs h in
    let t = lexeme_of c.in-Some.token in
    let found = reads_some is_small_value (literal_of t) c.read-item.result c.read-item.ensures
    (sym c.is_outside.ensures ∙ c.if-is_outside.false) in (
      prev.0 ++ found.0 ∷ [],
      onto_next literal_of (onto xs (all_of literal_of c.args.lexer.now)) prev.0 c.values.lexer c.next.new.self t
          found.0 prev.1 c.in-Some.ensures found.1,
      c.refused_by-first.ensures prev.0 found.0 prev.2 found.2,
    )

pub returns : goal.returns
returns c = λ xs h.
    let prev = c.values.invariant xs h in
    subst (λ o. IsRefused o c.values.first)
    (sym (onto_done literal_of (onto xs (all_of literal_of c.args.lexer.now)) prev.0 c.values.lexer prev.1
    c.in_default.ensures.0)) prev.2
