-- Numbers read behind numbers are one row of numbers, each of them small, and values are read behind those.
use Rattle.std.proofs.Common.{◌∙◌, [], ap, arith, sym}
use Rattle.std.specs.List.{list_all}
use Rattle.std.proofs.lemmas.Bool.{and_from, eqb-false}
use Rattle.std.proofs.lemmas.List.Folds.{list_all-append}
use Rattle.djq_value.specs.Literal.{is_small_value}
use Rattle.djq_parser.proofs.RowLines.{numbers_named, numbers_on, values_named}
use Rattle.djq_parser.proofs.row.read_others.Goals as goal

pub returns-then-is_done : goal.returns-then-is_done
returns-then-is_done c = λ verb named values name taken e is h.
    let new = c.read_numbers.new.lexer in
    let all = c.read_numbers.new.row.items in
    let some = eqb-false _ 0 (sym c.is_empty.ensures ∙ c.if-is_empty.false) in
    numbers_named c.args.line.now verb named values new name all taken e is (omega (arith, some))
    (numbers_on values c.args.lexer new [] c.args.row.now.items all h c.read_numbers.ensures.read)
    (c.is_done.ensures.0 c.if-is_done.true)

pub read_values-requires : goal.read_values-requires
read_values-requires c =
    let more = c.read_numbers.ensures.read in
    ap (list_all is_small_value) more.1 ∙ list_all-append is_small_value c.args.row.now.items more.0
    ∙ and_from _ _ c.requires more.3

pub returns : goal.returns
returns c = λ verb named values name taken e is h.
    let new = c.read_numbers.new.lexer in
    let all = c.read_numbers.new.row.items in
    values_named c.args.line.now named values new name all c.read_values.new.row.items c.read_values.result
    (sym c.is_utf8.ensures ∙ c.if-not-is_utf8.false) e is
    (numbers_on values c.args.lexer new [] c.args.row.now.items all h c.read_numbers.ensures.read)
    (λ none. absurd (cc (c.is_done.ensures.1 none, c.if-is_done.false))) c.read_values.ensures
