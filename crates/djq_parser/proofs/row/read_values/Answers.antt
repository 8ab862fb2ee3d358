-- The values before are small, so the one that is refused gives the refusal of all that were read so far.
use Rattle.std.proofs.Common.{◌∙◌, ◌++◌, ◌∷◌, [], Some, subst, sym}
use Rattle.djq_value.specs.Lexing.{lexeme_of}
use Rattle.djq_value.specs.Literal.{is_small_value, literal_of}
use Rattle.djq_protocol.specs.Grammar.{all_of}
use Rattle.djq_parser.specs.Reading.{ReadsAs, onto}
use Rattle.djq_parser.specs.RowReading.{IsRefused}
use Rattle.djq_parser.proofs.ItemLists.{onto_next, reads_some}
use Rattle.djq_parser.proofs.RowLines.{last_refused}
use Rattle.djq_parser.proofs.row.read_values.Goals as goal

pub returns-in-Err : goal.returns-in-Err
returns-in-Err c =
    let read = c.values.row.items in
    let t = lexeme_of c.in-Some.token in
    let found = reads_some is_small_value (literal_of t) c.read-item.result c.read-item.ensures
    (sym c.is_outside.ensures ∙ c.if-is_outside.false) in
    let refused = last_refused read found.0 c.in-Err.refusal c.values.invariant.small
    (subst (λ r. ReadsAs is_small_value (Some found.0) r) c.in-Err.is found.2) in
    let whole = onto_next literal_of (onto c.args.row.now.items (all_of literal_of c.args.lexer.now)) read
    c.values.lexer c.next.new.self t found.0 c.values.invariant.split c.in-Some.ensures found.1 in
    subst (λ o. IsRefused o c.read_refused-in-Err.result) (sym whole)
    (c.read_refused-in-Err.ensures (read ++ found.0 ∷ []) refused)
