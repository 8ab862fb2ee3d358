-- An item that isn't outside the grammar is there; `)` ends the list behind it, and a comma goes on with it.
use Rattle.std.proofs.Common.{sym, ◌∙◌, ap, ◌∷◌}
use Rattle.djq_value.specs.Lexing.{lexeme_of}
use Rattle.djq_value.specs.Token.{comma}
use Rattle.djq_protocol.specs.Grammar.{more_in, put_first}
use Rattle.djq_parser.proofs.ItemLists.{list_done, list_more, reads_some}
use Rattle.djq_parser.proofs.items.read_from.Goals as goal

pub returns-in-Some-Close : goal.returns-in-Some-Close
returns-in-Some-Close g c =
    let of = g.T.Item.of in
    let in_range = g.T.Item.in_range in
    let found = reads_some in_range (of (lexeme_of c.items.token)) c.read-item.result c.read-item.ensures
    (sym c.is_outside.ensures ∙ c.if-is_outside.false) in
    list_done of in_range (put_first (of (lexeme_of c.args.first)) (more_in of c.args.lexer.now))
    (lexeme_of c.items.token) c.items.lexer c.next.new.self found.0 c.items.items c.added-items.result
    c.items.invariant found.1
    (c.in-Some-Close.ensures ∙ ap (λ k. lexeme_of k ∷ c.next.new.self) c.in-Some-Close.field-0-is)
    (λ xs kept. c.added-items.ensures in_range xs found.0 kept found.2)

pub items-preserved : goal.items-preserved
items-preserved g c =
    let of = g.T.Item.of in
    let in_range = g.T.Item.in_range in
    let found = reads_some in_range (of (lexeme_of c.items.token)) c.read-item.result c.read-item.ensures
    (sym c.is_outside.ensures ∙ c.if-is_outside.false) in
    list_more of in_range (put_first (of (lexeme_of c.args.first)) (more_in of c.args.lexer.now))
    (lexeme_of c.items.token) (lexeme_of c.in-Some.next) c.items.lexer c.next-in-items.new.self found.0
    c.items.items c.added-items.result
    c.items.invariant found.1
    (c.in-Some-Comma.ensures ∙ ap (λ k. lexeme_of k ∷ c.next.new.self) c.in-Some-Comma.field-0-is
    ∙ ap (λ us. comma ∷ us) c.in-Some.ensures) (λ xs kept. c.added-items.ensures in_range xs found.0 kept found.2)
