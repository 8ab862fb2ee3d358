-- An item that isn't outside the grammar is there, so those read and those of the rest are all items still.
use Rattle.std.proofs.Common.{sym, ◌∙◌}
use Rattle.djq_value.specs.Lexing.{lexeme_of}
use Rattle.djq_parser.proofs.ItemLists.{read_more, reads_some}
use Rattle.djq_parser.proofs.items.read_all.Goals as goal

pub items-preserved : goal.items-preserved
items-preserved g c =
    let in_range = g.T.Item.in_range in
    let found = reads_some in_range (g.T.Item.of (lexeme_of c.in-Some.token)) c.read-item.result c.read-item.ensures
    (sym c.is_outside.ensures ∙ c.if-is_outside.false) in
    read_more g.T.Item.of in_range c.args.lexer.now c.items.lexer c.next.new.self (lexeme_of c.in-Some.token) found.0
    c.items.items c.added-items.result c.read-item.result
    c.items.invariant c.in-Some.ensures found.1 (λ xs kept. c.added-items.ensures in_range xs found.0 kept found.2)
