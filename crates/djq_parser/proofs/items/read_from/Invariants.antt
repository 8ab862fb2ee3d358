use Rattle.std.proofs.Common.{length}
use Rattle.djq_protocol.specs.Grammar.{more_in, put_first}
use Rattle.djq_value.specs.Lexing.{lexeme_of}
use Rattle.djq_parser.proofs.ItemLists.{ListSoFar}
use Rattle.djq_parser.proofs.items.read_from.Given as goal

abbrev pub invariant-items : goal.invariant-items
invariant-items g l =
    ListSoFar g.T.Item.of g.T.Item.in_range
    (put_first (g.T.Item.of (lexeme_of l.fn.first)) (more_in g.T.Item.of l.fn.lexer)) (lexeme_of l.token) l.lexer
    l.items

abbrev pub decreases-items : goal.decreases-items
decreases-items g l = length l.lexer
