use Rattle.std.proofs.Common.{length}
use Rattle.djq_parser.proofs.ItemLists.{ReadSoFar}
use Rattle.djq_parser.proofs.items.read_all.Given as goal

abbrev pub invariant-items : goal.invariant-items
invariant-items g l = ReadSoFar g.T.Item.of g.T.Item.in_range l.fn.lexer l.lexer l.items

abbrev pub decreases-items : goal.decreases-items
decreases-items g l = length l.lexer
