use Rattle.std.proofs.Common.{length}
use Rattle.djq_parser.proofs.Bodies.{PartsSoFar}
use Rattle.djq_parser.proofs.body.read_items.Given as goal

abbrev pub invariant-items : goal.invariant-items
invariant-items l = PartsSoFar l.fn.lexer l.lexer l.parts

abbrev pub decreases-items : goal.decreases-items
decreases-items l = length l.lexer
