use Rattle.std.proofs.Common.{◌≤◌, length}
use Rattle.djq_parser.specs.RowReading.{ReadsNumbers}
use Rattle.djq_parser.proofs.row.read_numbers.Given as goal

abbrev pub invariant-numbers : goal.invariant-numbers
invariant-numbers l = record {
  read : ReadsNumbers l.fn.lexer l.fn.row.items l.lexer l.row.items;
  fewer : length l.lexer ≤ length l.fn.lexer;
}

abbrev pub decreases-numbers : goal.decreases-numbers
decreases-numbers l = length l.lexer
