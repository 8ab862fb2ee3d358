use Rattle.std.proofs.Common.{◌-◌, ◌≤◌, [], length, take}
use Rattle.djq_parser.specs.RowReading.{ReadsNumbers}
use Rattle.djq_parser.proofs.row.overwrite_numbers.Given as goal

abbrev pub invariant-numbers : goal.invariant-numbers
invariant-numbers l = record {
  read : ReadsNumbers l.fn.lexer [] l.ahead (take l.count l.row);
  within : l.count ≤ length l.row;
}

abbrev pub decreases-numbers : goal.decreases-numbers
decreases-numbers l = length l.row - l.count
