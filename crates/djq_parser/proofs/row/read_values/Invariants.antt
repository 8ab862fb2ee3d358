use Rattle.std.proofs.Common.{◌≡◌, length, true}
use Rattle.std.specs.List.{list_all}
use Rattle.djq_value.specs.Literal.{is_small_value, literal_of}
use Rattle.djq_protocol.specs.Grammar.{all_of}
use Rattle.djq_parser.specs.Reading.{onto}
use Rattle.djq_parser.proofs.row.read_values.Given as goal

abbrev pub invariant-values : goal.invariant-values
invariant-values l = record {
  split : onto l.fn.row.items (all_of literal_of l.fn.lexer) ≡ onto l.row.items (all_of literal_of l.lexer);
  small : list_all is_small_value l.row.items ≡ true;
}

abbrev pub decreases-values : goal.decreases-values
decreases-values l = length l.lexer
