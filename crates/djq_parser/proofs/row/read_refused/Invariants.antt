use Rattle.std.proofs.Common.{◌≡◌, Some, length}
use Rattle.djq_model.specs.Data.{Tuple}
use Rattle.djq_value.specs.Literal.{literal_of}
use Rattle.djq_protocol.specs.Grammar.{all_of}
use Rattle.djq_parser.specs.Reading.{onto}
use Rattle.djq_parser.specs.RowReading.{IsRefused}
use Rattle.djq_parser.proofs.row.read_refused.Given as goal

abbrev pub invariant-values : goal.invariant-values
invariant-values l = (xs : Tuple) → IsRefused (Some xs) l.fn.refusal
    → (ys : Tuple) × (onto xs (all_of literal_of l.fn.lexer) ≡ onto ys (all_of literal_of l.lexer))
    × IsRefused (Some ys) l.first

abbrev pub decreases-values : goal.decreases-values
decreases-values l = length l.lexer
