use Rattle.std.proofs.Common.{◌≡◌, take, true}
use Rattle.std.specs.List.{list_all}
use Rattle.djq_value.specs.Literal.{is_digit, digits_value}
use Rattle.djq_value.specs.Number.{capped}
use Rattle.djq_value.proofs.number.read_long.Given as goal

abbrev pub invariant-loop-digit : goal.invariant-loop-digit
invariant-loop-digit l = record {
  digits : list_all is_digit (take l.digit-index l.digits) ≡ true;
  value : l.value ≡ capped (digits_value 0 (take l.digit-index l.digits));
}
