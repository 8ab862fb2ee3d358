use Rattle.std.proofs.Common.{◌≡◌, ◌-◌, ◌<◌, ◌≤◌, ◌^◌, length, take, true}
use Rattle.std.specs.List.{list_all}
use Rattle.djq_value.specs.Literal.{is_digit, digits_value}
use Rattle.djq_value.proofs.number.digits_at.Given as goal

abbrev pub invariant-digits : goal.invariant-digits
invariant-digits l = record {
  within : l.len ≤ length l.bytes;
  few : l.len ≤ 18;
  digits : list_all is_digit (take l.len l.bytes) ≡ true;
  value : l.size ≡ digits_value 0 (take l.len l.bytes);
  small : l.size < 10 ^ l.len;
}

abbrev pub decreases-digits : goal.decreases-digits
decreases-digits l = length l.bytes - l.len
