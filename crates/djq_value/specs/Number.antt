-- What the readers of numbers answer.
use Rattle.std.specs.Prelude.{ℕ, ℤ, min, Option, None, Some, if◌then◌else◌}
use Rattle.djq_value.specs.Literal.{is_small}
use Rattle.djq_value.specs.declared.number.Number.{Number}
use Rattle.djq_value.specs.declared.number.Number.TheVariants.{Other, Wide, Small}

-- at most the greatest number of 64 bits
abbrev pub capped : ℕ → ℕ
capped n = min n 18446744073709551615

-- no integer, one past 64 bits, or one of 64 bits
abbrev pub number_from : Option ℤ → Number
number_from None = Other
number_from (Some i) = if is_small i then Small i else Wide
