-- What a test over cells means of integers: the comparison of the integers.
use Rattle.std.specs.Prelude.{ℤ, ◌≡◌, FitsSigned}
use Rattle.std.specs.Int.{w64, cast_unsigned}
use Rattle.djq_model.specs.declared.value.Value.TheVariants.{Int}
use Rattle.djq_model.specs.declared.query.Operator.{Operator}
use Rattle.djq_model.specs.Answer.{compares}
use Rattle.djq_query.specs.Pattern.{passes}

-- Over the bits of two integers an operator gives what it gives over the integers.
abbrev pub IntegersAreCompared : Type 0
IntegersAreCompared = (o : Operator) (i j : ℤ) → FitsSigned w64 i → FitsSigned w64 j
    → passes o (cast_unsigned w64 i) (cast_unsigned w64 j) ≡ compares o (Int i) (Int j)
