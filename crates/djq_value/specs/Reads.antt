-- What reading a literal answers.
use Rattle.std.specs.Prelude.{◌≡◌, true, false, Option, None, Some, Result, Ok, Err}
use Rattle.djq_model.specs.Data.{Bytes}
use Rattle.djq_model.specs.declared.value.Value.{Value}
use Rattle.djq_model.specs.declared.value.Value.TheVariants.{Text}
use Rattle.djq_value.specs.Literal.{is_small_value}
use Rattle.djq_value.specs.declared.literal.LiteralRefusal.{LiteralRefusal}
use Rattle.djq_value.specs.declared.literal.LiteralRefusal.TheVariants.{Syntax, Range, NoMem}

-- No literal is there, and `Syntax` is answered; or one is: then the answer is its value if it is within its
-- limit, `Range` if it isn't, and out of memory only if it is and is a text, which is copied.
abbrev pub ReadsLiteral : Option Value → Result Value LiteralRefusal → Type 0
ReadsLiteral None r = r ≡ Err Syntax
ReadsLiteral (Some v) (Ok w) = (w ≡ v) × (is_small_value v ≡ true)
ReadsLiteral (Some v) (Err Range) = is_small_value v ≡ false
ReadsLiteral (Some v) (Err NoMem) = (t : Bytes) × (v ≡ Text t) × (is_small_value v ≡ true)
ReadsLiteral (Some v) (Err Syntax) = ⊥
