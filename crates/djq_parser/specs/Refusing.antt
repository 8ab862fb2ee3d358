-- The order of refusals.
use Rattle.djq_value.specs.declared.literal.LiteralRefusal.{LiteralRefusal}
use Rattle.djq_value.specs.declared.literal.LiteralRefusal.TheVariants.{Syntax as NoLiteral}
use Rattle.djq_value.specs.declared.literal.LiteralRefusal.TheVariants.{Range as PastLimit}
use Rattle.djq_value.specs.declared.literal.LiteralRefusal.TheVariants.{NoMem as OutOfMemory}
use Rattle.djq_parser.specs.declared.refusal.LineRefusal.{LineRefusal}
use Rattle.djq_parser.specs.declared.refusal.LineRefusal.TheVariants.{Syntax, Range, NoMem}

-- the first of both
abbrev pub earlier_of : LineRefusal → LineRefusal → LineRefusal
earlier_of Syntax r = Syntax
earlier_of Range Syntax = Syntax
earlier_of Range _ = Range
earlier_of NoMem r = r

-- what a literal's refusal is of the line
abbrev pub line_refusal_of : LiteralRefusal → LineRefusal
line_refusal_of NoLiteral = Syntax
line_refusal_of PastLimit = Range
line_refusal_of OutOfMemory = NoMem
