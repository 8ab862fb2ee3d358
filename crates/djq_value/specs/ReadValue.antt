-- Reading one literal in front of bytes, and its laws.
use Rattle.std.specs.Prelude.{◌≡◌, ℕ, ℤ, ◌<◌, ◌≤◌, ◌++◌, true, false, Option, None, Some}
use Rattle.std.specs.Prelude.{option_map, Result, Ok, Err, length, drop}
use Rattle.djq_model.specs.Data.{Bytes}
use Rattle.djq_model.specs.declared.value.TheConstants.{TEXT_BYTES}
use Rattle.djq_model.specs.declared.value.Value.{Value}
use Rattle.djq_model.specs.declared.value.Value.TheVariants.{Int, Text}
use Rattle.djq_value.specs.Token.{Token, behind_spaces, may_end, token_at}
use Rattle.djq_value.specs.Literal.{integer_of, is_small, is_small_value, literal_of}
use Rattle.djq_value.specs.Spelling.{IsSpaces}
use Rattle.djq_value.specs.ValueText.{value_text}
use Rattle.djq_value.specs.declared.reading.ValueRefusal.{ValueRefusal}
use Rattle.djq_value.specs.declared.reading.ValueRefusal.TheVariants.{Syntax, IntRange, TextLong, NoMem}

-- the literal of a token, and what follows the token; none if it is none
abbrev pub literal_in : Option (Token × Bytes) → Option (Value × Bytes)
literal_in None = None
literal_in (Some p) = option_map (λ v. (v, p.1)) (literal_of p.0)

-- the literal that is the first token of bytes, and what follows it
abbrev pub literal_at : Bytes → Option (Value × Bytes)
literal_at bytes = literal_in (token_at bytes)

-- the place of the first byte that is no space
abbrev pub IsBehindSpaces : Bytes → ℕ → Type 0
IsBehindSpaces bytes at = (at ≤ length bytes) × (drop at bytes ≡ behind_spaces bytes)

-- What reading a literal answers, by the literal in front of the bytes. Only for a text within its limit it is out of
-- memory.
abbrev pub ReadsValue : Bytes → Result (Value × ℕ) ValueRefusal → Type 0
ReadsValue bytes (Ok p) = (literal_at bytes ≡ Some (p.0, drop p.1 bytes)) × (is_small_value p.0 ≡ true)
    × (p.1 ≤ length bytes)
ReadsValue bytes (Err (Syntax at)) = (literal_at bytes ≡ None) × IsBehindSpaces bytes at
ReadsValue bytes (Err (IntRange at)) = (i : ℤ) × (behind : Bytes) × (literal_at bytes ≡ Some (Int i, behind))
    × (is_small i ≡ false) × IsBehindSpaces bytes at
ReadsValue bytes (Err (TextLong at)) = (t : Bytes) × (behind : Bytes) × (literal_at bytes ≡ Some (Text t, behind))
    × (TEXT_BYTES < length t) × IsBehindSpaces bytes at
ReadsValue bytes (Err NoMem) = (t : Bytes) × (behind : Bytes) × (literal_at bytes ≡ Some (Text t, behind))
    × (length t ≤ TEXT_BYTES)

-- What is printed is read back, in front of what may follow a literal.
abbrev pub ValuesReadBack : Type 0
ValuesReadBack = (v : Value) (behind : Bytes) → is_small_value v ≡ true → may_end behind ≡ true
    → literal_at (value_text v ++ behind) ≡ Some (v, behind)

-- the bytes that are a literal: a text has one spelling, an integer may have leading zeros
abbrev pub IsLiteral : Value → Bytes → Type 0
IsLiteral (Int i) w = integer_of w ≡ Some i
IsLiteral (Text t) w = w ≡ value_text (Text t)

-- What is read is spelled, after spaces and in front of what may follow a literal.
abbrev pub IsSpelledBack : Type 0
IsSpelledBack = (bytes : Bytes) (v : Value) (behind : Bytes) → literal_at bytes ≡ Some (v, behind)
    → (front : Bytes) × (w : Bytes) × IsSpaces front × (bytes ≡ front ++ (w ++ behind)) × IsLiteral v w
    × (may_end behind ≡ true)
