-- How values are printed.
use Rattle.std.specs.Prelude.{ℕ, ◌∷◌, [], ◌==◌, ◌||◌, ◌++◌, Bool, if◌then◌else◌, codes}
use Rattle.std.specs.List.{flat_map}
use Rattle.std.specs.Fmt.{signed_decimal}
use Rattle.djq_model.specs.declared.value.Value.{Value}
use Rattle.djq_model.specs.declared.value.Value.TheVariants.{Int, Text}
use Rattle.djq_model.specs.Data.{Bytes}

-- the bytes of a text that are printed with a backslash before them: quote, backslash and LF
abbrev pub is_escaped : ℕ → Bool
is_escaped b = b == 34 || b == 92 || b == 10

-- a byte as it is printed in a text
abbrev pub escaped : ℕ → Bytes
escaped b = if b == 34 then codes "\\\"" else
    (if b == 92 then codes "\\\\" else (if b == 10 then codes "\\n" else b ∷ []))

-- a text in quotes
abbrev pub quoted : Bytes → Bytes
quoted t = 34 ∷ flat_map escaped t ++ 34 ∷ []

-- a value as it is printed
abbrev pub value_text : Value → Bytes
value_text (Int i) = signed_decimal i
value_text (Text t) = quoted t
