-- What a word may be: a name, an integer; and which literals are within their limit.
use Rattle.std.specs.Prelude.{ℕ, ℤ, pos, negsuc, List, [], ◌∷◌, ◌==◌, ◌+◌, ◌-◌, ◌*◌, ◌&&◌, ◌||◌}
use Rattle.std.specs.Prelude.{◌≡◌, Bool, true, false, not, nat_le, Option, None, Some, if◌then◌else◌}
use Rattle.std.specs.Prelude.{option_map, length}
use Rattle.std.specs.List.{list_all, list_any}
use Rattle.djq_model.specs.declared.value.Value.{Value}
use Rattle.djq_model.specs.declared.value.Value.TheVariants.{Int, Text}
use Rattle.djq_model.specs.declared.value.TheConstants.{TEXT_BYTES}
use Rattle.djq_model.specs.Data.{Bytes, bytes_eq}
use Rattle.djq_value.specs.Token.{Token, word, text}

-- a lower-case letter
abbrev pub is_lower : ℕ → Bool
is_lower b = nat_le 97 b && nat_le b 122

-- a decimal digit
abbrev pub is_digit : ℕ → Bool
is_digit b = nat_le 48 b && nat_le b 57

-- a name: a letter, then letters, digits and `_`, 32 bytes at most
abbrev pub is_name : Bytes → Bool
is_name [] = false
is_name (b ∷ bs) = is_lower b && (list_all (λ c. is_lower c || is_digit c || c == 95) bs && nat_le (length bs) 31)

-- a name
abbrev pub IsName : Bytes → Type 0
IsName n = is_name n ≡ true

-- the number that digits denote, after others that denote n
abbrev pub digits_value : ℕ → Bytes → ℕ
digits_value n [] = n
digits_value n (d ∷ ds) = digits_value (n * 10 + (d - 48)) ds

-- one or more digits
abbrev pub natural_of : Bytes → Option ℕ
natural_of [] = None
natural_of (d ∷ ds) = if list_all is_digit (d ∷ ds) then Some (digits_value 0 (d ∷ ds)) else None

-- minus a number
abbrev pub minus : ℕ → ℤ
minus n = if n == 0 then pos 0 else negsuc (n - 1)

-- an optional `-`, then one or more digits
abbrev pub integer_of : Bytes → Option ℤ
integer_of [] = None
integer_of (b ∷ bs) = if b == 45 then option_map minus (natural_of bs) else option_map pos (natural_of (b ∷ bs))

-- an integer of 64 bits
abbrev pub is_small : ℤ → Bool
is_small (pos n) = nat_le n 9223372036854775807
is_small (negsuc n) = nat_le n 9223372036854775807

-- whether a name is among these
abbrev pub has_name : List Bytes → Bytes → Bool
has_name names name = list_any (bytes_eq name) names

-- whether each name occurs once
abbrev pub are_different : List Bytes → Bool
are_different [] = true
are_different (n ∷ ns) = not (has_name ns n) && are_different ns

-- the value that a token is
abbrev pub literal_of : Token → Option Value
literal_of (word w) = option_map (λ i. Int i) (integer_of w)
literal_of (text t) = Some (Text t)
literal_of _ = None

-- a value within its limit: an integer of 64 bits, a text of at most 255 bytes
abbrev pub is_small_value : Value → Bool
is_small_value (Int i) = is_small i
is_small_value (Text t) = nat_le (length t) TEXT_BYTES
