-- What is read in front without a token: words, names, and integers of few digits, which are within 64 bits in any
-- case.
use Rattle.std.specs.Prelude.{◌≡◌, ◌<◌, ◌≤◌, ℕ, ℤ, pos, List, ◌∷◌, true, Option, None, Some, drop, length, take}
use Rattle.std.specs.Borrow.{Bor}
use Rattle.djq_model.specs.Data.{Bytes}
use Rattle.djq_value.specs.Literal.{integer_of, is_name, is_small, natural_of}
use Rattle.djq_value.specs.Token.{Token, may_end, tokens, word}
use Rattle.djq_value.specs.Word.{is_tail_of}

-- Digits in front, up to a place at which a word may end: the number that they denote, and how many they are.
abbrev pub AreDigitsAt : Bytes → Option (ℕ × ℕ) → Type 0
AreDigitsAt bs None = Unit {0}
AreDigitsAt bs (Some r) =
    (r.1 ≤ length bs) × (natural_of (take r.1 bs) ≡ Some r.0) × (r.0 < 1000000000000000000)
    × (may_end (drop r.1 bs) ≡ true)

-- An integer in front, up to a place at which a word may end, and how many bytes it has.
abbrev pub IsSmallAt : Bytes → Option (ℤ × ℕ) → Type 0
IsSmallAt bs None = Unit {0}
IsSmallAt bs (Some r) =
    (r.1 ≤ length bs) × (integer_of (take r.1 bs) ≡ Some r.0) × (is_small r.0 ≡ true) × (may_end (drop r.1 bs) ≡ true)

-- The word in front is removed if its integer is given, which is of 64 bits; else nothing is.
abbrev pub TakesSmall : List Token → Option ℤ → List Token → Type 0
TakesSmall old None new = new ≡ old
TakesSmall old (Some i) new = (w : Bytes) × (old ≡ word w ∷ new) × (integer_of w ≡ Some i) × (is_small i ≡ true)

-- An integer in front, after spaces, and how many bytes both have.
abbrev pub IsSmallInFront : Bytes → Option (ℤ × ℕ) → Type 0
IsSmallInFront bs None = Unit {0}
IsSmallInFront bs (Some r) = (r.1 ≤ length bs) × TakesSmall (tokens bs) (Some r.0) (tokens (drop r.1 bs))

-- Digits in front, after a space: the number that they denote, and how many bytes both have.
abbrev pub AreDigitsInFront : Bytes → Option (ℕ × ℕ) → Type 0
AreDigitsInFront bs None = Unit {0}
AreDigitsInFront bs (Some r) = (r.0 < 1000000000000000000) × IsSmallInFront bs (Some (pos r.0, r.1))

-- The word in front is removed if it is given; else nothing is.
abbrev pub TakesPlainWord : List Token → Option (Bor Bytes) → List Token → Type 0
TakesPlainWord old None new = new ≡ old
TakesPlainWord old (Some w) new = old ≡ word w.now ∷ new

-- So many bytes of a name after its first, in front of bytes, up to a place at which a word may end.
abbrev pub IsTailAt : Bytes → Option ℕ → Type 0
IsTailAt bs None = Unit {0}
IsTailAt bs (Some n) = (n ≤ length bs) × (is_tail_of (take n bs) ≡ true) × (may_end (drop n bs) ≡ true)

-- A name of so many bytes in front, up to a place at which a word may end.
abbrev pub IsNameAt : Bytes → Option ℕ → Type 0
IsNameAt bs None = Unit {0}
IsNameAt bs (Some n) = (n ≤ length bs) × (is_name (take n bs) ≡ true) × (may_end (drop n bs) ≡ true)

-- The name in front is removed if it is given; else nothing is.
abbrev pub TakesCloseName : List Token → Option (Bor Bytes) → List Token → Type 0
TakesCloseName old None new = new ≡ old
TakesCloseName old (Some n) new = (old ≡ word n.now ∷ new) × (is_name n.now ≡ true)
