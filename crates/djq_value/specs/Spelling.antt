-- How bytes spell tokens.
use Rattle.std.specs.Prelude.{ℕ, ◌≡◌, ◌≢◌, ◌↔◌, ◌<◌, List, [], ◌∷◌, ◌++◌, true, false, Some, All}
use Rattle.std.specs.Prelude.{codes, length, slice_index, slice_get}
use Rattle.djq_model.specs.declared.query.Operator.{Operator}
use Rattle.djq_model.specs.declared.query.Operator.TheVariants.{Less, LessOrEqual, Greater}
use Rattle.djq_model.specs.declared.query.Operator.TheVariants.{GreaterOrEqual, Equal, NotEqual}
use Rattle.djq_model.specs.Data.{Bytes}
use Rattle.djq_value.specs.Token.{Token, word, text, open_paren, close_paren, comma, arrow}
use Rattle.djq_value.specs.Token.{operator, stray, ends_word, may_end, tokens}
use Rattle.djq_value.specs.ValueText.{quoted}

-- spaces, or nothing
abbrev pub IsSpaces : Bytes → Type 0
IsSpaces bs = All (λ b. b ≡ 32) bs

-- the bytes of an operator
abbrev pub operator_text : Operator → Bytes
operator_text Less = codes "<"
operator_text LessOrEqual = codes "<="
operator_text Greater = codes ">"
operator_text GreaterOrEqual = codes ">="
operator_text Equal = codes "="
operator_text NotEqual = codes "!="

-- the bytes of a token
abbrev pub token_text : Token → Bytes
token_text (word w) = w
token_text open_paren = codes "("
token_text close_paren = codes ")"
token_text comma = codes ","
token_text arrow = codes "<-"
token_text (operator o) = operator_text o
token_text (text t) = quoted t
token_text stray = []

-- A word has a byte at least, no space and no sign, and begins with no quote. A text may have any bytes.
abbrev pub IsToken : Token → Type 0
IsToken (word w) = (0 < length w) × All (λ b. ends_word b ≡ false) w × (slice_index w 0 ≢ 34)
IsToken (text t) = Unit {0}
IsToken open_paren = Unit {0}
IsToken close_paren = Unit {0}
IsToken comma = Unit {0}
IsToken arrow = Unit {0}
IsToken (operator o) = Unit {0}
IsToken stray = ⊥

-- These bytes don't begin with this one.
abbrev pub BeginsOtherwise : ℕ → Bytes → Type 0
BeginsOtherwise b bs = slice_get bs 0 ≢ Some b

-- What may follow a token directly: after a word or a text a space, a sign or nothing; after `<` and `>`
-- nothing that makes a longer sign of them.
abbrev pub MayFollow : Token → Bytes → Type 0
MayFollow (word w) bs = may_end bs ≡ true
MayFollow (text t) bs = may_end bs ≡ true
MayFollow (operator Less) bs = BeginsOtherwise 45 bs × BeginsOtherwise 61 bs
MayFollow (operator Greater) bs = BeginsOtherwise 61 bs
MayFollow _ bs = Unit {0}

-- The tokens one after the other, with any number of spaces before, between and after them.
abbrev pub IsSpelling : List Token → Bytes → Type 0
IsSpelling [] line = IsSpaces line
IsSpelling (t ∷ ts) line = (front : Bytes) × (behind : Bytes) × IsSpaces front
    × (line ≡ front ++ (token_text t ++ behind))
    × IsToken t × MayFollow t behind × IsSpelling ts behind

-- Each of them is a token.
abbrev pub HasNoStray : List Token → Type 0
HasNoStray [] = Unit {0}
HasNoStray (stray ∷ ts) = ⊥
HasNoStray (t ∷ ts) = HasNoStray ts

-- The tokens of a line are the ones that it spells, and no others.
abbrev pub TokensAreSpelled : Type 0
TokensAreSpelled = (line : Bytes) (ts : List Token) → ((tokens line ≡ ts) × HasNoStray ts) ↔ IsSpelling ts line
