-- The tokens of a line: words, texts, signs, and spaces between them.
use Rattle.std.specs.Prelude.{ℕ, zero, suc, List, [], ◌∷◌, ◌==◌, ◌||◌, Bool, true, false, not}
use Rattle.std.specs.Prelude.{Option, None, Some, if◌then◌else◌, length, take_while}
use Rattle.djq_model.specs.declared.query.Operator.{Operator}
use Rattle.djq_model.specs.declared.query.Operator.TheVariants.{Less, LessOrEqual, Greater}
use Rattle.djq_model.specs.declared.query.Operator.TheVariants.{GreaterOrEqual, Equal, NotEqual}
use Rattle.djq_model.specs.Data.{Bytes}

-- what a line is made of, but for the spaces
pub data Token : Type 0 where
  -- a run of bytes that are no spaces and no signs: a keyword, a name, a hole, an integer, or none of them
  word : Bytes → Token
  -- what is between two quotes, with its escapes replaced by their bytes
  text : Bytes → Token
  open_paren : Token
  close_paren : Token
  comma : Token
  arrow : Token
  operator : Operator → Token
  -- no token: a `!` that begins no `!=`, a text that doesn't end, that has an escape of no meaning, or that a word or
  -- another text touches
  stray : Token

-- spaces and signs end a word
abbrev pub ends_word : ℕ → Bool
ends_word b = b == 32 || b == 33 || b == 40 || b == 41 || b == 44 || b == 60 || b == 61 || b == 62

-- the longest run of word bytes in front
abbrev pub word_front : Bytes → Bytes
word_front bs = take_while (λ b. not (ends_word b)) bs

-- what follows the longest run of word bytes in front
abbrev pub behind_word : Bytes → Bytes
behind_word [] = []
behind_word (b ∷ bs) = if ends_word b then b ∷ bs else behind_word bs

-- what follows the spaces in front
abbrev pub behind_spaces : Bytes → Bytes
behind_spaces [] = []
behind_spaces (b ∷ bs) = if b == 32 then behind_spaces bs else b ∷ bs

-- A sign is read as long as it can be.

-- after a `<`
abbrev pub less_front : Bytes → Token × Bytes
less_front [] = (operator Less, [])
less_front (b ∷ bs) =
    if b == 45 then (arrow, bs)
    else (if b == 61 then (operator LessOrEqual, bs) else (operator Less, b ∷ bs))

-- after a `>`
abbrev pub greater_front : Bytes → Token × Bytes
greater_front [] = (operator Greater, [])
greater_front (b ∷ bs) = if b == 61 then (operator GreaterOrEqual, bs) else (operator Greater, b ∷ bs)

-- after a `!`
abbrev pub not_front : Bytes → Token × Bytes
not_front [] = (stray, [])
not_front (b ∷ bs) = if b == 61 then (operator NotEqual, bs) else (stray, b ∷ bs)

-- the byte of an escape, by the byte after its backslash
abbrev pub escape_of : ℕ → Option ℕ
escape_of b = if b == 34 then Some 34 else (if b == 92 then Some 92 else (if b == 110 then Some 10 else None))

-- one byte in front of a text
abbrev pub in_text : Option ℕ → Option (Bytes × Bytes) → Option (Bytes × Bytes)
in_text (Some b) (Some r) = Some (b ∷ r.0, r.1)
in_text (Some b) None = None
in_text None _ = None

-- The text up to its closing quote, and what follows that; `true` if a backslash precedes these bytes.
abbrev pub text_in : Bool → Bytes → Option (Bytes × Bytes)
text_in escape [] = None
text_in true (b ∷ bs) = in_text (escape_of b) (text_in false bs)
text_in false (b ∷ bs) =
    if b == 34 then Some ([], bs)
    else (if b == 92 then text_in true bs
    else (if b == 10 then None
    else in_text (Some b) (text_in false bs)))

-- whether a word or a text may end in front of these bytes
abbrev pub may_end : Bytes → Bool
may_end [] = true
may_end (b ∷ bs) = ends_word b

-- after an opening quote
abbrev pub text_front : Option (Bytes × Bytes) → Token × Bytes
text_front None = (stray, [])
text_front (Some r) = if may_end r.1 then (text r.0, r.1) else (stray, r.1)

-- the token that begins with these bytes, and what follows it
abbrev pub token_front : Bytes → Option (Token × Bytes)
token_front [] = None
token_front (b ∷ bs) = Some (
    if b == 40 then (open_paren, bs)
    else (if b == 41 then (close_paren, bs)
    else (if b == 44 then (comma, bs)
    else (if b == 60 then less_front bs
    else (if b == 61 then (operator Equal, bs)
    else (if b == 62 then greater_front bs
    else (if b == 33 then not_front bs
    else (if b == 34 then text_front (text_in false bs)
    else (word (b ∷ word_front bs), behind_word bs)))))))))

-- the first token, and what follows it; none if only spaces are left
abbrev pub token_at : Bytes → Option (Token × Bytes)
token_at bs = token_front (behind_spaces bs)

-- a token, and more of what follows it; nothing if there is no token
abbrev pub and_then : (Bytes → List Token) → Option (Token × Bytes) → List Token
and_then more None = []
and_then more (Some t) = t.0 ∷ more t.1

-- Each token has a byte at least, so the number of bytes is enough for all.
abbrev pub tokens_within : ℕ → Bytes → List Token
tokens_within zero bs = []
tokens_within (suc n) bs = and_then (tokens_within n) (token_at bs)

-- the tokens of a line
unfoldable pub tokens : Bytes → List Token
tokens bs = tokens_within (length bs) bs
