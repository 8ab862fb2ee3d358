-- The lexer's answers, from the tokens that are left.
use Rattle.std.specs.Prelude.{◌≡◌, List, [], ◌∷◌, Option, None, Some, Bool, false, true, drop}
use Rattle.std.specs.Borrow.{Bor}
use Rattle.djq_model.specs.Data.{Bytes}
use Rattle.djq_value.specs.Literal.{is_name}
use Rattle.djq_value.specs.Token.{Token as Lexeme, word, text, open_paren, close_paren, comma, arrow, operator, stray}
use Rattle.djq_value.specs.declared.lexer.Token.{Token}
use Rattle.djq_value.specs.declared.lexer.Token.TheVariants.{Word, Text, Open, Close, Comma, Arrow, Operator, Stray}

-- the token of the definitions for a token of the lexer
abbrev pub lexeme_of : Token → Lexeme
lexeme_of (Word w) = word w.now
lexeme_of (Text t) = text t
lexeme_of Open = open_paren
lexeme_of Close = close_paren
lexeme_of Comma = comma
lexeme_of Arrow = arrow
lexeme_of (Operator o) = operator o
lexeme_of Stray = stray

-- The first token is removed from those that are left; none is given if none is left.
abbrev pub TakesToken : List Lexeme → Option Token → List Lexeme → Type 0
TakesToken old None new = (old ≡ []) × (new ≡ [])
TakesToken old (Some t) new = old ≡ lexeme_of t ∷ new

-- the word that a token is
abbrev pub word_of : Lexeme → Option Bytes
word_of (word w) = Some w
word_of _ = None

-- the word in front
abbrev pub first_word : List Lexeme → Option Bytes
first_word [] = None
first_word (t ∷ ts) = word_of t

-- The word in front is removed; none is given if no word is in front, and what is there instead is skipped.
abbrev pub TakesWord : List Lexeme → Option (Bor Bytes) → List Lexeme → Type 0
TakesWord old None new = (first_word old ≡ None) × (new ≡ drop 1 old)
TakesWord old (Some w) new = old ≡ word w.now ∷ new

-- whether a name is in front
abbrev pub has_name_first : List Lexeme → Bool
has_name_first (word w ∷ ts) = is_name w
has_name_first _ = false

-- The name in front is removed; none is given if no name is in front, and what is there instead is skipped.
abbrev pub TakesName : List Lexeme → Option Bytes → List Lexeme → Type 0
TakesName old None new = (has_name_first old ≡ false) × (new ≡ drop 1 old)
TakesName old (Some n) new = (old ≡ word n ∷ new) × (is_name n ≡ true)
