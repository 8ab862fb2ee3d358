-- What reading a row's line, or a part of it, answers.
use Rattle.std.specs.Prelude.{◌≡◌, ◌≤◌, ◌==◌, ◌||◌, ◌++◌, List, [], ◌∷◌, Bool, false, true, Option, None, drop, length}
use Rattle.std.specs.Prelude.{Some, is_some, Result, Ok, Err, if◌then◌else◌, codes}
use Rattle.std.specs.List.{list_all}
use Rattle.std.specs.Str.{is_utf8}
use Rattle.std.specs.Borrow.{Bor}
use Rattle.djq_model.specs.Data.{Bytes, Tuple}
use Rattle.djq_protocol.specs.declared.command.Command.TheVariants.{Add as AddRow, Del as DeleteRow}
use Rattle.djq_protocol.specs.declared.keyword.Keyword.{Keyword}
use Rattle.djq_protocol.specs.declared.keyword.Keyword.TheVariants.{Add as AddWord, Del as DelWord}
use Rattle.djq_model.specs.declared.value.Value.{Value}
use Rattle.djq_model.specs.declared.value.Value.TheVariants.{Int, Text}
use Rattle.djq_value.specs.Lexing.{has_name_first}
use Rattle.djq_value.specs.Literal.{is_name, is_small_value, literal_of}
use Rattle.djq_value.specs.Token.{Token, word, tokens}
use Rattle.djq_protocol.specs.Grammar.{all_of, keyword_of, named_some}
use Rattle.djq_parser.specs.Reading.{LineReadsAs, ReadsAs, onto}
use Rattle.djq_parser.specs.declared.refusal.LineRefusal.{LineRefusal}
use Rattle.djq_parser.specs.declared.row.RowLine.{RowLine}
use Rattle.djq_parser.specs.declared.row.RowLine.TheVariants.{Add, Del, Refused, Other}
use Rattle.djq_parser.specs.declared.row.RowWord.{RowWord}
use Rattle.djq_parser.specs.declared.row.RowWord.TheVariants.{Add as Adds, Del as Deletes}

-- what a keyword does with a row, if it is one of a row
abbrev pub row_word_of : Option Keyword → Option RowWord
row_word_of (Some AddWord) = Some Adds
row_word_of (Some DelWord) = Some Deletes
row_word_of _ = None

-- the same of the keyword with which tokens begin
abbrev pub row_word_in : List Token → Option RowWord
row_word_in (word w ∷ ts) = row_word_of (keyword_of w)
row_word_in _ = None

-- whether tokens begin with such a keyword
abbrev pub begins_row : List Token → Bool
begins_row ts = is_some (row_word_in ts)

-- whether a line may begin with one, by its first byte
abbrev pub may_begin : Bytes → Bool
may_begin [] = false
may_begin (b ∷ bs) = b == 32 || b == 97 || b == 100

-- Such a keyword is removed from those tokens; none is given if they don't begin with one.
abbrev pub TakesRowWord : List Token → Option RowWord → List Token → Type 0
TakesRowWord old None new = row_word_in old ≡ None
TakesRowWord old (Some Adds) new = old ≡ word (codes "add") ∷ new
TakesRowWord old (Some Deletes) new = old ≡ word (codes "del") ∷ new

-- the same, with what is left as a part of the answer
abbrev pub BeginsRow : List Token → Option (RowWord × List Token) → Type 0
BeginsRow old None = row_word_in old ≡ None
BeginsRow old (Some r) = TakesRowWord old (Some r.0) r.1

-- Such a keyword is the first bytes of a line, and a space follows it. If none is given, the line may begin in
-- another way.
abbrev pub IsCloseRowWord : Bytes → Option RowWord → Type 0
IsCloseRowWord line None = Unit {0}
IsCloseRowWord line (Some verb) = (4 ≤ length line) × TakesRowWord (tokens line) (Some verb) (tokens (drop 4 line))

-- The name in front is removed; none is given if no name is in front.
abbrev pub TakesNameInFront : List Token → Option (Bor Bytes × List Token) → Type 0
TakesNameInFront old None = has_name_first old ≡ false
TakesNameInFront old (Some r) = (old ≡ word r.0.now ∷ r.1) × (is_name r.0.now ≡ true)

-- whether a value is an integer
abbrev pub is_integer_value : Value → Bool
is_integer_value (Int i) = true
is_integer_value (Text t) = false

-- Integers of 64 bits were removed from the front of tokens, and appended to a row.
abbrev pub ReadsNumbers : List Token → Tuple → List Token → Tuple → Type 0
ReadsNumbers old row new more =
    (xs : Tuple) × (more ≡ row ++ xs) × (list_all is_integer_value xs ≡ true)
    × (list_all is_small_value xs ≡ true)
    × (all_of literal_of old ≡ onto xs (all_of literal_of new))

-- These values, which may be none of the grammar, are refused for this.
abbrev pub IsRefused : Option Tuple → LineRefusal → Type 0
IsRefused o refusal = ReadsAs (list_all is_small_value) o (Err refusal)

-- If values are refused for the one reason, they are for the other with those of the tokens.
abbrev pub RefusesOn : List Token → LineRefusal → LineRefusal → Type 0
RefusesOn ts refusal result =
    (xs : Tuple) → IsRefused (Some xs) refusal → IsRefused (onto xs (all_of literal_of ts)) result

-- a name and values, one at least, in a line that is UTF-8
abbrev pub named_in : Bytes → List Token → Option (Bytes × Tuple)
named_in line ts = if is_utf8 line then named_some literal_of ts else None

-- the values that were read, unless they were refused
abbrev pub values_read : {A : Type 0} → Result A LineRefusal → Tuple → Result Tuple LineRefusal
values_read (Ok a) row = Ok row
values_read (Err refusal) row = Err refusal

-- a name with them
abbrev pub named_read : Result (Bor Bytes) LineRefusal → Tuple → Result (Bytes × Tuple) LineRefusal
named_read (Ok name) row = Ok (name.now, row)
named_read (Err refusal) row = Err refusal

-- the same, of a name that was read before
abbrev pub named_with : {A : Type 0} → Bytes → Result A LineRefusal → Tuple → Result (Bytes × Tuple) LineRefusal
named_with name (Ok a) row = Ok (name, row)
named_with name (Err refusal) row = Err refusal

-- If a line begins with a keyword and a name, and then the integers of a row, the row is completed by what follows
-- them.
abbrev pub ReadsOthers : {A : Type 0} → Bytes → List Token → Tuple → Result A LineRefusal → Tuple → Type 0
ReadsOthers line ts row result new =
    (verb : RowWord) (named values : List Token) (name : Bytes) → TakesRowWord (tokens line) (Some verb) named
    → named ≡ word name ∷ values → is_name name ≡ true → ReadsNumbers values [] ts row
    → ReadsAs (λ p. list_all is_small_value p.1) (named_in line named) (named_with name result new)

-- The answer of reading the line of a row, if these values are left: it is read as any line is. Of a line that is
-- refused its keyword is reported. A line that begins with another word is reported apart, and the values stay.
abbrev pub ReadsRow : Bytes → RowLine → Tuple → Tuple → Type 0
ReadsRow line (Add name) old new = LineReadsAs line (Ok (AddRow name.now new))
ReadsRow line (Del name) old new = LineReadsAs line (Ok (DeleteRow name.now new))
ReadsRow line (Refused verb refusal) old new =
    (row_word_in (tokens line) ≡ Some verb) × LineReadsAs line (Err refusal)
ReadsRow line Other old new = (begins_row (tokens line) ≡ false) × (new ≡ old)
