-- What reading a line, or a part of it, answers.
use Rattle.std.specs.Prelude.{◌≡◌, ◌&&◌, ◌++◌, List, ◌∷◌, Bool, true, false, Option, None, Some, Result, Ok, Err}
use Rattle.std.specs.List.{list_all}
use Rattle.djq_model.specs.Data.{Bytes}
use Rattle.djq_model.specs.declared.query.Query.{Query}
use Rattle.djq_protocol.specs.declared.command.Command.{Command}
use Rattle.djq_value.specs.Token.{Token, comma}
use Rattle.djq_value.specs.Literal.{is_small_value}
use Rattle.djq_protocol.specs.Grammar.{Body, command_of, is_in_range, is_small_atom, takes_memory_to_read}
use Rattle.djq_parser.specs.declared.refusal.LineRefusal.{LineRefusal}
use Rattle.djq_parser.specs.declared.refusal.LineRefusal.TheVariants.{Syntax, Range, NoMem}

-- Nothing is there to be read, and `Syntax` is answered; or something is. Then the answer is `Range`
-- if it isn't in range, else it or out of memory.
abbrev pub ReadsAs : {A : Type 0} → (A → Bool) → Option A → Result A LineRefusal → Type 0
ReadsAs in_range None r = r ≡ Err Syntax
ReadsAs in_range (Some a) (Ok b) = (b ≡ a) × (in_range a ≡ true)
ReadsAs in_range (Some a) (Err Range) = in_range a ≡ false
ReadsAs in_range (Some a) (Err NoMem) = in_range a ≡ true
ReadsAs in_range (Some a) (Err _) = ⊥

-- The same of what is in front of other tokens: these are left.
abbrev pub ReadsPart : {A : Type 0} → (A → Bool) → Option (A × List Token) → Result A LineRefusal
    → List Token → Type 0
ReadsPart in_range None r left = r ≡ Err Syntax
ReadsPart in_range (Some p) r left = ReadsAs in_range (Some p.0) r × (left ≡ p.1)

-- items in front of others, unless these are none
abbrev pub onto : {A : Type 0} → List A → Option (List A) → Option (List A)
onto read None = None
onto read (Some xs) = Some (read ++ xs)

-- whether each literal of a body is within its limit
abbrev pub is_small_body : Body → Bool
is_small_body b =
    list_all is_small_atom b.0 && list_all (λ c. is_small_value c.constant) b.1

-- whether each literal of a query is within its limit
abbrev pub is_small_query : Query → Bool
is_small_query q = is_small_body (q.atoms, q.comparisons)

-- whether a token is a comma
abbrev pub is_comma : Token → Bool
is_comma comma = true
is_comma _ = false

-- whether three tokens are there
abbrev pub has_three : List Token → Bool
has_three (a ∷ b ∷ c ∷ ts) = true
has_three _ = false

-- whether something is outside the grammar
abbrev pub is_outside : {A : Type 0} → Result A LineRefusal → Bool
is_outside (Ok a) = false
is_outside (Err Syntax) = true
is_outside (Err _) = false

-- Reading may be out of memory only if it allocates.
abbrev pub ReadingTakesMemory : Option Command → Result Command LineRefusal → Type 0
ReadingTakesMemory (Some c) (Err NoMem) = takes_memory_to_read c ≡ true
ReadingTakesMemory o r = Unit {0}

-- what reading a command answers
abbrev pub GivesCommand : Option Command → Result Command LineRefusal → Type 0
GivesCommand o r = ReadsAs is_in_range o r × ReadingTakesMemory o r

-- what reading a line answers
abbrev pub LineReadsAs : Bytes → Result Command LineRefusal → Type 0
LineReadsAs line r = GivesCommand (command_of line) r
