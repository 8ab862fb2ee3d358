-- Which texts are in use, how often, and under which numbers.
use Rattle.std.specs.Prelude.{◌≡◌, ◌≢◌, ℕ, zero, suc, ◌+◌, ◌-◌, ◌*◌, ◌==◌, ◌<◌, ◌≤◌, List, [], ◌∷◌, length, cond}
use Rattle.std.specs.Prelude.{slice_index_or, Option, Some, None, IsSome, ◌⊎◌}
use Rattle.djq_arena.specs.declared.link.TheConstants.{SLOTS}
use Rattle.djq_texts.specs.declared.entry.TheConstants.{MOST_USES}

-- a text in use: its bytes, and how often it is used
pub record Known : Type 0 where
  pub bytes : List ℕ
  pub uses : ℕ

-- what has a number, if anything has it
abbrev pub known_at : List (Option Known) → ℕ → Option Known
known_at known n = slice_index_or known n None

-- this text has this number
abbrev pub HasNumber : List (Option Known) → ℕ → List ℕ → Type 0
HasNumber known n text = (uses : ℕ) × (known_at known n ≡ Some (record { bytes = text; uses = uses }))

-- a text has no number: it isn't in use
abbrev pub HasNoNumber : List (Option Known) → List ℕ → Type 0
HasNoNumber known text = (n : ℕ) → HasNumber known n text → ⊥

-- no text has two numbers
abbrev pub IsOneToOne : List (Option Known) → Type 0
IsOneToOne known = (text : List ℕ) (m n : ℕ) → HasNumber known m text → HasNumber known n text → m ≡ n

-- one for a text, none for a number that is free
abbrev pub one_if_used : Option Known → ℕ
one_if_used None = 0
one_if_used (Some k) = 1

-- how many texts have a number from b on
unfoldable pub in_use_from : ℕ → List (Option Known) → ℕ
in_use_from b [] = 0
in_use_from zero (o ∷ known) = one_if_used o + in_use_from zero known
in_use_from (suc b) (o ∷ known) = in_use_from b known

-- how many texts are in use
abbrev pub texts_in_use : List (Option Known) → ℕ
texts_in_use known = in_use_from 0 known

-- there are at most sixteen places for numbers, or fewer than four times as many as up to one that is in use
abbrev pub IsTight : List (Option Known) → Type 0
IsTight known = (length known ≤ 16) ⊎ ((n : ℕ) × IsSome (known_at known n) × (length known < 4 * (n + 1)))

-- a number has this now, and all others have what they had
pub record Sets (old : List (Option Known)) (n : ℕ) (now : Option Known) (new : List (Option Known)) : Type 0 where
  pub here : known_at new n ≡ now
  pub others : (m : ℕ) → m ≢ n → known_at new m ≡ known_at old m

-- how often a text is used
abbrev pub uses_of : Option Known → ℕ
uses_of None = 0
uses_of (Some k) = k.uses

-- a text with a use more
abbrev pub with_more : Option Known → Option Known
with_more None = None
with_more (Some k) = Some (record { bytes = k.bytes; uses = k.uses + 1 })

-- a text with a use less: with the last one it is forgotten
abbrev pub with_less : Option Known → Option Known
with_less None = None
with_less (Some k) = cond (k.uses == 1) None (Some (record { bytes = k.bytes; uses = k.uses - 1 }))

-- a text of these bytes, if it is used at all
abbrev pub number_entry : ℕ → List ℕ → Option Known
number_entry uses bytes = cond (uses == 0) None (Some (record { bytes = bytes; uses = uses }))

-- a text that was unknown has this number, which was free, and one use
pub record Enters (old : List (Option Known)) (text : List ℕ) (n : ℕ) (new : List (Option Known)) : Type 0 where
  pub unknown : HasNoNumber old text
  pub free : known_at old n ≡ None
  pub sets : Sets old n (Some (record { bytes = text; uses = 1 })) new

-- the text with this number has one use more
pub record AddsUse (old : List (Option Known)) (text : List ℕ) (n : ℕ) (new : List (Option Known)) : Type 0 where
  pub uses : ℕ
  pub before : known_at old n ≡ Some (record { bytes = text; uses = uses })
  pub sets : Sets old n (Some (record { bytes = text; uses = uses + 1 })) new

-- a use of a text is added, under this number
abbrev pub TakesUse : List (Option Known) → List ℕ → ℕ → List (Option Known) → Type 0
TakesUse old text n new = Enters old text n new ⊎ AddsUse old text n new

-- a number is free that has a place
abbrev pub HasFree : List (Option Known) → Type 0
HasFree known = (n : ℕ) × (n < length known) × (known_at known n ≡ None)

-- a number has a place, or is the next one if no number that has a place is free
abbrev pub TakesPlace : List (Option Known) → ℕ → Type 0
TakesPlace known n = (n ≤ length known) × (HasFree known → n < length known)

-- a text has as many uses as can be counted
abbrev pub HasMost : List (Option Known) → List ℕ → Type 0
HasMost known text = (n : ℕ) × (known_at known n ≡ Some (record { bytes = text; uses = MOST_USES }))

-- why no use of a text can be added whatever memory there is: it has as many as can be counted, or it isn't in use and as
-- many texts are as there may be
abbrev pub IsFullFor : List (Option Known) → List ℕ → Type 0
IsFullFor known text = HasMost known text ⊎ ((texts_in_use known ≡ SLOTS) × HasNoNumber known text)

-- the number that a search for a text finds, or none
abbrev pub FindsText : List (Option Known) → List ℕ → Option ℕ → Type 0
FindsText known text None = HasNoNumber known text
FindsText known text (Some n) = HasNumber known n text
