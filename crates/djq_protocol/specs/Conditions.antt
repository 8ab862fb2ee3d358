-- How a command's conditions decide what it answers.
use Rattle.std.specs.Prelude.{
  List,
  [],
  ◌∷◌,
  ◌≡◌,
  Bool,
  Option,
  None,
  Some,
  Result,
  Ok,
  Err,
  if◌then◌else◌,
}
use Rattle.djq_protocol.specs.declared.answer.Refusal.{Refusal}
use Rattle.djq_protocol.specs.declared.answer.Refusal.TheVariants.{NoMemory}

-- the refusal of the first condition that holds
abbrev pub first_refusal : List (Bool × Refusal) → Option Refusal
first_refusal [] = None
first_refusal (c ∷ cs) = if c.0 then Some c.1 else first_refusal cs

-- A command answers the refusal of a condition that holds. If none does, it is done, or refused
-- late: for what shows only while it is done.
abbrev pub Answers : {A : Type 0} → Option Refusal → Result A Refusal → (A → Type 0)
    → (Refusal → Type 0) → Type 0
Answers None (Ok a) Done Late = Done a
Answers None (Err r) Done Late = Late r
Answers (Some r) (Ok a) Done Late = ⊥
Answers (Some r) (Err s) Done Late = s ≡ r

-- Out of memory is the one late refusal, and is possible only if this holds.
abbrev pub OutOfMemoryWhere : Type 0 → Refusal → Type 0
OutOfMemoryWhere P NoMemory = P
OutOfMemoryWhere P _ = ⊥
