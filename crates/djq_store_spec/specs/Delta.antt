-- How a change of rows changes the answers of a query.
use Rattle.std.specs.Prelude.{ℕ, List, [], ◌∷◌, ◌++◌, All, Contains, map}
use Rattle.djq_model.specs.Data.{Bytes, Tuple}
use Rattle.djq_model.specs.Answer.{AreDifferent}
use Rattle.djq_protocol.specs.declared.answer.Sign.{Sign}
use Rattle.djq_protocol.specs.declared.answer.Sign.TheVariants.{Came, Went}
use Rattle.djq_protocol.specs.Reply.{change_line, at_line}

-- an answer that was added or removed
pub record Change : Type 0 where
  pub sign : Sign
  pub answer : Tuple

-- A tuple was added if it is an answer afterwards and wasn't before, and removed the other way round.
abbrev pub HasChanged : (Before After : Tuple → Type 0) → Sign → Tuple → Type 0
HasChanged Before After Came t = After t × (Before t → ⊥)
HasChanged Before After Went t = Before t × (After t → ⊥)

-- A delta has each answer that was added and each that was removed, once, and nothing else.
pub record IsDelta (Before After : Tuple → Type 0) (changes : List Change) : Type 0 where
  pub different : AreDifferent (map (λ c. c.answer) changes)
  pub changed : All (λ c. HasChanged Before After c.sign c.answer) changes
  pub complete : (sign : Sign) (t : Tuple) → HasChanged Before After sign t
      → Contains changes (record { sign = sign; answer = t })

-- the lines of answers that were added or removed
abbrev pub change_lines : Bytes → List Change → List Bytes
change_lines query changes = map (λ c. change_line c.sign query c.answer) changes

-- the lines of a delta: after its answers, the number of the change
abbrev pub delta_lines : Bytes → List Change → ℕ → List Bytes
delta_lines query changes n = change_lines query changes ++ at_line query n ∷ []
