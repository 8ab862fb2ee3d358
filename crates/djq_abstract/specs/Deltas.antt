-- How the answers of a query change, and what a subscriber has that applies the deltas.
use Rattle.std.specs.Prelude.{List, ◌++◌, ◌⊎◌, not, All, Contains, filter}
use Rattle.djq_model.specs.Data.{Tuple, has_row}
use Rattle.djq_model.specs.Answer.{AreDifferent}

-- A delta: the answers that were inserted, and those that were deleted.
pub record AnswerDelta : Type 0 where
  pub inserted : List Tuple
  pub deleted : List Tuple

-- These are, each once, the answers after and not before.
pub record IsGain (Before After : Tuple → Type 0) (ts : List Tuple) : Type 0 where
  pub different : AreDifferent ts
  pub gained : All (λ t. After t × (Before t → ⊥)) ts
  pub complete : (t : Tuple) → After t → Before t ⊎ Contains ts t

-- What is inserted is gained forwards, and what is deleted backwards.
pub record IsDeltaBetween (Before After : Tuple → Type 0) (d : AnswerDelta) : Type 0 where
  pub inserted : IsGain Before After d.inserted
  pub deleted : IsGain After Before d.deleted

-- The answers without the deleted ones, and with the inserted ones.
abbrev pub delta_applied : AnswerDelta → List Tuple → List Tuple
delta_applied d ts = filter (λ t. not (has_row d.deleted t)) ts ++ d.inserted
