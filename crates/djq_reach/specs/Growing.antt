-- Answers that are only added.
use Rattle.djq_model.specs.Data.{Tuple}

-- every answer stays one
abbrev pub Grows : (Tuple → Type 0) → (Tuple → Type 0) → Type 0
Grows Before After = (t : Tuple) → Before t → After t
