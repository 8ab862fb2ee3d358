-- Whether a tuple is an answer is decided.
use Rattle.std.specs.Prelude.{List, ◌⊎◌}
use Rattle.djq_model.specs.declared.relation.Relation.{Relation}
use Rattle.djq_model.specs.Data.{Tuple}
use Rattle.djq_model.specs.Listed.{Listed, AnswersOf}

-- It holds or it doesn't.
abbrev pub Decided : Type 0 → Type 0
Decided A = A ⊎ (A → ⊥)

-- A tuple is an answer of what is registered, bound or not, or it isn't.
abbrev pub AnswersAreDecided : Type 0
AnswersAreDecided = (relations : List Relation) (q : Listed) (t : Tuple)
    → Decided (AnswersOf relations q t)
