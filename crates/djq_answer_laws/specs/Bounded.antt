-- How many answers there may be.
use Rattle.std.specs.Prelude.{ℕ, List, [], ◌∷◌, ◌+◌, ◌*◌, ◌≤◌, length, All}
use Rattle.djq_model.specs.declared.relation.Relation.{Relation}
use Rattle.djq_model.specs.declared.query.Query.{Query}
use Rattle.djq_model.specs.declared.query.Atom.{Atom}
use Rattle.djq_model.specs.Data.{Tuple, rows_of}
use Rattle.djq_model.specs.Answer.{AreDifferent}
use Rattle.djq_model.specs.Listed.{Listed, a_query, a_union, AnswersOf}
use Rattle.djq_answer_laws.specs.Finite.{IsBoundListed}

-- in how many ways a row may be chosen for each of these atoms
abbrev pub choices : List Relation → List Atom → ℕ
choices relations [] = 1
choices relations (m ∷ ms) = length (rows_of relations m.relation) * choices relations ms

-- the same of queries together
abbrev pub all_choices : List Relation → List Query → ℕ
all_choices relations [] = 0
all_choices relations (q ∷ qs) = choices relations q.atoms + all_choices relations qs

-- the most answers that what is registered may have: of a query, one for each choice; of a union, those
-- of its members
abbrev pub most_answers : List Relation → Listed → ℕ
most_answers relations (a_query q) = choices relations q.atoms
most_answers relations (a_union name qs) = all_choices relations qs

-- No list of different answers is longer.
abbrev pub AnswersAreBounded : Type 0
AnswersAreBounded = (relations : List Relation) (q : Listed) → IsBoundListed q → (ts : List Tuple)
    → AreDifferent ts → All (AnswersOf relations q) ts → length ts ≤ most_answers relations q
