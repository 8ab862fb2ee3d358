-- Changes by which rows are only inserted, or only deleted: what they do to answers.
use Rattle.std.specs.Prelude.{List, ◌≡◌, ◌↔◌, false, All, Contains}
use Rattle.djq_model.specs.declared.relation.Relation.{Relation}
use Rattle.djq_model.specs.declared.query.Query.{Query}
use Rattle.djq_model.specs.Data.{Bytes, Tuple, rows_of}
use Rattle.djq_model.specs.Answer.{IsAnswer}
use Rattle.djq_model.specs.Listed.{Listed, AnswersOf}
use Rattle.djq_protocol.specs.declared.answer.Sign.TheVariants.{Came, Went}
use Rattle.djq_store_spec.specs.Changes.{RowsChange, row_in, row_out}
use Rattle.djq_store_spec.specs.Delta.{Change, IsDelta}
use Rattle.djq_store_spec.specs.DeltaCost.{is_touched}

-- The rows of each relation are among those that it has in the other.
abbrev pub HaveRows : List Relation → List Relation → Type 0
HaveRows few many = (name : Bytes) (row : Tuple) → Contains (rows_of few name) row
    → Contains (rows_of many name) row

-- If rows are only inserted, an answer stays one.
abbrev pub AnswersStay : Type 0
AnswersStay = (few many : List Relation) (q : Listed) (t : Tuple) → HaveRows few many → AnswersOf few q t
    → AnswersOf many q t

-- If rows are only inserted, answers are only added: each change of a delta is one that was added.
abbrev pub AnswersCome : Type 0
AnswersCome = (before after : List Relation) (q : Listed) (changes : List Change) → HaveRows before after
    → IsDelta (AnswersOf before q) (AnswersOf after q) changes → All (λ c. c.sign ≡ Came) changes

-- If rows are only deleted, answers are only removed.
abbrev pub AnswersGo : Type 0
AnswersGo = (before after : List Relation) (q : Listed) (changes : List Change) → HaveRows after before
    → IsDelta (AnswersOf before q) (AnswersOf after q) changes → All (λ c. c.sign ≡ Went) changes

-- An insertion of a row only adds rows.
abbrev pub RowComes : Type 0
RowComes = (relations : List Relation) (name : Bytes) (row : Tuple)
    → HaveRows relations (row_in relations name row).after

-- A deletion of a row only removes rows.
abbrev pub RowGoes : Type 0
RowGoes = (relations : List Relation) (name : Bytes) (row : Tuple)
    → HaveRows (row_out relations name row).after relations

-- A change leaves each relation that it doesn't touch as it was.
abbrev pub SparesOthers : List Relation → RowsChange → Type 0
SparesOthers before change = (name : Bytes) → change.touches name ≡ false
    → rows_of change.after name ≡ rows_of before name

-- A row that is inserted or deleted leaves each other relation as it was.
abbrev pub ChangesSpareOthers : Type 0
ChangesSpareOthers = (relations : List Relation) (name : Bytes) (row : Tuple)
    → SparesOthers relations (row_in relations name row) × SparesOthers relations (row_out relations name row)

-- A query that reads no relation that a change touches has the same answers.
abbrev pub AnswersRest : Type 0
AnswersRest = (before : List Relation) (change : RowsChange) (q : Query) → SparesOthers before change
    → is_touched change q ≡ false → (t : Tuple) → IsAnswer before q t ↔ IsAnswer change.after q t
