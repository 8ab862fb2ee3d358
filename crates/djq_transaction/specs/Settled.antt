-- What lines do to answers: answers are only added up to the relations between, and from there only removed.
use Rattle.std.specs.Prelude.{List, ◌≡◌, ◌++◌, Some, filter, fold, map}
use Rattle.djq_model.specs.declared.relation.Relation.{Relation}
use Rattle.djq_model.specs.Data.{Bytes, bytes_eq, relation_of, rows_of, without_row}
use Rattle.djq_model.specs.Listed.{Listed, AnswersOf}
use Rattle.djq_store_spec.specs.Delta.{Change, IsDelta}
use Rattle.djq_answer_laws.specs.Growing.{HaveRows}
use Rattle.djq_answer_laws.specs.Net.{CancelsOut}
use Rattle.djq_database.specs.Catalog.{Catalog, IsCatalog}
use Rattle.djq_store_spec.specs.Held.{HeldLine}
use Rattle.djq_store_spec.specs.Lines.{lines_come, lines_go, relations_between, relations_after}

-- Up to the relations between, rows are only inserted.
abbrev pub LinesInsert : Type 0
LinesInsert = (relations : List Relation) (lines : List HeldLine)
    → HaveRows relations (relations_between relations lines)

-- There a relation has its rows, and after them the new ones of it, in the order of their first lines.
abbrev pub RowsInserted : Type 0
RowsInserted = (c : Catalog) (lines : List HeldLine) (name : Bytes) (r : Relation) → IsCatalog c
    → relation_of c.relations name ≡ Some r
    → rows_of (relations_between c.relations lines) name
    ≡ rows_of c.relations name
    ++ map (λ (h : HeldLine). h.row) (filter (λ h. bytes_eq h.relation name) (lines_come c.relations lines))

-- From there they are only deleted.
abbrev pub LinesRemove : Type 0
LinesRemove = (relations : List Relation) (lines : List HeldLine)
    → HaveRows (relations_after relations lines) (relations_between relations lines)

-- Afterwards a relation has these rows but for those that are deleted.
abbrev pub RowsRemoved : Type 0
RowsRemoved = (c : Catalog) (lines : List HeldLine) (name : Bytes) → IsCatalog c
    → rows_of (relations_after c.relations lines) name
    ≡ fold without_row (rows_of (relations_between c.relations lines) name)
    (map (λ (h : HeldLine). h.row) (filter (λ h. bytes_eq h.relation name) (lines_go c.relations lines)))

-- So the answers that are added up to the relations between, and those that are removed from there, settled, are
-- the delta of the lines.
abbrev pub LinesDelta : Type 0
LinesDelta = (relations : List Relation) (lines : List HeldLine) (q : Listed) (come gone new : List Change)
    → IsDelta (AnswersOf relations q) (AnswersOf (relations_between relations lines) q) come
    → IsDelta (AnswersOf (relations_between relations lines) q) (AnswersOf (relations_after relations lines) q) gone
    → CancelsOut (come ++ gone) new
    → IsDelta (AnswersOf relations q) (AnswersOf (relations_after relations lines) q) new
