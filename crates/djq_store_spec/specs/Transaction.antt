-- Which lines a batch holds, and what `done` does to a store: all of them are one change, or none is carried out.
use Rattle.std.specs.Prelude.{ℕ, zero, suc, List, [], ◌∷◌, ◌≡◌, ◌≤◌, ◌++◌, ◌&&◌, Bool, true, not, Option, None}
use Rattle.std.specs.Prelude.{Some, Result, Ok, Err, find, length, map, All, ⊤}
use Rattle.std.specs.List.{list_any}
use Rattle.djq_model.specs.declared.relation.Relation.{Relation}
use Rattle.djq_model.specs.Data.{Bytes, Tuple, bytes_eq, rows_of, has_row}
use Rattle.djq_model.specs.Listed.{Listed}
use Rattle.djq_protocol.specs.declared.answer.Refusal.{Refusal}
use Rattle.djq_protocol.specs.declared.answer.Refusal.TheVariants.{Limit, NoMemory}
use Rattle.djq_protocol.specs.declared.held.DoneRefusal.{DoneRefusal}
use Rattle.djq_protocol.specs.Conditions.{first_refusal, Answers, OutOfMemoryWhere}
use Rattle.djq_protocol.specs.Reply.{done_word}
use Rattle.djq_store_spec.specs.Store.{Store}
use Rattle.djq_store_spec.specs.Rows.{row_refusals}
use Rattle.djq_store_spec.specs.Stale.{listed_reads}
use Rattle.djq_store_spec.specs.Changes.{RowsChange, RowsOutcome, accepted, out_of_memory, unchanged}
use Rattle.djq_store_spec.specs.Held.{HeldLine, HeldTransaction, has_room}
use Rattle.djq_store_spec.specs.Lines.{copies_before, line_comes, line_goes, relations_between, relations_after}
use Rattle.djq_store_spec.specs.Judging.{texts_after}
use Rattle.djq_store_spec.specs.Done.{rows_changed, has_changed, seq_after, is_other, done_refusal, AnswersDone}
use Rattle.djq_store_spec.specs.Done.{RefusesDone}

-- `add` and `del` in a batch

-- why a line isn't held, whatever is held: its row doesn't suit a relation
abbrev pub suit_refusal : Store → Bytes → Tuple → Option Refusal
suit_refusal st name row = first_refusal (row_refusals st name row)

-- why a line isn't held: its row doesn't suit a relation, or the batch has no room for it
abbrev pub hold_refusal : Store → HeldTransaction → Bytes → Bytes → Tuple → Option Refusal
hold_refusal st held l name row =
    first_refusal (row_refusals st name row ++ (not (has_room held (length l)), Limit) ∷ [])

-- It is answered whether a row suits a relation. That needs no memory.
abbrev pub TellsSuits : Store → Bytes → Tuple → Result ⊤ Refusal → Type 0
TellsSuits st name row result = Answers (suit_refusal st name row) result (λ _. ⊤) (OutOfMemoryWhere ⊥)

-- the row of each line suits its relation
abbrev pub SuitAll : Store → List HeldLine → Type 0
SuitAll st lines = All (λ h. suit_refusal st h.relation h.row ≡ None) lines

-- `done`

-- The store after all lines: their rows have the copies that they leave, the texts that they add are known, and if a
-- row was inserted or deleted that is one change.
abbrev pub store_after : Store → List HeldLine → Store
store_after st lines = record st {
  relations = relations_after st.relations lines;
  texts = texts_after st.texts lines;
  seq = seq_after st.relations st.seq lines;
}

-- All lines are carried out, and the answer is how many rows were inserted and deleted; or none is, and texts became known.
abbrev pub CarriesOut : Store → List HeldLine → Result ℕ DoneRefusal → Store → Type 0
CarriesOut old lines (Ok n) new = (n ≡ rows_changed old.relations lines) × (new ≡ store_after old lines)
CarriesOut old lines (Err r) new =
    RefusesDone old.relations old.texts lines new.texts r × (new ≡ record old { texts = new.texts })

-- each row that these lines name and that is there has a copy
abbrev pub HaveCopies : List Relation → List HeldLine → Type 0
HaveCopies relations lines = All
    (λ h. has_row (rows_of relations h.relation) h.row ≡ true → 1 ≤ copies_before relations h) lines

-- `done` is refused if it has a refusal, or for want of memory, and for nothing else. The rows that are there have copies.
pub record DoesAll (old : Store) (lines : List HeldLine) (given : Option ℕ) (result : Result ℕ DoneRefusal)
    (new : Store) : Type 0 where
  pub answer : AnswersDone (is_other given (length lines))
      (done_refusal old.relations old.texts old.seq lines given) result
  pub does : CarriesOut old lines result new
  pub counted : HaveCopies old.relations lines

-- the first relation that lines name, of those for which this holds, that a query reads
abbrev pub first_read : List HeldLine → (Bytes → Bool) → Listed → Option Bytes
first_read lines test q = find (λ name. test name && listed_reads q name) (map (λ (h : HeldLine). h.relation) lines)

-- whether a row of a relation of this name is inserted, and whether one is deleted
abbrev pub has_inserted : List Relation → List HeldLine → Bytes → Bool
has_inserted relations lines name = list_any (λ h. bytes_eq h.relation name && line_comes relations lines h) lines

abbrev pub has_deleted : List Relation → List HeldLine → Bytes → Bool
has_deleted relations lines name = list_any (λ h. bytes_eq h.relation name && line_goes relations lines h) lines

-- The change that lines are: of each relation of which a row is inserted or deleted. It outdates a query by the first
-- of them that the query reads. Rows are inserted first, and then others are deleted.
abbrev pub lines_change : List Relation → List HeldLine → RowsChange
lines_change relations lines = record {
  after = relations_after relations lines;
  outdater = first_read lines (has_changed relations lines);
  touches = has_changed relations lines;
  halves = Some (record {
    mid = relations_between relations lines;
    both = λ name. has_inserted relations lines name && has_deleted relations lines name;
  });
}

-- The change that lines were to be, if memory was refused: none of their rows was deleted. It outdates a query by the
-- first relation that lines name and the query reads, whether a row of it is inserted or deleted or not.
abbrev pub lines_tried : List Relation → List HeldLine → RowsChange
lines_tried relations lines = record {
  after = relations_between relations lines;
  outdater = first_read lines (λ name. true);
  touches = has_inserted relations lines;
  halves = None;
}

-- The outcome of `done`: rows that were inserted or deleted are a change; lines that leave each row there or not there are
-- none.
abbrev pub lines_outcome : List Relation → List HeldLine → Result ℕ DoneRefusal → RowsOutcome
lines_outcome relations lines (Ok zero) = unchanged
lines_outcome relations lines (Ok (suc n)) = accepted (lines_change relations lines)
lines_outcome relations lines (Err r) = refused_outcome (done_word r)
  where
    refused_outcome : Refusal → RowsOutcome
    refused_outcome NoMemory = out_of_memory (lines_tried relations lines)
    refused_outcome _ = unchanged
