-- Inserting and deleting one row, with its copies.
use Rattle.std.specs.Prelude.{ℕ, List, [], ◌∷◌, ◌==◌, ◌≡◌, ◌+◌, ◌++◌, ◌≤◌, ◌&&◌, Bool, true, false, not, nat_le}
use Rattle.std.specs.Prelude.{Option, is_some, is_none, Result, OnErr, length}
use Rattle.djq_model.specs.declared.relation.Relation.{Relation}
use Rattle.djq_model.specs.Data.{Bytes, Tuple, relation_of, counted_of, rows_of, has_row, copies_among, with_row}
use Rattle.djq_model.specs.Data.{with_copies, without_copies}
use Rattle.djq_model.specs.Typed.{fits}
use Rattle.djq_model.specs.Known.{texts_in, all_learned}
use Rattle.djq_protocol.specs.declared.limits.TheConstants.{ROWS, COPIES, LAST_SEQ, TEXTS}
use Rattle.djq_protocol.specs.declared.answer.Refusal.{Refusal}
use Rattle.djq_protocol.specs.declared.answer.Refusal.TheVariants.{NoRelation, Arity, WrongType, Limit}
use Rattle.djq_protocol.specs.declared.answer.AddOutcome.{AddOutcome}
use Rattle.djq_protocol.specs.declared.answer.AddOutcome.TheVariants.{First, More}
use Rattle.djq_protocol.specs.declared.answer.DeleteOutcome.{DeleteOutcome}
use Rattle.djq_protocol.specs.declared.answer.DeleteOutcome.TheVariants.{Last, Left, Absent}
use Rattle.djq_protocol.specs.Columns.{types_of}
use Rattle.djq_store_spec.specs.Store.{Store}
use Rattle.djq_protocol.specs.Conditions.{first_refusal, Answers, OutOfMemoryWhere}
use Rattle.djq_store_spec.specs.Relations.{with_rows, RefusedByTexts}

-- `add` and `del`

-- the conditions under which a row doesn't suit a relation
abbrev pub row_refusals : Store → Bytes → Tuple → List (Bool × Refusal)
row_refusals st name row = let types = types_of (relation_of st.relations name) in
    (is_none (relation_of st.relations name), NoRelation)
    ∷ (not (length row == length types), Arity)
    ∷ (not (fits types row), WrongType)
    ∷ []

-- how many copies of a row a relation has
abbrev pub copies_of : Store → Bytes → Tuple → ℕ
copies_of st name row = copies_among (counted_of st.relations name) row

-- the relations with another number of copies of a row that is there
abbrev pub with_copies_of : List Relation → Bytes → Tuple → ℕ → List Relation
with_copies_of relations name row n =
    with_rows relations name (with_copies (counted_of relations name) row n)

-- why a row isn't added, but for its texts and for memory
abbrev pub add_refusal : Store → Bytes → Tuple → Option Refusal
add_refusal st name row = let rows = rows_of st.relations name in first_refusal (row_refusals st name row
    ++ (nat_le COPIES (copies_of st name row), Limit)
    ∷ (not (has_row rows row) && nat_le ROWS (length rows), Limit)
    ∷ (not (has_row rows row) && nat_le LAST_SEQ st.seq, Limit)
    ∷ [])

-- A row that isn't there is inserted with one copy, as a further change, and its texts are known;
-- one that is there has a copy more, and nothing else changes.
abbrev pub AddsAs : Store → Bytes → Tuple → Store → AddOutcome → Type 0
AddsAs old name row new First =
    (has_row (rows_of old.relations name) row ≡ false)
    × (length new.texts ≤ TEXTS)
    × (new ≡ record old {
      relations = with_rows old.relations name (with_row (counted_of old.relations name) row);
      texts = all_learned old.texts (texts_in row);
      seq = old.seq + 1;
    })
AddsAs old name row new (More copies) =
    (has_row (rows_of old.relations name) row ≡ true)
    × (copies ≡ copies_of old name row + 1)
    × (new ≡ record old { relations = with_copies_of old.relations name row copies })

-- Only a row that isn't there is refused late.
pub record AddsRow (old : Store) (name : Bytes) (row : Tuple) (result : Result AddOutcome Refusal)
    (new : Store) : Type 0 where
  pub answer : Answers (add_refusal old name row) result (AddsAs old name row new)
      (λ r. (has_row (rows_of old.relations name) row ≡ false)
      × RefusedByTexts old (texts_in row) new r)
  pub stays : is_some (add_refusal old name row) ≡ true → new ≡ old

-- why a row isn't deleted
abbrev pub delete_refusal : Store → Bytes → Tuple → Option Refusal
delete_refusal st name row = first_refusal (row_refusals st name row
    ++ ((copies_of st name row == 1) && nat_le LAST_SEQ st.seq, Limit)
    ∷ [])

-- A row with one copy is deleted, as a further change; one with several has a copy less, and
-- nothing else changes; one that isn't there changes nothing.
abbrev pub DeletesAs : Store → Bytes → Tuple → Store → DeleteOutcome → Type 0
DeletesAs old name row new Last =
    (has_row (rows_of old.relations name) row ≡ true)
    × (copies_of old name row ≡ 1)
    × (new ≡ record old {
      relations = with_rows old.relations name (without_copies (counted_of old.relations name) row);
      seq = old.seq + 1;
    })
DeletesAs old name row new (Left copies) =
    (has_row (rows_of old.relations name) row ≡ true)
    × (copies_of old name row ≡ copies + 1)
    × (1 ≤ copies)
    × (new ≡ record old { relations = with_copies_of old.relations name row copies })
DeletesAs old name row new Absent = (has_row (rows_of old.relations name) row ≡ false) × (new ≡ old)

-- Deleting needs no memory.
pub record DeletesRow (old : Store) (name : Bytes) (row : Tuple)
    (result : Result DeleteOutcome Refusal) (new : Store) : Type 0 where
  pub answer : Answers (delete_refusal old name row) result (DeletesAs old name row new)
      (OutOfMemoryWhere ⊥)
  pub stays : OnErr result (new ≡ old)
