-- Copies of rows in a store that follows the one that a run changed.
use Rattle.std.proofs.Common.{ℕ, List, ◌+◌, ◌≡◌, ◌≤◌, inl, inr, true, false, length, refl, sym, ap, ◌∙◌, subst, arith}
use Rattle.std.specs.Prelude.{None, is_some, Ok, Err, All}
use Rattle.std.proofs.lemmas.Bool.{false≢true}
use Rattle.djq_model.specs.Data.{Bytes, Tuple, counted_of, rows_of, has_row, with_row, with_copies, without_copies}
use Rattle.djq_model.specs.Answer.{AreDifferent}
use Rattle.djq_model.specs.Known.{texts_in, all_learned}
use Rattle.djq_model.proofs.Copies.{tuples_with_row, tuples_with_copies, tuples_without, with_row_moved}
use Rattle.djq_model.proofs.Copies.{with_copies_moved, without_moved}
use Rattle.djq_protocol.specs.declared.limits.TheConstants.{TEXTS}
use Rattle.djq_protocol.specs.declared.answer.Refusal.{Refusal}
use Rattle.djq_protocol.specs.declared.answer.AddOutcome.TheVariants.{First, More}
use Rattle.djq_protocol.specs.declared.answer.DeleteOutcome.TheVariants.{Last, Left, Absent}
use Rattle.djq_protocol.specs.declared.command.Command.TheVariants.{Add, Del}
use Rattle.djq_protocol.specs.Conditions.{OutOfMemoryWhere}
use Rattle.djq_store_spec.specs.Store.{Store}
use Rattle.djq_store_spec.specs.Relations.{with_rows, RefusedByTexts}
use Rattle.djq_store_spec.specs.Rows.{copies_of, with_copies_of, add_refusal, AddsAs, AddsRow, delete_refusal}
use Rattle.djq_store_spec.specs.Rows.{DeletesAs, DeletesRow}
use Rattle.djq_machine.specs.declared.machine.Loaded.{Loaded}
use Rattle.djq_machine.specs.Loading.{StoreLoads}
use Rattle.djq_run_laws.proofs.Forms.{done_of, none_holds}
use Rattle.djq_run_laws.proofs.Lists.{rows_more, rows_less, texts_apart}
use Rattle.djq_log_laws.specs.Kept.{HasRowsOnce, StoreFollows}
use Rattle.djq_log_laws.proofs.Commands.{EndsWell, Respects, give, late_of, where_memory, by_texts}
use Rattle.djq_log_laws.proofs.Stores.{among_all, room_too, same_with, rows_once}
use Rattle.djq_log_laws.proofs.Stores.{once_with, moved, before_once, same_has, same_copies, add_same, delete_same}

-- ---- A copy of a row that a run added or took, added or taken in a store that follows the one that the run changed.

-- another number of changes
pub follows_at : (a b : Store) (m n : ℕ) → n ≡ m → StoreFollows a b
    → StoreFollows (record a { seq = m }) (record b { seq = n })
follows_at a b m n e f = record {
  same = record { relations = f.same.relations; queries = f.same.queries; seq = e };
  rows = f.rows;
  among = f.among;
  once = f.once;
}

module _ (a b : Store) (f : StoreFollows a b) where
  -- a row that wasn't there, and its texts
  module _ (name : Bytes) (row : Tuple) (absent : has_row (rows_of a.relations name) row ≡ false) where
    abbrev came : Store → Store
    came st = record st {
      relations = with_rows st.relations name (with_row (counted_of st.relations name) row);
      texts = all_learned st.texts (texts_in row);
    }

    came_once : All HasRowsOnce (with_rows b.relations name (with_row (counted_of b.relations name) row))
    came_once =
        once_with b.relations name (with_row (counted_of b.relations name) row)
        (subst AreDifferent (sym (tuples_with_row (counted_of b.relations name) row))
        (rows_more (rows_of b.relations name) row (rows_once b.relations name f.rows)
        (same_has a b name row f ∙ absent))) f.rows

    pub came_follows : StoreFollows (came a) (came b)
    came_follows = record {
      same = record {
        relations = same_with a.relations b.relations name
            (with_row (counted_of a.relations name) row) (with_row (counted_of b.relations name) row)
            (with_row_moved (counted_of a.relations name) (counted_of b.relations name) row (moved a b name row f))
            f.same.relations;
        queries = f.same.queries;
        seq = f.same.seq;
      };
      rows = came_once;
      among = among_all b.texts a.texts (texts_in row) f.among;
      once = texts_apart b.texts (texts_in row) f.once;
    }

  -- a row that comes, as a further change
  module _ (name : Bytes) (row : Tuple) (to : Store) (m : AddsRow a name row (Ok First) to) where
    abbrev LateAdd : Store → Store → Refusal → Type 0
    LateAdd st n r = (has_row (rows_of st.relations name) row ≡ false) × RefusedByTexts st (texts_in row) n r

    abbrev added : Store → Store
    added st = record st {
      relations = with_rows st.relations name (with_row (counted_of st.relations name) row);
      texts = all_learned st.texts (texts_in row);
      seq = st.seq + 1;
    }

    added_as : AddsAs a name row to First
    added_as = done_of (add_refusal a name row) First (AddsAs a name row to) (LateAdd a to) m.answer

    added_free : add_refusal b name row ≡ None
    added_free = add_same a b name row f
        ∙ none_holds (add_refusal a name row) First (AddsAs a name row to) (LateAdd a to) m.answer

    added_room : length (all_learned a.texts (texts_in row)) ≤ TEXTS
    added_room = subst (λ (ts : List Bytes). length ts ≤ TEXTS) (ap (λ (st : Store). st.texts) added_as.2) added_as.1

    added_absent : has_row (rows_of b.relations name) row ≡ false
    added_absent = same_has a b name row f ∙ added_as.0

    added_follows : StoreFollows to (added b)
    added_follows =
        subst (λ (st : Store). StoreFollows st (added b)) (sym added_as.2)
        (follows_at (came name row added_as.0 a) (came name row added_as.0 b) (a.seq + 1) (b.seq + 1)
        (ap (λ (n : ℕ). n + 1) f.same.seq) (came_follows name row added_as.0))

    pub add_respects : Respects b (Add name row) to
    add_respects = record {
      can = (
        added b,
        (
          Ok First,
          record {
            answer = give (add_refusal b name row) First (AddsAs b name row (added b)) (LateAdd b (added b)) added_free
                (added_absent, room_too b.texts a.texts (texts_in row) f.among f.once added_room, refl);
            stays = λ h. absurd (false≢true (sym (ap is_some added_free) ∙ h));
          },
          refl,
        ),
        added_follows,
      );
      each = each;
    }
      where
        each : (how : Loaded) (n : Store) → StoreLoads b (Add name row) how n → EndsWell how to n
        each how n (Ok First, k, e) =
            let d = done_of (add_refusal b name row) First (AddsAs b name row n) (LateAdd b n) k.answer in
            inl (e, subst (λ (st : Store). StoreFollows to st) (sym d.2) added_follows)
        each how n (Ok (More copies), k, e) =
            let d = done_of (add_refusal b name row) (More copies) (AddsAs b name row n) (LateAdd b n) k.answer in
            absurd (false≢true (sym added_absent ∙ d.0))
        each how n (Err r, k, e) =
            let l = late_of (add_refusal b name row) r (AddsAs b name row n) (LateAdd b n) added_free k.answer in
            inr (by_texts a b f (texts_in row) n r how added_room l.1 e)

  -- another number of copies of a row that is there
  module _ (name : Bytes) (row : Tuple) (copies : ℕ) (there : has_row (rows_of a.relations name) row ≡ true) where
    abbrev recounted : Store → Store
    recounted st = record st { relations = with_copies_of st.relations name row copies }

    recounted_once : All HasRowsOnce (with_copies_of b.relations name row copies)
    recounted_once =
        once_with b.relations name (with_copies (counted_of b.relations name) row copies)
        (subst AreDifferent (sym (tuples_with_copies (counted_of b.relations name) row copies))
        (rows_once b.relations name f.rows)) f.rows

    recounted_follows : StoreFollows (recounted a) (recounted b)
    recounted_follows = record {
      same = record {
        relations = same_with a.relations b.relations name
            (with_copies (counted_of a.relations name) row copies)
            (with_copies (counted_of b.relations name) row copies)
            (with_copies_moved (counted_of a.relations name) (counted_of b.relations name) row copies
            (before_once a b name row f) there (moved a b name row f))
            f.same.relations;
        queries = f.same.queries;
        seq = f.same.seq;
      };
      rows = recounted_once;
      among = f.among;
      once = f.once;
    }

    -- what is so left, of so many copies, follows what was left
    pub recounted_as : (to n : Store) (others : ℕ) → to ≡ recounted a → others ≡ copies
        → n ≡ record b { relations = with_copies_of b.relations name row others } → StoreFollows to n
    recounted_as to n others is same after =
        subst (λ (st : Store). StoreFollows st n) (sym is)
        (subst (λ (st : Store). StoreFollows (recounted a) st)
        (sym (after ∙ ap (λ (k : ℕ). record b { relations = with_copies_of b.relations name row k }) same))
        recounted_follows)

  -- a copy more
  module _ (name : Bytes) (row : Tuple) (copies : ℕ) (to : Store) (m : AddsRow a name row (Ok (More copies)) to) where
    abbrev LateMore : Store → Store → Refusal → Type 0
    LateMore st n r = (has_row (rows_of st.relations name) row ≡ false) × RefusedByTexts st (texts_in row) n r

    more_as : AddsAs a name row to (More copies)
    more_as = done_of (add_refusal a name row) (More copies) (AddsAs a name row to) (LateMore a to) m.answer

    more_free : add_refusal b name row ≡ None
    more_free = add_same a b name row f
        ∙ none_holds (add_refusal a name row) (More copies) (AddsAs a name row to) (LateMore a to) m.answer

    more_there : has_row (rows_of b.relations name) row ≡ true
    more_there = same_has a b name row f ∙ more_as.0

    more_is : copies ≡ copies_of b name row + 1
    more_is = more_as.1 ∙ ap (λ (n : ℕ). n + 1) (sym (same_copies a b name row f))

    pub more_respects : Respects b (Add name row) to
    more_respects = record {
      can = (
        recounted name row copies more_as.0 b,
        (
          Ok (More copies),
          record {
            answer = give (add_refusal b name row) (More copies)
                (AddsAs b name row (recounted name row copies more_as.0 b))
                (LateMore b (recounted name row copies more_as.0 b)) more_free (more_there, more_is, refl);
            stays = λ h. absurd (false≢true (sym (ap is_some more_free) ∙ h));
          },
          refl,
        ),
        recounted_as name row copies more_as.0 to (recounted name row copies more_as.0 b) copies more_as.2 refl refl,
      );
      each = each;
    }
      where
        each : (how : Loaded) (n : Store) → StoreLoads b (Add name row) how n → EndsWell how to n
        each how n (Ok First, k, e) =
            let d = done_of (add_refusal b name row) First (AddsAs b name row n) (LateMore b n) k.answer in
            absurd (false≢true (sym d.0 ∙ more_there))
        each how n (Ok (More others), k, e) =
            let d = done_of (add_refusal b name row) (More others) (AddsAs b name row n) (LateMore b n) k.answer in
            inl (e, recounted_as name row copies more_as.0 to n others more_as.2 (d.1 ∙ sym more_is) d.2)
        each how n (Err r, k, e) =
            let l = late_of (add_refusal b name row) r (AddsAs b name row n) (LateMore b n) more_free k.answer in
            absurd (false≢true (sym l.0 ∙ more_there))

  -- a row that goes
  module _ (name : Bytes) (row : Tuple) (to : Store) (m : DeletesRow a name row (Ok Last) to) where
    abbrev removed : Store → Store
    removed st = record st {
      relations = with_rows st.relations name (without_copies (counted_of st.relations name) row);
      seq = st.seq + 1;
    }

    removed_as : DeletesAs a name row to Last
    removed_as = done_of (delete_refusal a name row) Last (DeletesAs a name row to) (OutOfMemoryWhere ⊥) m.answer

    removed_free : delete_refusal b name row ≡ None
    removed_free = delete_same a b name row f
        ∙ none_holds (delete_refusal a name row) Last (DeletesAs a name row to) (OutOfMemoryWhere ⊥) m.answer

    removed_there : has_row (rows_of b.relations name) row ≡ true
    removed_there = same_has a b name row f ∙ removed_as.0

    removed_one : copies_of b name row ≡ 1
    removed_one = same_copies a b name row f ∙ removed_as.1

    removed_once : All HasRowsOnce (with_rows b.relations name (without_copies (counted_of b.relations name) row))
    removed_once =
        once_with b.relations name (without_copies (counted_of b.relations name) row)
        (subst AreDifferent (sym (tuples_without (counted_of b.relations name) row))
        (rows_less (rows_of b.relations name) row (rows_once b.relations name f.rows))) f.rows

    removed_follows : StoreFollows to (removed b)
    removed_follows = subst (λ (st : Store). StoreFollows st (removed b)) (sym removed_as.2) (record {
      same = record {
        relations = same_with a.relations b.relations name
            (without_copies (counted_of a.relations name) row) (without_copies (counted_of b.relations name) row)
            (without_moved (counted_of a.relations name) (counted_of b.relations name) row (before_once a b name row f)
            removed_as.0 (moved a b name row f))
            f.same.relations;
        queries = f.same.queries;
        seq = ap (λ (n : ℕ). n + 1) f.same.seq;
      };
      rows = removed_once;
      among = f.among;
      once = f.once;
    })

    pub delete_respects : Respects b (Del name row) to
    delete_respects = record {
      can = (
        removed b,
        (
          Ok Last,
          record {
            answer = give (delete_refusal b name row) Last (DeletesAs b name row (removed b)) (OutOfMemoryWhere ⊥)
                removed_free (removed_there, removed_one, refl);
            stays = tt;
          },
          refl,
        ),
        removed_follows,
      );
      each = each;
    }
      where
        each : (how : Loaded) (n : Store) → StoreLoads b (Del name row) how n → EndsWell how to n
        each how n (Ok Last, k, e) =
            let d = done_of (delete_refusal b name row) Last (DeletesAs b name row n) (OutOfMemoryWhere ⊥) k.answer in
            inl (e, subst (λ (st : Store). StoreFollows to st) (sym d.2) removed_follows)
        each how n (Ok (Left others), k, e) =
            let d = done_of (delete_refusal b name row) (Left others) (DeletesAs b name row n) (OutOfMemoryWhere ⊥)
            k.answer in
            let is = d.1 in
            let some = d.2 in
            absurd (omega (arith, removed_one, is, some))
        each how n (Ok Absent, k, e) =
            let d = done_of (delete_refusal b name row) Absent (DeletesAs b name row n) (OutOfMemoryWhere ⊥) k.answer in
            absurd (false≢true (sym d.0 ∙ removed_there))
        each how n (Err r, k, e) =
            absurd (where_memory ⊥ r
            (late_of (delete_refusal b name row) r (DeletesAs b name row n) (OutOfMemoryWhere ⊥) removed_free k.answer))

  -- one of several copies less
  module _ (name : Bytes) (row : Tuple) (copies : ℕ) (to : Store)
      (m : DeletesRow a name row (Ok (Left copies)) to) where
    left_as : DeletesAs a name row to (Left copies)
    left_as = done_of (delete_refusal a name row) (Left copies) (DeletesAs a name row to) (OutOfMemoryWhere ⊥) m.answer

    left_free : delete_refusal b name row ≡ None
    left_free = delete_same a b name row f
        ∙ none_holds (delete_refusal a name row) (Left copies) (DeletesAs a name row to) (OutOfMemoryWhere ⊥) m.answer

    left_there : has_row (rows_of b.relations name) row ≡ true
    left_there = same_has a b name row f ∙ left_as.0

    left_is : copies_of b name row ≡ copies + 1
    left_is = same_copies a b name row f ∙ left_as.1

    pub left_respects : Respects b (Del name row) to
    left_respects = record {
      can = (
        recounted name row copies left_as.0 b,
        (
          Ok (Left copies),
          record {
            answer = give (delete_refusal b name row) (Left copies)
                (DeletesAs b name row (recounted name row copies left_as.0 b)) (OutOfMemoryWhere ⊥) left_free
                (left_there, left_is, left_as.2, refl);
            stays = tt;
          },
          refl,
        ),
        recounted_as name row copies left_as.0 to (recounted name row copies left_as.0 b) copies left_as.3 refl refl,
      );
      each = each;
    }
      where
        each : (how : Loaded) (n : Store) → StoreLoads b (Del name row) how n → EndsWell how to n
        each how n (Ok Last, k, e) =
            let d = done_of (delete_refusal b name row) Last (DeletesAs b name row n) (OutOfMemoryWhere ⊥) k.answer in
            let one = d.1 in
            let is = left_is in
            let some = left_as.2 in
            absurd (omega (arith, one, is, some))
        each how n (Ok (Left others), k, e) =
            let d = done_of (delete_refusal b name row) (Left others) (DeletesAs b name row n) (OutOfMemoryWhere ⊥)
            k.answer in
            let one = d.1 in
            let is = left_is in
            inl (e, recounted_as name row copies left_as.0 to n others left_as.3 (omega (arith, one, is)) d.3)
        each how n (Ok Absent, k, e) =
            let d = done_of (delete_refusal b name row) Absent (DeletesAs b name row n) (OutOfMemoryWhere ⊥) k.answer in
            absurd (false≢true (sym d.0 ∙ left_there))
        each how n (Err r, k, e) =
            absurd (where_memory ⊥ r
            (late_of (delete_refusal b name row) r (DeletesAs b name row n) (OutOfMemoryWhere ⊥) left_free k.answer))
