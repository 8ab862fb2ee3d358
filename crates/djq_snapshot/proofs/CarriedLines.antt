-- What lines that are carried out make of a store whose snapshot restores it.
use Rattle.std.proofs.Common.{ℕ, zero, suc, List, [], ◌∷◌, ◌≡◌, ◌≤◌, Bool, true, false, cond, refl, sym, subst}
use Rattle.std.proofs.Common.{◌∙◌, arith}
use Rattle.std.specs.Prelude.{All, fold, pred}
use Rattle.std.specs.List.{flat_map}
use Rattle.std.proofs.lemmas.Bool.{and_parts}
use Rattle.std.proofs.lemmas.List.{map-append}
use Rattle.std.proofs.lemmas.List.Elements.{All-head, All-tail, All-push}
use Rattle.djq_model.specs.declared.relation.Relation.{Relation}
use Rattle.djq_model.specs.declared.relation.CountedRow.{CountedRow}
use Rattle.djq_model.specs.Data.{Bytes, Tuple, bytes_eq, tuple_eq, has_row, plain_of, counted_of, copies_among}
use Rattle.djq_model.specs.Known.{texts_in, all_learned}
use Rattle.djq_model.specs.Equality.{tuple_eq-decides}
use Rattle.djq_model.proofs.Copies.{tuples_with_copies, tuples_without}
use Rattle.djq_protocol.specs.declared.held.Verb.{Verb}
use Rattle.djq_protocol.specs.declared.held.Verb.TheVariants.{Add, Delete}
use Rattle.djq_store_spec.specs.Held.{HeldLine}
use Rattle.djq_store_spec.specs.Judging.{texts_by, texts_added, texts_after}
use Rattle.djq_store_spec.specs.Lines.{same_row, first_lines, copies_after, after_verb, with_so_many, with_copies_left}
use Rattle.djq_store_spec.specs.Store.{Store}
use Rattle.djq_store_spec.specs.Transaction.{store_after}
use Rattle.djq_store_spec.proofs.SoManyCopies.{many_new, many_there}
use Rattle.djq_run_laws.proofs.Batches.{texts_learned}
use Rattle.djq_run_laws.proofs.Lists.{all_dropped, without_dropped}
use Rattle.djq_log_laws.specs.Kept.{AreKnown}
use Rattle.djq_snapshot.specs.Restorable.{IsRestorable}
use Rattle.djq_snapshot.proofs.Keeps.{KnowsRow, rows_known, changed_restorable, known_restorable}
use Rattle.djq_snapshot.proofs.Order.{still_known, all_still, learned_each}

-- ---- The texts of a row of which lines leave a copy are known after them.

-- a row that has a copy is among the others
counted_known : (texts : List Bytes) (rows : List CountedRow) (row : Tuple) → 1 ≤ copies_among rows row
    → All (KnowsRow texts) (plain_of rows) → KnowsRow texts row
counted_known texts [] row some all = absurd (omega (arith, some))
counted_known texts (c ∷ rows) row some all =
    by (tuple_eq c.row row) refl some
    (λ k. counted_known texts rows row k (All-tail (KnowsRow texts) c.row (plain_of rows) all))
  where
    by : (b : Bool) → tuple_eq c.row row ≡ b → 1 ≤ cond b c.copies (copies_among rows row)
        → (1 ≤ copies_among rows row → KnowsRow texts row) → KnowsRow texts row
    by true e k rest =
        subst (KnowsRow texts) ((tuple_eq-decides c.row row).0 e) (All-head (KnowsRow texts) c.row (plain_of rows) all)
    by false e k rest = rest k

line_known : (texts : List Bytes) (g h : HeldLine) (n : ℕ) → (1 ≤ n → KnowsRow texts h.row)
    → 1 ≤ cond (same_row g h) (after_verb g.verb n) n → KnowsRow (all_learned texts (texts_added g)) h.row
line_known texts g h n known = by (same_row g h) refl
  where
    verb : (v : Verb) → same_row g h ≡ true → 1 ≤ after_verb v n
        → KnowsRow (all_learned texts (texts_by v g.row)) h.row
    verb Add e k =
        let both = and_parts (bytes_eq g.relation h.relation) (tuple_eq g.row h.row) e in
        let same = (tuple_eq-decides g.row h.row).0 both.1 in
        subst (KnowsRow (all_learned texts (texts_in g.row))) same (learned_each texts (texts_in g.row))
    verb Delete e k = known (more n k)
      where
        more : (m : ℕ) → 1 ≤ pred m → 1 ≤ m
        more zero k = k
        more (suc m) k = omega arith

    by : (b : Bool) → same_row g h ≡ b → 1 ≤ cond b (after_verb g.verb n) n
        → KnowsRow (all_learned texts (texts_added g)) h.row
    by true e k = verb g.verb e k
    by false e k =
        all_still texts (all_learned texts (texts_added g)) (texts_in h.row)
        (still_known texts (texts_added g)) (known k)

left_known : (texts : List Bytes) (lines : List HeldLine) (h : HeldLine) (n : ℕ) → (1 ≤ n → KnowsRow texts h.row)
    → 1 ≤ fold (λ (m : ℕ) (g : HeldLine). cond (same_row g h) (after_verb g.verb m) m) n lines
    → KnowsRow (texts_after texts lines) h.row
left_known texts [] h n known some = known some
left_known texts (g ∷ gs) h n known some =
    left_known (all_learned texts (texts_added g)) gs h (cond (same_row g h) (after_verb g.verb n) n)
    (line_known texts g h n known) some

-- ---- their rows, with the copies that they leave

many_known : (texts : List Bytes) (rows : List CountedRow) (row : Tuple) (n : ℕ) → All (KnowsRow texts) (plain_of rows)
    → (1 ≤ n → KnowsRow texts row) → All (KnowsRow texts) (plain_of (with_so_many rows row n))
many_known texts rows row zero all known =
    subst (All (KnowsRow texts)) (sym (tuples_without rows row ∙ without_dropped (plain_of rows) row))
    (all_dropped (KnowsRow texts) (λ r. tuple_eq r row) (plain_of rows) all)
many_known texts rows row (suc n) all known = by (has_row (plain_of rows) row) refl
  where
    by : (b : Bool) → has_row (plain_of rows) row ≡ b
        → All (KnowsRow texts) (plain_of (with_so_many rows row (suc n)))
    by true e =
        subst (λ (cs : List CountedRow). All (KnowsRow texts) (plain_of cs)) (sym (many_there rows row n e))
        (subst (All (KnowsRow texts)) (sym (tuples_with_copies rows row (suc n))) all)
    by false e =
        subst (λ (cs : List CountedRow). All (KnowsRow texts) (plain_of cs)) (sym (many_new rows row n e))
        (subst (All (KnowsRow texts))
        (sym (map-append (λ (c : CountedRow). c.row) rows (record { row = row; copies = suc n } ∷ [])))
        (All-push (KnowsRow texts) (plain_of rows) row all (known (omega arith))))

-- ---- the store behind them

module _ (st : Store) (lines : List HeldLine) (w : IsRestorable st) where
  abbrev step : List Relation → HeldLine → List Relation
  step = with_copies_left st.relations lines

  abbrev among : List Relation → Store
  among now = record st { relations = now; texts = texts_after st.texts lines }

  its_texts : (h : HeldLine) → 1 ≤ copies_after st.relations lines h → KnowsRow (texts_after st.texts lines) h.row
  its_texts h some =
      left_known st.texts lines h (copies_among (counted_of st.relations h.relation) h.row)
      (λ k. counted_known st.texts (counted_of st.relations h.relation) h.row k (rows_known st h.relation w)) some

  rows_on : (now : List Relation) (gs : List HeldLine) → IsRestorable (among now)
      → IsRestorable (among (fold step now gs))
  rows_on now [] k = k
  rows_on now (g ∷ gs) k =
      let rows = with_so_many (counted_of now g.relation) g.row (copies_after st.relations lines g) in
      rows_on (step now g) gs
      (changed_restorable (among now) g.relation rows [] st.seq
      (many_known (texts_after st.texts lines) (counted_of now g.relation) g.row (copies_after st.relations lines g)
      (rows_known (among now) g.relation k) (its_texts g)) k)

  still : AreKnown st.texts (texts_after st.texts lines)
  still =
      subst (AreKnown st.texts) (sym (texts_learned st.texts lines))
      (still_known st.texts (flat_map texts_added lines))

  pub carried_restorable : IsRestorable (store_after st lines)
  carried_restorable =
      let k = rows_on st.relations (first_lines lines) (known_restorable st (texts_after st.texts lines) still w) in
      record { faults = k.faults; order = k.order; rows = k.rows; constants = k.constants }
