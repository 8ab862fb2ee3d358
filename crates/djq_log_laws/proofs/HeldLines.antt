-- Held lines that a run carried out, carried out on a store that follows the one that they changed.
use Rattle.std.specs.Prelude.{ℕ, zero, suc, List, [], ◌∷◌, ◌≡◌, ◌==◌, ◌+◌, ◌++◌, ◌≤◌, ◌&&◌, ◌||◌, Bool, true, false}
use Rattle.std.specs.Prelude.{cond, not, Option, None, Some, Ok, Err, length, fold, nat_le, nat_lt, All}
use Rattle.std.specs.Prelude.{IsPermutation}
use Rattle.std.specs.Option.{option_or, option_map}
use Rattle.std.proofs.Common.{refl, sym, ap, ap₂, ◌∙◌, subst}
use Rattle.std.proofs.lemmas.Bool.{le-ltb, ltb-false}
use Rattle.std.proofs.lemmas.List.{map-append}
use Rattle.std.proofs.lemmas.List.Elements.{All-weaker, filter_agree}
use Rattle.std.proofs.lemmas.List.Sorted.{IsPermutation-append_left, length_permutation}
use Rattle.djq_model.specs.declared.relation.Relation.{Relation}
use Rattle.djq_model.specs.declared.relation.CountedRow.{CountedRow}
use Rattle.djq_model.specs.Data.{Bytes, Tuple, bytes_eq, counted_of, rows_of, has_row, plain_of, with_copies}
use Rattle.djq_model.specs.Data.{without_copies}
use Rattle.djq_model.specs.Answer.{AreDifferent}
use Rattle.djq_model.specs.Known.{all_learned}
use Rattle.djq_model.proofs.Copies.{tuples_without, tuples_with_copies, tuples_moved, has_moved, without_moved}
use Rattle.djq_model.proofs.Copies.{with_copies_moved}
use Rattle.djq_protocol.specs.declared.limits.TheConstants.{COPIES, ROWS, TEXTS, LAST_SEQ}
use Rattle.djq_protocol.specs.declared.held.Verb.{Verb}
use Rattle.djq_protocol.specs.declared.held.Verb.TheVariants.{Add, Delete}
use Rattle.djq_protocol.specs.declared.held.LineRefusal.{LineRefusal}
use Rattle.djq_protocol.specs.declared.held.LineRefusal.TheVariants.{Limit, Absent, NoMemory}
use Rattle.djq_protocol.specs.declared.held.RefusedLine.{RefusedLine}
use Rattle.djq_protocol.specs.declared.held.DoneRefusal.{DoneRefusal}
use Rattle.djq_protocol.specs.declared.held.DoneRefusal.TheVariants.{OtherNumber, Line, LastChange}
use Rattle.djq_protocol.specs.declared.held.DoneRefusal.TheVariants.{NoMemory as NoneLeft}
use Rattle.djq_protocol.specs.Reply.{line_word}
use Rattle.djq_store_spec.specs.Store.{Store}
use Rattle.djq_store_spec.specs.Held.{HeldLine}
use Rattle.djq_store_spec.specs.Lines.{same_row, first_lines, copies_before, copies_after, after_verb, line_comes}
use Rattle.djq_store_spec.specs.Lines.{line_goes, with_so_many, with_copies_left, relations_after}
use Rattle.djq_store_spec.specs.Judging.{texts_added, texts_after, names_row_before, is_new, rows_reached, limit_if}
use Rattle.djq_store_spec.specs.Judging.{refusal_by, row_refusal, texts_refusal, line_refusal, refused_at}
use Rattle.djq_store_spec.specs.Judging.{refusal_behind, lines_refusal, UnlessMemory}
use Rattle.djq_store_spec.specs.Done.{rows_changed, is_other, refused_if, seq_refusal, done_refusal}
use Rattle.djq_store_spec.specs.Done.{AnswersDone}
use Rattle.djq_store_spec.specs.Transaction.{store_after, HaveCopies, DoesAll}
use Rattle.djq_store_spec.proofs.SoManyCopies.{without_absent, many_new, many_there}
use Rattle.djq_machine.specs.declared.machine.Loaded.{Loaded}
use Rattle.djq_machine.specs.declared.machine.Loaded.TheVariants.{NoMem as no_memory}
use Rattle.djq_machine.specs.Loading.{done_loaded, refused_by}
use Rattle.djq_machine.specs.Step.{SameRelations}
use Rattle.djq_run_laws.specs.Sound.{AreApart}
use Rattle.djq_run_laws.proofs.Lists.{rows_more, rows_less, texts_apart}
use Rattle.djq_run_laws.proofs.RegisteredQueries.{reordered_counted, reordered_rows}
use Rattle.djq_run_laws.proofs.Batches.{not_refused}
use Rattle.djq_log_laws.specs.Kept.{AreKnown, HasRowsOnce, StoreFollows}
use Rattle.djq_log_laws.proofs.Stores.{among_all, room_too, all_known, same_sym, same_with, once_moved}
use Rattle.djq_log_laws.proofs.Stores.{rows_once, once_with, same_has, same_copies}

-- ---- Rows with so many copies of one, in another order.

abbrev one_counted : Tuple → ℕ → CountedRow
one_counted row n = record { row = row; copies = n }

many_once : (rows : List CountedRow) (row : Tuple) (n : ℕ) → AreDifferent (plain_of rows)
    → AreDifferent (plain_of (with_so_many rows row n))
many_once rows row zero once =
    subst AreDifferent (sym (tuples_without rows row)) (rows_less (plain_of rows) row once)
many_once rows row (suc n) once = by (has_row (plain_of rows) row) refl
  where
    by : (b : Bool) → has_row (plain_of rows) row ≡ b → AreDifferent (plain_of (with_so_many rows row (suc n)))
    by true e =
        subst (λ (cs : List CountedRow). AreDifferent (plain_of cs)) (sym (many_there rows row n e))
        (subst AreDifferent (sym (tuples_with_copies rows row (suc n))) once)
    by false e =
        subst (λ (cs : List CountedRow). AreDifferent (plain_of cs)) (sym (many_new rows row n e))
        (subst AreDifferent (sym (map-append (λ (c : CountedRow). c.row) rows (one_counted row (suc n) ∷ [])))
        (rows_more (plain_of rows) row once e))

many_moved : (rows moved : List CountedRow) (row : Tuple) (n : ℕ) → AreDifferent (plain_of rows)
    → IsPermutation rows moved → IsPermutation (with_so_many rows row n) (with_so_many moved row n)
many_moved rows moved row n once p = by n (has_row (plain_of rows) row) refl
  where
    has : (b : Bool) → has_row (plain_of rows) row ≡ b → has_row (plain_of moved) row ≡ b
    has b e = has_moved (plain_of rows) (plain_of moved) row (tuples_moved rows moved p) ∙ e

    both : (xs ys us vs : List CountedRow) → xs ≡ us → ys ≡ vs → IsPermutation us vs → IsPermutation xs ys
    both xs ys us vs e f q =
        subst (λ (cs : List CountedRow). IsPermutation cs ys) (sym e)
        (subst (λ (cs : List CountedRow). IsPermutation us cs) (sym f) q)

    by : (m : ℕ) (b : Bool) → has_row (plain_of rows) row ≡ b
        → IsPermutation (with_so_many rows row m) (with_so_many moved row m)
    by zero true e = without_moved rows moved row once e p
    by zero false e =
        both (without_copies rows row) (without_copies moved row) rows moved (without_absent rows row e)
        (without_absent moved row (has false e)) p
    by (suc m) true e =
        both (with_so_many rows row (suc m)) (with_so_many moved row (suc m)) (with_copies rows row (suc m))
        (with_copies moved row (suc m)) (many_there rows row m e) (many_there moved row m (has true e))
        (with_copies_moved rows moved row (suc m) once e p)
    by (suc m) false e =
        both (with_so_many rows row (suc m)) (with_so_many moved row (suc m)) (rows ++ one_counted row (suc m) ∷ [])
        (moved ++ one_counted row (suc m) ∷ []) (many_new rows row m e) (many_new moved row m (has false e))
        (IsPermutation-append_left (one_counted row (suc m) ∷ []) rows moved p)

-- ---- Texts that lines make known.

pub texts_known : (texts : List Bytes) (lines : List HeldLine) → AreKnown texts (texts_after texts lines)
texts_known texts [] t h = h
texts_known texts (g ∷ gs) t h =
    texts_known (all_learned texts (texts_added g)) gs t (all_known texts (texts_added g) t h)

texts_among : (known more : List Bytes) (lines : List HeldLine) → AreKnown known more
    → AreKnown (texts_after known lines) (texts_after more lines)
texts_among known more [] f = f
texts_among known more (g ∷ gs) f =
    texts_among (all_learned known (texts_added g)) (all_learned more (texts_added g)) gs
    (among_all known more (texts_added g) f)

texts_once : (known : List Bytes) (lines : List HeldLine) → AreApart known → AreApart (texts_after known lines)
texts_once known [] once = once
texts_once known (g ∷ gs) once =
    texts_once (all_learned known (texts_added g)) gs (texts_apart known (texts_added g) once)

-- ---- why nothing refuses

no_limit : (b : Bool) → limit_if b ≡ None → b ≡ false
no_limit false e = refl
no_limit true e = absurd cc

none_either : {A : Type 0} (o p : Option A) → option_or o p ≡ None → (o ≡ None) × (p ≡ None)
none_either None p e = (refl, e)
none_either (Some x) p e = absurd cc

none_at : (at : ℕ) (o : Option LineRefusal) → refused_at at o ≡ None → o ≡ None
none_at at None e = refl
none_at at (Some r) e = absurd cc

none_some : {A : Type 0} (o : Option A) (x : A) → o ≡ None → o ≡ Some x → ⊥
none_some o x none some = cc

pub names_as_many : (other : Bool) (o : Option DoneRefusal) → option_or (refused_if other OtherNumber) o ≡ None
    → other ≡ false
names_as_many false o e = refl
names_as_many true o e = absurd cc

-- why `add` is refused in a batch, by what it depends on
abbrev add_by : ℕ → Bool → ℕ → Option LineRefusal
add_by copies new reached = limit_if (nat_le COPIES copies || (new && nat_le ROWS reached))

-- why `del` is
abbrev delete_by : ℕ → Option LineRefusal
delete_by copies = cond (copies == 0) (Some Absent) None

-- Lines that were carried out on a store pass on one that follows it, and what they leave there follows what they left.
module _ (a b : Store) (f : StoreFollows a b) (lines : List HeldLine) where
  -- ---- copies

  before_same : (h : HeldLine) → copies_before b.relations h ≡ copies_before a.relations h
  before_same h = same_copies a b h.relation h.row f

  after_same : (front : List HeldLine) (h : HeldLine)
      → copies_after b.relations front h ≡ copies_after a.relations front h
  after_same front h =
      ap (λ (m : ℕ). fold (λ (n : ℕ) (g : HeldLine). cond (same_row g h) (after_verb g.verb n) n) m front)
      (before_same h)

  comes_same : (h : HeldLine) → line_comes b.relations lines h ≡ line_comes a.relations lines h
  comes_same h = ap₂ (λ (m n : ℕ). (m == 0) && nat_lt 0 n) (before_same h) (after_same lines h)

  goes_same : (h : HeldLine) → line_goes b.relations lines h ≡ line_goes a.relations lines h
  goes_same h = ap₂ (λ (m n : ℕ). nat_lt 0 m && (n == 0)) (before_same h) (after_same lines h)

  changed_same : rows_changed b.relations lines ≡ rows_changed a.relations lines
  changed_same =
      ap₂ (λ (come go : List HeldLine). length come + length go)
      (filter_agree (line_comes b.relations lines) (line_comes a.relations lines) comes_same (first_lines lines))
      (filter_agree (line_goes b.relations lines) (line_goes a.relations lines) goes_same (first_lines lines))

  counted_too : HaveCopies a.relations lines → HaveCopies b.relations lines
  counted_too counted =
      All-weaker (λ (h : HeldLine). has_row (rows_of a.relations h.relation) h.row ≡ true
      → 1 ≤ copies_before a.relations h)
      (λ (h : HeldLine). has_row (rows_of b.relations h.relation) h.row ≡ true → 1 ≤ copies_before b.relations h)
      (λ h some there. subst (λ (n : ℕ). 1 ≤ n) (sym (before_same h))
      (some (sym (same_has a b h.relation h.row f) ∙ there))) lines counted

  -- ---- refusals

  new_same : (front : List HeldLine) (h : HeldLine) → is_new b.relations front h ≡ is_new a.relations front h
  new_same front h = ap (λ (n : ℕ). (n == 0) && not (names_row_before front h)) (before_same h)

  reached_same : (front : List HeldLine) (name : Bytes)
      → rows_reached b.relations front name ≡ rows_reached a.relations front name
  reached_same front name =
      ap₂ (λ (m : ℕ) (gs : List HeldLine). m + length gs)
      (length_permutation (rows_of a.relations name) (rows_of b.relations name)
      (reordered_rows a.relations b.relations name f.same.relations))
      (filter_agree (λ (g : HeldLine). bytes_eq g.relation name && (copies_before b.relations g == 0))
      (λ (g : HeldLine). bytes_eq g.relation name && (copies_before a.relations g == 0))
      (λ g. ap (λ (n : ℕ). bytes_eq g.relation name && (n == 0)) (before_same g)) (first_lines front))

  refused_same : (front : List HeldLine) (h : HeldLine)
      → row_refusal b.relations front h ≡ row_refusal a.relations front h
  refused_same front h = by h.verb
    where
      by : (v : Verb) → refusal_by v b.relations front h ≡ refusal_by v a.relations front h
      by Add =
          ap (λ (n : ℕ). add_by n (is_new b.relations front h) (rows_reached b.relations front h.relation))
          (after_same front h)
          ∙ ap₂ (λ (new : Bool) (n : ℕ). add_by (copies_after a.relations front h) new n) (new_same front h)
          (reached_same front h.relation)
      by Delete = ap delete_by (after_same front h)

  texts_pass : (front : List HeldLine) (h : HeldLine) → texts_refusal (texts_after a.texts front) h ≡ None
      → texts_refusal (texts_after b.texts front) h ≡ None
  texts_pass front h none =
      ap limit_if (le-ltb TEXTS (length (all_learned (texts_after b.texts front) (texts_added h)))
      (room_too (texts_after b.texts front) (texts_after a.texts front) (texts_added h)
      (texts_among b.texts a.texts front f.among) (texts_once b.texts front f.once)
      (ltb-false TEXTS (length (all_learned (texts_after a.texts front) (texts_added h)))
      (no_limit (nat_lt TEXTS (length (all_learned (texts_after a.texts front) (texts_added h)))) none))))

  line_passes : (front : List HeldLine) (h : HeldLine) → line_refusal a.relations a.texts front h ≡ None
      → line_refusal b.relations b.texts front h ≡ None
  line_passes front h none =
      let both = none_either (row_refusal a.relations front h) (texts_refusal (texts_after a.texts front) h) none in
      ap₂ (λ (o p : Option LineRefusal). option_or o p) (refused_same front h ∙ both.0) (texts_pass front h both.1)

  pass_behind : (front rest : List HeldLine) → refusal_behind a.relations a.texts front rest ≡ None
      → refusal_behind b.relations b.texts front rest ≡ None
  pass_behind front [] none = refl
  pass_behind front (h ∷ rest) none =
      let both = none_either (refused_at (length front) (line_refusal a.relations a.texts front h))
      (refusal_behind a.relations a.texts (front ++ h ∷ []) rest) none in
      ap₂ (λ (o : Option LineRefusal) (p : Option RefusedLine). option_or (refused_at (length front) o) p)
      (line_passes front h (none_at (length front) (line_refusal a.relations a.texts front h) both.0))
      (pass_behind (front ++ h ∷ []) rest both.1)

  last_same : seq_refusal b.relations b.seq lines ≡ seq_refusal a.relations a.seq lines
  last_same = ap₂ (λ (n seq : ℕ). refused_if (nat_lt 0 n && nat_le LAST_SEQ seq) LastChange) changed_same f.same.seq

  -- Where nothing refused the lines and as many are named, or no number is, nothing refuses them here.
  passes_too : (given again : Option ℕ) → is_other again (length lines) ≡ false
      → done_refusal a.relations a.texts a.seq lines given ≡ None
      → done_refusal b.relations b.texts b.seq lines again ≡ None
  passes_too given again as_many none =
      let both = not_refused a lines given none in
      ap (λ (other : Bool). option_or (refused_if other OtherNumber)
      (option_or (option_map (λ r. Line r) (lines_refusal b.relations b.texts lines))
      (seq_refusal b.relations b.seq lines))) as_many
      ∙ ap₂ (λ (o : Option RefusedLine) (p : Option DoneRefusal). option_or (option_map (λ r. Line r) o) p)
      (pass_behind [] lines both.0) (last_same ∙ both.1)

  -- ---- what they leave

  left_alike : (us bs : List Relation) (gs : List HeldLine) → SameRelations us bs → All HasRowsOnce us
      → SameRelations (fold (with_copies_left a.relations lines) us gs)
      (fold (with_copies_left b.relations lines) bs gs)
      × All HasRowsOnce (fold (with_copies_left a.relations lines) us gs)
  left_alike us bs [] same once = (same, once)
  left_alike us bs (g ∷ gs) same once =
      let n = copies_after a.relations lines g in
      let xs = with_so_many (counted_of us g.relation) g.row n in
      let ys = with_so_many (counted_of bs g.relation) g.row (copies_after b.relations lines g) in
      let moved : IsPermutation xs ys =
      subst (λ (m : ℕ). IsPermutation xs (with_so_many (counted_of bs g.relation) g.row m)) (sym (after_same lines g))
      (many_moved (counted_of us g.relation) (counted_of bs g.relation) g.row n (rows_once us g.relation once)
      (reordered_counted us bs g.relation same)) in
      left_alike (with_copies_left a.relations lines us g) (with_copies_left b.relations lines bs g) gs
      (same_with us bs g.relation xs ys moved same)
      (once_with us g.relation xs (many_once (counted_of us g.relation) g.row n (rows_once us g.relation once)) once)

  first_once : All HasRowsOnce a.relations
  first_once = once_moved b.relations a.relations (same_sym a.relations b.relations f.same.relations) f.rows

  pub carried_follows : StoreFollows (store_after a lines) (store_after b lines)
  carried_follows =
      let left = left_alike a.relations b.relations (first_lines lines) f.same.relations first_once in
      record {
        same = record {
          relations = left.0;
          queries = f.same.queries;
          seq = ap₂ (λ (n seq : ℕ). cond (nat_lt 0 n) (seq + 1) seq) changed_same f.same.seq;
        };
        rows = once_moved (relations_after a.relations lines) (relations_after b.relations lines) left.0 left.1;
        among = texts_among b.texts a.texts lines f.among;
        once = texts_once b.texts lines f.once;
      }

  -- ---- `done`

  module _ (given : Option ℕ) (n : ℕ) (to : Store) (d : DoesAll a lines given (Ok n) to) (again : Option ℕ)
      (as_many : is_other again (length lines) ≡ false) where
    passes_again : done_refusal b.relations b.texts b.seq lines again ≡ None
    passes_again = passes_too given again as_many d.answer

    pub done_too : DoesAll b lines again (Ok (rows_changed b.relations lines)) (store_after b lines)
    done_too = record { answer = passes_again; does = (refl, refl); counted = counted_too d.counted }

    pub done_follows : (m : ℕ) (new : Store) → DoesAll b lines again (Ok m) new → StoreFollows to new
    done_follows m new e =
        subst (λ (st : Store). StoreFollows st new) (sym d.does.1)
        (subst (λ (st : Store). StoreFollows (store_after a lines) st) (sym e.does.1) carried_follows)

    -- They are refused out of memory at most.
    pub done_never : (r : DoneRefusal) (how : Loaded)
        → AnswersDone {A = ℕ} (is_other again (length lines))
        (done_refusal b.relations b.texts b.seq lines again) (Err r)
        → how ≡ done_loaded (Err r) → how ≡ no_memory
    done_never OtherNumber how h e =
        absurd (none_some (done_refusal b.relations b.texts b.seq lines again) OtherNumber passes_again h)
    done_never (Line r) how h e = by r.refusal h.1 e
      where
        by : (q : LineRefusal)
            → UnlessMemory q (done_refusal b.relations b.texts b.seq lines again ≡ Some (Line r))
            → how ≡ refused_by (line_word q) → how ≡ no_memory
        by Limit h e =
            absurd (none_some (done_refusal b.relations b.texts b.seq lines again) (Line r) passes_again h)
        by Absent h e =
            absurd (none_some (done_refusal b.relations b.texts b.seq lines again) (Line r) passes_again h)
        by NoMemory h e = e
    done_never LastChange how h e =
        absurd (none_some (done_refusal b.relations b.texts b.seq lines again) LastChange passes_again h)
    done_never NoneLeft how h e = e
