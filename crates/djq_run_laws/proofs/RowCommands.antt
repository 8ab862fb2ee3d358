-- What a command of rows makes of the store, and that rows suit their relations.
use Rattle.std.specs.Prelude.{List, [], ◌∷◌, ◌==◌, ◌≡◌, ◌<◌, ◌++◌, nat_le, nat_lt, Bool, true, false, cond, not, length}
use Rattle.std.specs.Prelude.{Option, None, Some, is_none, IfSome, option_map, ℕ, ◌&&◌, ◌≤◌, ◌+◌, map, Result, Ok, Err}
use Rattle.std.specs.Prelude.{All}
use Rattle.std.proofs.Common.{refl, sym, ap, ◌∙◌, subst, arith, length-append}
use Rattle.std.proofs.lemmas.Bool.{leb-false, leb-true, ltb-true, eq-eqb, not-false, and_parts}
use Rattle.std.proofs.lemmas.List.Elements.{All-weaker, All-push, All-nil}
use Rattle.std.proofs.lemmas.List.{map-append}
use Rattle.std.proofs.lemmas.List.Sums.{sum_by_push}
use Rattle.std.specs.List.{sum_by}
use Rattle.djq_model.specs.declared.relation.ColumnType.{ColumnType}
use Rattle.djq_model.specs.declared.relation.Relation.{Relation}
use Rattle.djq_model.specs.declared.relation.CountedRow.{CountedRow}
use Rattle.djq_model.specs.Data.{Bytes, Tuple, bytes_eq, relation_of, tuple_eq, drop_first, plain_of, counted_in}
use Rattle.djq_model.specs.Data.{counted_of, rows_of, has_row, with_row, with_copies, without_copies}
use Rattle.djq_model.specs.Equality.{bytes_eq-decides}
use Rattle.djq_model.specs.Typed.{fits}
use Rattle.djq_model.specs.Answer.{AreDifferent}
use Rattle.djq_model.specs.Listed.{Listed}
use Rattle.djq_model.specs.Known.{texts_in, all_learned}
use Rattle.djq_model.proofs.Copies.{tuples_with_copies, tuples_without, copies_hold}
use Rattle.djq_model.proofs.Copies.{all_with_copies, all_without}
use Rattle.djq_protocol.specs.declared.answer.Refusal.{Refusal}
use Rattle.djq_protocol.specs.declared.answer.Refusal.TheVariants.{NoRelation, Arity, WrongType, Limit, NoMemory}
use Rattle.djq_protocol.specs.declared.limits.TheConstants.{HELD, HELD_BYTES, TEXTS, ROWS, COPIES, LAST_SEQ}
use Rattle.djq_protocol.specs.declared.held.Verb.{Verb}
use Rattle.djq_protocol.specs.declared.answer.AddOutcome.{AddOutcome}
use Rattle.djq_protocol.specs.declared.answer.AddOutcome.TheVariants.{First, More}
use Rattle.djq_protocol.specs.declared.answer.DeleteOutcome.{DeleteOutcome}
use Rattle.djq_protocol.specs.declared.answer.DeleteOutcome.TheVariants.{Last, Left, Absent}
use Rattle.djq_protocol.specs.Columns.{types_of}
use Rattle.djq_protocol.specs.Conditions.{first_refusal, OutOfMemoryWhere}
use Rattle.djq_store_spec.specs.Store.{Store}
use Rattle.djq_store_spec.specs.Relations.{with_rows, RefusedByTexts}
use Rattle.djq_store_spec.specs.Rows.{row_refusals, AddsRow, AddsAs, DeletesRow, DeletesAs, copies_of, with_copies_of}
use Rattle.djq_store_spec.specs.Rows.{add_refusal, delete_refusal}
use Rattle.djq_store_spec.specs.Held.{HeldLine, HeldTransaction, has_room, holding}
use Rattle.djq_store_spec.specs.Done.{has_changed}
use Rattle.djq_store_spec.specs.Transaction.{suit_refusal, hold_refusal, SuitAll, first_read}
use Rattle.djq_store_spec.specs.Stale.{by_relation}
use Rattle.djq_store_spec.specs.Changes.{RowsChange, RowsOutcome, accepted, out_of_memory, unchanged, row_in, row_out}
use Rattle.djq_store_spec.specs.Changes.{add_outcome, delete_outcome}
use Rattle.djq_store_spec.proofs.Relations.{relation_here, relation_apart, copies_rows}
use Rattle.djq_machine.specs.Step.{SameRelations}
use Rattle.djq_run_laws.specs.Sound.{IsHeldBySaying, AreHeldBySaying, IsSoundBatch, AreApart, IsCopyCount}
use Rattle.djq_run_laws.specs.Sound.{IsSoundRelation}
use Rattle.djq_run_laws.specs.Form.{RowCommand, row_comes, row_goes, carries_out, LearnsTexts}
use Rattle.djq_run_laws.proofs.Forms.{none_first, done_of, none_holds, stays_learned, late_learned, refused_learned}
use Rattle.djq_run_laws.proofs.Forms.{AllFail, all_fail, second_fails}
use Rattle.djq_run_laws.proofs.Lists.{all_changed, all_found, all_dropped, names_changed, rows_more, rows_less}
use Rattle.djq_run_laws.proofs.Lists.{without_dropped, less_dropped, long_changed}
use Rattle.djq_run_laws.proofs.RegisteredQueries.{SameAnswers, rows_same, Spares, one_spares}

-- ---- Rows suit their relations as long as these keep their types.

abbrev IsOfTypes : Relation → List ColumnType
IsOfTypes r = r.types

-- the types of the relation of a name, where there is one
abbrev pub types_at : List Relation → Bytes → Option (List ColumnType)
types_at rs name = option_map IsOfTypes (relation_of rs name)

-- Each name has the types that it had.
abbrev pub SameTypes : List Relation → List Relation → Type 0
SameTypes rs rs' = (n : Bytes) → types_at rs' n ≡ types_at rs n

-- The types of a relation that is found, and that it is found.
types_in : (o p : Option Relation) → option_map IsOfTypes p ≡ option_map IsOfTypes o → types_of p ≡ types_of o
types_in None None e = refl
types_in (Some r) (Some s) e = cc
types_in None (Some s) e = absurd cc
types_in (Some r) None e = absurd cc

pub types_found : (rs rs' : List Relation) (n : Bytes) → types_at rs' n ≡ types_at rs n
    → types_of (relation_of rs' n) ≡ types_of (relation_of rs n)
types_found rs rs' n e = types_in (relation_of rs n) (relation_of rs' n) e

there_in : (o p : Option Relation) → option_map IsOfTypes p ≡ option_map IsOfTypes o → is_none o ≡ false
    → is_none p ≡ false
there_in None p e h = absurd cc
there_in (Some r) (Some s) e h = refl
there_in (Some r) None e h = absurd cc

pub there_still : (rs rs' : List Relation) (n : Bytes) → types_at rs' n ≡ types_at rs n
    → is_none (relation_of rs n) ≡ false → is_none (relation_of rs' n) ≡ false
there_still rs rs' n e h = there_in (relation_of rs n) (relation_of rs' n) e h

-- a relation more leaves those that are there
pub more_types : (rs : List Relation) (more : Relation) (n : Bytes) → is_none (relation_of rs n) ≡ false
    → types_at (rs ++ more ∷ []) n ≡ types_at rs n
more_types [] more n h = absurd cc
more_types (r ∷ rs) more n h = by (bytes_eq r.name n) h (λ k. more_types rs more n k)
  where
    by : (b : Bool) → is_none (cond b (Some r) (relation_of rs n)) ≡ false
        → (is_none (relation_of rs n) ≡ false → types_at (rs ++ more ∷ []) n ≡ types_at rs n)
        → option_map IsOfTypes (cond b (Some r) (relation_of (rs ++ more ∷ []) n))
        ≡ option_map IsOfTypes (cond b (Some r) (relation_of rs n))
    by true k rest = refl
    by false k rest = rest k

-- It is so of other rows in one relation,
pub types_with_rows : (rs : List Relation) (name : Bytes) (rows : List CountedRow)
    → SameTypes rs (with_rows rs name rows)
types_with_rows rs name rows n = by (bytes_eq n name) refl
  where
    kept : (o : Option Relation) → option_map IsOfTypes (option_map (λ (r : Relation). record r { rows = rows }) o)
        ≡ option_map IsOfTypes o
    kept None = refl
    kept (Some r) = refl

    by : (b : Bool) → bytes_eq n name ≡ b → types_at (with_rows rs name rows) n ≡ types_at rs n
    by false e = ap (option_map IsOfTypes) (relation_apart rs name rows n e)
    by true e =
        subst (λ (m : Bytes). types_at (with_rows rs name rows) m ≡ types_at rs m) (sym ((bytes_eq-decides n name).0 e))
        (ap (option_map IsOfTypes) (relation_here rs name rows) ∙ kept (relation_of rs name))

-- and of rows in another order.
pub types_moved : (rs moved : List Relation) → SameRelations rs moved → SameTypes rs moved
types_moved [] [] h n = refl
types_moved (r ∷ rs) (m ∷ ms) h n =
    ap (λ (b : Bool). option_map IsOfTypes (cond b (Some m) (relation_of ms n))) (ap (λ (k : Bytes). bytes_eq k n) h.0)
    ∙ by (bytes_eq r.name n) (types_moved rs ms h.3 n)
  where
    by : (b : Bool) → types_at ms n ≡ types_at rs n
        → option_map IsOfTypes (cond b (Some m) (relation_of ms n))
        ≡ option_map IsOfTypes (cond b (Some r) (relation_of rs n))
    by true k = ap (λ (ts : List ColumnType). Some ts) h.1
    by false k = k
types_moved [] (m ∷ ms) h n = absurd h
types_moved (r ∷ rs) [] h n = absurd h

-- why a row doesn't suit the relation that is found
abbrev suit_in : Option Relation → Tuple → Option Refusal
suit_in o row = first_refusal (
    (is_none o, NoRelation)
    ∷ (not (length row == length (types_of o)), Arity)
    ∷ (not (fits (types_of o) row), WrongType)
    ∷ [])

suit_same : (o p : Option Relation) (row : Tuple) → option_map IsOfTypes p ≡ option_map IsOfTypes o
    → suit_in o row ≡ None → suit_in p row ≡ None
suit_same None p row e h = absurd cc
suit_same (Some r) None row e h = absurd cc
suit_same (Some r) (Some s) row e h =
    let same : s.types ≡ r.types = cc in
    subst (λ (ts : List ColumnType). first_refusal ((false, NoRelation) ∷ (not (length row == length ts), Arity)
    ∷ (not (fits ts row), WrongType) ∷ []) ≡ None) (sym same) h

-- What suits one store suits another.
abbrev pub SuitsStill : Store → Store → Type 0
SuitsStill old new = (name : Bytes) (row : Tuple) → suit_refusal old name row ≡ None → suit_refusal new name row ≡ None

pub types_suit : (old new : Store) → SameTypes old.relations new.relations → SuitsStill old new
types_suit old new same name row h =
    suit_same (relation_of old.relations name) (relation_of new.relations name) row (same name) h

-- a relation more
more_front : (rs : List Relation) (more : Relation) (name : Bytes) (row : Tuple)
    → suit_in (relation_of rs name) row ≡ None
    → suit_in (relation_of (rs ++ more ∷ []) name) row ≡ None
more_front [] more name row h = absurd cc
more_front (r ∷ rs) more name row h = by (bytes_eq r.name name) h (λ k. more_front rs more name row k)
  where
    by : (b : Bool) → suit_in (cond b (Some r) (relation_of rs name)) row ≡ None
        → (suit_in (relation_of rs name) row ≡ None → suit_in (relation_of (rs ++ more ∷ []) name) row ≡ None)
        → suit_in (cond b (Some r) (relation_of (rs ++ more ∷ []) name)) row ≡ None
    by true k rest = k
    by false k rest = rest k

pub more_suits : (old : Store) (more : Relation)
    → SuitsStill old (record old { relations = old.relations ++ more ∷ [] })
more_suits old more name row h = more_front old.relations more name row h

-- So a batch stays sound.
pub all_suit : (old new : Store) → SuitsStill old new → (lines : List HeldLine) → SuitAll old lines
    → SuitAll new lines
all_suit old new still lines suit =
    All-weaker (λ (h : HeldLine). suit_refusal old h.relation h.row ≡ None)
    (λ (h : HeldLine). suit_refusal new h.relation h.row ≡ None) (λ h k. still h.relation h.row k) lines suit

pub batch_still : (old new : Store) → SuitsStill old new → (o : Option HeldTransaction) → IfSome o (IsSoundBatch old)
    → IfSome o (IsSoundBatch new)
batch_still old new still None h = tt
batch_still old new still (Some held) h =
    record { few = h.few; short = h.short; suit = all_suit old new still held.lines h.suit; lines = h.lines }

-- a row that suits fits the types
fits_third : (a b d : Bool) (r t u : Refusal) (o : Option Refusal)
    → cond a (Some r) (cond b (Some t) (cond (not d) (Some u) o)) ≡ None → d ≡ true
fits_third false false true r t u o h = refl
fits_third true b d r t u o h = absurd cc
fits_third false true d r t u o h = absurd cc
fits_third false false false r t u o h = absurd cc

pub suit_fits : (st : Store) (name : Bytes) (row : Tuple) → suit_refusal st name row ≡ None
    → fits (types_of (relation_of st.relations name)) row ≡ true
suit_fits st name row h =
    let types = types_of (relation_of st.relations name) in
    fits_third (is_none (relation_of st.relations name)) (not (length row == length types)) (fits types row)
    NoRelation Arity WrongType None h

-- One line more that a batch may hold.
none_both : (cs bs : List (Bool × Refusal)) → first_refusal (cs ++ bs) ≡ None
    → (first_refusal cs ≡ None) × (first_refusal bs ≡ None)
none_both [] bs h = (refl, h)
none_both (a ∷ cs) bs h = by a.0 h (λ k. none_both cs bs k)
  where
    by : (b : Bool) → cond b (Some a.1) (first_refusal (cs ++ bs)) ≡ None
        → (first_refusal (cs ++ bs) ≡ None → (first_refusal cs ≡ None) × (first_refusal bs ≡ None))
        → (cond b (Some a.1) (first_refusal cs) ≡ None) × (first_refusal bs ≡ None)
    by true k rest = absurd cc
    by false k rest = rest k

-- one line more that its bytes say
said_more : (ls : List Bytes) (hs : List HeldLine) (l : Bytes) (h : HeldLine) → AreHeldBySaying ls hs
    → IsHeldBySaying l h → AreHeldBySaying (ls ++ l ∷ []) (hs ++ h ∷ [])
said_more [] [] l h all one = (one, tt)
said_more (k ∷ ks) (g ∷ gs) l h all one = (all.0, said_more ks gs l h all.1 one)
said_more (k ∷ ks) [] l h all one = absurd all
said_more [] (g ∷ gs) l h all one = absurd all

pub held_more : (st : Store) (held : HeldTransaction) (l : Bytes) (verb : Verb) (name : Bytes) (row : Tuple)
    → hold_refusal st held l name row ≡ None
    → IsHeldBySaying l (record { verb = verb; relation = name; row = row }) → IsSoundBatch st held
    → IsSoundBatch st (holding held verb name row l)
held_more st held l verb name row none said h =
    let more : HeldLine = record { verb = verb; relation = name; row = row } in
    let both = none_both (row_refusals st name row) ((not (has_room held (length l)), Limit) ∷ []) none in
    let room : has_room held (length l) ≡ true = not-false (has_room held (length l))
    (none_first (not (has_room held (length l))) Limit None both.1) in
    let parts = and_parts (nat_lt (length held.lines) HELD)
    (nat_le (sum_by (λ (k : Bytes). length k) held.logged + length l) HELD_BYTES) room in
    record {
      few = omega (arith, ltb-true (length held.lines) HELD parts.0, length-append held.lines (more ∷ []));
      short = omega (
        arith,
        leb-true (sum_by (λ (k : Bytes). length k) held.logged + length l) HELD_BYTES parts.1,
        sum_by_push (λ (k : Bytes). length k) held.logged l,
      );
      suit = All-push (λ (k : HeldLine). suit_refusal st k.relation k.row ≡ None) held.lines more h.suit both.0;
      lines = said_more held.logged held.lines l more h.lines said;
    }

-- ---- What a command of rows makes of the store: a change, or none. Of `add` and `del`; batches are in Batches.

-- the relation whose change by a command outdates a query
abbrev pub outdater_by : Store → RowCommand → Listed → Option Bytes
outdater_by old (row_comes name row) q = by_relation name q
outdater_by old (row_goes name row) q = by_relation name q
outdater_by old (carries_out held given) q = first_read held.lines (has_changed old.relations held.lines) q

-- The rows that a command brings suit their relations: those of a batch do so in a sound state.
abbrev pub RowsSuit : Store → RowCommand → Type 0
RowsSuit old (row_comes name row) = Unit {0}
RowsSuit old (row_goes name row) = Unit {0}
RowsSuit old (carries_out held given) = SuitAll old held.lines

-- A command of rows makes a change of a store, which outdates some queries: it is counted, where one
-- more may be, and texts become known.
pub record MakesChange (c : RowCommand) (old : Store) (change : RowsChange) (new : Store) : Type 0 where
  pub outdates : (q : Listed) → change.outdater q ≡ outdater_by old c q
  pub spares : Spares old.relations change
  pub names : AreApart (map (λ (x : Relation). x.name) old.relations)
      → AreApart (map (λ (x : Relation). x.name) change.after)
  pub types : SameTypes old.relations change.after
  pub rows : RowsSuit old c → All IsSoundRelation old.relations → All IsSoundRelation change.after
  pub count : length change.after ≡ length old.relations
  pub below : old.seq < LAST_SEQ
  pub texts : List Bytes
  pub few : length old.texts ≤ TEXTS → length new.texts ≤ TEXTS
  pub store : new ≡ record old {
    relations = change.after;
    texts = all_learned old.texts texts;
    seq = old.seq + 1;
  }

-- Each relation has the rows that it had, with other copies at most, and texts become known.
pub record KeepsRows (c : RowCommand) (old new : Store) : Type 0 where
  pub relations : List Relation
  pub same : (n : Bytes) → rows_of relations n ≡ rows_of old.relations n
  pub names : AreApart (map (λ (x : Relation). x.name) old.relations)
      → AreApart (map (λ (x : Relation). x.name) relations)
  pub types : SameTypes old.relations relations
  pub rows : RowsSuit old c → All IsSoundRelation old.relations → All IsSoundRelation relations
  pub count : length relations ≡ length old.relations
  pub texts : List Bytes
  pub few : length old.texts ≤ TEXTS → length new.texts ≤ TEXTS
  pub store : new ≡ record old { relations = relations; texts = all_learned old.texts texts }

pub learns_keeps : (c : RowCommand) (old new : Store) → LearnsTexts old new → KeepsRows c old new
learns_keeps c old new h = record {
  relations = old.relations;
  same = λ n. refl;
  names = λ apart. apart;
  types = λ n. refl;
  rows = λ suit sound. sound;
  count = refl;
  texts = h.texts;
  few = h.few;
  store = h.store;
}

-- What a command of rows makes of a store.
abbrev pub RowsMade : RowCommand → Store → RowsOutcome → Store → Type 0
RowsMade c old (accepted change) new = MakesChange c old change new
RowsMade c old (out_of_memory change) new = LearnsTexts old new
RowsMade c old unchanged new = KeepsRows c old new

-- other rows in one relation
rows_there : (rs : List Relation) (name : Bytes) (rows : List CountedRow) → All IsSoundRelation rs
    → ((x : Relation) → relation_of rs name ≡ Some x → IsSoundRelation x → IsSoundRelation (record x { rows = rows }))
    → All IsSoundRelation (with_rows rs name rows)
rows_there rs name rows h keeps =
    all_changed IsSoundRelation (λ (x : Relation). bytes_eq x.name name)
    (λ (x : Relation). record x { rows = rows }) rs h (λ x found k. keeps x found k)

-- what holds of the rows of the relation that is found
rows_found : (P : List CountedRow → Type 0) (o : Option Relation) (x : Relation) → o ≡ Some x → P x.rows
    → P (counted_in o)
rows_found P o x found h = subst (λ (p : Option Relation). P (counted_in p)) (sym found) h

-- what `add` and `del` ask before they are done
abbrev pub add_conditions : Store → Bytes → Tuple → List (Bool × Refusal)
add_conditions st name row = let rows = rows_of st.relations name in row_refusals st name row
    ++ (nat_le COPIES (copies_of st name row), Limit)
    ∷ (not (has_row rows row) && nat_le ROWS (length rows), Limit)
    ∷ (not (has_row rows row) && nat_le LAST_SEQ st.seq, Limit)
    ∷ []

abbrev pub delete_conditions : Store → Bytes → Tuple → List (Bool × Refusal)
delete_conditions st name row = row_refusals st name row
    ++ ((copies_of st name row == 1) && nat_le LAST_SEQ st.seq, Limit)
    ∷ []

-- a copy more, where there may be one
pub one_more : (n : ℕ) → nat_le COPIES n ≡ false → IsCopyCount (n + 1)
one_more n few = let below = leb-false COPIES n few in (omega arith, omega (arith, below))

-- A row that isn't refused fits, and may have a copy more. Where it isn't there, there is a place for
-- it, and one more change may be counted.
module _ (old : Store) (name : Bytes) (row : Tuple) (none : add_refusal old name row ≡ None) where
  fail : AllFail (add_conditions old name row)
  fail = all_fail (add_conditions old name row) none

  row_fits : fits (types_of (relation_of old.relations name)) row ≡ true
  row_fits = not-false (fits (types_of (relation_of old.relations name)) row) fail.1.1.0

  once_more : IsCopyCount (copies_of old name row + 1)
  once_more = one_more (copies_of old name row) fail.1.1.1.0

  row_place : has_row (rows_of old.relations name) row ≡ false → length (rows_of old.relations name) < ROWS
  row_place absent =
      leb-false ROWS (length (rows_of old.relations name))
      (second_fails (not (has_row (rows_of old.relations name) row)) (nat_le ROWS (length (rows_of old.relations name)))
      (ap not absent) fail.1.1.1.1.0)

  one_below : has_row (rows_of old.relations name) row ≡ false → old.seq < LAST_SEQ
  one_below absent =
      leb-false LAST_SEQ old.seq
      (second_fails (not (has_row (rows_of old.relations name) row)) (nat_le LAST_SEQ old.seq) (ap not absent)
      fail.1.1.1.1.1.0)

-- A row that isn't added changes no more than which texts are known.
not_added : (old : Store) (name : Bytes) (row : Tuple) (r : Refusal) (new : Store) → AddsRow old name row (Err r) new
    → LearnsTexts old new
not_added old name row r new h =
    refused_learned (add_refusal old name row) r (AddsAs old name row new)
    (λ t. (has_row (rows_of old.relations name) row ≡ false) × RefusedByTexts old (texts_in row) new t) old new h.answer
    h.stays (λ late. late_learned old (texts_in row) new r late.1)

-- other rows in one relation, where they suit it as those before did
module _ (old : Store) (name : Bytes) (rows : List CountedRow) where
  abbrev pub Suits : Relation → List CountedRow → Type 0
  Suits x rows = All (λ t. fits x.types t ≡ true) (plain_of rows) × AreDifferent (plain_of rows)
      × All (λ (c : CountedRow). IsCopyCount c.copies) rows × (length (plain_of rows) ≤ ROWS)

  pub other_names : AreApart (map (λ (x : Relation). x.name) old.relations)
      → AreApart (map (λ (x : Relation). x.name) (with_rows old.relations name rows))
  other_names apart = names_changed (λ (x : Relation). x.name) (λ (x : Relation). bytes_eq x.name name)
      (λ (x : Relation). record x { rows = rows }) (λ x. refl) old.relations apart

  pub other_rows : ((x : Relation) → relation_of old.relations name ≡ Some x → Suits x (counted_of old.relations name)
      → Suits x rows)
      → All IsSoundRelation old.relations → All IsSoundRelation (with_rows old.relations name rows)
  other_rows suits sound = rows_there old.relations name rows sound (λ x found k.
      let held = rows_found (Suits x) (relation_of old.relations name) x found (k.typed, k.once, k.copies, k.few) in
      let is = suits x found held in record {
        some = k.some;
        columns = k.columns;
        few = is.3;
        typed = is.0;
        once = is.1;
        copies = is.2;
      })

  pub other_count : length (with_rows old.relations name rows) ≡ length old.relations
  other_count = long_changed (λ (x : Relation). bytes_eq x.name name) (λ (x : Relation). record x { rows = rows })
      old.relations

-- a row that comes, another number of copies of one, and a row that goes
module _ (old : Store) (name : Bytes) (row : Tuple) where
  abbrev pub before : List CountedRow
  before = counted_of old.relations name

  pub suits_last : (n : ℕ) → IsCopyCount n → fits (types_of (relation_of old.relations name)) row ≡ true
      → has_row (plain_of before) row ≡ false → length (plain_of before) < ROWS → (x : Relation)
      → relation_of old.relations name ≡ Some x → Suits old name before x before
      → Suits old name before x (before ++ record { row = row; copies = n } ∷ [])
  suits_last n may fitting absent place x found k = (
    subst (λ ts. All (λ t. fits x.types t ≡ true) ts) (sym tuples)
        (All-push (λ t. fits x.types t ≡ true) (plain_of before) row k.0
        (subst (λ (o : Option Relation). fits (types_of o) row ≡ true) found fitting)),
    subst AreDifferent (sym tuples) (rows_more (plain_of before) row k.1 absent),
    All-push (λ (c : CountedRow). IsCopyCount c.copies) before (record { row = row; copies = n }) k.2 may,
    omega (arith, ap length tuples, length-append (plain_of before) (row ∷ []), place),
  )
    where
      tuples : plain_of (before ++ record { row = row; copies = n } ∷ []) ≡ plain_of before ++ row ∷ []
      tuples = map-append (λ (c : CountedRow). c.row) before (record { row = row; copies = n } ∷ [])

  pub suits_more : fits (types_of (relation_of old.relations name)) row ≡ true → has_row (plain_of before) row ≡ false
      → length (plain_of before) < ROWS → (x : Relation) → relation_of old.relations name ≡ Some x
      → Suits old name before x before → Suits old name before x (with_row before row)
  suits_more fitting absent place x found k = suits_last 1 (omega arith, omega arith) fitting absent place x found k

  pub suits_copies : (n : ℕ) → IsCopyCount n → (x : Relation) → relation_of old.relations name ≡ Some x
      → Suits old name before x before → Suits old name before x (with_copies before row n)
  suits_copies n may x found k = (
    subst (λ ts. All (λ t. fits x.types t ≡ true) ts) (sym (tuples_with_copies before row n)) k.0,
    subst AreDifferent (sym (tuples_with_copies before row n)) k.1,
    all_with_copies (λ (c : CountedRow). IsCopyCount c.copies) before row n k.2 may,
    subst (λ ts. length ts ≤ ROWS) (sym (tuples_with_copies before row n)) k.3,
  )

  pub suits_less : (x : Relation) → relation_of old.relations name ≡ Some x → Suits old name before x before
      → Suits old name before x (without_copies before row)
  suits_less x found k = (
    subst (λ ts. All (λ t. fits x.types t ≡ true) ts) (sym (without_is))
        (all_dropped (λ t. fits x.types t ≡ true) (λ t. tuple_eq t row) (plain_of before) k.0),
    subst AreDifferent (sym (tuples_without before row)) (rows_less (plain_of before) row k.1),
    all_without (λ (c : CountedRow). IsCopyCount c.copies) before row k.2,
    less,
  )
    where
      without_is : plain_of (without_copies before row) ≡ drop_first (λ t. tuple_eq t row) (plain_of before)
      without_is = tuples_without before row ∙ without_dropped (plain_of before) row

      less : length (plain_of (without_copies before row)) ≤ ROWS
      less =
          let fewer = less_dropped (λ t. tuple_eq t row) (plain_of before) in
          let long = ap length without_is in
          let most = k.3 in
          omega (arith, fewer, long, most)

  -- Of another number of copies each relation keeps its rows.
  recounted : (c : RowCommand) (n : ℕ) (new : Store) → (All IsSoundRelation old.relations → IsCopyCount n)
      → new ≡ record old { relations = with_copies_of old.relations name row n } → KeepsRows c old new
  recounted c n new may after = record {
    relations = with_copies_of old.relations name row n;
    same = copies_rows old.relations name row n;
    names = other_names old name (with_copies before row n);
    types = types_with_rows old.relations name (with_copies before row n);
    rows = λ suit sound. other_rows old name (with_copies before row n) (suits_copies n (may sound)) sound;
    count = other_count old name (with_copies before row n);
    texts = [];
    few = λ few. subst (λ (st : Store). length st.texts ≤ TEXTS) (sym after) few;
    store = after;
  }

-- `add`
pub added : (old : Store) (name : Bytes) (row : Tuple) (r : Result AddOutcome Refusal) (new : Store)
    → AddsRow old name row r new
    → RowsMade (row_comes name row) old (add_outcome (row_in old.relations name row) r) new
added old name row (Ok First) new h =
    let d = done_of (add_refusal old name row) First (AddsAs old name row new) _ h.answer in
    let none = none_holds (add_refusal old name row) First (AddsAs old name row new) _ h.answer in
    let rows = with_row (counted_of old.relations name) row in record {
      outdates = λ q. refl;
      spares = one_spares old.relations name rows;
      names = other_names old name rows;
      types = types_with_rows old.relations name rows;
      rows = λ suit. other_rows old name rows
          (suits_more old name row (row_fits old name row none) d.0 (row_place old name row none d.0));
      count = other_count old name rows;
      below = one_below old name row none d.0;
      texts = texts_in row;
      few = λ few. d.1;
      store = d.2;
    }
added old name row (Ok (More copies)) new h =
    let d = done_of (add_refusal old name row) (More copies) (AddsAs old name row new) _ h.answer in
    let none = none_holds (add_refusal old name row) (More copies) (AddsAs old name row new) _ h.answer in
    recounted old name row (row_comes name row) copies new
    (λ sound. subst IsCopyCount (sym d.1) (once_more old name row none)) d.2
added old name row (Err NoMemory) new h = not_added old name row NoMemory new h
added old name row (Err r) new h = learns_keeps (row_comes name row) old new (not_added old name row r new h)

-- how many copies each row of a relation has, where all are sound
pub counted_sound : (rs : List Relation) (name : Bytes) (o : Option Relation) → relation_of rs name ≡ o
    → All IsSoundRelation rs → All (λ (c : CountedRow). IsCopyCount c.copies) (counted_in o)
counted_sound rs name None e sound = All-nil (λ (c : CountedRow). IsCopyCount c.copies)
counted_sound rs name (Some x) e sound =
    (all_found IsSoundRelation (λ (r : Relation). bytes_eq r.name name) rs x sound e).copies

-- one of several copies less
one_less : (old : Store) (name : Bytes) (row : Tuple) (copies : ℕ) → has_row (rows_of old.relations name) row ≡ true
    → copies_of old name row ≡ copies + 1 → 1 ≤ copies → All IsSoundRelation old.relations → IsCopyCount copies
one_less old name row copies there is some sound =
    let held : IsCopyCount (copies_of old name row) =
    copies_hold IsCopyCount (counted_of old.relations name) row
    (counted_sound old.relations name (relation_of old.relations name) refl sound) there in
    let most = held.1 in
    (some, omega (arith, is, most))

-- `del`
pub deleted : (old : Store) (name : Bytes) (row : Tuple) (r : Result DeleteOutcome Refusal) (new : Store)
    → DeletesRow old name row r new
    → RowsMade (row_goes name row) old (delete_outcome (row_out old.relations name row) r) new
deleted old name row (Ok Last) new h =
    let d = done_of (delete_refusal old name row) Last (DeletesAs old name row new) (OutOfMemoryWhere ⊥) h.answer in
    let none = none_holds (delete_refusal old name row) Last (DeletesAs old name row new) (OutOfMemoryWhere ⊥) h.answer
    in
    let fails = all_fail (delete_conditions old name row) none in
    let rows = without_copies (counted_of old.relations name) row in record {
      outdates = λ q. refl;
      spares = one_spares old.relations name rows;
      names = other_names old name rows;
      types = types_with_rows old.relations name rows;
      rows = λ suit. other_rows old name rows (suits_less old name row);
      count = other_count old name rows;
      below = leb-false LAST_SEQ old.seq
          (second_fails (copies_of old name row == 1) (nat_le LAST_SEQ old.seq)
          (eq-eqb (copies_of old name row) 1 d.1) fails.1.1.1.0);
      texts = [];
      few = λ few. subst (λ (st : Store). length st.texts ≤ TEXTS) (sym d.2) few;
      store = d.2;
    }
deleted old name row (Ok (Left copies)) new h =
    let d = done_of (delete_refusal old name row) (Left copies) (DeletesAs old name row new) (OutOfMemoryWhere ⊥)
    h.answer in
    recounted old name row (row_goes name row) copies new (one_less old name row copies d.0 d.1 d.2) d.3
deleted old name row (Ok Absent) new h =
    learns_keeps (row_goes name row) old new (stays_learned old new
    (done_of (delete_refusal old name row) Absent (DeletesAs old name row new) (OutOfMemoryWhere ⊥) h.answer).1)
deleted old name row (Err r) new h = learns_keeps (row_goes name row) old new (stays_learned old new h.stays)

-- Queries stay.
pub made_queries : (c : RowCommand) (old : Store) (o : RowsOutcome) (new : Store) → RowsMade c old o new
    → new.queries ≡ old.queries
made_queries c old (accepted change) new h = ap (λ (st : Store). st.queries) h.store
made_queries c old (out_of_memory change) new h = ap (λ (st : Store). st.queries) h.store
made_queries c old unchanged new h = ap (λ (st : Store). st.queries) h.store

-- Relations keep their types.
pub made_types : (c : RowCommand) (old : Store) (o : RowsOutcome) (new : Store) → RowsMade c old o new
    → SameTypes old.relations new.relations
made_types c old (accepted change) new h =
    subst (λ (st : Store). SameTypes old.relations st.relations) (sym h.store) h.types
made_types c old (out_of_memory change) new h =
    subst (λ (st : Store). SameTypes old.relations st.relations) (sym h.store) (λ n. refl)
made_types c old unchanged new h =
    subst (λ (st : Store). SameTypes old.relations st.relations) (sym h.store) h.types

-- Where relations keep their rows, answers are the same.
pub kept_answers : (c : RowCommand) (old new : Store) (q : Listed) → KeepsRows c old new
    → SameAnswers old.relations new.relations q
kept_answers c old new q h =
    subst (λ (st : Store). SameAnswers old.relations st.relations q) (sym h.store)
    (rows_same old.relations h.relations q h.same)
