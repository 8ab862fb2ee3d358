-- The texts of a row become known, value by value.
use Rattle.std.proofs.Common.{◌≡◌, ℕ, ◌+◌, ◌<◌, Bool, true, false, List, [], ◌∷◌, ◌++◌, length, take, drop, refl, sym}
use Rattle.std.proofs.Common.{ap, ◌∙◌, subst, arith, append_assoc}
use Rattle.std.specs.Prelude.{slice_index_or, slice_get, Some, Err, ◌&&◌, Contains}
use Rattle.std.proofs.lemmas.Bool.{false≢true}
use Rattle.std.proofs.lemmas.List.{append-nil, take_more, take-append-drop, get_or_default}
use Rattle.std.proofs.lemmas.Option.{get_or_from_slice_get}
use Rattle.djq_dictionary.specs.declared.dict.TheConstants.{MOST_TEXTS}
use Rattle.djq_dictionary.specs.declared.refusal.InternRefusal.{InternRefusal}
use Rattle.djq_dictionary.specs.declared.refusal.InternRefusal.TheVariants.{Full, NoMem}
use Rattle.djq_dictionary.specs.Known.{AllDifferent, IsUnknown, Learns}
use Rattle.djq_model.specs.declared.value.Value.{Value}
use Rattle.djq_model.specs.declared.value.Value.TheVariants.{Int, Text}
use Rattle.djq_model.specs.declared.relation.ColumnType.{ColumnType}
use Rattle.djq_model.specs.declared.relation.ColumnType.TheVariants.{Text as TextColumn}
use Rattle.djq_model.specs.Data.{Bytes, Tuple}
use Rattle.djq_model.specs.Known.{knows, knows_all, texts_of, texts_in, learned, all_learned}
use Rattle.djq_database.specs.Cells.{cell_for, cells_of, HasCell, HaveCells}
use Rattle.djq_database.specs.Changes.{LearnsSome, FindsNoPlaceFor, InternsValue, InternsRow}
use Rattle.djq_database.specs.Parts.{CellFits, value_of}
use Rattle.djq_database.proofs.Cells.{Grown, knows_at, knows_more, place_at, unknown, learns_is, all_grown, grown_is}
use Rattle.djq_database.proofs.Cells.{grown_longer, learned_longer, all_learned-append, texts_in-append}
use Rattle.djq_database.proofs.Cells.{knows_all-append, knows_all-front, have_push, cells_push, cells_grown}

-- the values before one, and those behind it
pub record Cut (row : Tuple) (at : ℕ) (v : Value) : Type 0 where
  pub rest : Tuple
  pub upto : take (at + 1) row ≡ take at row ++ v ∷ []
  pub is : row ≡ (take at row ++ v ∷ []) ++ rest

pub cut : (row : Tuple) (at : ℕ) (v : Value) → at < length row → v ≡ slice_index_or row at v → Cut
    row at v
cut row at v low is =
    let upto : take (at + 1) row ≡ take at row ++ v ∷ [] = take_more row at v low ∙ ap (λ w. take at
    row ++ w ∷ []) (sym is) in
    record {
      rest = drop (at + 1) row;
      upto = upto;
      is = sym (take-append-drop (at + 1) row) ∙ ap (λ
          (l : Tuple). l ++ drop (at + 1) row) upto;
    }

texts_cut : (row : Tuple) (at : ℕ) (v : Value) (c : Cut row at v) → texts_in row ≡ texts_in (take at
    row) ++ (texts_of v ++ texts_in c.rest)
texts_cut row at v c =
    ap texts_in c.is ∙ texts_in-append (take at row ++ v ∷ []) c.rest ∙ ap (λ (l : List Bytes). l ++
    texts_in c.rest) (texts_in-append (take at row) (v ∷ []) ∙ ap (λ (l : List Bytes). texts_in
    (take at row) ++ l) (append-nil (texts_of v)))
    ∙ append_assoc (texts_in (take at row)) (texts_of v) (texts_in c.rest)

-- telling cells

pub told_more : (texts : List Bytes) (row : Tuple) (at : ℕ) (v : Value) (cells : List ℕ) → Cut row
    at v → cells ≡ cells_of texts (take at row)
    → cells ++ cell_for texts v ∷ [] ≡ cells_of texts (take (at + 1) row)
told_more texts row at v cells c e = ap (λ (l : List ℕ). l ++ cell_for texts v ∷ []) e ∙ sym (ap
    (cells_of texts) c.upto ∙ cells_push texts (take at row) v)

pub have_upto : (texts : List Bytes) (row : Tuple) (at : ℕ) (v : Value) → Cut row at v → HaveCells
    texts (take at row) → HasCell texts v → HaveCells texts (take (at + 1) row)
have_upto texts row at v c h k = subst (HaveCells texts) (sym c.upto) (have_push texts (take at row)
    v h k)

pub unknown_in : (texts : List Bytes) (row : Tuple) (at : ℕ) (v : Value) → Cut row at v → knows_all
    texts (texts_of v) ≡ false → knows_all texts (texts_in row) ≡ false
unknown_in texts row at v c h =
    ap (knows_all texts) (texts_cut row at v c) ∙ knows_all-append texts (texts_in (take at row))
    (texts_of v ++ texts_in c.rest) (knows_all-front texts (texts_of v) (texts_in c.rest) h)

-- learning

one_more : (old : List Bytes) (ts : List Bytes) (v : Value) → all_learned (all_learned old ts)
    (texts_of v) ≡ all_learned old (ts ++ texts_of v)
one_more old ts v = sym (all_learned-append old ts (texts_of v))

pub learned_upto : (old now new : List Bytes) (row : Tuple) (at : ℕ) (v : Value) → Cut row at v →
    now ≡ all_learned old (texts_in (take at row)) → new ≡ all_learned now (texts_of v)
    → new ≡ all_learned old (texts_in (take (at + 1) row))
learned_upto old now new row at v c was is =
    is ∙ ap (λ (l : List Bytes). all_learned l (texts_of v)) was ∙ one_more old (texts_in (take at
    row)) v
    ∙ ap (all_learned old) (ap (λ (l : List Bytes). texts_in (take at row) ++ l) (sym (append-nil (texts_of v))) ∙
    sym (texts_in-append (take at row) (v ∷ [])) ∙ sym (ap texts_in c.upto))

pub now_grown : (old now new : List Bytes) (v : Value) → new ≡ all_learned now (texts_of v) → Grown
    now new
now_grown old now new v is = grown_is now new (all_learned now (texts_of v)) is (all_grown now
    (texts_of v))

pub cells_upto : (now new : List Bytes) (row : Tuple) (at : ℕ) (v : Value) (cells : List ℕ) (cell :
    ℕ) → Cut row at v → Grown now new → HaveCells now (take at row) → cells ≡ cells_of now (take at
    row) → cell ≡ cell_for new v
    → cells ++ cell ∷ [] ≡ cells_of new (take (at + 1) row)
cells_upto now new row at v cells cell c g h e k =
    ap (λ n. cells ++ n ∷ []) k ∙ told_more new row at v cells c (e ∙ sym (cells_grown now new (take
    at row) g h))

alone : (b : Bool) → (b && true) ≡ false → b ≡ false
alone true k = absurd cc
alone false k = refl

some_text : (known : List Bytes) (v : Value) (more : List Bytes) → knows_all known (texts_of v) ≡
    false → 0 < length (texts_of v ++ more)
some_text known (Int i) more h = absurd cc
some_text known (Text t) more h = omega arith

pub learns_some : (old now new : List Bytes) (row : Tuple) (at : ℕ) (v : Value) → Cut row at v → now
    ≡ all_learned old (texts_in (take at row)) → knows_all now (texts_of v) ≡ false → new ≡ now →
    LearnsSome old (texts_in row) new
learns_some old now new row at v c was unknown is = record {
  first = texts_in (take at row);
  rest = texts_of v ++ texts_in c.rest;
  parts = texts_cut row at v c;
  some = some_text now v (texts_in c.rest) unknown;
  learned = is ∙ was;
}

pub finds_no_place : (old now new : List Bytes) (row : Tuple) (at : ℕ) (v : Value) → Cut row at v
    → now ≡ all_learned old (texts_in (take at row)) → knows_all now (texts_of v) ≡ false
    → length now ≡ MOST_TEXTS → new ≡ now → FindsNoPlaceFor old (texts_in row) new
finds_no_place old now new row at (Int i) c was unknown many is = absurd cc
finds_no_place old now new row at (Text t) c was unknown many is = record {
  first = texts_in (take at row);
  next = t;
  rest = texts_in c.rest;
  parts = texts_cut row at (Text t) c;
  learned = is ∙ was;
  unknown = ap (λ (l : List Bytes). knows l t) is ∙ alone (knows now t) unknown;
  full = ap length is ∙ many;
}

-- one more than there may be
beyond : (now : List Bytes) (v : Value) (more : List Bytes) → knows_all now (texts_of v) ≡ false →
    length now < length (all_learned now (texts_of v ++ more))
beyond now (Int i) more h = absurd cc
beyond now (Text t) more h =
    omega (
      arith,
      grown_longer (learned now t) (all_learned (learned now t) more) (all_grown
          (learned now t) more),
      learned_longer now t (alone (knows now t) h),
    )

pub too_many : (old now : List Bytes) (row : Tuple) (at : ℕ) (v : Value) → Cut row at v → now ≡
    all_learned old (texts_in (take at row)) → knows_all now (texts_of v) ≡ false → length now ≡
    MOST_TEXTS
    → MOST_TEXTS < length (all_learned old (texts_in row))
too_many old now row at v c was unknown many =
    let whole : all_learned old (texts_in row) ≡ all_learned now (texts_of v ++ texts_in c.rest) =
    ap (all_learned old) (texts_cut row at v c) ∙ all_learned-append old (texts_in (take at row))
    (texts_of v ++ texts_in c.rest) ∙ ap (λ (l : List Bytes). all_learned l (texts_of v ++
    texts_in c.rest)) (sym was) in
    let more = beyond now v (texts_in c.rest) unknown in
    subst (λ (l : List Bytes). MOST_TEXTS < length l) (sym whole) (subst (λ (n : ℕ). n < length
    (all_learned now (texts_of v ++ texts_in c.rest))) many more)

-- one value

pub told_text : (texts : List Bytes) (v : Value) (t : Bytes) (n : ℕ) → v ≡ Text t → AllDifferent
    texts → slice_get texts n ≡ Some t → HasCell texts v × (n ≡ cell_for texts v)
told_text texts v t n is d h = subst (λ (w : Value). HasCell texts w × (n ≡ cell_for texts w)) (sym
    is) (knows_at texts t n h, place_at texts t n d h)

pub untold_text : (texts : List Bytes) (v : Value) (t : Bytes) → v ≡ Text t → IsUnknown texts t →
    knows_all texts (texts_of v) ≡ false
untold_text texts v t is h = subst (λ (w : Value). knows_all texts (texts_of w) ≡ false) (sym is)
    (rw (unknown texts t h) refl)

pub learned_text : (old new : List Bytes) (v : Value) (t : Bytes) → v ≡ Text t → Learns old t new →
    new ≡ all_learned old (texts_of v)
learned_text old new v t is h = subst (λ (w : Value). new ≡ all_learned old (texts_of w)) (sym is)
    (learns_is old new t h)

not_among : (texts : List Bytes) (t : Bytes) → (Contains texts t → ⊥) → IsUnknown texts t
not_among texts t h = λ k d low e. h (k, low, get_or_default texts k t d low ∙ e)

pub refused_text : (old new : List Bytes) (v : Value) (t : Bytes) (r : InternRefusal) → v ≡ Text t →
    (Contains old t → ⊥) → (r ≡ Full → length old ≡ MOST_TEXTS) → new ≡ old → InternsValue old v
    (Err r) new
refused_text old new v t Full is none full same = (
  untold_text old v t is (not_among old t none),
  full refl,
  same,
)
refused_text old new v t NoMem is none full same = (
  untold_text old v t is (not_among old t none),
  same,
)

pub refused_row : (old now new : List Bytes) (row : Tuple) (at : ℕ) (v : Value) (r : InternRefusal)
    → Cut row at v → now ≡ all_learned old (texts_in (take at row)) → InternsValue now v (Err r) new
    → InternsRow old row (Err r) new
refused_row old now new row at v Full c was h = (
  too_many old now row at v c was h.0 h.1,
  finds_no_place old now new row at v c was h.0 h.1 h.2,
)
refused_row old now new row at v NoMem c was h = learns_some old now new row at v c was h.0 h.1

-- a text that is lent

-- a text that isn't known later wasn't known before
unknown_then : (old now : List Bytes) (v : Value) → Grown old now → knows_all now (texts_of v) ≡
    false → knows_all old (texts_of v) ≡ false
unknown_then old now (Int i) g h = absurd cc
unknown_then old now (Text t) g h = by_test (knows old t) refl
  where
    by_test : (b : Bool) → knows old t ≡ b → (b && true) ≡ false
    by_test false e = refl
    by_test true e = absurd (false≢true (sym h ∙ ap (λ (k : Bool). k && true) (ap (λ (l : List
        Bytes). knows l t) g.is ∙ knows_more old g.more t e)))

-- a row that is refused has a text that wasn't known
pub row_unknown : (old now new : List Bytes) (row : Tuple) (at : ℕ) (v : Value) (r : InternRefusal)
    → Cut row at v → now ≡ all_learned old (texts_in (take at row)) → InternsValue now v (Err r) new
    → knows_all old (texts_in row) ≡ false
row_unknown old now new row at v r c was h =
    unknown_in old row at v c
    (unknown_then old now v (grown_is old now (all_learned old (texts_in (take at row))) was
    (all_grown old (texts_in (take at row)))) (why r h))
  where
    why : (r : InternRefusal) → InternsValue now v (Err r) new → knows_all now (texts_of v) ≡ false
    why Full k = k.0
    why NoMem k = k.0

pub text_below : (texts : List Bytes) (column : ColumnType) (cell : ℕ) → column ≡ TextColumn →
    CellFits texts column cell → cell < length texts
text_below texts column cell is h = subst (λ t. CellFits texts t cell) is h

pub text_lent : (texts : List Bytes) (column : ColumnType) (cell : ℕ) (t : Bytes) → column ≡
    TextColumn → slice_get texts cell ≡ Some t → Text t ≡ value_of texts column cell
text_lent texts column cell t is h = subst (λ k. Text t ≡ value_of texts k cell) (sym is) (ap (λ (u
    : Bytes). Text u) (sym (get_or_from_slice_get texts cell t [] h)))
