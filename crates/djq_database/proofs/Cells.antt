-- Texts that are known, cells, and the values that they stand for: one to one.
use Rattle.std.proofs.Common.{◌≡◌, ◌≢◌, ℕ, zero, suc, ◌+◌, ◌<◌, ◌≤◌, Bool, true, false, cond, List, [], ◌∷◌, ◌++◌}
use Rattle.std.proofs.Common.{length, refl, sym, ap, ◌∙◌, inl, inr, arith, append_assoc, length-append, ap₂, subst}
use Rattle.std.specs.Prelude.{slice_get, Some, All, Contains, slice_index_or}
use Rattle.std.proofs.lemmas.Bool.{and_cases, and_left, and_right, false_from_ne_true, false≢true, and_parts}
use Rattle.std.proofs.lemmas.Bool.{cases_Bool}
use Rattle.std.proofs.lemmas.List.Quantifiers.{all_pairs_push}
use Rattle.std.proofs.lemmas.List.{append-nil, get_or_append_left, length-map, map-append}
use Rattle.std.proofs.lemmas.List.Elements.{All-head, All-tail}
use Rattle.std.proofs.lemmas.Option.{slice_get_within, get_or_from_slice_get, slice_get-get_or}
use Rattle.std.specs.Int.{w64}
use Rattle.std.specs.List.{AllByRecursion}
use Rattle.std.proofs.lemmas.Int.{of_z-to_z, to_z-of_z}
use Rattle.std.proofs.Math.Facts.{Fits-of_z, sfits_to_z}
use Rattle.djq_dictionary.specs.Known.{AllDifferent, IsUnknown, Learns}
use Rattle.djq_model.specs.declared.value.Value.{Value}
use Rattle.djq_model.specs.declared.value.Value.TheVariants.{Int, Text}
use Rattle.djq_model.specs.declared.relation.ColumnType.{ColumnType}
use Rattle.djq_model.specs.declared.relation.ColumnType.TheVariants.{Int as IntColumn, Text as TextColumn}
use Rattle.djq_model.specs.declared.relation.Relation.{Relation}
use Rattle.djq_model.specs.Data.{Bytes, Tuple, bytes_eq, tuple_eq, has_row}
use Rattle.djq_model.specs.Equality.{bytes_eq-decides, tuple_eq-decides}
use Rattle.djq_model.specs.Known.{knows, knows_all, texts_of, texts_in, learned, all_learned}
use Rattle.djq_model.specs.Typed.{is_of, fits}
use Rattle.djq_database.specs.Cells.{text_place, cell_for, cells_of, HasCell, HaveCells, CellStandsFor, IsCell}
use Rattle.djq_database.specs.Cells.{StandFor, AreCells}
use Rattle.djq_database.specs.Parts.{value_of, row_of, CellFits, AreWithin}
use Rattle.djq_database.specs.Catalog.{no_relation, relation_at}
use Rattle.djq_database.specs.Laws.{CellsDiffer, CellsStay, TextsStay, NamesTell}

-- ---- Texts that are known, and their numbers.

pub eq_refl : (t : Bytes) → bytes_eq t t ≡ true
eq_refl t = (bytes_eq-decides t t).1 refl

pub eq_other : (s t : Bytes) → (s ≡ t → ⊥) → bytes_eq s t ≡ false
eq_other s t h = false_from_ne_true (bytes_eq s t) (λ e. h ((bytes_eq-decides s t).0 e))

-- a list of different texts

pub different_tail : (t : Bytes) (ts : List Bytes) → AllDifferent (t ∷ ts) → AllDifferent ts
different_tail t ts h = λ i j d low high. h (suc i) (suc j) d (omega arith) (omega arith)

pub different_head : (t : Bytes) (ts : List Bytes) → AllDifferent (t ∷ ts) → All (λ s. t ≢ s) ts
different_head t ts h = λ k d low. h zero (suc k) d (omega arith) (omega arith)

-- the number of a text

pub knows_at : (ts : List Bytes) (t : Bytes) (n : ℕ) → slice_get ts n ≡ Some t → knows ts t ≡ true
knows_at [] t n h = absurd cc
knows_at (s ∷ ts) t zero h = let same : s ≡ t = cc in rw (ap (λ u. bytes_eq u t) same ∙ eq_refl t)
    refl
knows_at (s ∷ ts) t (suc n) h = by_test (bytes_eq s t) (knows_at ts t n h)
  where
    by_test : (b : Bool) → knows ts t ≡ true → cond b true (knows ts t) ≡ true
    by_test true k = refl
    by_test false k = k

pub place_at : (ts : List Bytes) (t : Bytes) (n : ℕ) → AllDifferent ts → slice_get ts n ≡ Some t → n
    ≡ text_place ts t
place_at [] t n d h = absurd cc
place_at (s ∷ ts) t zero d h = let same : s ≡ t = cc in rw (ap (λ u. bytes_eq u t) same ∙ eq_refl t)
    refl
place_at (s ∷ ts) t (suc n) d h =
    let low = slice_get_within ts n t h in
    let other : bytes_eq s t ≡ false = eq_other s t (λ e. different_head s ts d n t low (e ∙ sym
    (get_or_from_slice_get ts n t t h))) in
    rw other (ap suc (place_at ts t n (different_tail s ts d) h))

-- a known text stands at its number
pub place_known : (ts : List Bytes) (t : Bytes) → knows ts t ≡ true → slice_get ts (text_place ts t) ≡
    Some t
place_known [] t h = absurd cc
place_known (s ∷ ts) t h = by_test (bytes_eq s t) (place_known ts t) refl h
  where
    by_test : (b : Bool) → (knows ts t ≡ true → slice_get ts (text_place ts t) ≡ Some t) → bytes_eq s
        t ≡ b → cond b true (knows ts t) ≡ true
        → slice_get (s ∷ ts) (cond b zero (suc (text_place ts t))) ≡ Some t
    by_test true rest e k = ap (λ (u : Bytes). Some u) ((bytes_eq-decides s t).0 e)
    by_test false rest e k = rest k

pub place_below : (ts : List Bytes) (t : Bytes) → knows ts t ≡ true → text_place ts t < length ts
place_below ts t h = slice_get_within ts (text_place ts t) t (place_known ts t h)

pub unknown : (ts : List Bytes) (t : Bytes) → IsUnknown ts t → knows ts t ≡ false
unknown [] t h = refl
unknown (s ∷ ts) t h = rw (eq_other s t (All-head (λ u. u ≢ t) s ts h)) (unknown ts t (All-tail (λ
    u. u ≢ t) s ts h))

pub contains_knows : (ts : List Bytes) (t : Bytes) → Contains ts t → knows ts t ≡ true
contains_knows ts t h = knows_at ts t h.0 (slice_get-get_or ts h.0 t h.1 ∙ ap Some h.2)

-- more texts behind

pub knows_more : (ts us : List Bytes) (t : Bytes) → knows ts t ≡ true → knows (ts ++ us) t ≡ true
knows_more [] us t h = absurd cc
knows_more (s ∷ ts) us t h = by_test (bytes_eq s t) (knows_more ts us t) h
  where
    by_test : (b : Bool) → (knows ts t ≡ true → knows (ts ++ us) t ≡ true) → cond b true (knows ts
        t) ≡ true → cond b true (knows (ts ++ us) t) ≡ true
    by_test true rest k = refl
    by_test false rest k = rest k

pub place_more : (ts us : List Bytes) (t : Bytes) → knows ts t ≡ true → text_place (ts ++ us) t ≡
    text_place ts t
place_more [] us t h = absurd cc
place_more (s ∷ ts) us t h = by_test (bytes_eq s t) (place_more ts us t) h
  where
    by_test : (b : Bool) → (knows ts t ≡ true → text_place (ts ++ us) t ≡ text_place ts t) → cond b true
        (knows ts t) ≡ true
        → cond b zero (suc (text_place (ts ++ us) t)) ≡ cond b zero (suc (text_place ts t))
    by_test true rest k = refl
    by_test false rest k = ap suc (rest k)

-- learning

pub learns_is : (old new : List Bytes) (t : Bytes) → Learns old t new → new ≡ learned old t
learns_is old new t (inl h) = rw (contains_knows old t h.0) h.1
learns_is old new t (inr h) = rw (unknown old t h.0) h.1

-- what is learned comes behind
pub record Grown (old new : List Bytes) : Type 0 where
  pub more : List Bytes
  pub is : new ≡ old ++ more

grown_refl : (old : List Bytes) → Grown old old
grown_refl old = record { more = []; is = sym (append-nil old) }

pub grown_trans : (a b c : List Bytes) → Grown a b → Grown b c → Grown a c
grown_trans a b c g h = record {
  more = g.more ++ h.more;
  is = h.is ∙ ap (λ (l : List Bytes). l ++
      h.more) g.is ∙ append_assoc a g.more h.more;
}

learned_grown : (old : List Bytes) (t : Bytes) → Grown old (learned old t)
learned_grown old t = by_test (knows old t)
  where
    by_test : (b : Bool) → Grown old (cond b old (old ++ t ∷ []))
    by_test true = grown_refl old
    by_test false = record { more = t ∷ []; is = refl }

pub all_grown : (old ts : List Bytes) → Grown old (all_learned old ts)
all_grown old [] = grown_refl old
all_grown old (t ∷ ts) = grown_trans old (learned old t) (all_learned (learned old t) ts)
    (learned_grown old t) (all_grown (learned old t) ts)

pub grown_is : (old new same : List Bytes) → new ≡ same → Grown old same → Grown old new
grown_is old new same e g = record { more = g.more; is = e ∙ g.is }

pub all_learned-append : (old ss ts : List Bytes) → all_learned old (ss ++ ts) ≡ all_learned
    (all_learned old ss) ts
all_learned-append old [] ts = refl
all_learned-append old (s ∷ ss) ts = all_learned-append (learned old s) ss ts

pub grown_longer : (old new : List Bytes) → Grown old new → length old ≤ length new
grown_longer old new g = omega (
  arith,
  ap (λ (l : List Bytes). length l) g.is,
  length-append old
      g.more,
)

-- learning keeps texts different
learned_different : (old : List Bytes) (t : Bytes) → AllDifferent old → AllDifferent (learned old t)
learned_different old t h = by_test (knows old t) refl
  where
    by_test : (b : Bool) → knows old t ≡ b → AllDifferent (cond b old (old ++ t ∷ []))
    by_test true e = h
    by_test false e = all_pairs_push (λ (r s : Bytes). r ≢ s) old t h
        (λ k d low same. let known = knows_at old t k (slice_get-get_or old k d low ∙ ap (λ (u :
        Bytes). Some u) same) in false≢true (sym e ∙ known))

pub all_different : (old ts : List Bytes) → AllDifferent old → AllDifferent (all_learned old ts)
all_different old [] h = h
all_different old (t ∷ ts) h = all_different (learned old t) ts (learned_different old t h)

-- an unknown text is one more
pub learned_longer : (old : List Bytes) (t : Bytes) → knows old t ≡ false → length (learned old t) ≡
    length old + 1
learned_longer old t h = rw h (length-append old (t ∷ []))

-- the texts of a row, so far and after

pub texts_in-append : (vs ws : Tuple) → texts_in (vs ++ ws) ≡ texts_in vs ++ texts_in ws
texts_in-append [] ws = refl
texts_in-append (v ∷ vs) ws = ap (λ (l : List Bytes). texts_of v ++ l) (texts_in-append vs ws) ∙ sym
    (append_assoc (texts_of v) (texts_in vs) (texts_in ws))

pub knows_all-append : (known ss ts : List Bytes) → knows_all known ts ≡ false → knows_all known (ss
    ++ ts) ≡ false
knows_all-append known [] ts h = h
knows_all-append known (s ∷ ss) ts h =
    and_right (knows known s) (knows_all known (ss ++ ts)) (knows_all-append known ss ts h)

pub knows_all-front : (known ss ts : List Bytes) → knows_all known ss ≡ false → knows_all known (ss
    ++ ts) ≡ false
knows_all-front known [] ts h = absurd cc
knows_all-front known (s ∷ ss) ts h = elim (and_cases (knows known s) (knows_all known ss) h) [
  | inl e ↦ and_left (knows known s) (knows_all known (ss ++ ts)) e
  | inr e ↦ and_right (knows known s) (knows_all known (ss ++ ts)) (knows_all-front known ss ts e)
]

-- ---- Cells and the values that they stand for: one to one.

-- one cell

pub value_back : (texts : List Bytes) (t : ColumnType) (v : Value) → is_of t v ≡ true → HasCell
    texts v → value_of texts t (cell_for texts v) ≡ v
value_back texts IntColumn (Int i) o h = ap (λ z. Int z) (to_z-of_z w64 i h)
value_back texts TextColumn (Text s) o h = ap (λ (u : Bytes). Text u) (get_or_from_slice_get texts
    (text_place texts s) s [] (place_known texts s h))
value_back texts IntColumn (Text s) o h = absurd cc
value_back texts TextColumn (Int i) o h = absurd cc

pub value_within : (texts : List Bytes) (t : ColumnType) (v : Value) → is_of t v ≡ true → HasCell
    texts v → CellFits texts t (cell_for texts v)
value_within texts IntColumn (Int i) o h = (Fits-of_z h).fits
value_within texts TextColumn (Text s) o h = place_below texts s h
value_within texts IntColumn (Text s) o h = absurd cc
value_within texts TextColumn (Int i) o h = absurd cc

-- a cell that can stand in a column stands for its value
pub value_stands : (texts : List Bytes) (t : ColumnType) (c : ℕ) → AllDifferent texts → CellFits
    texts t c → CellStandsFor texts t c (value_of texts t c)
value_stands texts IntColumn c d h = record {
  of = refl;
  has = sfits_to_z (record { fits = h });
  is
      = sym (of_z-to_z w64 c h);
}
value_stands texts TextColumn c d h =
    let here = slice_get-get_or texts c [] h in
    record {
      of = refl;
      has = knows_at texts (slice_index_or texts c []) c here;
      is = place_at texts
          (slice_index_or texts c []) c d here;
    }

pub within_more : (texts us : List Bytes) (t : ColumnType) (c : ℕ) → CellFits texts t c → CellFits
    (texts ++ us) t c
within_more texts us IntColumn c h = h
within_more texts us TextColumn c h = omega (arith, length-append texts us)

value_more : (texts us : List Bytes) (t : ColumnType) (c : ℕ) → CellFits texts t c → value_of (texts
    ++ us) t c ≡ value_of texts t c
value_more texts us IntColumn c h = refl
value_more texts us TextColumn c h = ap (λ (u : Bytes). Text u) (get_or_append_left texts us [] c h)

pub has_more : (texts us : List Bytes) (v : Value) → HasCell texts v → HasCell (texts ++ us) v
has_more texts us (Int i) h = h
has_more texts us (Text t) h = knows_more texts us t h

pub cell_more : (texts us : List Bytes) (v : Value) → HasCell texts v → cell_for (texts ++ us) v ≡
    cell_for texts v
cell_more texts us (Int i) h = refl
cell_more texts us (Text t) h = place_more texts us t h

-- the cells of a row

pub row_back : (texts : List Bytes) (ts : List ColumnType) (row : Tuple) → fits ts row ≡ true →
    HaveCells texts row → row_of texts ts (cells_of texts row) ≡ row
unfolding row_of
row_back texts [] [] f h = refl
row_back texts (t ∷ ts) (v ∷ vs) f h =
    let p = and_parts (is_of t v) (fits ts vs) f in
    ap₂ (λ (w : Value) (ws : Tuple). w ∷ ws) (value_back texts t v p.0 h.0) (row_back texts ts vs
    p.1 h.1)
row_back texts [] (v ∷ vs) f h = absurd cc
row_back texts (t ∷ ts) [] f h = absurd cc

pub row_within : (texts : List Bytes) (ts : List ColumnType) (row : Tuple) → fits ts row ≡ true →
    HaveCells texts row → AreWithin texts ts (cells_of texts row)
unfolding AreWithin
row_within texts [] [] f h = tt
row_within texts (t ∷ ts) (v ∷ vs) f h =
    let p = and_parts (is_of t v) (fits ts vs) f in (
      value_within texts t v p.0 h.0,
      row_within texts ts
          vs p.1 h.1,
    )
row_within texts [] (v ∷ vs) f h = absurd cc
row_within texts (t ∷ ts) [] f h = absurd cc

row_fits : (texts : List Bytes) (ts : List ColumnType) (cs : List ℕ) → AllDifferent texts →
    AreWithin texts ts cs → fits ts (row_of texts ts cs) ≡ true
unfolding AreWithin row_of
row_fits texts [] [] d h = refl
row_fits texts (t ∷ ts) (c ∷ cs) d h = rw ((value_stands texts t c d h.0).of) (row_fits texts ts cs
    d h.1)
row_fits texts [] (c ∷ cs) d h = absurd h
row_fits texts (t ∷ ts) [] d h = absurd h

row_has : (texts : List Bytes) (ts : List ColumnType) (cs : List ℕ) → AllDifferent texts → AreWithin
    texts ts cs → HaveCells texts (row_of texts ts cs)
unfolding AreWithin row_of
row_has texts [] [] d h = tt
row_has texts (t ∷ ts) (c ∷ cs) d h = (
  (value_stands texts t c d h.0).has,
  row_has texts ts cs d
      h.1,
)
row_has texts [] (c ∷ cs) d h = absurd h
row_has texts (t ∷ ts) [] d h = absurd h

pub cells_back : (texts : List Bytes) (ts : List ColumnType) (cs : List ℕ) → AllDifferent texts →
    AreWithin texts ts cs → cells_of texts (row_of texts ts cs) ≡ cs
unfolding AreWithin row_of
cells_back texts [] [] d h = refl
cells_back texts (t ∷ ts) (c ∷ cs) d h = ap₂ (λ (n : ℕ) (ns : List ℕ). n ∷ ns) (sym (value_stands
    texts t c d h.0).is) (cells_back texts ts cs d h.1)
cells_back texts [] (c ∷ cs) d h = absurd h
cells_back texts (t ∷ ts) [] d h = absurd h

-- cells that can stand in columns stand for their row
pub row_stands : (texts : List Bytes) (ts : List ColumnType) (cs : List ℕ) → AllDifferent texts →
    AreWithin texts ts cs → StandFor texts ts cs (row_of texts ts cs)
row_stands texts ts cs d h = record {
  of = row_fits texts ts cs d h;
  have = row_has texts ts cs d h;
  are = sym (cells_back texts ts cs d h);
}

pub stand_row : (texts : List Bytes) (ts : List ColumnType) (cs : List ℕ) (row : Tuple) → StandFor
    texts ts cs row → row_of texts ts cs ≡ row
stand_row texts ts cs row s = ap (row_of texts ts) s.are ∙ row_back texts ts row s.of s.have

pub stand_within : (texts : List Bytes) (ts : List ColumnType) (cs : List ℕ) (row : Tuple) →
    StandFor texts ts cs row → AreWithin texts ts cs
stand_within texts ts cs row s = subst (AreWithin texts ts) (sym s.are) (row_within texts ts row
    s.of s.have)

pub are_within : (texts : List Bytes) (ts : List ColumnType) (cs : List ℕ) → AreCells texts ts cs →
    AreWithin texts ts cs
are_within texts ts cs a = stand_within texts ts cs a.row a.stand

-- equal rows have equal cells
pub same_cells : (texts : List Bytes) (ts : List ColumnType) (cs ds : List ℕ) → AllDifferent texts →
    AreWithin texts ts cs → AreWithin texts ts ds → row_of texts ts cs ≡ row_of texts ts ds → cs ≡
    ds
same_cells texts ts cs ds d h k e = sym (cells_back texts ts cs d h) ∙ ap (cells_of texts) e ∙
    cells_back texts ts ds d k

pub within_long : (texts : List Bytes) (ts : List ColumnType) (cs : List ℕ) → AreWithin texts ts cs
    → length cs ≡ length ts
unfolding AreWithin
within_long texts [] [] h = refl
within_long texts (t ∷ ts) (c ∷ cs) h = ap suc (within_long texts ts cs h.1)
within_long texts [] (c ∷ cs) h = absurd h
within_long texts (t ∷ ts) [] h = absurd h

-- and all of this stays as texts become known

rows_within_more : (texts us : List Bytes) (ts : List ColumnType) (cs : List ℕ) → AreWithin texts ts
    cs → AreWithin (texts ++ us) ts cs
unfolding AreWithin
rows_within_more texts us [] [] h = tt
rows_within_more texts us (t ∷ ts) (c ∷ cs) h = (
  within_more texts us t c h.0,
  rows_within_more
      texts us ts cs h.1,
)
rows_within_more texts us [] (c ∷ cs) h = absurd h
rows_within_more texts us (t ∷ ts) [] h = absurd h

row_more : (texts us : List Bytes) (ts : List ColumnType) (cs : List ℕ) → AreWithin texts ts cs →
    row_of (texts ++ us) ts cs ≡ row_of texts ts cs
unfolding AreWithin row_of
row_more texts us [] [] h = refl
row_more texts us (t ∷ ts) (c ∷ cs) h = ap₂ (λ (w : Value) (ws : Tuple). w ∷ ws) (value_more texts
    us t c h.0) (row_more texts us ts cs h.1)
row_more texts us [] (c ∷ cs) h = absurd h
row_more texts us (t ∷ ts) [] h = absurd h

pub within_grown : (old new : List Bytes) (ts : List ColumnType) (cs : List ℕ) → Grown old new →
    AreWithin old ts cs → AreWithin new ts cs
within_grown old new ts cs g h = subst (λ (l : List Bytes). AreWithin l ts cs) (sym g.is)
    (rows_within_more old g.more ts cs h)

pub row_grown : (old new : List Bytes) (ts : List ColumnType) (cs : List ℕ) → Grown old new →
    AreWithin old ts cs → row_of new ts cs ≡ row_of old ts cs
row_grown old new ts cs g h = ap (λ (l : List Bytes). row_of l ts cs) g.is ∙ row_more old g.more ts
    cs h

have_more : (texts us : List Bytes) (row : Tuple) → HaveCells texts row → HaveCells (texts ++ us)
    row
have_more texts us [] h = tt
have_more texts us (v ∷ vs) h = (has_more texts us v h.0, have_more texts us vs h.1)

pub have_grown : (old new : List Bytes) (row : Tuple) → Grown old new → HaveCells old row →
    HaveCells new row
have_grown old new row g h = subst (λ (l : List Bytes). HaveCells l row) (sym g.is) (have_more old
    g.more row h)

cells_more : (texts us : List Bytes) (row : Tuple) → HaveCells texts row → cells_of (texts ++ us)
    row ≡ cells_of texts row
cells_more texts us [] h = refl
cells_more texts us (v ∷ vs) h = ap₂ (λ (n : ℕ) (ns : List ℕ). n ∷ ns) (cell_more texts us v h.0)
    (cells_more texts us vs h.1)

pub cells_grown : (old new : List Bytes) (row : Tuple) → Grown old new → HaveCells old row →
    cells_of new row ≡ cells_of old row
cells_grown old new row g h = ap (λ (l : List Bytes). cells_of l row) g.is ∙ cells_more old g.more
    row h

-- one value more

pub have_push : (texts : List Bytes) (row : Tuple) (v : Value) → HaveCells texts row → HasCell texts
    v → HaveCells texts (row ++ v ∷ [])
have_push texts [] v h k = (k, tt)
have_push texts (w ∷ ws) v h k = (h.0, have_push texts ws v h.1 k)

pub cells_push : (texts : List Bytes) (row : Tuple) (v : Value) → cells_of texts (row ++ v ∷ []) ≡
    cells_of texts row ++ cell_for texts v ∷ []
cells_push texts row v = map-append (cell_for texts) row (v ∷ [])

pub cells_long : (texts : List Bytes) (row : Tuple) → length (cells_of texts row) ≡ length row
cells_long texts row = length-map row (cell_for texts)

-- a row with cells has no unknown text
have_known : (texts : List Bytes) (row : Tuple) → HaveCells texts row → knows_all texts (texts_in
    row) ≡ true
have_known texts [] h = refl
have_known texts (Int i ∷ vs) h = have_known texts vs h.1
have_known texts (Text t ∷ vs) h = rw h.0 (have_known texts vs h.1)

pub unknown_row : (texts : List Bytes) (row : Tuple) → knows_all texts (texts_in row) ≡ false →
    HaveCells texts row → ⊥
unknown_row texts row f h = let k = have_known texts row h in cc

-- one cell, and the value that it stands for
pub cell_within : (texts : List Bytes) (t : ColumnType) (c : ℕ) → IsCell texts t c → CellFits texts
    t c
cell_within texts t c k = subst (CellFits texts t) (sym k.stands.is) (value_within texts t k.value
    k.stands.of k.stands.has)

pub stands_back : (texts : List Bytes) (t : ColumnType) (c : ℕ) (v : Value) → CellStandsFor texts t c v
    → value_of texts t c ≡ v
stands_back texts t c v s = ap (value_of texts t) s.is ∙ value_back texts t v s.of s.has

-- a row with an unknown text is in no relation
pub lacking : (texts : List Bytes) (rows : List Tuple) (row : Tuple) → AllByRecursion (HaveCells
    texts) rows → (HaveCells texts row → ⊥) → has_row rows row ≡ false
lacking texts [] row h k = refl
lacking texts (r ∷ rs) row h k = elim (cases_Bool (tuple_eq r row)) [
  | inl e ↦ absurd (k (subst (HaveCells texts) ((tuple_eq-decides r row).0 e) h.0))
  | inr e ↦ rw e (lacking texts rs row h.1 k)
]

-- ---- The laws of cells, texts and names.

pub differ : CellsDiffer
differ texts types row other f g h k e =
    sym (row_back texts types row f h) ∙ ap (row_of texts types) e ∙ row_back texts types other g k

pub stay : CellsStay
stay texts more row h = (
  have_grown texts (texts ++ more) row (record { more = more; is = refl }) h,
  cells_grown texts (texts ++ more) row (record { more = more; is = refl }) h,
)

pub texts : TextsStay
texts known learned = let g = all_grown known learned in (g.more, g.is)

pub names : NamesTell
names [] at rows d low = absurd (omega arith)
names (r ∷ rs) zero rows d low = rw (eq_refl r.name) refl
names (r ∷ rs) (suc at) rows d low =
    let other : bytes_eq r.name (relation_at rs at).name ≡ false = eq_other r.name (relation_at rs
    at).name (d zero (suc at) no_relation (omega arith) (omega arith)) in
    rw other (ap (λ (l : List Relation). r ∷ l) (names rs at rows (λ i j x a b. d (suc i) (suc j) x
    (omega arith) (omega arith)) (omega arith)))
