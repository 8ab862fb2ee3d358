-- Lines of the same row, their keys, and their copies.
use Rattle.std.specs.Prelude.{ℕ, suc, List, [], ◌∷◌, ◌≡◌, ◌≢◌, ◌-◌, ◌++◌, ◌&&◌, ◌<◌, Bool, true, false, cond, Some}
use Rattle.std.specs.Prelude.{length, map, replicate, slice_get, All, AllPairs, pred}
use Rattle.std.proofs.Common.{refl, sym, ap, ap₂, ◌∙◌, subst, arith}
use Rattle.std.proofs.lemmas.List.{append_cancel_right}
use Rattle.std.proofs.lemmas.List.Elements.{All-head, All-tail}
use Rattle.std.proofs.lemmas.List.Folds.{find_at}
use Rattle.std.proofs.lemmas.List.Sums.{fold-append, position_or_len_is}
use Rattle.djq_model.specs.declared.relation.ColumnType.{ColumnType}
use Rattle.djq_model.specs.declared.relation.Relation.{Relation}
use Rattle.djq_model.specs.Data.{Bytes, Tuple, bytes_eq, tuple_eq, relation_of}
use Rattle.djq_model.specs.Equality.{bytes_eq-decides, tuple_eq-decides}
use Rattle.djq_model.specs.Typed.{is_of, fits}
use Rattle.djq_database.specs.Catalog.{relation_at}
use Rattle.djq_database.specs.Cells.{HaveCells, cells_of}
use Rattle.djq_database.proofs.Cells.{Grown, cells_grown, cells_long, differ}
use Rattle.djq_store_spec.specs.Held.{HeldLine}
use Rattle.djq_store_spec.specs.Lines.{same_row, with_naming, first_lines, after_verb, copies_before, copies_after}
use Rattle.djq_transaction.specs.LookUp.{AreSame}
use Rattle.djq_transaction.specs.Net.{Suits, key_cells, row_key, relation_place}

-- ---- lines of the same row

pub same_are : (g h : HeldLine) → same_row g h ≡ true → AreSame g h
same_are g h e = by (bytes_eq g.relation h.relation) (tuple_eq g.row h.row) refl refl e
  where
    by : (a b : Bool) → bytes_eq g.relation h.relation ≡ a → tuple_eq g.row h.row ≡ b → (a && b) ≡ true → AreSame g h
    by true true first second k = record {
      relation = (bytes_eq-decides g.relation h.relation).0 first;
      row = (tuple_eq-decides g.row h.row).0 second;
    }
    by true false first second k = absurd (cc k)
    by false b first second k = absurd (cc k)

pub are_same : (g h : HeldLine) → AreSame g h → same_row g h ≡ true
are_same g h s = ap₂ (λ (a b : Bool). a && b) ((bytes_eq-decides g.relation h.relation).1 s.relation)
    ((tuple_eq-decides g.row h.row).1 s.row)

-- ---- the place of a relation

pub place_is : (relations : List Relation) (name : Bytes) (at : ℕ) → AllPairs (λ r s. r.name ≢ s.name) relations
    → at < length relations → (relation_at relations at).name ≡ name → relation_place relations name ≡ at
place_is relations name at differ below named =
    position_or_len_is (λ (r : Relation). bytes_eq r.name name) relations at
    (record { name = []; types = []; rows = [] }) (omega (arith, below))
    (λ k less. other (bytes_eq (relation_at relations k).name name) k less refl)
    (λ less. (bytes_eq-decides (relation_at relations at).name name).1 named)
  where
    other : (b : Bool) (k : ℕ) → k < at → bytes_eq (relation_at relations k).name name ≡ b → b ≡ false
    other false k less e = refl
    other true k less e =
        let same : (relation_at relations k).name ≡ name = (bytes_eq-decides (relation_at relations k).name name).0 e in
        absurd (differ k at (record { name = []; types = []; rows = [] }) less below (same ∙ sym named))

-- ---- the copies after one line more

pub copies_step : (relations : List Relation) (lines : List HeldLine) (h g : HeldLine)
    → copies_after relations (lines ++ h ∷ []) g
    ≡ cond (same_row h g) (after_verb h.verb (copies_after relations lines g)) (copies_after relations lines g)
copies_step relations lines h g =
    fold-append (λ n k. cond (same_row k g) (after_verb k.verb n) n) (copies_before relations g) lines (h ∷ [])

pub firsts_step : (lines : List HeldLine) (h : HeldLine)
    → first_lines (lines ++ h ∷ []) ≡ with_naming (first_lines lines) h
firsts_step lines h = fold-append with_naming [] lines (h ∷ [])

-- ---- keys

pub fits_long : (types : List ColumnType) (row : Tuple) → fits types row ≡ true → length row ≡ length types
fits_long [] [] e = refl
fits_long [] (v ∷ vs) e = absurd (cc e)
fits_long (c ∷ cs) [] e = absurd (cc e)
fits_long (c ∷ cs) (v ∷ vs) e = by (is_of c v) (fits cs vs) refl e (λ k. fits_long cs vs k)
  where
    by : (a b : Bool) → fits cs vs ≡ b → (a && b) ≡ true → (fits cs vs ≡ true → length vs ≡ length cs)
        → suc (length vs) ≡ suc (length cs)
    by true true s k more = ap suc (more s)
    by true false s k more = absurd (cc k)
    by false b s k more = absurd (cc k)

pub found_named : (relations : List Relation) (name : Bytes) (r : Relation) → relation_of relations name ≡ Some r
    → r.name ≡ name
found_named [] name r e = absurd (cc e)
found_named (q ∷ qs) name r e = by (bytes_eq q.name name) refl e (λ k. found_named qs name r k)
  where
    by : (b : Bool) → bytes_eq q.name name ≡ b → cond b (Some q) (relation_of qs name) ≡ Some r
        → (relation_of qs name ≡ Some r → r.name ≡ name) → r.name ≡ name
    by true s k more =
        let same : q ≡ r = cc k in ap (λ (p : Relation). p.name) (sym same) ∙ (bytes_eq-decides q.name name).0 s
    by false s k more = more k

-- lines whose relations stand at the same place are of the same one
one_relation : (relations : List Relation) (g h : HeldLine) (s : Suits relations g) (t : Suits relations h)
    → relation_place relations g.relation ≡ relation_place relations h.relation → s.relation ≡ t.relation
one_relation relations g h s t e =
    let first = find_at (λ (r : Relation). bytes_eq r.name g.relation) relations in
    let second = find_at (λ (r : Relation). bytes_eq r.name h.relation) relations in
    let both : Some s.relation ≡ Some t.relation =
    sym s.found ∙ first ∙ ap (λ (k : ℕ). slice_get relations k) e ∙ sym second ∙ t.found in
    cc both

-- rows with the same key are the same
pub key_tells : (relations : List Relation) (texts : List Bytes) (width : ℕ) (g h : HeldLine) → Suits relations g
    → Suits relations h → HaveCells texts g.row → HaveCells texts h.row
    → row_key relations texts width g ≡ row_key relations texts width h → AreSame g h
key_tells relations texts width g h s t hg hh e =
    let place : relation_place relations g.relation ≡ relation_place relations h.relation =
    ap (λ (k : List ℕ). first k) e in
    let one : s.relation ≡ t.relation = one_relation relations g h s t place in
    let fits_h : fits s.relation.types h.row ≡ true =
    subst (λ (r : Relation). fits r.types h.row ≡ true) (sym one) t.suits in
    let long : length (cells_of texts g.row) ≡ length (cells_of texts h.row) =
    cells_long texts g.row ∙ fits_long s.relation.types g.row s.suits
    ∙ sym (cells_long texts h.row ∙ fits_long s.relation.types h.row fits_h) in
    let cells : cells_of texts g.row ≡ cells_of texts h.row =
    append_cancel_right (cells_of texts g.row) (cells_of texts h.row)
    (replicate (pred width - length (cells_of texts h.row)) 0)
    (ap (λ (n : ℕ). cells_of texts g.row ++ replicate (pred width - n) 0) (sym long)
    ∙ ap (λ (k : List ℕ). others k) e) in
    record {
      relation = sym (found_named relations g.relation s.relation s.found)
          ∙ ap (λ (r : Relation). r.name) one ∙ found_named relations h.relation t.relation t.found;
      row = differ texts s.relation.types g.row h.row s.suits fits_h hg hh cells;
    }
  where
    first : List ℕ → ℕ
    first [] = 0
    first (k ∷ ks) = k

    others : List ℕ → List ℕ
    others [] = []
    others (k ∷ ks) = ks

pub same_key : (relations : List Relation) (texts : List Bytes) (width : ℕ) (g h : HeldLine) → AreSame g h
    → row_key relations texts width g ≡ row_key relations texts width h
same_key relations texts width g h s =
    ap₂ (λ (name : Bytes) (row : Tuple). key_cells width (relation_place relations name) (cells_of texts row))
    s.relation s.row

-- the keys stay as more texts are known
pub key_stays : (relations : List Relation) (old new : List Bytes) (width : ℕ) (h : HeldLine) → Grown old new
    → HaveCells old h.row → row_key relations new width h ≡ row_key relations old width h
key_stays relations old new width h grown have =
    ap (λ (cells : List ℕ). key_cells width (relation_place relations h.relation) cells)
    (cells_grown old new h.row grown have)

pub keys_stay : (relations : List Relation) (old new : List Bytes) (width : ℕ) (hs : List HeldLine) → Grown old new
    → All (λ (h : HeldLine). HaveCells old h.row) hs
    → map (row_key relations new width) hs ≡ map (row_key relations old width) hs
keys_stay relations old new width [] grown have = refl
keys_stay relations old new width (h ∷ hs) grown have =
    ap₂ (λ (k : List ℕ) (ks : List (List ℕ)). k ∷ ks)
    (key_stays relations old new width h grown (All-head (λ (g : HeldLine). HaveCells old g.row) h hs have))
    (keys_stay relations old new width hs grown (All-tail (λ (g : HeldLine). HaveCells old g.row) h hs have))
