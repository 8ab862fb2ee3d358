-- Relations in which the rows of some lines have the copies that all lines leave of them.
use Rattle.std.specs.Prelude.{ℕ, suc, List, [], ◌∷◌, ◌≡◌, ◌≢◌, ◌++◌, Bool, true, false}
use Rattle.std.specs.Prelude.{cond, Option, None, Some, fold, filter, All, AllPairs}
use Rattle.std.specs.Option.{option_map}
use Rattle.std.proofs.Common.{refl, sym, ap, ◌∙◌}
use Rattle.std.proofs.lemmas.Bool.{false≢true}
use Rattle.std.proofs.lemmas.List.{append-nil}
use Rattle.std.proofs.lemmas.List.Elements.{All-head, All-tail, filter-append}
use Rattle.std.proofs.lemmas.List.Sums.{fold-append}
use Rattle.djq_model.specs.declared.relation.Relation.{Relation}
use Rattle.djq_model.specs.declared.relation.CountedRow.{CountedRow}
use Rattle.djq_model.specs.Data.{Bytes, Tuple, bytes_eq, tuple_eq, change_first, counted_in, counted_of, relation_of}
use Rattle.djq_model.specs.Data.{has_row, plain_of, copies_among}
use Rattle.djq_model.specs.Equality.{bytes_eq-decides, tuple_eq-decides}
use Rattle.djq_model.proofs.Copies.{no_copies}
use Rattle.djq_store_spec.specs.Relations.{with_rows}
use Rattle.djq_store_spec.proofs.Relations.{relation_here, counted_apart}
use Rattle.djq_database.specs.Catalog.{Catalog, relation_at, counted_at, with_rows_at}
use Rattle.djq_database.proofs.Cells.{names, differ}
use Rattle.djq_store_spec.specs.Held.{HeldLine}
use Rattle.djq_store_spec.specs.Lines.{copies_after, with_so_many, with_copies_left}
use Rattle.djq_transaction.specs.LookUp.{AreSame}
use Rattle.djq_transaction.specs.Net.{IsRowAt}
use Rattle.djq_transaction.specs.Applied.{HasCopiesAt, SetsCopiesAt}
use Rattle.djq_store_spec.proofs.SoManyCopies.{many_again, many_among, many_same, many_others, many_has_others}

-- ---- other rows by a relation's name

pub rows_twice : (rs : List Relation) (name : Bytes) (a b : List CountedRow)
    → with_rows (with_rows rs name a) name b ≡ with_rows rs name b
rows_twice [] name a b = refl
rows_twice (r ∷ rs) name a b = by (bytes_eq r.name name) refl (rows_twice rs name a b)
  where
    by : (t : Bool) → bytes_eq r.name name ≡ t → with_rows (with_rows rs name a) name b ≡ with_rows rs name b
        → with_rows (cond t (record r { rows = a } ∷ rs) (r ∷ with_rows rs name a)) name b
        ≡ cond t (record r { rows = b } ∷ rs) (r ∷ with_rows rs name b)
    by true e rest = ap (λ (t : Bool). cond t (record r { rows = b } ∷ rs) (record r { rows = a } ∷ with_rows rs name b)) e
    by false e rest = ap (λ (t : Bool). cond t (record r { rows = b } ∷ with_rows rs name a)
        (r ∷ with_rows (with_rows rs name a) name b)) e ∙ ap (λ (qs : List Relation). r ∷ qs) rest

pub rows_same : (rs : List Relation) (name : Bytes) → with_rows rs name (counted_of rs name) ≡ rs
rows_same [] name = refl
rows_same (r ∷ rs) name = by (bytes_eq r.name name) (rows_same rs name)
  where
    by : (t : Bool) → with_rows rs name (counted_of rs name) ≡ rs
        → (let rows = counted_in (cond t (Some r) (relation_of rs name)) in
        cond t (record r { rows = rows } ∷ rs) (r ∷ with_rows rs name rows))
        ≡ r ∷ rs
    by true rest = refl
    by false rest = ap (λ (qs : List Relation). r ∷ qs) rest

here_or : {A : Type 0} (f : List CountedRow → A) (rs : List Relation) (name : Bytes) (rows : List CountedRow)
    → f rows ≡ f (counted_of rs name) → f (counted_of (with_rows rs name rows) name) ≡ f (counted_of rs name)
here_or f rs name rows e =
    ap (λ (o : Option Relation). f (counted_in o)) (relation_here rs name rows) ∙ by (relation_of rs name) e
  where
    by : (o : Option Relation) → f rows ≡ f (counted_in o)
        → f (counted_in (option_map (λ (r : Relation). record r { rows = rows }) o)) ≡ f (counted_in o)
    by None k = refl
    by (Some r) k = k

pub here_found : (rs : List Relation) (name : Bytes) (rows : List CountedRow) (x : Relation)
    → relation_of (with_rows rs name rows) name ≡ Some x → counted_of (with_rows rs name rows) name ≡ rows
here_found rs name rows x e =
    ap counted_in (relation_here rs name rows) ∙ by (relation_of rs name) (sym (relation_here rs name rows) ∙ e)
  where
    by : (o : Option Relation) → option_map (λ (r : Relation). record r { rows = rows }) o ≡ Some x
        → counted_in (option_map (λ (r : Relation). record r { rows = rows }) o) ≡ rows
    by None k = absurd (cc k)
    by (Some r) k = refl

-- ---- the rows of other lines

module _ {A : Type 0} (f : List CountedRow → A) (base : List Relation) (lines : List HeldLine) (h : HeldLine)
    (spares : (rows : List CountedRow) (row : Tuple) (n : ℕ) → tuple_eq row h.row ≡ false
    → f (with_so_many rows row n) ≡ f rows) where
  other_stays : (now : List Relation) (g : HeldLine) → (AreSame g h → ⊥)
      → f (counted_of (with_copies_left base lines now g) h.relation) ≡ f (counted_of now h.relation)
  other_stays now g apart = by (bytes_eq h.relation g.relation) refl
    where
      rows : List CountedRow
      rows = with_so_many (counted_of now g.relation) g.row (copies_after base lines g)

      by : (t : Bool) → bytes_eq h.relation g.relation ≡ t
          → f (counted_of (with_copies_left base lines now g) h.relation) ≡ f (counted_of now h.relation)
      by false e = ap f (counted_apart now g.relation rows h.relation e)
      by true e =
          let same : h.relation ≡ g.relation = (bytes_eq-decides h.relation g.relation).0 e in
          let no : tuple_eq g.row h.row ≡ false = rows_differ (tuple_eq g.row h.row) refl (sym same) in
          ap (λ (name : Bytes). f (counted_of (with_copies_left base lines now g) name)) same
          ∙ here_or f now g.relation rows (spares (counted_of now g.relation) g.row (copies_after base lines g) no)
          ∙ ap (λ (name : Bytes). f (counted_of now name)) (sym same)
        where
          rows_differ : (t : Bool) → tuple_eq g.row h.row ≡ t → g.relation ≡ h.relation → t ≡ false
          rows_differ false k same = refl
          rows_differ true k same = absurd (apart (record { relation = same; row = (tuple_eq-decides g.row h.row).0 k }))

  others_stay : (now : List Relation) (gs : List HeldLine) → All (λ g. AreSame g h → ⊥) gs
      → f (counted_of (fold (with_copies_left base lines) now gs) h.relation) ≡ f (counted_of now h.relation)
  others_stay now [] apart = refl
  others_stay now (g ∷ gs) apart =
      others_stay (with_copies_left base lines now g) gs (All-tail (λ (k : HeldLine). AreSame k h → ⊥) g gs apart)
      ∙ other_stays now g (All-head (λ (k : HeldLine). AreSame k h → ⊥) g gs apart)

pub copies_stay : (base : List Relation) (lines : List HeldLine) (h : HeldLine) (now : List Relation)
    (gs : List HeldLine) → All (λ g. AreSame g h → ⊥) gs
    → copies_among (counted_of (fold (with_copies_left base lines) now gs) h.relation) h.row
    ≡ copies_among (counted_of now h.relation) h.row
copies_stay base lines h now gs apart =
    others_stay (λ (rows : List CountedRow). copies_among rows h.row) base lines h
    (λ rows row n e. many_others rows row h.row n e) now gs apart

pub row_stays : (base : List Relation) (lines : List HeldLine) (h : HeldLine) (now : List Relation)
    (gs : List HeldLine) → All (λ g. AreSame g h → ⊥) gs
    → has_row (plain_of (counted_of (fold (with_copies_left base lines) now gs) h.relation)) h.row
    ≡ has_row (plain_of (counted_of now h.relation)) h.row
row_stays base lines h now gs apart =
    others_stay (λ (rows : List CountedRow). has_row (plain_of rows) h.row) base lines h
    (λ rows row n e. many_has_others rows row h.row n e) now gs apart

-- ---- a line's row in a catalog

module _ (c : Catalog) (h : HeldLine) (at : ℕ) (cells : List ℕ) (apart : AllPairs (λ r s. r.name ≢ s.name) c.relations)
    (r : IsRowAt c h at cells) where
  rows_here : counted_of c.relations h.relation ≡ counted_at c.relations at
  rows_here = ap counted_in r.found

  pub set_by_name : (n : ℕ) → with_rows c.relations h.relation (with_so_many (counted_of c.relations h.relation) h.row n)
      ≡ with_rows_at c.relations at (with_so_many (counted_at c.relations at) h.row n)
  set_by_name n =
      let rows = with_so_many (counted_of c.relations h.relation) h.row n in
      ap (λ (x : Bytes). change_first (λ q. bytes_eq q.name x) (λ (q : Relation). record q { rows = rows }) c.relations)
      (sym r.named)
      ∙ names c.relations at rows apart r.below
      ∙ ap (λ (rs : List CountedRow). with_rows_at c.relations at (with_so_many rs h.row n)) rows_here

  -- it has so many copies
  pub row_counted : (n : ℕ) → copies_among (counted_of c.relations h.relation) h.row ≡ n → HasCopiesAt c at cells n
  row_counted n e = record {
    below = r.below;
    stand = record { row = h.row; stand = r.stand };
    copies = λ row s.
        let same : row ≡ h.row = differ c.texts (relation_at c.relations at).types row h.row s.of r.stand.of s.have
        r.stand.have (sym s.are ∙ r.stand.are) in
        ap (λ (x : Tuple). copies_among (counted_at c.relations at) x) same
        ∙ ap (λ (rs : List CountedRow). copies_among rs h.row) (sym rows_here) ∙ e;
  }

  -- and gets those that lines leave of it
  pub row_left : (base : List Relation) (lines : List HeldLine) (n : ℕ) (new : List Relation)
      → n ≡ copies_after base lines h → SetsCopiesAt c at cells n new
      → new ≡ with_copies_left base lines c.relations h
  row_left base lines n new e set =
      set h.row r.stand ∙ sym (set_by_name n)
      ∙ ap (λ (m : ℕ). with_rows c.relations h.relation (with_so_many (counted_of c.relations h.relation) h.row m)) e

  -- A row that came last goes again.
  pub row_back : (base : List Relation) (lines : List HeldLine) (before : List Relation) (n : ℕ) (new : List Relation)
      → c.relations ≡ with_copies_left base lines before h → copies_after base lines h ≡ suc n
      → has_row (plain_of (counted_of before h.relation)) h.row ≡ false → SetsCopiesAt c at cells 0 new → new ≡ before
  row_back base lines before n new is some absent set =
      let rows = counted_of before h.relation in
      let more = with_so_many rows h.row (suc n) in
      let came : c.relations ≡ with_rows before h.relation more =
      is ∙ ap (λ (m : ℕ). with_rows before h.relation (with_so_many rows h.row m)) some in
      let found : relation_of (with_rows before h.relation more) h.relation ≡ Some (relation_at c.relations at) =
      ap (λ (rs : List Relation). relation_of rs h.relation) (sym came) ∙ r.found in
      set h.row r.stand ∙ sym (set_by_name 0)
      ∙ ap (λ (rs : List Relation). with_rows rs h.relation (with_so_many (counted_of rs h.relation) h.row 0)) came
      ∙ ap (λ (us : List CountedRow). with_rows (with_rows before h.relation more) h.relation (with_so_many us h.row 0))
      (here_found before h.relation more (relation_at c.relations at) found)
      ∙ rows_twice before h.relation more (with_so_many more h.row 0)
      ∙ ap (λ (us : List CountedRow). with_rows before h.relation us)
      (many_again rows h.row n 0 ∙ many_same rows h.row 0 (no_copies rows h.row absent)
      (λ k. absurd (false≢true (sym absent ∙ k))))
      ∙ rows_same before h.relation

  pub came_counted : (base : List Relation) (lines : List HeldLine) (before : List Relation) (n : ℕ)
      → c.relations ≡ with_copies_left base lines before h → copies_after base lines h ≡ suc n
      → HasCopiesAt c at cells (suc n)
  came_counted base lines before n is some =
      let rows = counted_of before h.relation in
      let more = with_so_many rows h.row (suc n) in
      let came : c.relations ≡ with_rows before h.relation more =
      is ∙ ap (λ (m : ℕ). with_rows before h.relation (with_so_many rows h.row m)) some in
      let found : relation_of (with_rows before h.relation more) h.relation ≡ Some (relation_at c.relations at) =
      ap (λ (rs : List Relation). relation_of rs h.relation) (sym came) ∙ r.found in
      row_counted (suc n) (ap (λ (rs : List Relation). copies_among (counted_of rs h.relation) h.row) came
      ∙ ap (λ (us : List CountedRow). copies_among us h.row)
      (here_found before h.relation more (relation_at c.relations at) found) ∙ many_among rows h.row n)

-- ---- one line more

pub one_passes : (base : List Relation) (lines : List HeldLine) (p : HeldLine → Bool) (now : List Relation)
    (gs more : List HeldLine) (h : HeldLine) → more ≡ gs ++ h ∷ [] → p h ≡ true
    → fold (with_copies_left base lines) now (filter p more)
    ≡ with_copies_left base lines (fold (with_copies_left base lines) now (filter p gs)) h
one_passes base lines p now gs more h is e =
    let step = with_copies_left base lines in
    ap (λ (hs : List HeldLine). fold step now (filter p hs)) is
    ∙ ap (λ (hs : List HeldLine). fold step now hs) (filter-append p gs (h ∷ []))
    ∙ ap (λ (b : Bool). fold step now (filter p gs ++ cond b (h ∷ []) [])) e
    ∙ fold-append step now (filter p gs) (h ∷ [])

pub none_passes : (base : List Relation) (lines : List HeldLine) (p : HeldLine → Bool) (now : List Relation)
    (gs more : List HeldLine) (h : HeldLine) → more ≡ gs ++ h ∷ [] → p h ≡ false
    → fold (with_copies_left base lines) now (filter p more) ≡ fold (with_copies_left base lines) now (filter p gs)
none_passes base lines p now gs more h is e =
    let step = with_copies_left base lines in
    ap (λ (hs : List HeldLine). fold step now (filter p hs)) is
    ∙ ap (λ (hs : List HeldLine). fold step now hs) (filter-append p gs (h ∷ []))
    ∙ ap (λ (b : Bool). fold step now (filter p gs ++ cond b (h ∷ []) [])) e
    ∙ ap (λ (hs : List HeldLine). fold step now hs) (append-nil (filter p gs))
