-- Relations with other rows: their names, types and places stay, and so does the place of a line's row.
use Rattle.std.specs.Prelude.{ℕ, zero, suc, List, [], ◌∷◌, ◌≡◌, ◌+◌, ◌-◌, ◌++◌, ◌<◌, ◌≤◌, Bool, true, false, not, cond}
use Rattle.std.specs.Prelude.{Some, length, fold, slice_get, slice_index_or, take, drop, pred, replicate}
use Rattle.std.specs.List.{slice_range}
use Rattle.std.proofs.Common.{refl, sym, ap, ◌∙◌, subst, arith, length-append}
use Rattle.std.proofs.lemmas.List.{length-map}
use Rattle.std.proofs.lemmas.List.Elements.{All-contains}
use Rattle.std.proofs.lemmas.List.Folds.{find_at}
use Rattle.std.proofs.lemmas.Option.{slice_get-get_or, slice_get_within, get_or_from_slice_get}
use Rattle.std.proofs.Math.Seq.{take-append_seam}
use Rattle.djq_model.specs.declared.relation.Relation.{Relation}
use Rattle.djq_model.specs.declared.relation.CountedRow.{CountedRow}
use Rattle.djq_model.specs.Data.{Bytes, bytes_eq, counted_of, relation_of}
use Rattle.djq_model.specs.Typed.{fits}
use Rattle.djq_store_spec.specs.Relations.{with_rows}
use Rattle.djq_database.specs.Catalog.{Catalog, relation_at, no_relation}
use Rattle.djq_database.specs.Cells.{HaveCells, cells_of}
use Rattle.djq_database.proofs.Cells.{cells_long}
use Rattle.djq_store_spec.specs.Held.{HeldLine}
use Rattle.djq_transaction.specs.declared.net.Net.{Net}
use Rattle.djq_store_spec.specs.Lines.{with_so_many, with_copies_left, copies_after, first_lines}
use Rattle.djq_transaction.specs.Applied.{headings}
use Rattle.djq_transaction.specs.Net.{keys, relation_place, row_key, Suits, IsNet, IsRowAt}
use Rattle.djq_transaction.proofs.NamedRows.{found_named, fits_long}
use Rattle.djq_transaction.proofs.Places.{mapped_at, at_contains}

pub headings_with : (rs : List Relation) (name : Bytes) (rows : List CountedRow)
    → headings (with_rows rs name rows) ≡ headings rs
headings_with [] name rows = refl
headings_with (r ∷ rs) name rows = by (bytes_eq r.name name) (headings_with rs name rows)
  where
    by : (b : Bool) → headings (with_rows rs name rows) ≡ headings rs
        → headings (cond b (record r { rows = rows } ∷ rs) (r ∷ with_rows rs name rows)) ≡ headings (r ∷ rs)
    by true e = refl
    by false e = ap (λ (hs : List Relation). record r { rows = [] } ∷ hs) e

pub headings_all : (base : List Relation) (lines : List HeldLine) (now : List Relation) (hs : List HeldLine)
    → headings (fold (with_copies_left base lines) now hs) ≡ headings now
headings_all base lines now [] = refl
headings_all base lines now (h ∷ hs) =
    headings_all base lines (with_copies_left base lines now h) hs
    ∙ headings_with now h.relation (with_so_many (counted_of now h.relation) h.row (copies_after base lines h))

place_heading : (rs : List Relation) (name : Bytes) → relation_place (headings rs) name ≡ relation_place rs name
place_heading [] name = refl
place_heading (r ∷ rs) name = ap (λ (k : ℕ). cond (not (bytes_eq r.name name)) (1 + k) 0) (place_heading rs name)

at_heading : (rs : List Relation) (at : ℕ)
    → relation_at (headings rs) at ≡ (let r = relation_at rs at in record r { rows = [] })
at_heading [] zero = refl
at_heading [] (suc at) = refl
at_heading (r ∷ rs) zero = refl
at_heading (r ∷ rs) (suc at) = at_heading rs at

pub same_length : (a b : List Relation) → headings a ≡ headings b → length a ≡ length b
same_length a b e = sym (length-map a (λ (r : Relation). record r { rows = [] }))
    ∙ ap (λ (rs : List Relation). length rs) e ∙ length-map b (λ (r : Relation). record r { rows = [] })

pub same_place : (a b : List Relation) (name : Bytes) → headings a ≡ headings b
    → relation_place a name ≡ relation_place b name
same_place a b name e = sym (place_heading a name) ∙ ap (λ (rs : List Relation). relation_place rs name) e
    ∙ place_heading b name

-- what a relation has besides its rows
pub same_at : {A : Type 0} (f : Relation → A) (a b : List Relation) (at : ℕ) → ((r : Relation) → f (record r { rows = [] }) ≡ f r)
    → headings a ≡ headings b → f (relation_at a at) ≡ f (relation_at b at)
same_at f a b at bare e = sym (bare (relation_at a at)) ∙ sym (ap f (at_heading a at))
    ∙ ap (λ (rs : List Relation). f (relation_at rs at)) e ∙ ap f (at_heading b at) ∙ bare (relation_at b at)

-- a line's row, in relations with other rows
pub row_at : (base : List Relation) (c : Catalog) (h : HeldLine) → headings c.relations ≡ headings base
    → Suits base h → HaveCells c.texts h.row
    → IsRowAt c h (relation_place base h.relation) (cells_of c.texts h.row)
row_at base c h e s have =
    let at = relation_place base h.relation in
    let there : slice_get base at ≡ Some s.relation =
    sym (find_at (λ (r : Relation). bytes_eq r.name h.relation) base) ∙ s.found in
    let within : at < length base = slice_get_within base at s.relation there in
    let below : at < length c.relations = omega (arith, within, same_length c.relations base e) in
    let is : relation_at base at ≡ s.relation = get_or_from_slice_get base at s.relation no_relation there in
    let types = same_at (λ (r : Relation). r.types) c.relations base at (λ r. refl) e
    ∙ ap (λ (r : Relation). r.types) is in
    let found : relation_of c.relations h.relation ≡ Some (relation_at c.relations at) =
    find_at (λ (r : Relation). bytes_eq r.name h.relation) c.relations
    ∙ ap (λ (k : ℕ). slice_get c.relations k) (same_place c.relations base h.relation e)
    ∙ slice_get-get_or c.relations at no_relation below in
    let suits : fits (relation_at c.relations at).types h.row ≡ true =
    ap (λ ts. fits ts h.row) types ∙ s.suits in
    record {
      suits = record { relation = relation_at c.relations at; found = found; suits = suits };
      below = below;
      named = same_at (λ (r : Relation). r.name) c.relations base at (λ r. refl) e ∙ ap (λ (r : Relation). r.name) is
          ∙ found_named base h.relation s.relation s.found;
      found = found;
      stand = record { of = suits; have = have; are = refl };
    }

-- ---- the key at a place

-- a line's key, which stands at its place
pub record HasKey (base : List Relation) (c : Catalog) (width : ℕ) (lines : List HeldLine) (place : ℕ) (key : List ℕ)
    : Type 0 where
  pub line : HeldLine
  pub there : slice_get (first_lines lines) place ≡ Some line
  pub is : key ≡ row_key base c.texts width line
  pub at : IsRowAt c line (relation_place base line.relation) (cells_of c.texts line.row)

pub key_of : (base : List Relation) (c : Catalog) (width : ℕ) (lines : List HeldLine) (net : Net) (place : ℕ)
    (key : List ℕ) → IsNet base c.texts width lines net → headings c.relations ≡ headings base
    → slice_get (keys net) place ≡ Some key → HasKey base c width lines place key
key_of base c width lines net place key n e k =
    let firsts = first_lines lines in
    let m = mapped_at (row_key base c.texts width) firsts place key
    (subst (λ (ks : List (List ℕ)). slice_get ks place ≡ Some key) n.key k) in
    let has = at_contains firsts place m.0 m.1 in
    record {
      line = m.0;
      there = m.1;
      is = sym m.2;
      at = row_at base c m.0 e (All-contains (Suits base) firsts m.0 n.suit has)
          (All-contains (λ (h : HeldLine). HaveCells c.texts h.row) firsts m.0 n.known has);
    }

module _ (base : List Relation) (c : Catalog) (width : ℕ) (lines : List HeldLine) (place : ℕ) (key : List ℕ)
    (k : HasKey base c width lines place key) where
  pub key_first : slice_index_or key 0 0 ≡ relation_place base k.line.relation
  key_first = ap (λ (u : List ℕ). slice_index_or u 0 0) k.is

  pub cells_are_columns : length (cells_of c.texts k.line.row)
      ≡ length (relation_at c.relations (relation_place base k.line.relation)).types
  cells_are_columns = cells_long c.texts k.line.row
      ∙ fits_long (relation_at c.relations (relation_place base k.line.relation)).types k.line.row k.at.stand.of

  pub key_long : 1 + length (cells_of c.texts k.line.row) ≤ length key
  key_long =
      let cells : List ℕ = cells_of c.texts k.line.row in
      let zeros : List ℕ = replicate (pred width - length cells) 0 in
      let long : length key ≡ 1 + length (cells ++ zeros) = ap (λ (u : List ℕ). length u) k.is ∙ (omega arith) in
      omega (arith, long, length-append cells zeros)

  pub key_has : (n : ℕ) → n ≡ length (cells_of c.texts k.line.row)
      → slice_range key 1 (1 + n) ≡ cells_of c.texts k.line.row
  key_has n e =
      let cells : List ℕ = cells_of c.texts k.line.row in
      let zeros : List ℕ = replicate (pred width - length cells) 0 in
      let one_less : (1 + n) - 1 ≡ length cells = omega (arith, e) in
      ap (λ (u : List ℕ). take ((1 + n) - 1) (drop 1 u)) k.is
      ∙ ap (λ (m : ℕ). take m (cells ++ zeros)) one_less
      ∙ take-append_seam cells zeros

  pub row_there : (h : HeldLine) (n : ℕ) (cells : List ℕ) → slice_get (first_lines lines) place ≡ Some h
      → n ≡ length (relation_at c.relations (slice_index_or key 0 0)).types → cells ≡ slice_range key 1 (1 + n)
      → IsRowAt c h (slice_index_or key 0 0) cells × (slice_index_or key 0 0 ≡ relation_place base h.relation)
  row_there h n cells there columns are =
      let same : k.line ≡ h = (let b : Some k.line ≡ Some h = sym k.there ∙ there in cc b) in
      let first : slice_index_or key 0 0 ≡ relation_place base h.relation =
      key_first ∙ ap (λ (g : HeldLine). relation_place base g.relation) same in
      let many : n ≡ length (cells_of c.texts k.line.row) =
      columns ∙ ap (λ (at : ℕ). length (relation_at c.relations at).types) key_first ∙ sym cells_are_columns in
      let is : cells ≡ cells_of c.texts h.row =
      are ∙ key_has n many ∙ ap (λ (g : HeldLine). cells_of c.texts g.row) same in (
        subst (λ (at : ℕ). IsRowAt c h at cells) (sym first)
            (subst (λ (us : List ℕ). IsRowAt c h (relation_place base h.relation) us) (sym is)
            (subst (λ (g : HeldLine). IsRowAt c g (relation_place base g.relation) (cells_of c.texts g.row)) same k.at)),
        first,
      )
