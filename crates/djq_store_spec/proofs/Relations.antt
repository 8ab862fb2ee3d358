-- Relations with other rows, which a query reads, and walks over them.
use Rattle.std.specs.Prelude.{ℕ, List, [], ◌∷◌, ◌≡◌, Bool, true, false, cond, Option, Some, option_map, Contains}
use Rattle.std.proofs.Common.{refl, sym, ap, ◌∙◌}
use Rattle.std.specs.List.{slice_index_or}
use Rattle.std.proofs.lemmas.List.Elements.{All-contains}
use Rattle.std.proofs.lemmas.List.Folds.{list_any_at}
use Rattle.djq_model.specs.declared.relation.Relation.{Relation}
use Rattle.djq_model.specs.declared.relation.CountedRow.{CountedRow}
use Rattle.djq_model.specs.declared.query.Query.{Query}
use Rattle.djq_model.specs.declared.query.Atom.{Atom}
use Rattle.djq_model.specs.Data.{Bytes, Tuple, bytes_eq, relation_of, plain_of, counted_in, counted_of, rows_of}
use Rattle.djq_model.specs.Data.{with_copies}
use Rattle.djq_model.specs.Equality.{bytes_eq-decides}
use Rattle.djq_model.proofs.Copies.{tuples_with_copies}
use Rattle.djq_store_spec.specs.Relations.{with_rows}
use Rattle.djq_store_spec.specs.Rows.{with_copies_of}
use Rattle.djq_store_spec.specs.Stale.{reads}

-- ---- Relations with other rows, or other copies of a row, in one of them.

-- what is found under its name
pub relation_here : (rs : List Relation) (name : Bytes) (rows : List CountedRow)
    → relation_of (with_rows rs name rows) name
    ≡ option_map (λ (r : Relation). record r { rows = rows }) (relation_of rs name)
relation_here [] name rows = refl
relation_here (r ∷ rs) name rows = by (bytes_eq r.name name) refl (relation_here rs name rows)
  where
    by : (b : Bool) → bytes_eq r.name name ≡ b
        → relation_of (with_rows rs name rows) name
        ≡ option_map (λ (x : Relation). record x { rows = rows }) (relation_of rs name)
        → relation_of (cond b (record r { rows = rows } ∷ rs) (r ∷ with_rows rs name rows)) name
        ≡ option_map (λ (x : Relation). record x { rows = rows }) (cond b (Some r) (relation_of rs name))
    by true e rest = ap (λ (b : Bool). cond b (Some (record r { rows = rows })) (relation_of rs name)) e
    by false e rest =
        ap (λ (b : Bool). cond b (Some r) (relation_of (with_rows rs name rows) name)) e ∙ rest

-- a name that isn't another: where something has the one, it hasn't the other
apart_names : (x name n : Bytes) → bytes_eq n name ≡ false → bytes_eq x name ≡ true → bytes_eq x n ≡ false
apart_names x name n h e = by (bytes_eq x n) refl
  where
    by : (b : Bool) → bytes_eq x n ≡ b → b ≡ false
    by false k = refl
    by true k =
        let same : x ≡ n = (bytes_eq-decides x n).0 k in
        let twice : bytes_eq n name ≡ true = ap (λ z. bytes_eq z name) (sym same) ∙ e in
        absurd (cc (twice, h))

-- and under another one
pub relation_apart : (rs : List Relation) (name : Bytes) (rows : List CountedRow) (n : Bytes) → bytes_eq n name ≡ false
    → relation_of (with_rows rs name rows) n ≡ relation_of rs n
relation_apart [] name rows n h = refl
relation_apart (r ∷ rs) name rows n h = by (bytes_eq r.name name) refl (relation_apart rs name rows n h)
  where
    by : (b : Bool) → bytes_eq r.name name ≡ b → relation_of (with_rows rs name rows) n ≡ relation_of rs n
        → relation_of (cond b (record r { rows = rows } ∷ rs) (r ∷ with_rows rs name rows)) n
        ≡ cond (bytes_eq r.name n) (Some r) (relation_of rs n)
    by true e rest =
        let other = apart_names r.name name n h e in
        ap (λ (b : Bool). cond b (Some (record r { rows = rows })) (relation_of rs n)) other
        ∙ sym (ap (λ (b : Bool). cond b (Some r) (relation_of rs n)) other)
    by false e rest = ap (λ (o : Option Relation). cond (bytes_eq r.name n) (Some r) o) rest

pub counted_here : (rs : List Relation) (name : Bytes) (rows : List CountedRow) (x : Relation)
    → relation_of rs name ≡ Some x → counted_of (with_rows rs name rows) name ≡ rows
counted_here rs name rows x found =
    ap counted_in (relation_here rs name rows ∙ ap (option_map (λ (r : Relation). record r { rows = rows })) found)

pub counted_apart : (rs : List Relation) (name : Bytes) (rows : List CountedRow) (n : Bytes) → bytes_eq n name ≡ false
    → counted_of (with_rows rs name rows) n ≡ counted_of rs n
counted_apart rs name rows n h = ap counted_in (relation_apart rs name rows n h)

pub rows_apart : (rs : List Relation) (name : Bytes) (rows : List CountedRow) (n : Bytes) → bytes_eq n name ≡ false
    → rows_of (with_rows rs name rows) n ≡ rows_of rs n
rows_apart rs name rows n h = ap plain_of (counted_apart rs name rows n h)

-- Where they are the rows that it had, with whatever copies, each relation has the rows that it had.
pub rows_stay : (rs : List Relation) (name : Bytes) (rows : List CountedRow) → plain_of rows ≡ rows_of rs name
    → (n : Bytes) → rows_of (with_rows rs name rows) n ≡ rows_of rs n
rows_stay [] name rows h n = refl
rows_stay (r ∷ rs) name rows h n = by (bytes_eq r.name name) h (λ k. rows_stay rs name rows k n)
  where
    at : (b : Bool) → plain_of rows ≡ plain_of r.rows
        → plain_of (counted_in (cond b (Some (record r { rows = rows })) (relation_of rs n)))
        ≡ plain_of (counted_in (cond b (Some r) (relation_of rs n)))
    at true k = k
    at false k = refl

    on : (b : Bool) → rows_of (with_rows rs name rows) n ≡ rows_of rs n
        → plain_of (counted_in (cond b (Some r) (relation_of (with_rows rs name rows) n)))
        ≡ plain_of (counted_in (cond b (Some r) (relation_of rs n)))
    on true k = refl
    on false k = k

    by : (b : Bool) → plain_of rows ≡ plain_of (counted_in (cond b (Some r) (relation_of rs name)))
        → (plain_of rows ≡ rows_of rs name → rows_of (with_rows rs name rows) n ≡ rows_of rs n)
        → rows_of (cond b (record r { rows = rows } ∷ rs) (r ∷ with_rows rs name rows)) n ≡ rows_of (r ∷ rs) n
    by true k rest = at (bytes_eq r.name n) k
    by false k rest = on (bytes_eq r.name n) (rest k)

-- So it is of another number of copies.
pub copies_rows : (rs : List Relation) (name : Bytes) (row : Tuple) (n : ℕ) (other : Bytes)
    → rows_of (with_copies_of rs name row n) other ≡ rows_of rs other
copies_rows rs name row n other =
    rows_stay rs name (with_copies (counted_of rs name) row n) (tuples_with_copies (counted_of rs name) row n) other

-- ---- Which relations a query reads.

-- those of its atoms
pub reads_atom : (q : Query) (a : Atom) → Contains q.atoms a → reads q a.relation ≡ true
reads_atom q a has =
    All-contains (λ (b : Atom). reads q b.relation ≡ true) q.atoms a (λ k d lt.
    let b = slice_index_or q.atoms k d in
    list_any_at (λ (x : Atom). bytes_eq x.relation b.relation) q.atoms k d lt
    ((bytes_eq-decides b.relation b.relation).1 refl)) has
