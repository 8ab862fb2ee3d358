-- A leaf that is filled with the rows of a relation, one after another.
use Rattle.std.proofs.Common.{◌≡◌, ℕ, zero, suc, ◌<◌, List, [], ◌∷◌, ◌++◌, length, map, refl, ap, sym, ◌∙◌, inl, inr}
use Rattle.std.proofs.Common.{arith, true, ◌+◌, ◌≤◌, subst, append_assoc, append-nil, length-append}
use Rattle.std.specs.Prelude.{Contains, slice_index_or, Some, slice_get}
use Rattle.std.proofs.lemmas.List.{get_or-map, length-map, get_or_append_left}
use Rattle.std.proofs.lemmas.List.Elements.{Contains-append_cases, Contains-append_left, Contains-append_right}
use Rattle.std.proofs.Math.Seq.{get_or-append_seam}
use Rattle.std.proofs.lemmas.Bool.{cases_eq, cases_lt, false≢true, and_parts}
use Rattle.std.proofs.lemmas.Option.{same_Some}
use Rattle.djq_model.specs.declared.relation.ColumnType.{ColumnType}
use Rattle.djq_model.specs.Data.{Tuple}
use Rattle.djq_model.specs.Typed.{is_of, fits}
use Rattle.djq_index.specs.Tuple.{same, one_if}
use Rattle.djq_index.specs.Entries.{Entry, count_of}
use Rattle.djq_index.proofs.Tuples.{same_cases, one_other, one_same}
use Rattle.djq_tree.specs.Tree.{Tree}
use Rattle.djq_union.proofs.Merges.{none_contained}
use Rattle.djq_reduct.specs.Tables.{entries_at}
use Rattle.djq_reduct.specs.Reducts.{Reducts}
use Rattle.djq_reduct.specs.Marks.{IsBare}
use Rattle.djq_database.specs.Cells.{cells_of}
use Rattle.djq_database.specs.Catalog.{Catalog, rows_at, IsCatalog, no_relation, relation_at}
use Rattle.djq_database.proofs.Cells.{cells_long, differ}
use Rattle.djq_propagate.specs.Updates.{HasGained}
use Rattle.djq_propagate.proofs.Costs.{length_less}
use Rattle.djq_query.specs.declared.numbered.NumberedAtom.{NumberedAtom}
use Rattle.djq_query.specs.Pattern.{Shape}
use Rattle.djq_leaves.specs.Cells.{AreRowOf}
use Rattle.djq_leaves.specs.Changes.{LeafIsEmpty, LeafGains, LeafIsFilled, HoldsThese}
use Rattle.djq_leaves.specs.Leaves.{Holds}
use Rattle.djq_leaves.specs.Stepping.{LacksCells}
use Rattle.djq_leaves.specs.Building.{AreFilled, LeafHasTaken, IsFilled, TakesRow, relation_cells}
use Rattle.djq_leaves.proofs.LeafRows.{one_as, one_is, one_of, only_one}
use Rattle.djq_leaves.proofs.LeafUpdates.{IsOnly}
use Rattle.djq_leaves.proofs.Costs.{gained_grows}

-- ---- A leaf that is filled row by row.

pub leaf_empty : LeafIsEmpty
leaf_empty p es none u =
    (λ there. absurd (let z = none u in omega arith), λ one. absurd (none_contained one.cells one.row))

pub leaf_gains : LeafGains
leaf_gains rows more p old new holds gains u = (
  λ there.
      elim ((gains u).0 there) [
        | inl before ↦
            one_as (Contains rows) (Contains (rows ++ more)) p u
            (λ x is. Contains-append_left rows more x is) ((holds u).0 before)
        | inr one ↦
            one_as (Contains more) (Contains (rows ++ more)) p u
            (λ x is. Contains-append_right rows more x is) one
      ],
  λ one.
      (gains u).1
      (elim (Contains-append_cases rows more one.cells one.row) [
        | inl before ↦ inl
            ((holds u).1 (record { cells = one.cells; row = before; gives = one.gives }))
        | inr late ↦ inr (record { cells = one.cells; row = late; gives = one.gives })
      ]),
)

-- an element doesn't depend on what stands past the end
default_row : (rows : List Tuple) (i : ℕ) (d e : Tuple) → i < length rows
    → slice_index_or rows i e ≡ slice_index_or rows i d
default_row [] i d e low = absurd (omega arith)
default_row (r ∷ rows) zero d e low = refl
default_row (r ∷ rows) (suc i) d e low = default_row rows i d e (omega arith)

row_in : (c : Catalog) (at : ℕ) (cells : List ℕ)
    → Contains (map (cells_of c.texts) (rows_at c.relations at)) cells → AreRowOf c at cells
row_in c at cells is =
    let rows = rows_at c.relations at in
    let low = is.1 in
    let long = length-map rows (cells_of c.texts) in
    let within : is.0 < length rows = omega arith in
    record {
      row = slice_index_or rows is.0 [];
      there = (is.0, within, default_row rows is.0 [] (slice_index_or rows is.0 []) within);
      are = sym is.2 ∙ get_or-map (cells_of c.texts) rows is.0 [] cells within;
    }

pub in_row : (c : Catalog) (at : ℕ) (cells : List ℕ) → AreRowOf c at cells
    → Contains (map (cells_of c.texts) (rows_at c.relations at)) cells
in_row c at cells is =
    let rows = rows_at c.relations at in
    let low = is.there.1 in
    let long = length-map rows (cells_of c.texts) in (
      is.there.0,
      omega arith,
      get_or-map (cells_of c.texts) rows is.there.0 is.row cells low
          ∙ ap (λ (r : Tuple). cells_of c.texts r) is.there.2 ∙ sym is.are,
    )

pub leaf_filled : LeafIsFilled
leaf_filled c at p es holds = record {
  exact = λ u. (
    λ there. one_as (Contains (map (cells_of c.texts) (rows_at c.relations at))) (AreRowOf c at) p u
        (row_in c at) ((holds u).0 there),
    λ one. (holds u).1
        (one_as (AreRowOf c at) (Contains (map (cells_of c.texts) (rows_at c.relations at))) p u
        (in_row c at) one),
  );
}

-- ---- A leaf takes the rows of a relation in, one after another.

-- ---- lengths

pub fits_long : (types : List ColumnType) (row : Tuple) → fits types row ≡ true
    → length row ≡ length types
fits_long [] [] h = refl
fits_long [] (v ∷ row) h = absurd (false≢true h)
fits_long (t ∷ types) [] h = absurd (false≢true h)
fits_long (t ∷ types) (v ∷ row) h =
    ap suc (fits_long types row (and_parts (is_of t v) (fits types row) h).1)

-- ---- one row

pub took_row : (p : Shape) (leaf : ℕ) (cells u : List ℕ) (old new : Reducts)
    → HasGained old new leaf u → IsOnly (Some u) p cells → TakesRow p leaf cells old new
took_row p leaf cells u old new came exact = record {
  tree = came.tree;
  bare = came.bare;
  gains = λ v.
      let count = came.leaf v in (
        λ there. elim (same_cases u v) [
          | inl is ↦ inr (one_of p v cells ((exact v).0 (ap (λ (w : List ℕ). Some w) is)))
          | inr isnt ↦ inl (let none = one_other u v isnt in omega arith)
        ],
        λ h. elim h [
          | inl before ↦ omega arith
          | inr gives ↦
              let is : u ≡ v = same_Some u v ((exact v).1 (only_one p v cells gives)) in
              let some : one_if (same u v) ≡ 1 =
              ap (λ (w : List ℕ). one_if (same u w)) (sym is) ∙ one_same u in
              omega arith
        ],
      );
  grows = (gained_grows leaf u old new came).leaf;
  others = λ j low other v. came.others j v low other;
}

-- ---- a relation's rows

-- equal rows of cells would be one row
twice : (f : Tuple → List ℕ) (rows : List Tuple) (done more : List (List ℕ)) (x : List ℕ)
    → map f rows ≡ done ++ x ∷ more
    → ((i j : ℕ) → i < j → j < length rows
    → f (slice_index_or rows i []) ≡ f (slice_index_or rows j []) → ⊥)
    → Contains done x → ⊥
twice f rows done more x parts differs c =
    let i = c.0 in
    let low = c.1 in
    let long : length rows ≡ length done + length (x ∷ more) =
    sym (length-map rows f) ∙ ap (λ (l : List (List ℕ)). length l) parts
    ∙ length-append done (x ∷ more) in
    let early : i < length rows = omega arith in
    let late : length done < length rows = omega arith in
    let first : f (slice_index_or rows i []) ≡ x =
    sym (get_or-map f rows i [] x early)
    ∙ ap (λ (l : List (List ℕ)). slice_index_or l i x) parts
    ∙ get_or_append_left done (x ∷ more) x i low ∙ c.2 in
    let second : f (slice_index_or rows (length done) []) ≡ x =
    sym (get_or-map f rows (length done) [] x late)
    ∙ ap (λ (l : List (List ℕ)). slice_index_or l (length done) x) parts
    ∙ get_or-append_seam done x more x in
    differs i (length done) low late (first ∙ sym second)

rows_differ : (c : Catalog) (at : ℕ) → IsCatalog c → at < length c.relations → (i j : ℕ) → i < j
    → j < length (rows_at c.relations at)
    → cells_of c.texts (slice_index_or (rows_at c.relations at) i [])
    ≡ cells_of c.texts (slice_index_or (rows_at c.relations at) j []) → ⊥
rows_differ c at h low i j less late e =
    let kept = h.kept at no_relation low in
    let rows = rows_at c.relations at in
    let types = (relation_at c.relations at).types in
    kept.differ i j [] less late
    (differ c.texts types (slice_index_or rows i []) (slice_index_or rows j [])
    (kept.typed i [] (omega arith)) (kept.typed j [] late) (kept.cells i [] (omega arith))
    (kept.cells j [] late) e)

pub start_taken : (c : Catalog) (at : ℕ) (p : Shape) (leaf : ℕ) (left : List (List ℕ))
    (old : Reducts) → left ≡ relation_cells c at
    → ((u : List ℕ) → count_of (entries_at old.tables leaf) u ≡ 0) → IsBare old.tables
    → LeafHasTaken c at p leaf left old old
start_taken c at p leaf left old all empty bare = record {
  done = [];
  parts = sym all;
  holds = leaf_empty p (entries_at old.tables leaf) empty;
  few = length_less (entries_at old.tables leaf) [] (λ v. (let none = empty v in omega arith));
  tree = refl;
  bare = bare;
  others = λ j low other u. refl;
}

pub step_taken : (c : Catalog) (at : ℕ) (p : Shape) (leaf : ℕ) (row : List ℕ)
    (before left : List (List ℕ)) (old mid new : Reducts) → LeafHasTaken c at p leaf before old mid
    → before ≡ row ∷ left → TakesRow p leaf row mid new → LeafHasTaken c at p leaf left old new
step_taken c at p leaf row before left old mid new h next takes = record {
  done = h.done ++ row ∷ [];
  parts = h.parts ∙ ap (λ (l : List (List ℕ)). h.done ++ l) next
      ∙ sym (append_assoc h.done (row ∷ []) left);
  holds = leaf_gains h.done (row ∷ []) p (entries_at mid.tables leaf) (entries_at new.tables leaf)
      h.holds takes.gains;
  few = (let a = takes.grows in let b = h.few in let d = length-append h.done (row ∷ []) in
      omega arith);
  tree = takes.tree ∙ h.tree;
  bare = takes.bare;
  others = λ j low other u.
      takes.others j (let e = ap (λ (t : Tree). t.leaves) h.tree in omega arith) other u
      ∙ h.others j low other u;
}

pub end_taken : (c : Catalog) (at : ℕ) (p : Shape) (leaf : ℕ) (left : List (List ℕ))
    (old new : Reducts) → LeafHasTaken c at p leaf left old new → left ≡ []
    → IsFilled c at p leaf old new
end_taken c at p leaf left old new h over = record {
  holds = leaf_filled c at p (entries_at new.tables leaf)
      (subst (λ (rows : List (List ℕ)). HoldsThese rows p (entries_at new.tables leaf))
      (sym (h.parts ∙ ap (λ (l : List (List ℕ)). h.done ++ l) over ∙ append-nil h.done))
      h.holds);
  tree = h.tree;
  bare = h.bare;
  others = h.others;
}

-- the next row's tuple isn't there
pub absent_row : (c : Catalog) (at : ℕ) (p : Shape) (leaf : ℕ) (row : List ℕ)
    (before left : List (List ℕ)) (old mid : Reducts) → IsCatalog c → at < length c.relations
    → LeafHasTaken c at p leaf before old mid → before ≡ row ∷ left
    → LacksCells row p (entries_at mid.tables leaf)
absent_row c at p leaf row before left old mid catalog low h next u gives =
    elim (cases_lt 0 (count_of (entries_at mid.tables leaf) u)) [
      | inl there ↦ absurd
          (twice (cells_of c.texts) (rows_at c.relations at) h.done left row
          (h.parts ∙ ap (λ (l : List (List ℕ)). h.done ++ l) next)
          (rows_differ c at catalog low)
          (one_is (Contains h.done) p u row gives ((h.holds u).0 there)))
      | inr none ↦ omega arith
    ]

-- and it is as wide as the relation
pub wide_row : (c : Catalog) (at : ℕ) (p : Shape) (leaf : ℕ) (row : List ℕ)
    (before left : List (List ℕ)) (old mid : Reducts) → IsCatalog c → at < length c.relations
    → LeafHasTaken c at p leaf before old mid → before ≡ row ∷ left
    → length row ≡ length (relation_at c.relations at).types
wide_row c at p leaf row before left old mid catalog low h next =
    let rows = rows_at c.relations at in
    let f = cells_of c.texts in
    let i = length h.done in
    let parts : map f rows ≡ h.done ++ row ∷ left =
    h.parts ∙ ap (λ (l : List (List ℕ)). h.done ++ l) next in
    let long : length rows ≡ length h.done + length (row ∷ left) =
    sym (length-map rows f) ∙ ap (λ (l : List (List ℕ)). length l) parts
    ∙ length-append h.done (row ∷ left) in
    let within : i < length rows = omega arith in
    let is : f (slice_index_or rows i []) ≡ row =
    sym (get_or-map f rows i [] row within)
    ∙ ap (λ (l : List (List ℕ)). slice_index_or l i row) parts
    ∙ get_or-append_seam h.done row left row in
    ap (λ (l : List ℕ). length l) (sym is)
    ∙ cells_long c.texts (slice_index_or rows i [])
    ∙ fits_long (relation_at c.relations at).types (slice_index_or rows i [])
    ((catalog.kept at no_relation low).typed i [] within)

-- there is a number left for it, as it is one more row at most than the leaf has tuples
pub few_row : (c : Catalog) (at : ℕ) (p : Shape) (leaf : ℕ) (row : List ℕ)
    (before left : List (List ℕ)) (old mid : Reducts) → IsCatalog c → at < length c.relations
    → LeafHasTaken c at p leaf before old mid → before ≡ row ∷ left
    → length (entries_at mid.tables leaf) < 4294967295
few_row c at p leaf row before left old mid catalog low h next =
    let rows = rows_at c.relations at in
    let f = cells_of c.texts in
    let long : length rows ≡ length h.done + length (row ∷ left) =
    sym (length-map rows f)
    ∙ ap (λ (l : List (List ℕ)). length l)
    (h.parts ∙ ap (λ (l : List (List ℕ)). h.done ++ l) next)
    ∙ length-append h.done (row ∷ left) in
    let most = (catalog.kept at no_relation low).few in
    let some = h.few in
    omega arith

-- ---- all leaves

holds_kept : (c : Catalog) (at : ℕ) (p : Shape) (es fs : List Entry)
    → ((u : List ℕ) → count_of fs u ≡ count_of es u) → Holds c at p es → Holds c at p fs
holds_kept c at p es fs same h = record {
  exact = λ u. (
    λ there. (h.exact u).0 (let e = same u in omega arith),
    λ is. (let e = same u in let s = (h.exact u).1 is in omega arith),
  );
}

pub step_filled : (c : Catalog) (atoms : List NumberedAtom) (ps : List Shape) (j : ℕ)
    (m : NumberedAtom) (p : Shape) (old mid new : Reducts)
    → length atoms ≤ old.tree.leaves → j < length atoms
    → slice_get atoms j ≡ Some m → slice_get ps j ≡ Some p
    → AreFilled c atoms ps j old mid → IsFilled c m.relation p j mid new
    → AreFilled c atoms ps (j + 1) old new
step_filled c atoms ps j m p old mid new few within at there h fills =
    let leaves = ap (λ (t : Tree). t.leaves) h.tree in
    record {
      tree = fills.tree ∙ h.tree;
      bare = fills.bare;
      filled = λ k n r e f low.
          elim (cases_eq k j) [
            | inl here ↦
                let same : m ≡ n = same_Some m n (sym at ∙ ap (slice_get atoms) (sym here) ∙ e) in
                let also : p ≡ r = same_Some p r (sym there ∙ ap (slice_get ps) (sym here) ∙ f) in
                subst (λ (i : ℕ). Holds c n.relation r (entries_at new.tables i)) (sym here)
                (subst (λ (s : Shape). Holds c n.relation s (entries_at new.tables j)) also
                (subst (λ (o : NumberedAtom). Holds c o.relation p (entries_at new.tables j)) same
                fills.holds))
            | inr apart ↦
                holds_kept c n.relation r (entries_at mid.tables k) (entries_at new.tables k)
                (fills.others k (omega arith) apart)
                (h.filled k n r e f (omega arith))
          ];
      empty = λ k from low u.
          fills.others k (omega arith) (λ e. absurd (omega arith)) u
          ∙ h.empty k (omega arith) low u;
    }
