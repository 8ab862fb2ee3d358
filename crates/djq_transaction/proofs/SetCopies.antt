-- The copies of the row that cells stand for, set one by one.
use Rattle.std.specs.Prelude.{ℕ, zero, suc, List, [], ◌∷◌, ◌≡◌, ◌+◌, ◌≤◌, ◌<◌, Bool, true, false, length, Result, Ok, Err}
use Rattle.std.proofs.Common.{refl, sym, ap, ◌∙◌, subst, arith}
use Rattle.std.proofs.lemmas.List.Elements.{All-weaker}
use Rattle.djq_model.specs.declared.relation.Relation.{Relation}
use Rattle.djq_model.specs.declared.relation.CountedRow.{CountedRow}
use Rattle.djq_model.specs.Data.{Tuple, has_row, plain_of, copies_among, with_copies}
use Rattle.djq_model.proofs.Copies.{copies_hold}
use Rattle.djq_protocol.specs.declared.limits.TheConstants.{ROWS, COPIES}
use Rattle.djq_protocol.specs.declared.answer.AddOutcome.{AddOutcome}
use Rattle.djq_protocol.specs.declared.answer.AddOutcome.TheVariants.{First, More}
use Rattle.djq_protocol.specs.declared.answer.DeleteOutcome.{DeleteOutcome}
use Rattle.djq_protocol.specs.declared.answer.DeleteOutcome.TheVariants.{Last, Left, Absent}
use Rattle.djq_database.specs.declared.refusal.RowsRefusal.{RowsRefusal}
use Rattle.djq_database.specs.declared.refusal.RowsRefusal.TheVariants.{NameTaken, Full, NoMem}
use Rattle.djq_database.specs.Cells.{StandFor}
use Rattle.djq_database.specs.Catalog.{Catalog, IsCatalog, CopiesAreInRange, StandForRow, AreCellsOf, no_relation}
use Rattle.djq_database.specs.Catalog.{relation_at, counted_at, rows_at, with_rows_at}
use Rattle.djq_database.specs.Changes.{HasNoPlace, AddsRowAt, DeletesRowAt}
use Rattle.djq_store_spec.specs.Lines.{with_so_many}
use Rattle.djq_transaction.specs.Applied.{HasCopiesAt, SetsCopiesAt}
use Rattle.djq_store_spec.proofs.SoManyCopies.{many_has, many_among, many_again, many_same, many_new, many_there}

-- ---- other rows at a place

rows_again : (rs : List Relation) (at : ℕ) (a b : List CountedRow)
    → with_rows_at (with_rows_at rs at a) at b ≡ with_rows_at rs at b
rows_again [] zero a b = refl
rows_again [] (suc at) a b = refl
rows_again (r ∷ rs) zero a b = refl
rows_again (r ∷ rs) (suc at) a b = ap (λ (qs : List Relation). r ∷ qs) (rows_again rs at a b)

rows_kept : (rs : List Relation) (at : ℕ) → with_rows_at rs at (counted_at rs at) ≡ rs
rows_kept [] zero = refl
rows_kept [] (suc at) = refl
rows_kept (r ∷ rs) zero = refl
rows_kept (r ∷ rs) (suc at) = ap (λ (qs : List Relation). r ∷ qs) (rows_kept rs at)

rows_set : (rs : List Relation) (at : ℕ) (rows : List CountedRow) → at < length rs
    → counted_at (with_rows_at rs at rows) at ≡ rows
rows_set [] at rows less = absurd (omega (arith, less))
rows_set (r ∷ rs) zero rows less = refl
rows_set (r ∷ rs) (suc at) rows less = rows_set rs at rows (omega (arith, less))

types_set : (rs : List Relation) (at : ℕ) (rows : List CountedRow)
    → (relation_at (with_rows_at rs at rows) at).types ≡ (relation_at rs at).types
types_set [] zero rows = refl
types_set [] (suc at) rows = refl
types_set (r ∷ rs) zero rows = refl
types_set (r ∷ rs) (suc at) rows = types_set rs at rows

long_set : (rs : List Relation) (at : ℕ) (rows : List CountedRow) → length (with_rows_at rs at rows) ≡ length rs
long_set [] zero rows = refl
long_set [] (suc at) rows = refl
long_set (r ∷ rs) zero rows = refl
long_set (r ∷ rs) (suc at) rows = ap suc (long_set rs at rows)

-- ---- one row, with so many copies for a while

module _ (old now : Catalog) (at : ℕ) (cells : List ℕ) (k : ℕ) (set : SetsCopiesAt old at cells k now.relations)
    (texts : now.texts ≡ old.texts) where
  module _ (row : Tuple) (s : StandForRow old at cells row) where
    same_types : (relation_at now.relations at).types ≡ (relation_at old.relations at).types
    same_types = ap (λ (rs : List Relation). (relation_at rs at).types) (set row s)
        ∙ types_set old.relations at (with_so_many (counted_at old.relations at) row k)

    pub stands_now : StandForRow now at cells row
    stands_now =
        subst (λ ts. StandFor now.texts ts cells row) (sym same_types)
        (subst (λ ts. StandFor ts (relation_at old.relations at).types cells row) (sym texts) s)

    pub below_now : at < length old.relations → at < length now.relations
    below_now less =
        let long : length now.relations ≡ length old.relations =
        ap (λ (rs : List Relation). length rs) (set row s)
        ∙ long_set old.relations at (with_so_many (counted_at old.relations at) row k) in
        omega (arith, less, long)

    rows_now : at < length old.relations
        → counted_at now.relations at ≡ with_so_many (counted_at old.relations at) row k
    rows_now less = ap (λ (rs : List Relation). counted_at rs at) (set row s)
        ∙ rows_set old.relations at (with_so_many (counted_at old.relations at) row k) less

    -- and then with another number
    pub set_on : (n : ℕ) (relations : List Relation) → at < length old.relations → 1 ≤ k
        → relations ≡ with_rows_at now.relations at (with_so_many (counted_at now.relations at) row n)
        → relations ≡ with_rows_at old.relations at (with_so_many (counted_at old.relations at) row n)
    set_on n relations less some e =
        let rows = counted_at old.relations at in
        e ∙ ap (λ (rs : List CountedRow). with_rows_at now.relations at (with_so_many rs row n)) (rows_now less)
        ∙ ap (λ (qs : List Relation). with_rows_at qs at (with_so_many (with_so_many rows row k) row n)) (set row s)
        ∙ rows_again old.relations at (with_so_many rows row k) (with_so_many (with_so_many rows row k) row n)
        ∙ ap (λ (rs : List CountedRow). with_rows_at old.relations at rs) (again k some)
      where
        again : (m : ℕ) → 1 ≤ m → with_so_many (with_so_many (counted_at old.relations at) row m) row n
            ≡ with_so_many (counted_at old.relations at) row n
        again zero l = absurd (omega (arith, l))
        again (suc m) l = many_again (counted_at old.relations at) row m n

    pub has_now : at < length old.relations → 1 ≤ k → has_row (rows_at now.relations at) row ≡ true
    has_now less some = ap (λ (rs : List CountedRow). has_row (plain_of rs) row) (rows_now less) ∙ has k some
      where
        has : (m : ℕ) → 1 ≤ m
            → has_row (plain_of (with_so_many (counted_at old.relations at) row m)) row ≡ true
        has zero l = absurd (omega (arith, l))
        has (suc m) l = many_has (counted_at old.relations at) row m

    pub among_now : at < length old.relations → 1 ≤ k → copies_among (counted_at now.relations at) row ≡ k
    among_now less some = ap (λ (rs : List CountedRow). copies_among rs row) (rows_now less) ∙ among k some
      where
        among : (m : ℕ) → 1 ≤ m
            → copies_among (with_so_many (counted_at old.relations at) row m) row ≡ m
        among zero l = absurd (omega (arith, l))
        among (suc m) l = many_among (counted_at old.relations at) row m

  pub are_cells_now : AreCellsOf old at cells → AreCellsOf now at cells
  are_cells_now a = record { row = a.row; stand = stands_now a.row a.stand }

-- ---- before the first change

pub counted_some : (c : Catalog) (at : ℕ) (row : Tuple) → IsCatalog c → at < length c.relations
    → has_row (rows_at c.relations at) row ≡ true → 1 ≤ copies_among (counted_at c.relations at) row
counted_some c at row laws less has =
    copies_hold (λ (n : ℕ). 1 ≤ n) (counted_at c.relations at) row
    (All-weaker CopiesAreInRange (λ (k : CountedRow). 1 ≤ k.copies) (λ k h. h.0) (counted_at c.relations at)
    (laws.kept at no_relation less).counted) has

pub set_first : (c : Catalog) (at : ℕ) (cells : List ℕ) (n : ℕ) → IsCatalog c → HasCopiesAt c at cells n
    → SetsCopiesAt c at cells n c.relations
set_first c at cells n laws h row s =
    sym (ap (λ (rs : List CountedRow). with_rows_at c.relations at rs)
    (many_same (counted_at c.relations at) row n (h.copies row s)
    (λ has. subst (λ (m : ℕ). 1 ≤ m) (h.copies row s) (counted_some c at row laws h.below has)))
    ∙ rows_kept c.relations at)

-- ---- one copy more, and one less

pub one_more : (relations new : List Relation) (at : ℕ) (row : Tuple) (k : ℕ) (r : Result AddOutcome RowsRefusal)
    → has_row (rows_at relations at) row ≡ true → copies_among (counted_at relations at) row ≡ k → k < COPIES
    → AddsRowAt relations at row r new
    → new ≡ with_rows_at relations at (with_so_many (counted_at relations at) row (k + 1))
one_more relations new at row k (Ok First) has among less a = absurd (cc (sym has ∙ a.0))
one_more relations new at row k (Ok (More n)) has among less a =
    let next : n ≡ suc k = omega (arith, a.1, among) in
    let last : suc k ≡ k + 1 = omega arith in
    a.3 ∙ ap (λ (m : ℕ). with_rows_at relations at (with_copies (counted_at relations at) row m)) next
    ∙ ap (λ (rs : List CountedRow). with_rows_at relations at rs) (sym (many_there (counted_at relations at) row k has))
    ∙ ap (λ (m : ℕ). with_rows_at relations at (with_so_many (counted_at relations at) row m)) last
one_more relations new at row k (Err NameTaken) has among less a = absurd a
one_more relations new at row k (Err Full) has among less a = absurd (omega (arith, a.0.copies has, among, less))
one_more relations new at row k (Err NoMem) has among less a = absurd (cc (sym has ∙ a.0))

pub one_less : (relations new : List Relation) (at : ℕ) (row : Tuple) (k : ℕ) (r : DeleteOutcome)
    → has_row (rows_at relations at) row ≡ true → copies_among (counted_at relations at) row ≡ k + 1
    → DeletesRowAt relations at row r new
    → new ≡ with_rows_at relations at (with_so_many (counted_at relations at) row k)
one_less relations new at row k Last has among d =
    let none : k ≡ 0 = omega (arith, among, d.1) in
    d.2 ∙ ap (λ (m : ℕ). with_rows_at relations at (with_so_many (counted_at relations at) row m)) (sym none)
one_less relations new at row k (Left zero) has among d = absurd (omega (arith, d.2))
one_less relations new at row k (Left (suc n)) has among d =
    let left : suc n ≡ k = omega (arith, among, d.1) in
    d.3 ∙ ap (λ (rs : List CountedRow). with_rows_at relations at rs)
    (sym (many_there (counted_at relations at) row n has))
    ∙ ap (λ (m : ℕ). with_rows_at relations at (with_so_many (counted_at relations at) row m)) left
one_less relations new at row k Absent has among d = absurd (cc (sym has ∙ d.0))

-- the first copy
pub first_one : (c : Catalog) (at : ℕ) (cells : List ℕ) (row : Tuple) (new : List Relation) (o : AddOutcome)
    → IsCatalog c → HasCopiesAt c at cells 0 → StandForRow c at cells row → AddsRowAt c.relations at row (Ok o) new
    → new ≡ with_rows_at c.relations at (with_so_many (counted_at c.relations at) row 1)
first_one c at cells row new First laws h s a =
    a.2 ∙ ap (λ (rs : List CountedRow). with_rows_at c.relations at rs)
    (sym (many_new (counted_at c.relations at) row 0 a.0))
first_one c at cells row new (More n) laws h s a =
    let some = counted_some c at row laws h.below a.0 in
    let none = h.copies row s in
    absurd (omega (arith, some, none))

-- a row that isn't there has its place in a relation that isn't full
pub no_place : (c : Catalog) (at : ℕ) (cells : List ℕ) (row : Tuple) → HasCopiesAt c at cells 0
    → StandForRow c at cells row → length (rows_at c.relations at) < ROWS → HasNoPlace c.relations at row → ⊥
no_place c at cells row h s few none = by (has_row (rows_at c.relations at) row) refl
  where
    by : (b : Bool) → has_row (rows_at c.relations at) row ≡ b → ⊥
    by true e = let many = none.copies e in let zero_copies = h.copies row s in omega (arith, many, zero_copies)
    by false e = let many = none.rows e in omega (arith, many, few)

-- the row has as many copies as were set
pub counted_now : (old now : Catalog) (at : ℕ) (cells : List ℕ) (k n : ℕ) → HasCopiesAt old at cells n
    → SetsCopiesAt old at cells k now.relations → now.texts ≡ old.texts → 1 ≤ k → HasCopiesAt now at cells k
counted_now old now at cells k n h set texts some =
    let row = h.stand.row in
    let s = h.stand.stand in
    let types = same_types old now at cells k set texts row s in
    record {
      below = below_now old now at cells k set texts row s h.below;
      stand = record { row = row; stand = stands_now old now at cells k set texts row s };
      copies = λ other t. among_now old now at cells k set texts other
          (subst (λ ts. StandFor old.texts ts cells other) types
          (subst (λ ts. StandFor ts (relation_at now.relations at).types cells other) texts t)) h.below some;
    }
