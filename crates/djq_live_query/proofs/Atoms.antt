-- Terms and atoms, against rows of values and rows of cells.
use Rattle.std.proofs.Common.{◌≡◌, ℕ, zero, suc, ◌<◌, true, false, List, [], ◌∷◌, length, refl, ap, sym, ◌∙◌, arith}
use Rattle.std.proofs.Common.{map, ap₂, inl, inr, ◌+◌, ◌≤◌, Bool, ◌++◌, cond, subst}
use Rattle.std.specs.Prelude.{Option, Some, AllPairs, Contains, ◌≢◌, slice_get, slice_index, drop, ◌==◌, None, ⊤, All}
use Rattle.std.proofs.lemmas.List.Elements.{All-contains}
use Rattle.std.specs.List.{list_any}
use Rattle.std.proofs.lemmas.Bool.{eqb-true, false≢true, or_cases, and_parts, eq-eqb, ne_eqb, or_left, or_right}
use Rattle.std.proofs.lemmas.Bool.{or_parts, cases_Bool}
use Rattle.std.proofs.lemmas.Option.{same_Some}
use Rattle.djq_hypergraph.specs.Hypergraph.{member}
use Rattle.djq_model.specs.declared.relation.Relation.{Relation}
use Rattle.djq_model.specs.declared.query.Atom.{Atom}
use Rattle.djq_model.specs.declared.value.Value.{Value}
use Rattle.djq_model.specs.declared.relation.ColumnType.{ColumnType}
use Rattle.djq_model.specs.declared.query.Term.{Term}
use Rattle.djq_model.specs.declared.query.Term.TheVariants.{Variable as Named, Hole, Constant}
use Rattle.djq_model.specs.Data.{Bytes, Tuple, bytes_eq, relation_of, plain_of, counted_in, rows_of}
use Rattle.djq_model.specs.Typed.{fits, is_of}
use Rattle.djq_model.specs.Answer.{StandsFor as StandsForValue, StandForAll, Satisfies}
use Rattle.djq_protocol.specs.Variables.{Label}
use Rattle.djq_database.specs.Cells.{HaveCells, cell_for, cells_of, HasCell, IsCell, CellStandsFor}
use Rattle.djq_database.specs.Catalog.{Catalog, IsCatalog, no_relation, relation_at, rows_at}
use Rattle.djq_database.specs.Parts.{value_of}
use Rattle.djq_database.proofs.Cells.{eq_refl, eq_other, value_back}
use Rattle.djq_query.specs.declared.numbered.Variable.{Variable}
use Rattle.djq_query.specs.declared.numbered.NumberedAtom.{NumberedAtom}
use Rattle.djq_query.specs.declared.numbered.NumberedTerm.{NumberedTerm}
use Rattle.djq_query.specs.declared.numbered.NumberedTerm.TheVariants.{Variable as Number, Constant as Fixed}
use Rattle.djq_query.specs.Numbered.{labels, number_of, is_number}
use Rattle.djq_query.specs.Meaning.{TermIsShown, TermsAreShown, Rise, hole_of, holes_among, holes_in}
use Rattle.djq_binder.specs.Asked.{IsAtomOf, column_of, TermSuits, TermsSuit, AreAtomsOf}
use Rattle.djq_leaves.specs.Cells.{cell_under, IsSatisfied}

-- ---- Rows of an atom's relation.

-- the relation of a name is the one at a place that has the name
pub found_at : (rs : List Relation) (name : Bytes) (at : ℕ)
    → AllPairs (λ (r : Relation) (s : Relation). r.name ≢ s.name) rs → at < length rs
    → (relation_at rs at).name ≡ name → relation_of rs name ≡ Some (relation_at rs at)
found_at [] name at d low e = absurd (omega arith)
found_at (r ∷ rs) name zero d low e =
    rw (ap (λ (n : Bytes). bytes_eq n name) e ∙ eq_refl name) refl
found_at (r ∷ rs) name (suc at) d low e =
    let other : bytes_eq r.name name ≡ false = eq_other r.name name
    (λ same. d zero (suc at) no_relation (omega arith) (omega arith) (same ∙ sym e)) in
    rw other
    (found_at rs name at (λ i j x a b. d (suc i) (suc j) x (omega arith) (omega arith))
    (omega arith)
    e)

pub rows_are : (c : Catalog) (vs : List Variable) (a : Atom) (m : NumberedAtom) → IsCatalog c
    → IsAtomOf c vs a m → rows_of c.relations a.relation ≡ rows_at c.relations m.relation
rows_are c vs a m h is =
    ap (λ (o : Option Relation). plain_of (counted_in o))
    (found_at c.relations a.relation m.relation h.names is.below is.named)

-- a row suits the relation's columns, and has cells
pub row_fits : (c : Catalog) (vs : List Variable) (a : Atom) (m : NumberedAtom) (row : Tuple)
    → IsCatalog c → IsAtomOf c vs a m → Contains (rows_at c.relations m.relation) row
    → fits (relation_at c.relations m.relation).types row ≡ true
row_fits c vs a m row h is there =
    All-contains (λ r. fits (relation_at c.relations m.relation).types r ≡ true)
    (rows_at c.relations m.relation) row (h.kept m.relation no_relation is.below).typed there

pub row_cells : (c : Catalog) (vs : List Variable) (a : Atom) (m : NumberedAtom) (row : Tuple)
    → IsCatalog c → IsAtomOf c vs a m → Contains (rows_at c.relations m.relation) row
    → HaveCells c.texts row
row_cells c vs a m row h is there =
    All-contains (HaveCells c.texts)
    (rows_at c.relations m.relation) row (h.kept m.relation no_relation is.below).cells there

-- ---- Terms that stand for a row, against the row's cells.

pub heads : (x y : ℕ) (xs ys : List ℕ) → x ∷ xs ≡ y ∷ ys → x ≡ y
heads x y xs ys e = ap (λ (l : List ℕ). slice_index l 0) e

pub tails : (x y : ℕ) (xs ys : List ℕ) → x ∷ xs ≡ y ∷ ys → xs ≡ ys
tails x y xs ys e = ap (λ (l : List ℕ). drop 1 l) e

-- a name has one number
abbrev pub HasOne : List Variable → Type 0
HasOne vs = (x : ℕ) (name : Bytes) → slice_get (labels vs) x ≡ Some (Some name)
    → number_of (labels vs) name ≡ x

-- the values that cells stand for, by the names of their variables
abbrev pub value_by : List Bytes → List Variable → (ℕ → ℕ) → Bytes → Value
value_by texts vs a name =
    value_of texts (column_of vs (number_of (labels vs) name)) (a (number_of (labels vs) name))

pub value_by_is : (texts : List Bytes) (vs : List Variable) (a : ℕ → ℕ) (x : ℕ) (name : Bytes)
    → HasOne vs → slice_get (labels vs) x ≡ Some (Some name)
    → value_by texts vs a name ≡ value_of texts (column_of vs x) (a x)
value_by_is texts vs a x name one e =
    ap (λ (y : ℕ). value_of texts (column_of vs y) (a y)) (one x name e)

value_known : (texts : List Bytes) (c d : ColumnType) (cell : ℕ) (v : Value) → d ≡ c
    → cell ≡ cell_for texts v → is_of c v ≡ true → HasCell texts v → value_of texts d cell ≡ v
value_known texts c d cell v same e of has =
    ap₂ (λ (t : ColumnType) (n : ℕ). value_of texts t n) same e ∙ value_back texts c v of has

stand_term : (texts : List Bytes) (vs : List Variable) (a : ℕ → ℕ) (t : Term) (n : NumberedTerm)
    (c : ColumnType) (v : Value) → HasOne vs → TermIsShown (labels vs) t n → TermSuits texts vs n c
    → is_of c v ≡ true → HasCell texts v → cell_under texts a n ≡ cell_for texts v
    → StandsForValue (value_by texts vs a) t v
stand_term texts vs a (Named name) (Number x) c v one shown suits of has e =
    value_by_is texts vs a x name one shown
    ∙ value_known texts c (column_of vs x) (a x) v suits e of has
stand_term texts vs a Hole (Number x) c v one shown suits of has e = tt
stand_term texts vs a (Constant w) (Fixed u) c v one shown suits of has e =
    sym shown ∙ sym (value_back texts c u suits.0 suits.1)
    ∙ value_known texts c c (cell_for texts u) v refl e of has
stand_term texts vs a (Named name) (Fixed u) c v one shown suits of has e = absurd shown
stand_term texts vs a Hole (Fixed u) c v one shown suits of has e = absurd shown
stand_term texts vs a (Constant w) (Number x) c v one shown suits of has e = absurd shown

-- terms whose cells are a row's stand for the row
pub stand_terms : (texts : List Bytes) (vs : List Variable) (a : ℕ → ℕ) (ts : List Term)
    (ns : List NumberedTerm) (cs : List ColumnType) (row : Tuple) → HasOne vs
    → TermsAreShown (labels vs) ts ns → TermsSuit texts vs ns cs → fits cs row ≡ true
    → HaveCells texts row → map (cell_under texts a) ns ≡ cells_of texts row
    → StandForAll (value_by texts vs a) ts row
stand_terms texts vs a [] [] [] [] one shown suits f h e = tt
stand_terms texts vs a [] [] [] (v ∷ row) one shown suits f h e = absurd (false≢true f)
stand_terms texts vs a [] [] (c ∷ cs) row one shown suits f h e = absurd suits
stand_terms texts vs a [] (n ∷ ns) cs row one shown suits f h e = absurd shown
stand_terms texts vs a (t ∷ ts) [] cs row one shown suits f h e = absurd shown
stand_terms texts vs a (t ∷ ts) (n ∷ ns) [] row one shown suits f h e = absurd suits
stand_terms texts vs a (t ∷ ts) (n ∷ ns) (c ∷ cs) [] one shown suits f h e = absurd (false≢true f)
stand_terms texts vs a (t ∷ ts) (n ∷ ns) (c ∷ cs) (v ∷ row) one shown suits f h e =
    let p = and_parts (is_of c v) (fits cs row) f in (
      stand_term texts vs a t n c v one shown.0 suits.0 p.0 h.0
          (heads (cell_under texts a n) (cell_for texts v) (map (cell_under texts a) ns)
          (cells_of texts row) e),
      stand_terms texts vs a ts ns cs row one shown.1 suits.1 p.1 h.1
          (tails (cell_under texts a n) (cell_for texts v) (map (cell_under texts a) ns)
          (cells_of texts row) e),
    )

-- the cell of a variable among them stands for a value of the variable's type
cell_here : (texts : List Bytes) (vs : List Variable) (a : ℕ → ℕ) (x : ℕ) (n : NumberedTerm)
    (c : ColumnType) (v : Value) → TermSuits texts vs n c → is_of c v ≡ true → HasCell texts v
    → cell_under texts a n ≡ cell_for texts v → is_number x n ≡ true
    → IsCell texts (column_of vs x) (a x)
cell_here texts vs a x (Fixed u) c v suits of has e m = absurd (false≢true m)
cell_here texts vs a x (Number y) c v suits of has e m =
    let same = eqb-true x y m in
    record {
      value = v;
      stands = record {
        of = ap (λ (t : ColumnType). is_of t v) (ap (column_of vs) same ∙ suits) ∙ of;
        has = has;
        is = ap a same ∙ e;
      };
    }

pub cell_among : (texts : List Bytes) (vs : List Variable) (a : ℕ → ℕ) (x : ℕ)
    (ns : List NumberedTerm) (cs : List ColumnType) (row : Tuple) → TermsSuit texts vs ns cs
    → fits cs row ≡ true → HaveCells texts row → map (cell_under texts a) ns ≡ cells_of texts row
    → list_any (is_number x) ns ≡ true → IsCell texts (column_of vs x) (a x)
cell_among texts vs a x [] cs row suits f h e m = absurd (false≢true m)
cell_among texts vs a x (n ∷ ns) [] row suits f h e m = absurd suits
cell_among texts vs a x (n ∷ ns) (c ∷ cs) [] suits f h e m = absurd (false≢true f)
cell_among texts vs a x (n ∷ ns) (c ∷ cs) (v ∷ row) suits f h e m =
    let p = and_parts (is_of c v) (fits cs row) f in
    elim (or_cases (is_number x n) (list_any (is_number x) ns) m) [
      | inl here ↦ cell_here texts vs a x n c v suits.0 p.0 h.0
          (heads (cell_under texts a n) (cell_for texts v) (map (cell_under texts a) ns)
          (cells_of texts row) e) here
      | inr there ↦ cell_among texts vs a x ns cs row suits.1 p.1 h.1
          (tails (cell_under texts a n) (cell_for texts v) (map (cell_under texts a) ns)
          (cells_of texts row) e) there
    ]

-- ---- Cells for the holes of a query whose atoms stand for rows.

-- ---- rising numbers

pub rise_above : (from : ℕ) (l : List ℕ) (y : ℕ) → Rise from l → member y l ≡ true → from ≤ y
unfolding Rise
rise_above from [] y h m = absurd (false≢true m)
rise_above from (x ∷ l) y h m =
    elim (or_cases (y == x) (member y l) m) [
      | inl here ↦ (let e = eqb-true y x here in let b = h.0 in omega arith)
      | inr there ↦ (let b = h.0 in let c = rise_above (x + 1) l y h.1 there in omega arith)
    ]

pub member_left : (y : ℕ) (xs ys : List ℕ) → member y xs ≡ true → member y (xs ++ ys) ≡ true
member_left y [] ys m = absurd (false≢true m)
member_left y (x ∷ xs) ys m =
    elim (or_cases (y == x) (member y xs) m) [
      | inl here ↦ or_left (y == x) (member y (xs ++ ys)) here
      | inr there ↦ or_right (y == x) (member y (xs ++ ys)) (member_left y xs ys there)
    ]

pub member_right : (y : ℕ) (xs ys : List ℕ) → member y ys ≡ true → member y (xs ++ ys) ≡ true
member_right y [] ys m = m
member_right y (x ∷ xs) ys m = or_right (y == x) (member y (xs ++ ys)) (member_right y xs ys m)

pub in_right : (xs ys : List ℕ) (y : ℕ) → member y xs ≡ false → member y (xs ++ ys) ≡ true
    → member y ys ≡ true
in_right [] ys y out m = m
in_right (x ∷ xs) ys y out m =
    let p = or_parts (y == x) (member y xs) out in
    elim (or_cases (y == x) (member y (xs ++ ys)) m) [
      | inl here ↦ absurd (false≢true (sym p.0 ∙ here))
      | inr there ↦ in_right xs ys y p.1 there
    ]

pub rise_left : (from : ℕ) (xs ys : List ℕ) → Rise from (xs ++ ys) → Rise from xs
unfolding Rise
rise_left from [] ys h = tt
rise_left from (x ∷ xs) ys h = (h.0, rise_left (x + 1) xs ys h.1)

rise_lower : (from to : ℕ) (l : List ℕ) → to ≤ from → Rise from l → Rise to l
unfolding Rise
rise_lower from to [] low h = tt
rise_lower from to (x ∷ l) low h = ((let b = h.0 in omega arith), h.1)

pub rise_right : (from : ℕ) (xs ys : List ℕ) → Rise from (xs ++ ys) → Rise from ys
unfolding Rise
rise_right from [] ys h = h
rise_right from (x ∷ xs) ys h =
    rise_lower (x + 1) from ys (let b = h.0 in omega arith) (rise_right (x + 1) xs ys h.1)

-- no number is in both parts of a rising list
pub rise_apart : (from : ℕ) (xs ys : List ℕ) (y : ℕ) → Rise from (xs ++ ys) → member y ys ≡ true
    → member y xs ≡ false
unfolding Rise
rise_apart from [] ys y h m = refl
rise_apart from (x ∷ xs) ys y h m =
    let c = rise_above (x + 1) (xs ++ ys) y h.1 (member_right y xs ys m) in
    rw (ne_eqb y x (λ e. omega arith)) (rise_apart (x + 1) xs ys y h.1 m)

-- ---- one atom

-- the cell that a row has at the hole with a number
abbrev pub hole_cell : List Bytes → List Term → List NumberedTerm → Tuple → ℕ → ℕ
hole_cell texts [] ns row y = 0
hole_cell texts (t ∷ ts) [] row y = 0
hole_cell texts (t ∷ ts) (n ∷ ns) [] y = 0
hole_cell texts (t ∷ ts) (n ∷ ns) (v ∷ row) y =
    cond (member y (hole_of t n)) (cell_for texts v) (hole_cell texts ts ns row y)

-- the cells of named variables are those of their values
abbrev pub HasNames : List Bytes → List Label → (Bytes → Value) → (ℕ → ℕ) → Type 0
HasNames texts ls values a = (x : ℕ) (name : Bytes) → slice_get ls x ≡ Some (Some name)
    → a x ≡ cell_for texts (values name)

pub cells_terms : (texts : List Bytes) (ls : List Label) (values : Bytes → Value) (a : ℕ → ℕ)
    (from : ℕ) (ts : List Term) (ns : List NumberedTerm) (row : Tuple) → HasNames texts ls values a
    → TermsAreShown ls ts ns → StandForAll values ts row → Rise from (holes_among ts ns)
    → ((y : ℕ) → member y (holes_among ts ns) ≡ true → a y ≡ hole_cell texts ts ns row y)
    → map (cell_under texts a) ns ≡ cells_of texts row
unfolding holes_among Rise
cells_terms texts ls values a from [] [] [] names shown stand rise holes = refl
cells_terms texts ls values a from [] [] (v ∷ row) names shown stand rise holes = absurd stand
cells_terms texts ls values a from [] (n ∷ ns) row names shown stand rise holes = absurd shown
cells_terms texts ls values a from (t ∷ ts) [] row names shown stand rise holes = absurd shown
cells_terms texts ls values a from (t ∷ ts) (n ∷ ns) [] names shown stand rise holes = absurd stand
cells_terms texts ls values a from (Named name ∷ ts) (Number x ∷ ns) (v ∷ row) names shown stand
    rise holes =
    ap₂ (λ (c : ℕ) (cs : List ℕ). c ∷ cs) (names x name shown.0 ∙ ap (cell_for texts) stand.0)
    (cells_terms texts ls values a from ts ns row names shown.1 stand.1 rise holes)
cells_terms texts ls values a from (Hole ∷ ts) (Number x ∷ ns) (v ∷ row) names shown stand rise
    holes =
    ap₂ (λ (c : ℕ) (cs : List ℕ). c ∷ cs)
    (holes x (or_left (x == x) (member x (holes_among ts ns)) (eq-eqb x x refl))
    ∙ ap (λ (b : Bool). cond b (cell_for texts v) (hole_cell texts ts ns row x))
    (or_left (x == x) false (eq-eqb x x refl)))
    (cells_terms texts ls values a (x + 1) ts ns row names shown.1 stand.1 rise.1
    (λ y m. holes y (or_right (y == x) (member y (holes_among ts ns)) m)
    ∙ ap (λ (b : Bool). cond b (cell_for texts v) (hole_cell texts ts ns row y))
    (rise_apart from (x ∷ []) (holes_among ts ns) y rise m)))
cells_terms texts ls values a from (Constant w ∷ ts) (Fixed u ∷ ns) (v ∷ row) names shown stand rise
    holes =
    ap₂ (λ (c : ℕ) (cs : List ℕ). c ∷ cs) (ap (cell_for texts) (shown.0 ∙ stand.0))
    (cells_terms texts ls values a from ts ns row names shown.1 stand.1 rise holes)
cells_terms texts ls values a from (Named name ∷ ts) (Fixed u ∷ ns) (v ∷ row) names shown stand rise
    holes = absurd shown.0
cells_terms texts ls values a from (Hole ∷ ts) (Fixed u ∷ ns)
    (v ∷ row) names shown stand rise holes =
    absurd shown.0
cells_terms texts ls values a from (Constant w ∷ ts) (Number x ∷ ns) (v ∷ row) names shown stand
    rise holes = absurd shown.0

-- a hole's number has no name
pub among_unnamed : (ls : List Label) (ts : List Term) (ns : List NumberedTerm) (y : ℕ)
    → TermsAreShown ls ts ns → member y (holes_among ts ns) ≡ true → slice_get ls y ≡ Some None
unfolding holes_among
among_unnamed ls [] ns y shown m = absurd (false≢true m)
among_unnamed ls (t ∷ ts) [] y shown m = absurd (false≢true m)
among_unnamed ls (Named name ∷ ts) (Number x ∷ ns) y shown m = among_unnamed ls ts ns y shown.1 m
among_unnamed ls (Hole ∷ ts) (Number x ∷ ns) y shown m =
    elim (or_cases (y == x) (member y (holes_among ts ns)) m) [
      | inl here ↦ ap (slice_get ls) (eqb-true y x here) ∙ shown.0
      | inr there ↦ among_unnamed ls ts ns y shown.1 there
    ]
among_unnamed ls (Constant w ∷ ts) (Fixed u ∷ ns) y shown m = among_unnamed ls ts ns y shown.1 m
among_unnamed ls (Named name ∷ ts) (Fixed u ∷ ns) y shown m = absurd shown.0
among_unnamed ls (Hole ∷ ts) (Fixed u ∷ ns) y shown m = absurd shown.0
among_unnamed ls (Constant w ∷ ts) (Number x ∷ ns) y shown m = absurd shown.0

-- ---- Assignments of values that satisfy all atoms of a query, and assignments of cells that do.

-- an assignment of cells satisfies each of these atoms
abbrev pub AreSatisfied : Catalog → (ℕ → ℕ) → List NumberedAtom → Type 0
AreSatisfied c a ms = (j : ℕ) (m : NumberedAtom) → slice_get ms j ≡ Some m → IsSatisfied c a m

-- ---- from cells to values

pub satisfies_all : (c : Catalog) (vs : List Variable) (a : ℕ → ℕ) (atoms : List Atom)
    (ms : List NumberedAtom) → IsCatalog c → HasOne vs → AreAtomsOf c vs atoms ms
    → AreSatisfied c a ms → All (Satisfies c.relations (value_by c.texts vs a)) atoms
satisfies_all c vs a [] [] h one are sat k d low = absurd (omega arith)
satisfies_all c vs a [] (m ∷ ms) h one are sat k d low = absurd are
satisfies_all c vs a (x ∷ atoms) [] h one are sat k d low = absurd are
satisfies_all c vs a (x ∷ atoms) (m ∷ ms) h one are sat zero d low =
    let s = sat 0 m refl in
    record {
      row = s.row;
      is_there = subst (λ (rows : List Tuple). Contains rows s.row) (sym
          (rows_are c vs x m h are.0))
          s.there;
      stands = stand_terms c.texts vs a x.terms m.terms (relation_at c.relations m.relation).types
          s.row one are.0.shown are.0.suited (row_fits c vs x m s.row h are.0 s.there)
          (row_cells c vs x m s.row h are.0 s.there) s.are;
    }
satisfies_all c vs a (x ∷ atoms) (m ∷ ms) h one are sat (suc k) d low =
    satisfies_all c vs a atoms ms h one are.1 (λ j n e. sat (suc j) n e) k d (omega arith)

-- the cell of a variable that stands in an atom stands for a value of its type
pub cell_at : (c : Catalog) (vs : List Variable) (a : ℕ → ℕ) (x : ℕ) (atoms : List Atom)
    (ms : List NumberedAtom) (j : ℕ) (m : NumberedAtom) → IsCatalog c → AreAtomsOf c vs atoms ms
    → AreSatisfied c a ms → slice_get ms j ≡ Some m → list_any (is_number x) m.terms ≡ true
    → IsCell c.texts (column_of vs x) (a x)
cell_at c vs a x [] [] j m h are sat e has = absurd cc
cell_at c vs a x [] (n ∷ ms) j m h are sat e has = absurd are
cell_at c vs a x (b ∷ atoms) [] j m h are sat e has = absurd are
cell_at c vs a x (b ∷ atoms) (n ∷ ms) zero m h are sat e has =
    let s = sat 0 n refl in
    cell_among c.texts vs a x n.terms (relation_at c.relations n.relation).types s.row are.0.suited
    (row_fits c vs b n s.row h are.0 s.there) (row_cells c vs b n s.row h are.0 s.there) s.are
    (ap (λ (k : NumberedAtom). list_any (is_number x) k.terms) (same_Some n m e) ∙ has)
cell_at c vs a x (b ∷ atoms) (n ∷ ms) (suc j) m h are sat e has =
    cell_at c vs a x atoms ms j m h are.1 (λ i k f. sat (suc i) k f) e has

-- ---- from values to cells

-- a row of each atom's relation, for which the atom's terms stand
abbrev pub AreRowsFor : Catalog → (Bytes → Value) → List Atom → List NumberedAtom → List Tuple
    → Type 0
AreRowsFor c values [] [] [] = ⊤
AreRowsFor c values (a ∷ atoms) (m ∷ ms) (row ∷ rows) =
    Contains (rows_at c.relations m.relation) row × StandForAll values a.terms row
    × AreRowsFor c values atoms ms rows
AreRowsFor c values [] [] (row ∷ rows) = ⊥
AreRowsFor c values [] (m ∷ ms) rows = ⊥
AreRowsFor c values (a ∷ atoms) [] rows = ⊥
AreRowsFor c values (a ∷ atoms) (m ∷ ms) [] = ⊥

pub record HasRows (c : Catalog) (values : Bytes → Value) (atoms : List Atom)
    (ms : List NumberedAtom) : Type 0 where
  pub rows : List Tuple
  pub are : AreRowsFor c values atoms ms rows

pub rows_for : (c : Catalog) (vs : List Variable) (values : Bytes → Value) (atoms : List Atom)
    (ms : List NumberedAtom) → IsCatalog c → AreAtomsOf c vs atoms ms
    → All (Satisfies c.relations values) atoms → HasRows c values atoms ms
rows_for c vs values [] [] h are all = record { rows = []; are = tt }
rows_for c vs values [] (m ∷ ms) h are all = absurd are
rows_for c vs values (a ∷ atoms) [] h are all = absurd are
rows_for c vs values (a ∷ atoms) (m ∷ ms) h are all =
    let s = all 0 a (omega arith) in
    let rest = rows_for c vs values atoms ms h are.1 (λ i d l. all (suc i) d (omega arith)) in
    record {
      rows = s.row ∷ rest.rows;
      are = (
        subst (λ (rows : List Tuple). Contains rows s.row) (rows_are c vs a m h are.0) s.is_there,
        s.stands,
        rest.are,
      );
    }

-- the cell that the rows have at the hole with a number
abbrev pub cell_in : List Bytes → List Atom → List NumberedAtom → List Tuple → ℕ → ℕ
cell_in texts [] ms rows y = 0
cell_in texts (a ∷ atoms) [] rows y = 0
cell_in texts (a ∷ atoms) (m ∷ ms) [] y = 0
cell_in texts (a ∷ atoms) (m ∷ ms) (row ∷ rows) y =
    cond (member y (holes_among a.terms m.terms)) (hole_cell texts a.terms m.terms row y)
    (cell_in texts atoms ms rows y)

pub satisfied_all : (c : Catalog) (vs : List Variable) (values : Bytes → Value) (b : ℕ → ℕ)
    (from : ℕ) (atoms : List Atom) (ms : List NumberedAtom) (rows : List Tuple)
    → HasNames c.texts (labels vs) values b → AreAtomsOf c vs atoms ms
    → AreRowsFor c values atoms ms rows → Rise from (holes_in atoms ms)
    → ((y : ℕ) → member y (holes_in atoms ms) ≡ true → b y ≡ cell_in c.texts atoms ms rows y)
    → AreSatisfied c b ms
unfolding holes_in
satisfied_all c vs values b from [] [] rows names are for rise holes j n e = absurd cc
satisfied_all c vs values b from [] (m ∷ ms) rows names are for rise holes j n e = absurd are
satisfied_all c vs values b from (a ∷ atoms) [] rows names are for rise holes j n e = absurd are
satisfied_all c vs values b from (a ∷ atoms) (m ∷ ms) [] names are for rise holes j n e = absurd for
satisfied_all c vs values b from (a ∷ atoms) (m ∷ ms)
    (row ∷ rows) names are for rise holes zero n e =
    subst (λ (k : NumberedAtom). IsSatisfied c b k) (same_Some m n e)
    (record {
      row = row;
      there = for.0;
      are = cells_terms c.texts (labels vs) values b from a.terms m.terms row names are.0.shown
          for.1
          (rise_left from (holes_among a.terms m.terms) (holes_in atoms ms) rise)
          (λ y is. holes y
          (member_left y (holes_among a.terms m.terms) (holes_in atoms ms) is)
          ∙ ap (λ (t : Bool). cond t (hole_cell c.texts a.terms m.terms row y)
          (cell_in c.texts atoms ms rows y)) is);
    })
satisfied_all c vs values b from (a ∷ atoms) (m ∷ ms) (row ∷ rows) names are for rise holes
    (suc j) n
    e =
    satisfied_all c vs values b from atoms ms rows names are.1 for.2
    (rise_right from (holes_among a.terms m.terms) (holes_in atoms ms) rise)
    (λ y is. holes y (member_right y (holes_among a.terms m.terms) (holes_in atoms ms) is)
    ∙ ap (λ (t : Bool). cond t (hole_cell c.texts a.terms m.terms row y)
    (cell_in c.texts atoms ms rows y))
    (rise_apart from (holes_among a.terms m.terms) (holes_in atoms ms) y rise is))
    j n e

pub in_unnamed : (c : Catalog) (vs : List Variable) (atoms : List Atom) (ms : List NumberedAtom)
    (y : ℕ) → AreAtomsOf c vs atoms ms → member y (holes_in atoms ms) ≡ true
    → slice_get (labels vs) y ≡ Some None
unfolding holes_in
in_unnamed c vs [] ms y are m = absurd (false≢true m)
in_unnamed c vs (a ∷ atoms) [] y are m = absurd (false≢true m)
in_unnamed c vs (a ∷ atoms) (n ∷ ms) y are m =
    elim (cases_Bool (member y (holes_among a.terms n.terms))) [
      | inl is ↦ among_unnamed (labels vs) a.terms n.terms y are.0.shown is
      | inr isnt ↦ in_unnamed c vs atoms ms y are.1
          (in_right (holes_among a.terms n.terms) (holes_in atoms ms) y isnt m)
    ]

-- ---- the value of a name that stands in an atom

value_here : (texts : List Bytes) (vs : List Variable) (values : Bytes → Value) (x : ℕ)
    (name : Bytes) (t : Term) (n : NumberedTerm) (c : ColumnType) (v : Value)
    → TermIsShown (labels vs) t n → TermSuits texts vs n c → is_of c v ≡ true → HasCell texts v
    → StandsForValue values t v → is_number x n ≡ true → slice_get (labels vs) x ≡ Some (Some name)
    → CellStandsFor texts (column_of vs x) (cell_for texts (values name)) (values name)
value_here texts vs values x name t (Fixed u) c v shown suits of has stand m e =
    absurd (false≢true m)
value_here texts vs values x name Hole (Number y) c v shown suits of has stand m e =
    let same = eqb-true x y m in
    let none : None ≡ Some name = same_Some None (Some name)
    (sym shown ∙ ap (slice_get (labels vs)) (sym same) ∙ e) in
    absurd cc
value_here texts vs values x name (Constant w) (Number y) c v shown suits of has stand m e =
    absurd shown
value_here texts vs values x name (Named other) (Number y) c v shown suits of has stand m e =
    let same = eqb-true x y m in
    let named : name ≡ other = same_Some name other (same_Some (Some name) (Some other)
    (sym e ∙ ap (slice_get (labels vs)) same ∙ shown)) in
    let value : values name ≡ v = ap values named ∙ stand in
    record {
      of = ap (λ (z : Value). is_of (column_of vs x) z) value
          ∙ ap (λ (k : ColumnType). is_of k v) (ap (column_of vs) same ∙ suits) ∙ of;
      has = subst (HasCell texts) (sym value) has;
      is = refl;
    }

value_among : (texts : List Bytes) (vs : List Variable) (values : Bytes → Value) (x : ℕ)
    (name : Bytes) (ts : List Term) (ns : List NumberedTerm) (cs : List ColumnType) (row : Tuple)
    → TermsAreShown (labels vs) ts ns → TermsSuit texts vs ns cs → fits cs row ≡ true
    → HaveCells texts row → StandForAll values ts row → list_any (is_number x) ns ≡ true
    → slice_get (labels vs) x ≡ Some (Some name)
    → CellStandsFor texts (column_of vs x) (cell_for texts (values name)) (values name)
value_among texts vs values x name ts [] cs row shown suits f h stand m e = absurd (false≢true m)
value_among texts vs values x name [] (n ∷ ns) cs row shown suits f h stand m e = absurd shown
value_among texts vs values x name (t ∷ ts) (n ∷ ns) [] row shown suits f h stand m e = absurd suits
value_among texts vs values x name (t ∷ ts) (n ∷ ns) (c ∷ cs) [] shown suits f h stand m e =
    absurd stand
value_among texts vs values x name (t ∷ ts) (n ∷ ns) (c ∷ cs) (v ∷ row) shown suits f h stand m e =
    let p = and_parts (is_of c v) (fits cs row) f in
    elim (or_cases (is_number x n) (list_any (is_number x) ns) m) [
      | inl here ↦ value_here texts vs values x name t n c v shown.0 suits.0 p.0 h.0 stand.0 here e
      | inr there ↦ value_among texts vs values x name ts ns cs row shown.1 suits.1 p.1 h.1 stand.1
          there e
    ]

pub value_in : (c : Catalog) (vs : List Variable) (values : Bytes → Value) (x : ℕ) (name : Bytes)
    (atoms : List Atom) (ms : List NumberedAtom) (rows : List Tuple) (j : ℕ) (m : NumberedAtom)
    → IsCatalog c → AreAtomsOf c vs atoms ms → AreRowsFor c values atoms ms rows
    → slice_get ms j ≡ Some m → list_any (is_number x) m.terms ≡ true
    → slice_get (labels vs) x ≡ Some (Some name)
    → CellStandsFor c.texts (column_of vs x) (cell_for c.texts (values name)) (values name)
value_in c vs values x name [] [] rows j m h are for e has named = absurd cc
value_in c vs values x name [] (n ∷ ms) rows j m h are for e has named = absurd are
value_in c vs values x name (a ∷ atoms) [] rows j m h are for e has named = absurd are
value_in c vs values x name (a ∷ atoms) (n ∷ ms) [] j m h are for e has named = absurd for
value_in c vs values x name (a ∷ atoms) (n ∷ ms) (row ∷ rows) zero m h are for e has named =
    value_among c.texts vs values x name a.terms n.terms (relation_at c.relations n.relation).types
    row are.0.shown are.0.suited (row_fits c vs a n row h are.0 for.0)
    (row_cells c vs a n row h are.0 for.0) for.1
    (ap (λ (k : NumberedAtom). list_any (is_number x) k.terms) (same_Some n m e) ∙ has) named
value_in c vs values x name (a ∷ atoms) (n ∷ ms) (row ∷ rows) (suc j) m h are for e has named =
    value_in c vs values x name atoms ms rows j m h are.1 for.2 e has named
