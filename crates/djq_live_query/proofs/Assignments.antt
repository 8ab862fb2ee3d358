-- What a leaf holds, said of assignments, and comparisons of their cells.
use Rattle.std.proofs.Common.{◌≡◌, ℕ, suc, ◌<◌, true, List, [], ◌∷◌, map, refl, ap, ap₂, sym, subst, ◌∙◌, inl, inr}
use Rattle.std.proofs.Common.{arith, zero, Bool, false}
use Rattle.std.specs.Prelude.{◌↔◌, ◌==◌, All, Contains, slice_index, not, Some, slice_get}
use Rattle.std.specs.List.{list_any, position_or_len}
use Rattle.std.proofs.lemmas.Bool.{cases_Bool, cases_eq, eq-eqb, ne_eqb, eqb-true, false≢true, or_cases, or_left}
use Rattle.std.proofs.lemmas.Bool.{or_right}
use Rattle.std.proofs.lemmas.List.{length-map}
use Rattle.std.proofs.lemmas.List.Elements.{All-cons}
use Rattle.std.specs.Int.{w64}
use Rattle.std.specs.Int.Signed.{lt_z}
use Rattle.std.proofs.lemmas.Int.{to_z-of_z}
use Rattle.djq_hypergraph.specs.Hypergraph.{member}
use Rattle.djq_model.specs.declared.relation.ColumnType.{ColumnType}
use Rattle.djq_model.specs.declared.relation.ColumnType.TheVariants.{Int as IntColumn, Text as TextColumn}
use Rattle.djq_model.specs.declared.value.Value.{Value}
use Rattle.djq_model.specs.declared.value.Value.TheVariants.{Int, Text}
use Rattle.djq_model.specs.declared.query.Atom.{Atom}
use Rattle.djq_model.specs.declared.query.Comparison.{Comparison}
use Rattle.djq_model.specs.declared.query.Operator.{Operator}
use Rattle.djq_model.specs.declared.query.Operator.TheVariants.{Less, LessOrEqual, Greater, GreaterOrEqual, Equal}
use Rattle.djq_model.specs.declared.query.Operator.TheVariants.{NotEqual}
use Rattle.djq_model.specs.Data.{Bytes, Tuple, value_eq}
use Rattle.djq_model.specs.Equality.{value_eq-decides}
use Rattle.djq_model.specs.Answer.{compares, HoldsOf}
use Rattle.djq_model.specs.Typed.{is_of}
use Rattle.djq_index.specs.Entries.{Entry, count_of}
use Rattle.djq_union.proofs.Merges.{at_head, none_contained}
use Rattle.djq_protocol.specs.QueryFault.{has_order}
use Rattle.djq_database.specs.Cells.{cell_for, cells_of, HasCell, CellStandsFor}
use Rattle.djq_database.specs.Catalog.{Catalog, IsCatalog}
use Rattle.djq_database.specs.Parts.{value_of}
use Rattle.djq_database.proofs.Cells.{value_back, stands_back}
use Rattle.djq_query.specs.declared.numbered.NumberedTerm.{NumberedTerm}
use Rattle.djq_query.specs.declared.numbered.NumberedTerm.TheVariants.{Variable as Number, Constant as Fixed}
use Rattle.djq_query.specs.declared.numbered.NumberedAtom.{NumberedAtom}
use Rattle.djq_query.specs.declared.numbered.NumberedComparison.{NumberedComparison}
use Rattle.djq_query.specs.declared.pattern.Test.{Test}
use Rattle.djq_query.specs.declared.numbered.Variable.{Variable}
use Rattle.djq_query.specs.Numbered.{is_number, labels}
use Rattle.djq_query.specs.Pattern.{Shape, GivesRow, Passes, bound, filled, passes, slot_of, cell_of, test_of, tests_of}
use Rattle.djq_binder.specs.Asked.{constants_in, column_of, is_in, AreAtomsOf, IsComparisonOf, AreComparisonsOf}
use Rattle.djq_binder.proofs.EdgeOrder.{in_cons, in_rest}
use Rattle.djq_leaves.specs.Cells.{AreRowOf, cell_under, IsPassed, IsSatisfied}
use Rattle.djq_leaves.specs.Leaves.{AreCellsOfTerms, GivesOne, IsPatternOf, IsLeafOf}
use Rattle.djq_live_query.proofs.Atoms.{AreSatisfied, AreRowsFor, cell_at, value_in, HasNames, HasOne, value_by}
use Rattle.djq_live_query.proofs.Atoms.{value_by_is}

-- ---- What a leaf holds, said of assignments.

place_on : (y : ℕ) (l : List ℕ) (x : ℕ) → (y ≡ x → ⊥)
    → position_or_len (λ z. z == x) (y ∷ l) ≡ suc (position_or_len (λ z. z == x) l)
place_on y l x apart = rw (ne_eqb y x apart) (omega arith)

place_there : (a : ℕ → ℕ) (l : List ℕ) (x : ℕ) → member x l ≡ true
    → slice_index (map a l) (position_or_len (λ y. y == x) l) ≡ a x
place_there a [] x m = absurd (false≢true m)
place_there a (y ∷ l) x m =
    elim (cases_eq x y) [
      | inl same ↦ rw (eq-eqb y x (sym same)) (ap a (sym same))
      | inr apart ↦
          let n : member x l ≡ true = elim (or_cases (x == y) (member x l) m)
          [ inl k ↦ absurd (apart (eqb-true x y k)) | inr k ↦ k ] in
          ap (λ (i : ℕ). slice_index (a y ∷ map a l) i) (place_on y l x (λ e. apart (sym e)))
          ∙ place_there a l x n
    ]

-- a row that is put into the atom gives the cells of its terms
filled_row : (texts : List Bytes) (a : ℕ → ℕ) (l : List ℕ) (ts : List NumberedTerm) (cs : List ℕ)
    → AreCellsOfTerms texts ts cs
    → ((x : ℕ) → list_any (is_number x) ts ≡ true → member x l ≡ true)
    → filled (map a l) (bound l ts cs) ≡ map (cell_under texts a) ts
unfolding filled bound slot_of cell_of
filled_row texts a l [] [] h w = refl
filled_row texts a l [] (c ∷ cs) h w = absurd h
filled_row texts a l (t ∷ ts) [] h w = absurd h
filled_row texts a l (Number x ∷ ts) (c ∷ cs) h w =
    ap₂ (λ (d : ℕ) (ds : List ℕ). d ∷ ds)
    (place_there a l x (w x (or_left (x == x) (list_any (is_number x) ts) (eq-eqb x x refl))))
    (filled_row texts a l ts cs h.1 (λ y m. w y (or_right (y == x) (list_any (is_number y) ts) m)))
filled_row texts a l (Fixed v ∷ ts) (c ∷ cs) h w =
    ap₂ (λ (d : ℕ) (ds : List ℕ). d ∷ ds) h.0 (filled_row texts a l ts cs h.1 w)

pub pattern_row : (c : Catalog) (l : List ℕ) (ks : List NumberedComparison) (m : NumberedAtom)
    (p : Shape) (a : ℕ → ℕ) → IsPatternOf c.texts l ks m p
    → filled (map a l) p.slots ≡ map (cell_under c.texts a) m.terms
pattern_row c l ks m p a h =
    ap (λ ss. filled (map a l) ss) h.slots
    ∙ filled_row c.texts a l m.terms h.cells h.are (λ x s. h.variables x ∙ s)

-- ---- the tests of a pattern

-- an assignment passes the comparisons whose variable is among these
abbrev pub ArePassedIn : List Bytes → List ℕ → List NumberedComparison → (ℕ → ℕ) → Type 0
ArePassedIn texts l ks a = (k : NumberedComparison) → Contains ks k → member k.variable l ≡ true
    → IsPassed texts a k

-- the test of a comparison is passed where the comparison is
place_passes : (texts : List Bytes) (a : ℕ → ℕ) (l : List ℕ) (k : NumberedComparison)
    → member k.variable l ≡ true
    → passes k.operator (slice_index (map a l) (position_or_len (λ y. y == k.variable) l))
    (cell_for texts k.constant)
    ≡ passes k.operator (a k.variable) (cell_for texts k.constant)
place_passes texts a l k m =
    ap (λ (cell : ℕ). passes k.operator cell (cell_for texts k.constant))
    (place_there a l k.variable m)

tests_passed : (texts : List Bytes) (a : ℕ → ℕ) (l : List ℕ) (ks : List NumberedComparison)
    → All (Passes (map a l)) (tests_of l ks (cells_of texts (constants_in ks)))
    → ArePassedIn texts l ks a
unfolding tests_of test_of
tests_passed texts a l [] h k c m = absurd (none_contained k c)
tests_passed texts a l (n ∷ ks) h k c m =
    let t : Test = record {
      place = position_or_len (λ y. y == n.variable) l;
      operator = n.operator;
      cell = cell_for texts n.constant;
    } in
    let ts = tests_of l ks (cells_of texts (constants_in ks)) in
    elim (cases_Bool (member n.variable l)) [
      | inl is ↦
          let all : All (Passes (map a l)) (t ∷ ts) = rw is at h in
          elim (in_cons n k ks c) [
            | inl here ↦
                subst (λ (j : NumberedComparison). IsPassed texts a j) here
                (sym (place_passes texts a l n is) ∙ all 0 t (omega arith))
            | inr there ↦
                tests_passed texts a l ks (λ i d low. all (suc i) d (omega arith)) k there m
          ]
      | inr isnt ↦
          let all : All (Passes (map a l)) ts = rw isnt at h in
          elim (in_cons n k ks c) [
            | inl here ↦ absurd
                (false≢true
                (sym isnt ∙ ap (λ (j : NumberedComparison). member j.variable l) here ∙ m))
            | inr there ↦ tests_passed texts a l ks all k there m
          ]
    ]

passes_tests : (texts : List Bytes) (a : ℕ → ℕ) (l : List ℕ) (ks : List NumberedComparison)
    → ArePassedIn texts l ks a
    → All (Passes (map a l)) (tests_of l ks (cells_of texts (constants_in ks)))
unfolding tests_of test_of
passes_tests texts a l [] h = λ i d low. absurd (omega arith)
passes_tests texts a l (n ∷ ks) h =
    let t : Test = record {
      place = position_or_len (λ y. y == n.variable) l;
      operator = n.operator;
      cell = cell_for texts n.constant;
    } in
    let ts = tests_of l ks (cells_of texts (constants_in ks)) in
    let rest = passes_tests texts a l ks (λ k c m. h k (in_rest n k ks c) m) in
    elim (cases_Bool (member n.variable l)) [
      | inl is ↦ rw is
          (All-cons (Passes (map a l)) t ts
          (place_passes texts a l n is ∙ h n (at_head n ks) is) rest)
      | inr isnt ↦ rw isnt rest
    ]

-- ---- a tuple and its row

-- the tuple of an assignment that passes gives the cells of the atom's terms
pub pattern_gives : (c : Catalog) (l : List ℕ) (ks : List NumberedComparison) (m : NumberedAtom)
    (p : Shape) (a : ℕ → ℕ) → IsPatternOf c.texts l ks m p → ArePassedIn c.texts l ks a
    → GivesRow p (map a l) (map (cell_under c.texts a) m.terms)
pattern_gives c l ks m p a h passed = record {
  wide = length-map l a ∙ sym h.width;
  fills = pattern_row c l ks m p a h;
  passes = subst (λ (ts : List Test). All (Passes (map a l)) ts) (sym h.tests)
      (passes_tests c.texts a l ks passed);
}

-- an assignment whose tuple gives a row of the relation satisfies the atom, and passes
pub given_both : (c : Catalog) (l : List ℕ) (ks : List NumberedComparison) (m : NumberedAtom)
    (p : Shape) (a : ℕ → ℕ) → IsPatternOf c.texts l ks m p
    → GivesOne (AreRowOf c m.relation) p (map a l) → IsSatisfied c a m × ArePassedIn c.texts l ks a
given_both c l ks m p a h one = (
  subst (λ (cells : List ℕ). AreRowOf c m.relation cells)
      (sym one.gives.fills ∙ pattern_row c l ks m p a h) one.row,
  tests_passed c.texts a l ks
      (subst (λ (ts : List Test). All (Passes (map a l)) ts) h.tests one.gives.passes),
)

-- an assignment's row is in the leaf exactly where the assignment satisfies the atom and passes
pub leaf_says : (c : Catalog) (l : List ℕ) (ks : List NumberedComparison) (m : NumberedAtom)
    (p : Shape) (es : List Entry) (a : ℕ → ℕ) → IsLeafOf c l ks m p es
    → (0 < count_of es (map a l)) ↔ (IsSatisfied c a m × ArePassedIn c.texts l ks a)
leaf_says c l ks m p es a h = (
  λ there. given_both c l ks m p a h.pattern ((h.holds.exact (map a l)).0 there),
  λ is. (h.holds.exact (map a l)).1
      (record {
        cells = map (cell_under c.texts a) m.terms;
        row = is.0;
        gives = pattern_gives c l ks m p a h.pattern is.1;
      }),
)

-- ---- Comparisons of values, and of the cells that stand for them.

-- ---- one comparison

-- two tests of which each says what the other one does
same_test : (a b : Bool) → (a ≡ true → b ≡ true) → (b ≡ true → a ≡ true) → a ≡ b
same_test true true h k = refl
same_test false false h k = refl
same_test true false h k = absurd (false≢true (h refl))
same_test false true h k = absurd (false≢true (k refl))

-- cells of values of one type are the same exactly where the values are
cells_equal : (texts : List Bytes) (t : ColumnType) (v w : Value) → is_of t v ≡ true
    → is_of t w ≡ true → HasCell texts v → HasCell texts w
    → (cell_for texts v == cell_for texts w) ≡ value_eq v w
cells_equal texts t v w of same has also =
    same_test (cell_for texts v == cell_for texts w) (value_eq v w)
    (λ e. (value_eq-decides v w).1
    (sym (value_back texts t v of has)
    ∙ ap (value_of texts t) (eqb-true (cell_for texts v) (cell_for texts w) e)
    ∙ value_back texts t w same also))
    (λ e. eq-eqb (cell_for texts v) (cell_for texts w)
    (ap (cell_for texts) ((value_eq-decides v w).0 e)))

passes_as : (texts : List Bytes) (o : Operator) (t : ColumnType) (v w : Value)
    → is_of t v ≡ true → is_of t w ≡ true → has_order o t ≡ true → HasCell texts v
    → HasCell texts w → passes o (cell_for texts v) (cell_for texts w) ≡ compares o v w
passes_as texts Equal t v w of same order has also = cells_equal texts t v w of same has also
passes_as texts NotEqual t v w of same order has also =
    ap (λ (b : Bool). not b) (cells_equal texts t v w of same has also)
passes_as texts Less IntColumn (Int i) (Int j) of same order has also =
    ap₂ lt_z (to_z-of_z w64 i has) (to_z-of_z w64 j also)
passes_as texts LessOrEqual IntColumn (Int i) (Int j) of same order has also =
    ap (λ (b : Bool). not b) (ap₂ lt_z (to_z-of_z w64 j also) (to_z-of_z w64 i has))
passes_as texts Greater IntColumn (Int i) (Int j) of same order has also =
    ap₂ lt_z (to_z-of_z w64 j also) (to_z-of_z w64 i has)
passes_as texts GreaterOrEqual IntColumn (Int i) (Int j) of same order has also =
    ap (λ (b : Bool). not b) (ap₂ lt_z (to_z-of_z w64 i has) (to_z-of_z w64 j also))
passes_as texts Less IntColumn (Text s) w of same order has also = absurd (false≢true of)
passes_as texts LessOrEqual IntColumn (Text s) w of same order has also = absurd (false≢true of)
passes_as texts Greater IntColumn (Text s) w of same order has also = absurd (false≢true of)
passes_as texts GreaterOrEqual IntColumn (Text s) w of same order has also = absurd (false≢true of)
passes_as texts Less IntColumn (Int i) (Text s) of same order has also = absurd (false≢true same)
passes_as texts LessOrEqual IntColumn (Int i) (Text s) of same order has also =
    absurd (false≢true same)
passes_as texts Greater IntColumn (Int i) (Text s) of same order has also =
    absurd (false≢true same)
passes_as texts GreaterOrEqual IntColumn (Int i) (Text s) of same order has also =
    absurd (false≢true same)
passes_as texts Less TextColumn v w of same order has also = absurd (false≢true order)
passes_as texts LessOrEqual TextColumn v w of same order has also = absurd (false≢true order)
passes_as texts Greater TextColumn v w of same order has also = absurd (false≢true order)
passes_as texts GreaterOrEqual TextColumn v w of same order has also = absurd (false≢true order)

-- a cell that stands for a value passes exactly where the value does
passes_value : (texts : List Bytes) (o : Operator) (t : ColumnType) (cell : ℕ) (v w : Value)
    → CellStandsFor texts t cell v → is_of t w ≡ true → has_order o t ≡ true → HasCell texts w
    → passes o cell (cell_for texts w) ≡ compares o v w
passes_value texts o t cell v w s same order also =
    ap (λ (k : ℕ). passes o k (cell_for texts w)) s.is
    ∙ passes_as texts o t v w s.of same order s.has also

-- ---- the atom that has a comparison's variable

pub record IsInOne (ms : List NumberedAtom) (x : ℕ) : Type 0 where
  pub place : ℕ
  pub atom : NumberedAtom
  pub at : slice_get ms place ≡ Some atom
  pub has : list_any (is_number x) atom.terms ≡ true

pub in_one : (ms : List NumberedAtom) (x : ℕ) → is_in ms x ≡ true → IsInOne ms x
in_one [] x has = absurd (false≢true has)
in_one (m ∷ ms) x has =
    elim (or_cases (list_any (is_number x) m.terms) (is_in ms x) has) [
      | inl here ↦ record { place = 0; atom = m; at = refl; has = here }
      | inr there ↦
          let r = in_one ms x there in
          record { place = suc r.place; atom = r.atom; at = r.at; has = r.has }
    ]

-- ---- all comparisons

-- an assignment passes each of them
abbrev pub ArePassed : List Bytes → (ℕ → ℕ) → List NumberedComparison → Type 0
ArePassed texts a ns = (n : NumberedComparison) → Contains ns n → IsPassed texts a n

-- so it does where it passes them at the atoms that have their variables
pub passed_all : (texts : List Bytes) (vs : List Variable) (ms : List NumberedAtom)
    (ks : List Comparison) (ns : List NumberedComparison) (a : ℕ → ℕ)
    → AreComparisonsOf texts vs ms ks ns
    → ((j : ℕ) (m : NumberedAtom) (n : NumberedComparison) → slice_get ms j ≡ Some m
    → Contains ns n → list_any (is_number n.variable) m.terms ≡ true → IsPassed texts a n)
    → ArePassed texts a ns
passed_all texts vs ms [] [] a are h n c = absurd (none_contained n c)
passed_all texts vs ms [] (b ∷ ns) a are h n c = absurd are
passed_all texts vs ms (k ∷ ks) [] a are h n c = absurd are
passed_all texts vs ms (k ∷ ks) (b ∷ ns) a are h n c =
    elim (in_cons b n ns c) [
      | inl here ↦
          let at = in_one ms b.variable are.0.stands in
          subst (λ (x : NumberedComparison). IsPassed texts a x) here
          (h at.place at.atom b at.at (at_head b ns) at.has)
      | inr there ↦ passed_all texts vs ms ks ns a are.1
          (λ j m x e d has. h j m x e (in_rest b x ns d) has) n there
    ]

-- ---- from cells to values

hold_one : (c : Catalog) (vs : List Variable) (a : ℕ → ℕ) (atoms : List Atom)
    (ms : List NumberedAtom) (k : Comparison) (n : NumberedComparison) → IsCatalog c → HasOne vs
    → AreAtomsOf c vs atoms ms → AreSatisfied c a ms → IsComparisonOf c.texts vs ms k n
    → IsPassed c.texts a n → HoldsOf (value_by c.texts vs a) k
hold_one c vs a atoms ms k n h one are sat is passed =
    let x = n.variable in
    let at = in_one ms x is.stands in
    let cell = cell_at c vs a x atoms ms at.place at.atom h are sat at.at at.has in
    let value : value_by c.texts vs a k.variable ≡ cell.value =
    value_by_is c.texts vs a x k.variable one is.shown.variable
    ∙ stands_back c.texts (column_of vs x) (a x) cell.value cell.stands in
    ap (λ (v : Value). compares k.operator v k.constant) value
    ∙ sym (ap₂ (λ (o : Operator) (w : Value). compares o cell.value w) is.shown.operator
    is.shown.constant)
    ∙ sym (passes_value c.texts n.operator (column_of vs x) (a x) cell.value n.constant
    cell.stands is.of is.ordered is.has)
    ∙ passed

pub hold_all : (c : Catalog) (vs : List Variable) (a : ℕ → ℕ) (atoms : List Atom)
    (ms : List NumberedAtom) (ks : List Comparison) (ns : List NumberedComparison) → IsCatalog c
    → HasOne vs → AreAtomsOf c vs atoms ms → AreSatisfied c a ms
    → AreComparisonsOf c.texts vs ms ks ns → ArePassed c.texts a ns
    → All (HoldsOf (value_by c.texts vs a)) ks
hold_all c vs a atoms ms [] [] h one are sat is passed i d low = absurd (omega arith)
hold_all c vs a atoms ms [] (n ∷ ns) h one are sat is passed i d low = absurd is
hold_all c vs a atoms ms (k ∷ ks) [] h one are sat is passed i d low = absurd is
hold_all c vs a atoms ms (k ∷ ks) (n ∷ ns) h one are sat is passed zero d low =
    hold_one c vs a atoms ms k n h one are sat is.0 (passed n (at_head n ns))
hold_all c vs a atoms ms (k ∷ ks) (n ∷ ns) h one are sat is passed (suc i) d low =
    hold_all c vs a atoms ms ks ns h one are sat is.1 (λ x e. passed x (in_rest n x ns e)) i d
    (omega arith)

-- ---- from values to cells

pass_one : (c : Catalog) (vs : List Variable) (values : Bytes → Value) (a : ℕ → ℕ)
    (atoms : List Atom) (ms : List NumberedAtom) (rows : List Tuple) (k : Comparison)
    (n : NumberedComparison) → IsCatalog c → AreAtomsOf c vs atoms ms
    → AreRowsFor c values atoms ms rows → HasNames c.texts (labels vs) values a
    → IsComparisonOf c.texts vs ms k n → HoldsOf values k → IsPassed c.texts a n
pass_one c vs values a atoms ms rows k n h are for names is holds =
    let x = n.variable in
    let at = in_one ms x is.stands in
    let s = value_in c vs values x k.variable atoms ms rows at.place at.atom h are for at.at at.has
    is.shown.variable in
    ap (λ (cell : ℕ). passes n.operator cell (cell_for c.texts n.constant))
    (names x k.variable is.shown.variable)
    ∙ passes_value c.texts n.operator (column_of vs x) (cell_for c.texts (values k.variable))
    (values k.variable) n.constant s is.of is.ordered is.has
    ∙ ap₂ (λ (o : Operator) (w : Value). compares o (values k.variable) w) is.shown.operator
    is.shown.constant
    ∙ holds

pub pass_all : (c : Catalog) (vs : List Variable) (values : Bytes → Value) (a : ℕ → ℕ)
    (atoms : List Atom) (ms : List NumberedAtom) (rows : List Tuple) (ks : List Comparison)
    (ns : List NumberedComparison) → IsCatalog c → AreAtomsOf c vs atoms ms
    → AreRowsFor c values atoms ms rows → HasNames c.texts (labels vs) values a
    → AreComparisonsOf c.texts vs ms ks ns → All (HoldsOf values) ks → ArePassed c.texts a ns
pass_all c vs values a atoms ms rows [] [] h are for names is holds n e = absurd (none_contained n e)
pass_all c vs values a atoms ms rows [] (b ∷ ns) h are for names is holds n e = absurd is
pass_all c vs values a atoms ms rows (k ∷ ks) [] h are for names is holds n e = absurd is
pass_all c vs values a atoms ms rows (k ∷ ks) (b ∷ ns) h are for names is holds n e =
    elim (in_cons b n ns e) [
      | inl here ↦
          subst (λ (x : NumberedComparison). IsPassed c.texts a x) here
          (pass_one c vs values a atoms ms rows k b h are for names is.0
          (holds 0 k (omega arith)))
      | inr there ↦ pass_all c vs values a atoms ms rows ks ns h are for names is.1
          (λ i d low. holds (suc i) d (omega arith)) n there
    ]
