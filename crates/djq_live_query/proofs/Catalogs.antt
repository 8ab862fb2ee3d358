-- A query over a later catalog, and its leaves once rows have changed.
use Rattle.std.proofs.Common.{◌≡◌, ℕ, zero, suc, ◌<◌, List, [], ◌∷◌, ◌++◌, length, refl, ap, ◌∙◌, arith, sym, subst}
use Rattle.std.proofs.Common.{true, inl, inr}
use Rattle.std.specs.Prelude.{⊤, All, Option, None, Some, IsSomeAnd, option_to_list, slice_index, slice_get}
use Rattle.std.specs.Prelude.{slice_index_or, Contains}
use Rattle.std.specs.List.{AllByRecursion}
use Rattle.std.proofs.lemmas.List.Elements.{All-nil, All-cons, Contains-append_cases, Contains-append_left}
use Rattle.std.proofs.lemmas.List.Elements.{Contains-append_right, All-contains, All-contains_itself}
use Rattle.std.proofs.lemmas.List.Kept.{AllPairs-cons}
use Rattle.std.proofs.lemmas.Option.{same_Some}
use Rattle.std.proofs.lemmas.Bool.{cases_eq, cases_Bool}
use Rattle.djq_hypergraph.specs.Hypergraph.{member}
use Rattle.djq_model.specs.declared.relation.ColumnType.{ColumnType}
use Rattle.djq_model.specs.declared.query.Query.{Query}
use Rattle.djq_model.specs.declared.query.Atom.{Atom}
use Rattle.djq_model.specs.declared.query.Comparison.{Comparison}
use Rattle.djq_model.specs.Answer.{AreDifferent}
use Rattle.djq_model.specs.Data.{Bytes, Tuple, tuple_eq, without_row}
use Rattle.djq_model.proofs.Copies.{rest_differ}
use Rattle.djq_model.specs.Typed.{fits}
use Rattle.djq_index.specs.Entries.{Entry}
use Rattle.djq_tree.specs.Labels.{label_at}
use Rattle.djq_tree.specs.Tree.{Tree}
use Rattle.djq_union.proofs.Merges.{at_head, none_contained}
use Rattle.djq_reduct.specs.Tables.{entries_at}
use Rattle.djq_reduct.specs.Reducts.{Reducts}
use Rattle.djq_database.specs.Cells.{cells_of, HaveCells}
use Rattle.djq_database.specs.Catalog.{Catalog, relation_at, IsCatalog, StandForRow, no_relation, rows_at}
use Rattle.djq_database.proofs.Cells.{stay, differ as cells_differ, has_more, cell_more}
use Rattle.djq_query.specs.declared.numbered.Variable.{Variable}
use Rattle.djq_query.specs.declared.numbered.NumberedTerm.{NumberedTerm}
use Rattle.djq_query.specs.declared.numbered.NumberedTerm.TheVariants.{Variable as Number, Constant as Fixed}
use Rattle.djq_query.specs.declared.numbered.NumberedAtom.{NumberedAtom}
use Rattle.djq_query.specs.declared.numbered.NumberedComparison.{NumberedComparison}
use Rattle.djq_query.specs.Numbered.{Numbered}
use Rattle.djq_query.specs.Pattern.{Shape, tests_of}
use Rattle.djq_binder.specs.Asked.{TermsSuit, IsAtomOf, AreAtomsOf, AreComparisonsOf, IsAsked, constants_in}
use Rattle.djq_binder.proofs.EdgeOrder.{first_different, in_rest, in_cons, in_without, still_in}
use Rattle.djq_leaves.specs.Leaves.{AreCellsOfTerms, IsPatternOf, Holds, IsLeafOf, IsOver}
use Rattle.djq_leaves.specs.Changes.{IsLater, CameAll, StandForRows, WentAll, GainsAll, LosesAll, KeepsTuples}
use Rattle.djq_leaves.specs.Changes.{OverStays, OverGains, OverLoses, without_rows}
use Rattle.djq_leaves.specs.Cells.{AreRowOf}
use Rattle.djq_leaves.proofs.LeafRows.{gives_once, gives_same, one_as}
use Rattle.djq_live_query.specs.declared.live.LiveQuery.TheInside.{Inside}
use Rattle.djq_live_query.specs.Live.{Live, IsKeptSomewhere}
use Rattle.djq_live_query.specs.Member.{query_at, queries_at, QueriesAreKept}

-- ---- The queries in places.

one_more : (o : Option Live) (rest : List Live) → IsSomeAnd o (λ l. ⊤)
    → length (option_to_list o ++ rest) ≡ suc (length rest)
one_more None rest h = absurd h
one_more (Some l) rest h = refl

pub as_many : (qs : List (Option Live)) (ks : List ℕ)
    → AllByRecursion (λ k. IsSomeAnd (query_at qs k) (λ l. ⊤)) ks
    → length (queries_at qs ks) ≡ length ks
as_many qs [] h = refl
as_many qs (k ∷ ks) h = one_more (query_at qs k) (queries_at qs ks) h.0 ∙ ap suc (as_many qs ks h.1)

first_is : (o : Option Live) (rest : List Live) → IsSomeAnd o (λ l. ⊤)
    → slice_get (option_to_list o ++ rest) 0 ≡ o
first_is None rest h = absurd h
first_is (Some l) rest h = refl

later_is : (o : Option Live) (rest : List Live) (i : ℕ) → IsSomeAnd o (λ l. ⊤)
    → slice_get (option_to_list o ++ rest) (suc i) ≡ slice_get rest i
later_is None rest i h = absurd h
later_is (Some l) rest i h = refl

-- the query in the place at a number
pub nth_is : (qs : List (Option Live)) (ks : List ℕ) (i : ℕ)
    → AllByRecursion (λ k. IsSomeAnd (query_at qs k) (λ l. ⊤)) ks → i < length ks
    → slice_get (queries_at qs ks) i ≡ query_at qs (slice_index ks i)
nth_is qs [] i h low = absurd (omega arith)
nth_is qs (k ∷ ks) zero h low = first_is (query_at qs k) (queries_at qs ks) h.0
nth_is qs (k ∷ ks) (suc i) h low =
    later_is (query_at qs k) (queries_at qs ks) i h.0 ∙ nth_is qs ks i h.1 (omega arith)

pub nth_has : (qs : List (Option Live)) (ks : List ℕ) (i : ℕ)
    → AllByRecursion (λ k. IsSomeAnd (query_at qs k) (λ l. ⊤)) ks → i < length ks
    → IsSomeAnd (query_at qs (slice_index ks i)) (λ l. ⊤)
nth_has qs [] i h low = absurd (omega arith)
nth_has qs (k ∷ ks) zero h low = h.0
nth_has qs (k ∷ ks) (suc i) h low = nth_has qs ks i h.1 (omega arith)

kept_more : (o : Option Live) (rest : List Live) → ((l : Live) → o ≡ Some l → IsKeptSomewhere l)
    → All IsKeptSomewhere rest → All IsKeptSomewhere (option_to_list o ++ rest)
kept_more None rest h all = all
kept_more (Some l) rest h all = All-cons IsKeptSomewhere l rest (h l refl) all

pub are_kept : QueriesAreKept
are_kept qs h [] = All-nil IsKeptSomewhere
are_kept qs h (k ∷ ks) = kept_more (query_at qs k) (queries_at qs ks) (h k) (are_kept qs h ks)

-- ---- A live query by its fields.

-- what contracts see of these fields
abbrev pub live_of : Inside → Live
live_of i = record {
  query = i.query;
  numbered = i.numbered;
  patterns = i.patterns.items;
  reducts = i.reducts;
  cursors = i.cursors;
}

-- ---- A query over a later catalog.

suited_later : (texts more : List Bytes) (vs : List Variable) (ns : List NumberedTerm)
    (cs : List ColumnType) → TermsSuit texts vs ns cs → TermsSuit (texts ++ more) vs ns cs
suited_later texts more vs [] [] h = tt
suited_later texts more vs [] (c ∷ cs) h = absurd h
suited_later texts more vs (n ∷ ns) [] h = absurd h
suited_later texts more vs (Number x ∷ ns) (c ∷ cs) h =
    (h.0, suited_later texts more vs ns cs h.1)
suited_later texts more vs (Fixed v ∷ ns) (c ∷ cs) h =
    ((h.0.0, has_more texts more v h.0.1), suited_later texts more vs ns cs h.1)

bound_later : (texts more : List Bytes) (vs : List Variable) (ns : List NumberedTerm)
    (cs : List ColumnType) (ks : List ℕ) → TermsSuit texts vs ns cs → AreCellsOfTerms texts ns ks
    → AreCellsOfTerms (texts ++ more) ns ks
bound_later texts more vs [] cs [] h are = tt
bound_later texts more vs [] cs (k ∷ ks) h are = absurd are
bound_later texts more vs (n ∷ ns) cs [] h are = absurd are
bound_later texts more vs (n ∷ ns) [] (k ∷ ks) h are = absurd h
bound_later texts more vs (Number x ∷ ns) (c ∷ cs) (k ∷ ks) h are =
    (tt, bound_later texts more vs ns cs ks h.1 are.1)
bound_later texts more vs (Fixed v ∷ ns) (c ∷ cs) (k ∷ ks) h are =
    (are.0 ∙ sym (cell_more texts more v h.0.1), bound_later texts more vs ns cs ks h.1 are.1)

atom_later : (c d : Catalog) (vs : List Variable) (a : Atom) (m : NumberedAtom) → IsLater c d
    → IsAtomOf c vs a m → IsAtomOf d vs a m
atom_later c d vs a m l h = record {
  below = (let low = h.below in let long = l.long in omega arith);
  named = l.named m.relation h.below ∙ h.named;
  shown = h.shown;
  suited = subst (λ (cs : List ColumnType). TermsSuit d.texts vs m.terms cs)
      (sym (l.typed m.relation h.below))
      (subst (λ (texts : List Bytes). TermsSuit texts vs m.terms
      (relation_at c.relations m.relation).types) (sym l.texts)
      (suited_later c.texts l.more vs m.terms (relation_at c.relations m.relation).types h.suited));
}

atoms_later : (c d : Catalog) (vs : List Variable) (atoms : List Atom) (ms : List NumberedAtom)
    → IsLater c d → AreAtomsOf c vs atoms ms → AreAtomsOf d vs atoms ms
atoms_later c d vs [] [] l h = tt
atoms_later c d vs [] (m ∷ ms) l h = absurd h
atoms_later c d vs (a ∷ atoms) [] l h = absurd h
atoms_later c d vs (a ∷ atoms) (m ∷ ms) l h =
    (atom_later c d vs a m l h.0, atoms_later c d vs atoms ms l h.1)

comparisons_later : (texts more : List Bytes) (vs : List Variable) (ms : List NumberedAtom)
    (ks : List Comparison) (ns : List NumberedComparison) → AreComparisonsOf texts vs ms ks ns
    → AreComparisonsOf (texts ++ more) vs ms ks ns
comparisons_later texts more vs ms [] [] h = tt
comparisons_later texts more vs ms [] (n ∷ ns) h = absurd h
comparisons_later texts more vs ms (k ∷ ks) [] h = absurd h
comparisons_later texts more vs ms (k ∷ ks) (n ∷ ns) h = (
  record {
    shown = h.0.shown;
    stands = h.0.stands;
    of = h.0.of;
    ordered = h.0.ordered;
    has = has_more texts more n.constant h.0.has;
  },
  comparisons_later texts more vs ms ks ns h.1,
)

-- the constants of a query's comparisons have cells
pub constants_have : (texts : List Bytes) (vs : List Variable) (ms : List NumberedAtom)
    (ks : List Comparison) (ns : List NumberedComparison) → AreComparisonsOf texts vs ms ks ns
    → HaveCells texts (constants_in ns)
constants_have texts vs ms [] [] h = tt
constants_have texts vs ms [] (n ∷ ns) h = absurd h
constants_have texts vs ms (k ∷ ks) [] h = absurd h
constants_have texts vs ms (k ∷ ks) (n ∷ ns) h =
    (h.0.has, constants_have texts vs ms ks ns h.1)

pub asked_later : (c d : Catalog) (q : Query) (n : Numbered) → IsLater c d → IsAsked c q n
    → IsAsked d q n
asked_later c d q n l h = record {
  catalog = l.catalog;
  variables = h.variables;
  atoms = atoms_later c d n.variables q.atoms n.atoms l h.atoms;
  comparisons =
      subst (λ (texts : List Bytes). AreComparisonsOf texts n.variables n.atoms q.comparisons
      n.comparisons) (sym l.texts)
      (comparisons_later c.texts l.more n.variables n.atoms q.comparisons n.comparisons
      h.comparisons);
  one = h.one;
  fresh = h.fresh;
  head = h.head;
  once = h.once;
}

-- the atom that an atom by number stands for
pub record AtomAt (c : Catalog) (vs : List Variable) (atoms : List Atom) (m : NumberedAtom) :
    Type 0 where
  pub atom : Atom
  pub there : Contains atoms atom
  pub is : IsAtomOf c vs atom m

pub atom_at : (c : Catalog) (vs : List Variable) (atoms : List Atom) (ms : List NumberedAtom)
    (j : ℕ) (m : NumberedAtom) → AreAtomsOf c vs atoms ms → slice_get ms j ≡ Some m
    → AtomAt c vs atoms m
atom_at c vs [] [] j m h e = absurd cc
atom_at c vs [] (n ∷ ms) j m h e = absurd h
atom_at c vs (a ∷ atoms) [] j m h e = absurd h
atom_at c vs (a ∷ atoms) (n ∷ ms) zero m h e = record {
  atom = a;
  there = at_head a atoms;
  is = subst (λ (k : NumberedAtom). IsAtomOf c vs a k) (same_Some n m e) h.0;
}
atom_at c vs (a ∷ atoms) (n ∷ ms) (suc j) m h e =
    let r = atom_at c vs atoms ms j m h.1 e in
    record { atom = r.atom; there = in_rest a r.atom atoms r.there; is = r.is }

-- a row has the same cells later on
pub cells_later : (c d : Catalog) (row : Tuple) → IsLater c d → HaveCells c.texts row
    → cells_of d.texts row ≡ cells_of c.texts row
cells_later c d row l h =
    ap (λ (texts : List Bytes). cells_of texts row) l.texts ∙ (stay c.texts l.more row h).1

pub pattern_later : (c d : Catalog) (vs : List Variable) (l : List ℕ)
    (ks : List NumberedComparison) (a : Atom) (m : NumberedAtom) (p : Shape) → IsLater c d
    → IsAtomOf c vs a m → HaveCells c.texts (constants_in ks) → IsPatternOf c.texts l ks m p
    → IsPatternOf d.texts l ks m p
pattern_later c d vs l ks a m p later is have h = record {
  variables = h.variables;
  width = h.width;
  cells = h.cells;
  are = subst (λ (texts : List Bytes). AreCellsOfTerms texts m.terms h.cells) (sym later.texts)
      (bound_later c.texts later.more vs m.terms (relation_at c.relations m.relation).types h.cells
      is.suited h.are);
  slots = h.slots;
  tests = h.tests
      ∙ ap (λ (cells : List ℕ). tests_of l ks cells)
      (sym (cells_later c d (constants_in ks) later have));
}

-- ---- Leaves once rows have changed.

have_cells : (c : Catalog) (at : ℕ) (row : Tuple) → IsCatalog c → at < length c.relations
    → Contains (rows_at c.relations at) row → HaveCells c.texts row
have_cells c at row h low there =
    All-contains (HaveCells c.texts) (rows_at c.relations at) row (h.kept at no_relation low).cells there

row_fits : (c : Catalog) (at : ℕ) (row : Tuple) → IsCatalog c → at < length c.relations
    → Contains (rows_at c.relations at) row → fits (relation_at c.relations at).types row ≡ true
row_fits c at row h low there =
    All-contains (λ r. fits (relation_at c.relations at).types r ≡ true) (rows_at c.relations at) row
    (h.kept at no_relation low).typed there

-- a row of the earlier catalog, against one of the later
pub row_on : (c d : Catalog) (at : ℕ) (cells : List ℕ) → IsCatalog c → IsLater c d
    → at < length c.relations → (is : AreRowOf c at cells)
    → Contains (rows_at d.relations at) is.row
    → AreRowOf d at cells
row_on c d at cells h l low is there = record {
  row = is.row;
  there = there;
  are = is.are ∙ sym (cells_later c d is.row l (have_cells c at is.row h low is.there));
}

row_back : (c d : Catalog) (at : ℕ) (cells : List ℕ) → IsCatalog c → IsLater c d
    → at < length c.relations → (is : AreRowOf d at cells)
    → Contains (rows_at c.relations at) is.row
    → AreRowOf c at cells
row_back c d at cells h l low is there = record {
  row = is.row;
  there = there;
  are = is.are ∙ cells_later c d is.row l (have_cells c at is.row h low there);
}

-- ---- one relation's rows

same_rows : (c d : Catalog) (at : ℕ) (p : Shape) (es fs : List Entry) → IsCatalog c → IsLater c d
    → at < length c.relations → rows_at d.relations at ≡ rows_at c.relations at → KeepsTuples es fs
    → Holds c at p es → Holds d at p fs
same_rows c d at p es fs h l low e keeps holds = record {
  exact = λ u. (
    λ there.
        one_as (AreRowOf c at) (AreRowOf d at) p u
        (λ cells is. row_on c d at cells h l low is
        (subst (λ (rows : List Tuple). Contains rows is.row) (sym e) is.there))
        ((holds.exact u).0 (subst (λ (n : ℕ). 0 < n) (keeps u) there)),
    λ one.
        subst (λ (n : ℕ). 0 < n) (sym (keeps u))
        ((holds.exact u).1
        (one_as (AreRowOf d at) (AreRowOf c at) p u
        (λ cells is. row_back c d at cells h l low is
        (subst (λ (rows : List Tuple). Contains rows is.row) e is.there))
        one)),
  );
}

-- the row that cells stand for, among rows
pub record StandsIn (d : Catalog) (at : ℕ) (new : List Tuple) (cells : List ℕ) : Type 0 where
  pub row : Tuple
  pub there : Contains new row
  pub stand : StandForRow d at cells row

pub stands_in : (d : Catalog) (at : ℕ) (cells : List (List ℕ)) (new : List Tuple) (x : List ℕ)
    → StandForRows d at cells new → Contains cells x → StandsIn d at new x
stands_in d at [] [] x h is = absurd (none_contained x is)
stands_in d at [] (row ∷ new) x h is = absurd h
stands_in d at (k ∷ cells) [] x h is = absurd h
stands_in d at (k ∷ cells) (row ∷ new) x h is =
    elim (in_cons k x cells is) [
      | inl here ↦ record {
        row = row;
        there = at_head row new;
        stand = subst (λ (y : List ℕ). StandForRow d at y row) here h.0;
      }
      | inr there ↦
          let s = stands_in d at cells new x h.1 there in
          record { row = s.row; there = in_rest row s.row new s.there; stand = s.stand }
    ]

cells_in : (d : Catalog) (at : ℕ) (cells : List (List ℕ)) (new : List Tuple) (x : Tuple)
    → StandForRows d at cells new → Contains new x → Contains cells (cells_of d.texts x)
cells_in d at [] [] x h is = absurd (none_contained x is)
cells_in d at [] (row ∷ new) x h is = absurd h
cells_in d at (k ∷ cells) [] x h is = absurd h
cells_in d at (k ∷ cells) (row ∷ new) x h is =
    elim (in_cons row x new is) [
      | inl here ↦
          subst (λ (y : List ℕ). Contains (k ∷ cells) y)
          (h.0.are ∙ ap (λ (r : Tuple). cells_of d.texts r) here) (at_head k cells)
      | inr there ↦ in_rest k (cells_of d.texts x) cells (cells_in d at cells new x h.1 there)
    ]

-- cells of a row that came are those of a row of the later catalog
pub row_new : (c d : Catalog) (at : ℕ) (cells : List (List ℕ)) (new : List Tuple) (x : List ℕ)
    → CameAll c d at cells new → Contains cells x → AreRowOf d at x
row_new c d at cells new x came is =
    let s = stands_in d at cells new x came.stand is in
    record {
      row = s.row;
      there = subst (λ (rows : List Tuple). Contains rows s.row) (sym came.rows)
          (Contains-append_right (rows_at c.relations at) new s.row s.there);
      are = s.stand.are;
    }

came_rows : (c d : Catalog) (at : ℕ) (cells : List (List ℕ)) (new : List Tuple) (p : Shape)
    (es fs : List Entry) → IsCatalog c → at < length c.relations → CameAll c d at cells new
    → GainsAll p cells es fs → Holds c at p es → Holds d at p fs
came_rows c d at cells new p es fs h low came gains holds = record {
  exact = λ u. (
    λ there.
        elim ((gains u).0 there) [
          | inl before ↦
              one_as (AreRowOf c at) (AreRowOf d at) p u
              (λ x is. row_on c d at x h came.later low is
              (subst (λ (rows : List Tuple). Contains rows is.row) (sym came.rows)
              (Contains-append_left (rows_at c.relations at) new is.row is.there)))
              ((holds.exact u).0 before)
          | inr one ↦
              one_as (Contains cells) (AreRowOf d at) p u
              (λ x is. row_new c d at cells new x came is) one
        ],
    λ one.
        let is = one.row in
        (gains u).1
        (elim (Contains-append_cases (rows_at c.relations at) new is.row
        (subst (λ (rows : List Tuple). Contains rows is.row) came.rows is.there)) [
          | inl before ↦ inl
              ((holds.exact u).1 (record {
                cells = one.cells;
                row = row_back c d at one.cells h came.later low is before;
                gives = one.gives;
              }))
          | inr fresh ↦ inr (record {
            cells = one.cells;
            row = subst (λ (y : List ℕ). Contains cells y) (sym is.are)
                (cells_in d at cells new is.row came.stand fresh);
            gives = one.gives;
          })
        ]),
  );
}

-- ---- without rows

differ_less : (rows : List Tuple) (row : Tuple) → AreDifferent rows → AreDifferent (without_row rows row)
differ_less [] row d = d
differ_less (r ∷ rows) row d =
    let rest = rest_differ r rows d in
    elim (cases_Bool (tuple_eq r row)) [
      | inl same ↦ rw same rest
      | inr other ↦ rw other
          (AllPairs-cons (λ s t. s ≡ t → ⊥) r (without_row rows row)
          (λ i x below e. first_different r (slice_index_or (without_row rows row) i x) rows d
          (in_without rows row (slice_index_or (without_row rows row) i x) rest (All-contains_itself (without_row rows row) i x below)).0 e)
          (differ_less rows row rest))
    ]

-- what is left was there, and is none of those that went
in_without_all : (gone rows : List Tuple) (x : Tuple) → AreDifferent rows
    → Contains (without_rows rows gone) x
    → Contains rows x × ((row : Tuple) → Contains gone row → row ≡ x → ⊥)
in_without_all [] rows x d c = (c, λ row is e. none_contained row is)
in_without_all (g ∷ gone) rows x d c =
    let k = in_without_all gone (without_row rows g) x (differ_less rows g d) c in
    let first = in_without rows g x d k.0 in (
      first.0,
      λ row is e.
          elim (in_cons g row gone is) [
            | inl here ↦ first.1 (here ∙ e)
            | inr later ↦ k.1 row later e
          ],
    )

still_in_all : (gone rows : List Tuple) (x : Tuple) → Contains rows x
    → ((row : Tuple) → Contains gone row → row ≡ x → ⊥) → Contains (without_rows rows gone) x
still_in_all [] rows x c other = c
still_in_all (g ∷ gone) rows x c other =
    still_in_all gone (without_row rows g) x
    (still_in rows g x c (λ e. other g (at_head g gone) e))
    (λ row is e. other row (in_rest g row gone is) e)

-- a row that went has other cells than those that are left
other_cells : (d : Catalog) (at : ℕ) (cells : List ℕ) (row x : Tuple) → IsCatalog d
    → StandForRow d at cells row → at < length d.relations → Contains (rows_at d.relations at) x
    → cells_of d.texts x ≡ cells → row ≡ x
other_cells d at cells row x catalog stand low there e =
    cells_differ d.texts (relation_at d.relations at).types row x stand.of
    (row_fits d at x catalog low there) stand.have
    (have_cells d at x catalog low there) (sym stand.are ∙ sym e)

went_rows : (c d : Catalog) (at : ℕ) (cells : List (List ℕ)) (gone : List Tuple) (p : Shape)
    (es fs : List Entry) → IsCatalog c → at < length c.relations → WentAll c d at cells gone
    → LosesAll p cells es fs → Holds c at p es → Holds d at p fs
went_rows c d at cells gone p es fs h low went loses holds =
    let later : at < length d.relations = (let long = went.later.long in omega arith) in
    record {
      exact = λ u. (
        λ there.
            let both = (loses u).0 there in
            let one = (holds.exact u).0 both.0 in
            let is = one.row in
            record {
              cells = one.cells;
              row = row_on c d at one.cells h went.later low is
                  (subst (λ (rows : List Tuple). Contains rows is.row) (sym went.rows)
                  (still_in_all gone (rows_at c.relations at) is.row is.there
                  (λ row among same. both.1 (record {
                    cells = cells_of d.texts row;
                    row = cells_in d at cells gone row went.stand among;
                    gives = gives_same p u one.cells (cells_of d.texts row)
                        (is.are ∙ ap (λ (r : Tuple). cells_of c.texts r) (sym same)
                        ∙ sym (cells_later c d row went.later
                        (have_cells c at row h low
                        (subst (λ (r : Tuple). Contains (rows_at c.relations at) r) (sym same)
                        is.there))))
                        one.gives;
                  }))));
              gives = one.gives;
            },
        λ one.
            let is = one.row in
            let left = in_without_all gone (rows_at c.relations at) is.row
            (h.kept at no_relation low).differ
            (subst (λ (rows : List Tuple). Contains rows is.row) went.rows is.there) in
            (loses u).1 (
              (holds.exact u).1 (record {
                cells = one.cells;
                row = row_back c d at one.cells h went.later low is left.0;
                gives = one.gives;
              }),
              λ given.
                  let s = stands_in d at cells gone given.cells went.stand given.row in
                  left.1 s.row s.there
                  (other_cells d at given.cells s.row is.row went.later.catalog s.stand later is.there
                  (sym is.are ∙ gives_once p u one.cells given.cells one.gives given.gives)),
            ),
      );
    }

-- ---- all leaves

label_same : (r s : Reducts) (j : ℕ) → s.tree ≡ r.tree
    → label_at r.tree.labels j ≡ label_at s.tree.labels j
label_same r s j e = ap (λ (t : Tree). label_at t.labels j) (sym e)

-- a leaf of the later catalog, where its entries hold what they should
leaf_later : (c d : Catalog) (q : Query) (n : Numbered) (ps : List Shape) (r s : Reducts) (j : ℕ)
    (m : NumberedAtom) (p : Shape) → IsOver c q n ps r → IsLater c d → s.tree ≡ r.tree
    → slice_get n.atoms j ≡ Some m → slice_get ps j ≡ Some p
    → (m.relation < length c.relations → Holds c m.relation p (entries_at r.tables j)
    → Holds d m.relation p (entries_at s.tables j))
    → IsLeafOf d (label_at s.tree.labels j) n.comparisons m p (entries_at s.tables j)
leaf_later c d q n ps r s j m p h l tree e f turns =
    let leaf = h.leaves j m p e f in
    let a = atom_at c n.variables q.atoms n.atoms j m h.asked.atoms e in
    subst (λ (label : List ℕ). IsLeafOf d label n.comparisons m p (entries_at s.tables j))
    (label_same r s j tree)
    (record {
      pattern = pattern_later c d n.variables
          (label_at r.tree.labels j) n.comparisons a.atom m p l a.is
          (constants_have c.texts n.variables n.atoms q.comparisons n.comparisons
          h.asked.comparisons)
          leaf.pattern;
      holds = turns a.is.below leaf.holds;
    })

head_same : (r s : Reducts) (x : ℕ) → s.tree ≡ r.tree → member x s.tree.head ≡ member x r.tree.head
head_same r s x e = ap (λ (t : Tree). member x t.head) e

pub over_stays : OverStays
over_stays c d q n ps r h rows = record {
  asked = asked_later c d q n rows.later h.asked;
  reducts = h.reducts;
  head = h.head;
  long = h.long;
  patterns = h.patterns;
  leaves = λ j m p e f. leaf_later c d q n ps r r j m p h rows.later refl e f
      (λ low holds. same_rows c d m.relation p (entries_at r.tables j) (entries_at r.tables j)
      h.asked.catalog rows.later low (rows.same m.relation low) (λ u. refl) holds);
}

pub leaves_after_insert : OverGains
leaves_after_insert c d q n ps r s at cells new h came change = record {
  asked = asked_later c d q n came.later h.asked;
  reducts = change.reducts;
  head = λ x. head_same r s x change.tree ∙ h.head x;
  long = ap (λ (t : Tree). t.leaves) change.tree ∙ h.long;
  patterns = h.patterns;
  leaves = λ j m p e f. leaf_later c d q n ps r s j m p h came.later change.tree e f
      (λ low holds.
      elim (cases_eq m.relation at) [
        | inl same ↦
            subst (λ (k : ℕ). Holds d k p (entries_at s.tables j)) (sym same)
            (came_rows c d at cells new p (entries_at r.tables j) (entries_at s.tables j)
            h.asked.catalog (subst (λ (k : ℕ). k < length c.relations) same low) came
            (change.over j m p e f same)
            (subst (λ (k : ℕ). Holds c k p (entries_at r.tables j)) same holds))
        | inr other ↦ same_rows c d m.relation p (entries_at r.tables j) (entries_at s.tables j)
            h.asked.catalog came.later low (came.others m.relation low other)
            (change.others j m e other) holds
      ]);
}

pub over_loses : OverLoses
over_loses c d q n ps r s at cells row h went change = record {
  asked = asked_later c d q n went.later h.asked;
  reducts = change.reducts;
  head = λ x. head_same r s x change.tree ∙ h.head x;
  long = ap (λ (t : Tree). t.leaves) change.tree ∙ h.long;
  patterns = h.patterns;
  leaves = λ j m p e f. leaf_later c d q n ps r s j m p h went.later change.tree e f
      (λ low holds.
      elim (cases_eq m.relation at) [
        | inl same ↦
            subst (λ (k : ℕ). Holds d k p (entries_at s.tables j)) (sym same)
            (went_rows c d at cells row p (entries_at r.tables j) (entries_at s.tables j)
            h.asked.catalog (subst (λ (k : ℕ). k < length c.relations) same low) went
            (change.over j m p e f same)
            (subst (λ (k : ℕ). Holds c k p (entries_at r.tables j)) same holds))
        | inr other ↦ same_rows c d m.relation p (entries_at r.tables j) (entries_at s.tables j)
            h.asked.catalog went.later low (went.others m.relation low other)
            (change.others j m e other) holds
      ]);
}
