-- A row's cells, the leaves over its relation, and how many tuples they have.
use Rattle.std.proofs.Common.{◌≡◌, ℕ, suc, ◌<◌, true, List, [], ◌∷◌, length, refl, ap, sym, subst, ◌∙◌, inl, inr, arith}
use Rattle.std.proofs.Common.{◌≤◌, map}
use Rattle.std.specs.Prelude.{◌↔◌, Some, Contains, slice_get}
use Rattle.std.proofs.lemmas.Bool.{cases_lt, cases_eq, eqb-true, false≢true, or_cases}
use Rattle.std.proofs.lemmas.List.{length-map}
use Rattle.std.proofs.lemmas.Option.{slice_get_within}
use Rattle.std.specs.List.{list_any}
use Rattle.std.proofs.lemmas.List.Kept.{AllPairs-cons}
use Rattle.djq_hypergraph.specs.Hypergraph.{member}
use Rattle.djq_model.specs.declared.relation.ColumnType.{ColumnType}
use Rattle.djq_model.specs.declared.query.Query.{Query}
use Rattle.djq_model.specs.Data.{Bytes, Tuple}
use Rattle.djq_model.specs.Typed.{fits}
use Rattle.djq_model.specs.Answer.{AreDifferent}
use Rattle.djq_index.specs.Entries.{Entry, count_of}
use Rattle.djq_index.specs.Tuple.{same}
use Rattle.djq_index.specs.Table.{TuplesDiffer}
use Rattle.djq_index.proofs.Tuples.{cnt_once, cnt_cons, is_same, one_true}
use Rattle.djq_tree.specs.Growing.{IsTreeOf}
use Rattle.djq_tree.specs.Tree.{Tree}
use Rattle.djq_tree.specs.Labels.{label_at}
use Rattle.djq_union.specs.Answers.{AreDistinctAnswers}
use Rattle.djq_union.proofs.Merges.{none_contained, all_of}
use Rattle.djq_protocol.specs.Hypergraph.{edges_of, head_of}
use Rattle.djq_reduct.specs.Tables.{entries_at}
use Rattle.djq_reduct.specs.Marks.{IsBare}
use Rattle.djq_reduct.specs.Reducts.{Reducts, IsReducts, SameTables}
use Rattle.djq_reduct.proofs.Assignments.{apart_at, one_family, IsSimple, simple_of, reading, reading_row, row_same}
use Rattle.djq_database.specs.Catalog.{Catalog, StandForRow, no_relation, relation_at, rows_at}
use Rattle.djq_database.specs.Cells.{cells_of}
use Rattle.djq_database.proofs.Cells.{differ as cells_differ}
use Rattle.djq_query.specs.declared.numbered.Variable.{Variable}
use Rattle.djq_query.specs.declared.numbered.NumberedTerm.{NumberedTerm}
use Rattle.djq_query.specs.declared.numbered.NumberedAtom.{NumberedAtom}
use Rattle.djq_query.specs.declared.pattern.Slot.{Slot}
use Rattle.djq_query.specs.declared.numbered.NumberedTerm.TheVariants.{Variable as Number, Constant as Fixed}
use Rattle.djq_query.specs.declared.numbered.NumberedComparison.{NumberedComparison}
use Rattle.djq_query.specs.Numbered.{Numbered, is_number}
use Rattle.djq_query.specs.Pattern.{Shape, bound, filled}
use Rattle.djq_binder.specs.Asked.{TermsSuit}
use Rattle.djq_binder.proofs.EdgeOrder.{in_left, in_cons}
use Rattle.djq_leaves.specs.Leaves.{AreCellsOfTerms, IsLeafOf, IsOver, IsPatternOf, GivesOne}
use Rattle.djq_leaves.specs.Changes.{IsLater, CameAll, Went, WentAll, GainsTuple, GainsAll, Loses, LosesAll}
use Rattle.djq_leaves.specs.Changes.{EachLeafChanges}
use Rattle.djq_leaves.specs.Stepping.{LacksCells, LacksAll, Has, HasAll, ChangesBelow, AreLeaves, HoldBelow}
use Rattle.djq_leaves.specs.Cells.{AreRowOf, cell_under}
use Rattle.djq_leaves.proofs.LeafRows.{has_at, gives_once, one_of, only_one}
use Rattle.djq_leaves.proofs.Fills.{fits_long, in_row}
use Rattle.djq_leaves.proofs.TreeAnswers.{late_differs, few, image_of, images_differ}
use Rattle.djq_live_query.specs.Live.{Live, IsKept}
use Rattle.djq_live_query.specs.Updating.{LeavesAreSmall}
use Rattle.djq_live_query.proofs.Atoms.{row_fits, row_cells, rows_are, heads, tails}
use Rattle.djq_live_query.proofs.Catalogs.{asked_later, atom_at, cells_later, stands_in, leaves_after_insert}
use Rattle.djq_live_query.proofs.Catalogs.{over_loses}
use Rattle.djq_live_query.proofs.Assignments.{pattern_row}

-- ---- A row's cells, and the leaves over its relation.

-- ---- lengths

pub suited_long : (texts : List Bytes) (vs : List Variable) (ns : List NumberedTerm)
    (cs : List ColumnType) → TermsSuit texts vs ns cs → length ns ≡ length cs
suited_long texts vs [] [] h = refl
suited_long texts vs [] (c ∷ cs) h = absurd h
suited_long texts vs (n ∷ ns) [] h = absurd h
suited_long texts vs (n ∷ ns) (c ∷ cs) h = ap suc (suited_long texts vs ns cs h.1)

bound_long : (texts : List Bytes) (label : List ℕ) (ns : List NumberedTerm) (ks : List ℕ)
    → AreCellsOfTerms texts ns ks → length (bound label ns ks) ≡ length ns
unfolding bound
bound_long texts label [] [] h = refl
bound_long texts label [] (k ∷ ks) h = absurd h
bound_long texts label (n ∷ ns) [] h = absurd h
bound_long texts label (n ∷ ns) (k ∷ ks) h = ap suc (bound_long texts label ns ks h.1)

cells_long : (d : Catalog) (at : ℕ) (cells : List ℕ) (row : Tuple) → StandForRow d at cells row
    → length cells ≡ length (relation_at d.relations at).types
cells_long d at cells row h =
    ap (λ (l : List ℕ). length l) h.are ∙ length-map row _
    ∙ fits_long (relation_at d.relations at).types row h.of

-- ---- the leaves of a query

same_width : (c d : Catalog) (at : ℕ) (m : NumberedAtom) → IsLater c d
    → m.relation < length c.relations → m.relation ≡ at
    → length (relation_at d.relations at).types ≡ length (relation_at c.relations m.relation).types
same_width c d at m later low on =
    ap (λ (i : ℕ). length (relation_at d.relations i).types) (sym on)
    ∙ ap (λ (ts : List ColumnType). length ts) (later.typed m.relation low)

pub leaves_of : (c d : Catalog) (q : Query) (n : Numbered) (ps : List Shape) (r : Reducts) (at : ℕ)
    (cells : List ℕ) (row : Tuple) → IsOver c q n ps r → IsLater c d → StandForRow d at cells row
    → AreLeaves at cells n.atoms ps r
leaves_of c d q n ps r at cells row h later stand = record {
  long = h.long;
  patterns = h.patterns;
  wide = λ j p f.
      let low = slice_get_within ps j p f in
      let m = has_at n.atoms j (let e = h.patterns in omega arith) in
      (h.leaves j m.element p m.is f).pattern.width;
  fits = λ j m p e f on.
      let a = atom_at c n.variables q.atoms n.atoms j m h.asked.atoms e in
      let pattern = (h.leaves j m p e f).pattern in
      cells_long d at cells row stand
      ∙ same_width c d at m later a.is.below on
      ∙ sym
      (ap (λ (l : List Slot). length l) pattern.slots
      ∙ bound_long c.texts (label_at r.tree.labels j) m.terms pattern.cells pattern.are
      ∙ suited_long c.texts n.variables m.terms (relation_at c.relations m.relation).types
      a.is.suited);
}

pub leaves_as : (at : ℕ) (cells : List ℕ) (atoms : List NumberedAtom) (ps : List Shape)
    (r s : Reducts) → s.tree ≡ r.tree → AreLeaves at cells atoms ps r
    → AreLeaves at cells atoms ps s
leaves_as at cells atoms ps r s e h = record {
  long = ap (λ (t : Tree). t.leaves) e ∙ h.long;
  patterns = h.patterns;
  wide = λ j p f. h.wide j p f ∙ ap (λ (t : Tree). length (label_at t.labels j)) (sym e);
  fits = h.fits;
}

-- ---- a row that came wasn't there, and one that went was

pub none_there : (c d : Catalog) (q : Query) (n : Numbered) (ps : List Shape) (r : Reducts)
    (at : ℕ) (cells : List (List ℕ)) (new : List Tuple) (k : ℕ) → IsOver c q n ps r
    → CameAll c d at cells new → HoldBelow (λ p es. LacksAll cells p es) at n.atoms ps k r
none_there c d q n ps r at cells new k h came = record {
  each = λ j m p low e f on u given.
      elim (cases_lt 0 (count_of (entries_at r.tables j) u)) [
        | inr none ↦ omega arith
        | inl some ↦
            let a = atom_at c n.variables q.atoms n.atoms j m h.asked.atoms e in
            let b = atom_at d n.variables q.atoms n.atoms j m
            (asked_later c d q n came.later h.asked).atoms e in
            let one = ((h.leaves j m p e f).holds.exact u).0 some in
            let at_row = one.row in
            let s = stands_in d at cells new given.cells came.stand given.row in
            let old : Contains (rows_at c.relations at) at_row.row =
            subst (λ (i : ℕ). Contains (rows_at c.relations i) at_row.row) on at_row.there in
            let still : Contains (rows_at d.relations at) at_row.row =
            subst (λ (rows : List Tuple). Contains rows at_row.row) (sym came.rows)
            (in_left at_row.row (rows_at c.relations at) new old) in
            let new_there : Contains (rows_at d.relations m.relation) at_row.row =
            subst (λ (i : ℕ). Contains (rows_at d.relations i) at_row.row) (sym on) still in
            let of = subst
            (λ (i : ℕ). fits (relation_at d.relations i).types at_row.row ≡ true) on
            (row_fits d n.variables b.atom m at_row.row came.later.catalog b.is new_there) in
            let have_old = row_cells c n.variables a.atom m at_row.row h.asked.catalog a.is
            at_row.there in
            let have = row_cells d n.variables b.atom m at_row.row came.later.catalog b.is
            new_there in
            let same : s.row ≡ at_row.row =
            cells_differ d.texts (relation_at d.relations at).types s.row at_row.row s.stand.of of
            s.stand.have have
            (sym s.stand.are ∙ gives_once p u given.cells one.cells given.gives one.gives
            ∙ at_row.are
            ∙ sym (cells_later c d at_row.row came.later have_old)) in
            let kept = came.later.catalog.kept at no_relation
            (let low = a.is.below in let long = came.later.long in omega arith) in
            absurd
            (late_differs s.row (rows_at c.relations at) new
            (subst (λ (rows : List Tuple). AreDifferent rows) came.rows kept.differ)
            (subst (λ (x : Tuple). Contains (rows_at c.relations at) x) (sym same) old) s.there)
      ];
}

pub rows_there : (c d : Catalog) (q : Query) (n : Numbered) (ps : List Shape) (r : Reducts)
    (at : ℕ) (cells : List (List ℕ)) (gone : List Tuple) (k : ℕ) → IsOver c q n ps r
    → ((row : Tuple) → Contains gone row → Contains (rows_at c.relations at) row)
    → WentAll c d at cells gone → HoldBelow (λ p es. HasAll cells p es) at n.atoms ps k r
rows_there c d q n ps r at cells gone k h there went = record {
  each = λ j m p low e f on u given.
      let a = atom_at c n.variables q.atoms n.atoms j m h.asked.atoms e in
      let s = stands_in d at cells gone given.cells went.stand given.row in
      let here : Contains (rows_at c.relations m.relation) s.row =
      subst (λ (i : ℕ). Contains (rows_at c.relations i) s.row) (sym on) (there s.row s.there) in
      ((h.leaves j m p e f).holds.exact u).1 (record {
        cells = given.cells;
        row = record {
          row = s.row;
          there = here;
          are = s.stand.are
              ∙ cells_later c d s.row went.later
              (row_cells c n.variables a.atom m s.row h.asked.catalog a.is here);
        };
        gives = given.gives;
      });
}

pub all_there : (c d : Catalog) (q : Query) (n : Numbered) (ps : List Shape) (r : Reducts)
    (at : ℕ) (cells : List ℕ) (row : Tuple) (k : ℕ) → IsOver c q n ps r
    → Contains (rows_at c.relations at) row → Went c d at cells row
    → HoldBelow (λ p es. Has cells p es) at n.atoms ps k r
all_there c d q n ps r at cells row k h there went = record {
  each = λ j m p low e f on u gives.
      (rows_there c d q n ps r at (cells ∷ []) (row ∷ []) k h
      (λ x is. elim (in_cons row x [] is) [
        | inl here ↦ subst (λ (y : Tuple). Contains (rows_at c.relations at) y) here there
        | inr past ↦ absurd (none_contained x past)
      ]) went).each j m p low e f on u (one_of p u cells gives);
}

-- what was put in is there
pub put_there : (cells : List ℕ) (at : ℕ) (atoms : List NumberedAtom) (ps : List Shape) (k : ℕ)
    (r s : Reducts) → ChangesBelow (λ p old new. GainsTuple p cells old new) at atoms ps k r s
    → HoldBelow (λ p es. Has cells p es) at atoms ps k s
put_there cells at atoms ps k r s h = record {
  each = λ j m p low e f on u gives. (h.over j m p low e f on u).1 (inr (one_of p u cells gives));
}

-- ---- the query after the change

leaves_change : (Changes : Shape → List Entry → List Entry → Type 0) (at : ℕ) (n : Numbered)
    (ps : List Shape) (r s : Reducts)
    → ChangesBelow Changes at n.atoms ps (length n.atoms) r s → EachLeafChanges Changes at n ps r s
leaves_change Changes at n ps r s h = record {
  reducts = h.sound;
  tree = h.tree;
  over = λ j m p e f on. h.over j m p (slice_get_within n.atoms j m e) e f on;
  others = λ j m e off. h.others j m e (λ low. off);
}

tree_named : (l : Live) (s : Reducts) → s.tree ≡ (l.reducts).tree
    → IsTreeOf (edges_of l.query) (head_of l.query) (l.reducts).tree
    → IsTreeOf (edges_of l.query) (head_of l.query) s.tree
tree_named l s e h = subst (λ (t : Tree). IsTreeOf (edges_of l.query) (head_of l.query) t) (sym e) h

pub added_kept : (c d : Catalog) (l : Live) (s : Reducts) (at : ℕ) (cells : List (List ℕ))
    (new : List Tuple) → IsKept c l → CameAll c d at cells new
    → ChangesBelow (λ p before after. GainsAll p cells before after) at (l.numbered).atoms
    l.patterns (length (l.numbered).atoms) l.reducts s
    → IsKept d (record l { reducts = s })
added_kept c d l s at cells new h came change = record {
  over = leaves_after_insert c d l.query l.numbered l.patterns l.reducts s at cells new h.over came
      (leaves_change (λ p before after. GainsAll p cells before after) at l.numbered l.patterns
      l.reducts s change);
  named = tree_named l s change.tree h.named;
  bare = change.bare;
}

pub lost_kept : (c d : Catalog) (l : Live) (s : Reducts) (at : ℕ) (cells : List (List ℕ))
    (gone : List Tuple) → IsKept c l → WentAll c d at cells gone
    → ChangesBelow (λ p old new. LosesAll p cells old new) at (l.numbered).atoms l.patterns
    (length (l.numbered).atoms) l.reducts s
    → IsKept d (record l { reducts = s })
lost_kept c d l s at cells gone h went change = record {
  over = over_loses c d l.query l.numbered l.patterns l.reducts s at cells gone h.over went
      (leaves_change (λ p old new. LosesAll p cells old new) at l.numbered l.patterns l.reducts s
      change);
  named = tree_named l s change.tree h.named;
  bare = change.bare;
}

-- ---- given back

-- a leaf holds what it held once it has lost what it gained and lacked
back_again : (cells : List ℕ) (p : Shape) (es fs gs : List Entry) (u : List ℕ)
    → LacksCells cells p es → GainsTuple p cells es fs → Loses p cells fs gs
    → (0 < count_of gs u) ↔ (0 < count_of es u)
back_again cells p es fs gs u lacks gains loses = (
  λ there.
      let k = (loses u).0 there in
      elim ((gains u).0 k.0) [
        | inl before ↦ before
        | inr one ↦ absurd (k.1 one)
      ],
  λ there. (loses u).1
      ((gains u).1 (inl there), λ one. let none = lacks u (only_one p u cells one) in omega arith),
)

back_leaf : (cells : List ℕ) (at : ℕ) (atoms : List NumberedAtom) (ps : List Shape) (k : ℕ)
    (r s t : Reducts) (j : ℕ) (m : NumberedAtom) (p : Shape) (u : List ℕ)
    → HoldBelow (λ q es. LacksCells cells q es) at atoms ps (length atoms) r
    → ChangesBelow (λ q old new. GainsTuple q cells old new) at atoms ps k r s
    → ChangesBelow (λ q old new. Loses q cells old new) at atoms ps k s t
    → slice_get atoms j ≡ Some m → slice_get ps j ≡ Some p
    → (0 < count_of (entries_at t.tables j) u) ↔ (0 < count_of (entries_at r.tables j) u)
back_leaf cells at atoms ps k r s t j m p u lacks gains loses e f =
    elim (cases_eq m.relation at) [
      | inr off ↦
          let a = gains.others j m e (λ low. off) u in
          let b = loses.others j m e (λ low. off) u in
          (λ there. omega arith, λ there. omega arith)
      | inl on ↦
          elim (cases_lt j k) [
            | inl low ↦ back_again cells p (entries_at r.tables j) (entries_at s.tables j)
                (entries_at t.tables j) u
                (lacks.each j m p (slice_get_within atoms j m e) e f on)
                (gains.over j m p low e f on) (loses.over j m p low e f on)
            | inr high ↦
                let a = gains.others j m e (λ low. absurd (omega arith)) u in
                let b = loses.others j m e (λ low. absurd (omega arith)) u in
                (λ there. omega arith, λ there. omega arith)
          ]
    ]

-- all tables are as before, since the leaves' tuples are
pub back_tables : (c : Catalog) (l : Live) (s t : Reducts) (at : ℕ) (cells : List ℕ) (k : ℕ)
    → HoldBelow (λ q es. LacksCells cells q es) at (l.numbered).atoms l.patterns
    (length (l.numbered).atoms) l.reducts
    → ChangesBelow (λ q old new. GainsTuple q cells old new) at (l.numbered).atoms l.patterns k
    l.reducts s
    → ChangesBelow (λ q old new. Loses q cells old new) at (l.numbered).atoms l.patterns k s t
    → IsKept c l → SameTables l.reducts t
back_tables c l s t at cells k lacks gains loses h =
    one_family r t h.over.reducts loses.sound
    (record { same_tree = tree; same = λ j u low. same j u low })
  where
    r : Reducts
    r = l.reducts

    tree : t.tree ≡ r.tree
    tree = loses.tree ∙ gains.tree

    same : (j : ℕ) (u : List ℕ) → j < r.tree.leaves
        → count_of (entries_at t.tables j) u ≡ count_of (entries_at r.tables j) u
    same j u low =
        let m = has_at (l.numbered).atoms j (let e = h.over.long in omega arith) in
        let p = has_at l.patterns j
        (let e = h.over.long in let f = h.over.patterns in omega arith) in
        let back = back_leaf cells at (l.numbered).atoms l.patterns k r s t j m.element p.element u lacks
        gains loses m.is p.is in
        let before = cnt_once (entries_at r.tables j) u
        (apart_at r.tables j (h.over.reducts.family.sound j)) in
        let after = cnt_once (entries_at t.tables j) u
        (apart_at t.tables j (loses.sound.family.sound j)) in
        elim (cases_lt 0 (count_of (entries_at r.tables j) u)) [
          | inl there ↦
              let still = back.1 there in
              omega arith
          | inr none ↦
              elim (cases_lt 0 (count_of (entries_at t.tables j) u)) [
                | inl there ↦
                    let was = back.0 there in
                    absurd (omega arith)
                | inr gone ↦ omega arith
              ]
        ]

-- where all tables hold what they held, the query is kept as it was
pub same_kept : (c : Catalog) (l : Live) (t : Reducts) → IsReducts t → IsBare t.tables
    → t.tree ≡ (l.reducts).tree → SameTables l.reducts t → IsKept c l
    → IsKept c (record l { reducts = t })
same_kept c l t sound bare tree same h = record {
  over = record {
    asked = h.over.asked;
    reducts = sound;
    head = λ x. ap (λ (y : Tree). member x y.head) tree ∙ h.over.head x;
    long = ap (λ (y : Tree). y.leaves) tree ∙ h.over.long;
    patterns = h.over.patterns;
    leaves = λ j m p e f.
        let leaf = h.over.leaves j m p e f in
        subst (λ (label : List ℕ). IsLeafOf c label (l.numbered).comparisons m p
        (entries_at t.tables j))
        (ap (λ (y : Tree). label_at y.labels j) (sym tree))
        (record {
          pattern = leaf.pattern;
          holds = record {
            exact = λ u.
                let k = same.tuples j u in (
                  λ there. (leaf.holds.exact u).0 (omega arith),
                  λ is. (let a = (leaf.holds.exact u).1 is in omega arith),
                );
          };
        });
  };
  named = tree_named l t tree h.named;
  bare = bare;
}

pub back_kept : (c : Catalog) (l : Live) (s t : Reducts) (at : ℕ) (cells : List ℕ) (k : ℕ)
    → HoldBelow (λ q es. LacksCells cells q es) at (l.numbered).atoms l.patterns
    (length (l.numbered).atoms) l.reducts
    → ChangesBelow (λ q old new. GainsTuple q cells old new) at (l.numbered).atoms l.patterns k
    l.reducts s
    → ChangesBelow (λ q old new. Loses q cells old new) at (l.numbered).atoms l.patterns k s t
    → IsKept c l → IsKept c (record l { reducts = t })
back_kept c l s t at cells k lacks gains loses h =
    same_kept c l t loses.sound loses.bare (loses.tree ∙ gains.tree)
    (back_tables c l s t at cells k lacks gains loses h) h

-- ---- A leaf has no more tuples than its relation has rows.

-- ---- different tuples give different rows

same_cell : (texts : List Bytes) (a b : ℕ → ℕ) (t : NumberedTerm) (x : ℕ)
    → cell_under texts a t ≡ cell_under texts b t → is_number x t ≡ true → a x ≡ b x
same_cell texts a b (Number y) x e is =
    let same : x ≡ y = eqb-true x y is in
    ap a same ∙ e ∙ ap b (sym same)
same_cell texts a b (Fixed v) x e is = absurd (false≢true is)

same_cells : (texts : List Bytes) (a b : ℕ → ℕ) (ts : List NumberedTerm) (x : ℕ)
    → map (cell_under texts a) ts ≡ map (cell_under texts b) ts
    → list_any (is_number x) ts ≡ true → a x ≡ b x
same_cells texts a b [] x e has = absurd (false≢true has)
same_cells texts a b (t ∷ ts) x e has =
    let us = map (cell_under texts a) ts in
    let vs = map (cell_under texts b) ts in
    elim (or_cases (is_number x t) (list_any (is_number x) ts) has) [
      | inl here ↦ same_cell texts a b t x
          (heads (cell_under texts a t) (cell_under texts b t) us vs e) here
      | inr there ↦ same_cells texts a b ts x
          (tails (cell_under texts a t) (cell_under texts b t) us vs e) there
    ]

filled_once : (c : Catalog) (l : List ℕ) (ks : List NumberedComparison) (m : NumberedAtom)
    (p : Shape) (u v : List ℕ) → IsSimple l → IsPatternOf c.texts l ks m p → length u ≡ p.width
    → length v ≡ p.width → filled u p.slots ≡ filled v p.slots → u ≡ v
filled_once c l ks m p u v simple h wide also e =
    let row = reading_row l u simple (wide ∙ h.width) in
    let other = reading_row l v simple (also ∙ h.width) in
    let cells : map (cell_under c.texts (λ x. reading l u x)) m.terms
    ≡ map (cell_under c.texts (λ x. reading l v x)) m.terms =
    sym (pattern_row c l ks m p (λ x. reading l u x) h)
    ∙ ap (λ (w : List ℕ). filled w p.slots) row ∙ e
    ∙ ap (λ (w : List ℕ). filled w p.slots) (sym other)
    ∙ pattern_row c l ks m p (λ x. reading l v x) h in
    sym row
    ∙ row_same (λ x. reading l u x) (λ x. reading l v x) l
    (λ x k. same_cells c.texts (λ y. reading l u y) (λ y. reading l v y) m.terms x cells
    (sym (h.variables x) ∙ k))
    ∙ other

-- ---- the tuples of a leaf

abbrev tuples_of : List Entry → List (List ℕ)
tuples_of es = map (λ (e : Entry). e.tuple) es

tuple_there : (es : List Entry) (u : List ℕ) → Contains (tuples_of es) u → 0 < count_of es u
tuple_there [] u c = absurd (none_contained u c)
tuple_there (e ∷ es) u c =
    let first = cnt_cons e es u in
    elim (in_cons e.tuple u (tuples_of es) c) [
      | inl here ↦ (let o = one_true (same e.tuple u) (is_same e.tuple u here) in omega arith)
      | inr there ↦ (let r = tuple_there es u there in omega arith)
    ]

tuples_differ : (es : List Entry) → TuplesDiffer es → AreDistinctAnswers (tuples_of es)
unfolding TuplesDiffer
tuples_differ [] h = λ i j e a b. absurd (omega arith)
tuples_differ (e ∷ es) h =
    AllPairs-cons (λ s t. s ≡ t → ⊥) e.tuple (tuples_of es)
    (all_of (λ t. e.tuple ≡ t → ⊥) (tuples_of es)
    (λ t there is.
    let none : count_of es t ≡ 0 = subst (λ (v : List ℕ). count_of es v ≡ 0) is h.0 in
    let some = tuple_there es t there in
    omega arith))
    (tuples_differ es h.1)

leaf_small : (c : Catalog) (l : List ℕ) (ks : List NumberedComparison) (m : NumberedAtom)
    (p : Shape) (es : List Entry) → IsSimple l → TuplesDiffer es → IsLeafOf c l ks m p es
    → length es ≤ length (rows_at c.relations m.relation)
leaf_small c l ks m p es simple apart h =
    let fill = λ (u : List ℕ). filled u p.slots in
    let us = tuples_of es in
    let rows = rows_at c.relations m.relation in
    let one : (u : List ℕ) → Contains us u → GivesOne (AreRowOf c m.relation) p u =
    λ u is. (h.holds.exact u).0 (tuple_there es u is) in
    let no_more = few (map fill us) (map (cells_of c.texts) rows)
    (images_differ fill us (tuples_differ es apart)
    (λ u v a b e. filled_once c l ks m p u v simple h.pattern (one u a).gives.wide
    (one v b).gives.wide e))
    (λ cells is.
    let i = image_of fill us cells is in
    let given = one i.of i.there in
    subst (λ (w : List ℕ). Contains (map (cells_of c.texts) rows) w)
    (sym given.gives.fills ∙ sym i.is) (in_row c m.relation given.cells given.row)) in
    let a = length-map us fill in
    let b = length-map es (λ (e : Entry). e.tuple) in
    let d = length-map rows (cells_of c.texts) in
    omega arith

-- a leaf has no more tuples than its atom's relation has rows
pub leaf_few : (c : Catalog) (l : Live) (j : ℕ) (m : NumberedAtom) (p : Shape) → IsKept c l
    → j < (l.reducts).tree.leaves → slice_get (l.numbered).atoms j ≡ Some m
    → slice_get l.patterns j ≡ Some p
    → length (entries_at (l.reducts).tables j) ≤ length (rows_at c.relations m.relation)
leaf_few c l j m p h low e f =
    let r = l.reducts in
    let s = h.over.reducts in
    let leaf = h.over.leaves j m p e f in
    leaf_small c (label_at r.tree.labels j) (l.numbered).comparisons m p (entries_at r.tables j)
    (simple_of (label_at r.tree.labels j) (s.family.is_tree.sets j).rising)
    (apart_at r.tables j (s.family.sound j)) leaf

pub leaves_small : LeavesAreSmall
leaves_small c l n h most = record {
  each = λ j low.
      let q = l.query in
      let a = has_at l.numbered.atoms j (let e = h.over.long in omega arith) in
      let p = has_at l.patterns j
      (let e = h.over.long in let f = h.over.patterns in omega arith) in
      let m = a.element in
      let few = leaf_few c l j m p.element h low a.is p.is in
      let atom = atom_at c l.numbered.variables q.atoms l.numbered.atoms j m h.over.asked.atoms
      a.is in
      let rows = ap (λ (rs : List Tuple). length rs)
      (rows_are c l.numbered.variables atom.atom m h.over.asked.catalog atom.is) in
      let bound = most.each atom.atom atom.there in
      omega arith;
}
