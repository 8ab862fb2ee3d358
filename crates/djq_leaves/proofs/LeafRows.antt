-- The rows that a leaf's tuples give, by its pattern, its head and its relation.
use Rattle.std.proofs.Common.{◌≡◌, List, ℕ, [], ◌∷◌, sym, subst, ◌∙◌, zero, suc, ◌<◌, true, length, take, refl, ap, inl}
use Rattle.std.proofs.Common.{inr, arith, ◌++◌, ◌⊎◌}
use Rattle.std.specs.Prelude.{Contains, Some, slice_get, get_or, ◌≢◌}
use Rattle.std.specs.List.{list_any}
use Rattle.std.proofs.lemmas.Bool.{cases_lt, false≢true, cases_eq}
use Rattle.std.proofs.lemmas.List.{get_or_past, get_or-take, length-take, length_push, append-nil, length-set}
use Rattle.std.proofs.lemmas.List.{get_or-set_same, get_or-set_other}
use Rattle.std.proofs.lemmas.Option.{same_Some}
use Rattle.djq_hypergraph.specs.Hypergraph.{degree, member}
use Rattle.djq_hypergraph.proofs.Sets.{from_true}
use Rattle.djq_hypergraph.proofs.Labels.{edge_with}
use Rattle.djq_model.specs.declared.query.Query.{Query}
use Rattle.djq_model.specs.declared.relation.ColumnType.{ColumnType}
use Rattle.djq_model.specs.declared.relation.Relation.{Relation}
use Rattle.djq_model.specs.declared.relation.CountedRow.{CountedRow}
use Rattle.djq_model.specs.Data.{Bytes, Tuple, plain_of, tuples_in, with_row, with_copies, without_copies, without_row}
use Rattle.djq_model.proofs.Copies.{tuples_with_row, tuples_with_copies, tuples_without}
use Rattle.djq_tree.specs.Labels.{label_at}
use Rattle.djq_tree.specs.Tree.{Tree, IsTree, leaf_labels}
use Rattle.djq_tree.proofs.Nodes.{leaf_has}
use Rattle.djq_union.proofs.Merges.{at_head}
use Rattle.djq_reduct.specs.Reducts.{Reducts}
use Rattle.djq_database.specs.Catalog.{Catalog, IsCatalog, StandForRow, no_relation, relation_at, counted_at, rows_at}
use Rattle.djq_database.specs.Catalog.{with_rows_at}
use Rattle.djq_database.specs.Cells.{HasCell, HaveCells, StandFor}
use Rattle.djq_query.specs.declared.numbered.NumberedAtom.{NumberedAtom}
use Rattle.djq_query.specs.declared.numbered.NumberedTerm.{NumberedTerm}
use Rattle.djq_query.specs.declared.numbered.NumberedComparison.{NumberedComparison}
use Rattle.djq_query.specs.Pattern.{Shape, GivesRow, bound}
use Rattle.djq_query.specs.Numbered.{Numbered, is_number}
use Rattle.djq_binder.specs.Asked.{HasConstant, HaveConstants, constants_in}
use Rattle.djq_binder.proofs.EdgeOrder.{in_only}
use Rattle.djq_leaves.specs.Leaves.{GivesOne, IsOver, AreCellsOfTerms, IsCellOf, IsPatternOf}
use Rattle.djq_leaves.specs.Building.{ArePatternsOf}
use Rattle.djq_leaves.specs.Changes.{IsLater, CameAll, StandForRows, AddedCame, DeletedWent, FurtherWent}
use Rattle.djq_leaves.specs.Changes.{CopiesKeepRows, without_rows}

-- ---- Rows that tuples give.

-- a tuple gives one row at most
pub gives_once : (p : Shape) (u r s : List ℕ) → GivesRow p u r → GivesRow p u s → r ≡ s
gives_once p u r s one other = sym one.fills ∙ other.fills

pub gives_same : (p : Shape) (u r s : List ℕ) → r ≡ s → GivesRow p u r → GivesRow p u s
gives_same p u r s e gives = subst (λ (x : List ℕ). GivesRow p u x) e gives

-- the row it gives is such a row, too
pub one_as : (P Q : List ℕ → Type 0) (p : Shape) (u : List ℕ)
    → ((cells : List ℕ) → P cells → Q cells) → GivesOne P p u → GivesOne Q p u
one_as P Q p u h one = record {
  cells = one.cells;
  row = h one.cells one.row;
  gives = one.gives;
}

-- the row that it gives is the one known
pub one_is : (P : List ℕ → Type 0) (p : Shape) (u r : List ℕ) → GivesRow p u r → GivesOne P p u → P r
one_is P p u r gives one =
    subst (λ (x : List ℕ). P x) (gives_once p u one.cells r one.gives gives) one.row

-- where one row is in question
pub one_of : (p : Shape) (u cells : List ℕ) → GivesRow p u cells
    → GivesOne (Contains (cells ∷ [])) p u
one_of p u cells gives = record { cells = cells; row = at_head cells []; gives = gives }

pub only_one : (p : Shape) (u cells : List ℕ) → GivesOne (Contains (cells ∷ [])) p u
    → GivesRow p u cells
only_one p u cells one =
    gives_same p u one.cells cells (sym (in_only cells one.cells one.row)) one.gives

-- ---- The head's variables stand in atoms.

-- what stands at a place below the length
pub record HasAt {A : Type 0} (xs : List A) (j : ℕ) : Type 0 where
  pub element : A
  pub is : slice_get xs j ≡ Some element

pub has_at : {A : Type 0} (xs : List A) (j : ℕ) → j < length xs → HasAt xs j
has_at [] j low = absurd (omega arith)
has_at (x ∷ xs) zero low = record { element = x; is = refl }
has_at (x ∷ xs) (suc j) low = let r = has_at xs j (omega arith) in
    record { element = r.element; is = r.is }

-- a variable lies in a leaf's label
pub record InLeaf (t : Tree) (x : ℕ) : Type 0 where
  pub leaf : ℕ
  pub low : leaf < t.leaves
  pub has : member x (label_at t.labels leaf) ≡ true

pub leaf_with : (t : Tree) (x : ℕ) → 0 < degree x (leaf_labels t) → InLeaf t x
leaf_with t x some =
    let e = edge_with (leaf_labels t) x some in
    elim (cases_lt e.0 t.leaves) [
      | inl low ↦ record {
        leaf = e.0;
        low = low;
        has = ap (λ (l : List ℕ). member x l) (sym (get_or-take t.leaves t.labels e.0 [] low))
            ∙ e.1;
      }
      | inr past ↦ absurd
          (false≢true
          (ap (λ (l : List ℕ). member x l)
          (sym (get_or_past (take t.leaves t.labels) e.0 []
          (let k = length-take t.leaves t.labels in omega arith))) ∙ e.1))
    ]

pub in_leaf : (t : Tree) (x : ℕ) → IsTree t → member x t.head ≡ true → InLeaf t x
in_leaf t x s m =
    let d = s.head.covered x m in
    leaf_with t x (leaf_has t s d.0 x (from_true (member x (label_at t.labels d.0)) d.2))

-- so it stands in an atom
pub record InAtom (n : Numbered) (x : ℕ) : Type 0 where
  pub place : ℕ
  pub atom : NumberedAtom
  pub at : slice_get n.atoms place ≡ Some atom
  pub has : list_any (is_number x) atom.terms ≡ true

pub leaf_atom : (c : Catalog) (q : Query) (n : Numbered) (ps : List Shape) (r : Reducts)
    (x : ℕ) → IsOver c q n ps r → InLeaf r.tree x → InAtom n x
leaf_atom c q n ps r x h i =
    let low = i.low in
    let a = has_at n.atoms i.leaf (let e = h.long in omega arith) in
    let p = has_at ps i.leaf (let e = h.long in let f = h.patterns in omega arith) in
    let leaf = h.leaves i.leaf a.element p.element a.is p.is in
    record {
      place = i.leaf;
      atom = a.element;
      at = a.is;
      has = sym (leaf.pattern.variables x) ∙ i.has;
    }

pub in_atom : (c : Catalog) (q : Query) (n : Numbered) (ps : List Shape) (r : Reducts) (x : ℕ)
    → IsOver c q n ps r → member x n.head ≡ true → InAtom n x
in_atom c q n ps r x h m =
    leaf_atom c q n ps r x h (in_leaf r.tree x h.reducts.family.is_tree (h.head x ∙ m))

-- ---- The patterns of atoms, one after another.

-- ---- a list and one more

pub record Last {A : Type 0} (xs : List A) (y x : A) (k : ℕ) : Type 0 where
  pub at : k ≡ length xs
  pub is : y ≡ x

pub pushed_get : {A : Type 0} (xs : List A) (y x : A) (k : ℕ) → slice_get (xs ++ y ∷ []) k ≡ Some x
    → (slice_get xs k ≡ Some x) ⊎ Last xs y x k
pushed_get [] y x zero e = inr (record { at = refl; is = same_Some y x e })
pushed_get [] y x (suc k) e = absurd cc
pushed_get (z ∷ xs) y x zero e = inl e
pushed_get (z ∷ xs) y x (suc k) e =
    elim (pushed_get xs y x k e) [
      | inl before ↦ inl before
      | inr last ↦ inr (record { at = ap suc last.at; is = last.is })
    ]

-- ---- cells of constants

pub constant_at : (texts : List Bytes) (ts : List NumberedTerm) (i : ℕ) (t : NumberedTerm)
    → HaveConstants texts ts → i < length ts → t ≡ get_or ts i t → HasConstant texts t
constant_at texts [] i t h low is = absurd (omega arith)
constant_at texts (s ∷ ts) zero t h low is =
    subst (λ (u : NumberedTerm). HasConstant texts u) (sym is) h.0
constant_at texts (s ∷ ts) (suc i) t h low is = constant_at texts ts i t h.1 (omega arith) is

pub compared_at : (texts : List Bytes) (ks : List NumberedComparison) (i : ℕ)
    (k : NumberedComparison) → HaveCells texts (constants_in ks) → i < length ks
    → HasCell texts (get_or ks i k).constant
compared_at texts [] i k h low = absurd (omega arith)
compared_at texts (n ∷ ks) zero k h low = h.0
compared_at texts (n ∷ ks) (suc i) k h low = compared_at texts ks i k h.1 (omega arith)

pub cells_push : (texts : List Bytes) (ts : List NumberedTerm) (cs : List ℕ) (t : NumberedTerm)
    (c : ℕ) → AreCellsOfTerms texts ts cs → IsCellOf texts t c
    → AreCellsOfTerms texts (ts ++ t ∷ []) (cs ++ c ∷ [])
cells_push texts [] [] t c h one = (one, tt)
cells_push texts [] (d ∷ cs) t c h one = absurd h
cells_push texts (s ∷ ts) [] t c h one = absurd h
cells_push texts (s ∷ ts) (d ∷ cs) t c h one = (h.0, cells_push texts ts cs t c h.1 one)

pub cells_long : (texts : List Bytes) (ts : List NumberedTerm) (cs : List ℕ)
    → AreCellsOfTerms texts ts cs → length cs ≡ length ts
cells_long texts [] [] h = refl
cells_long texts [] (d ∷ cs) h = absurd h
cells_long texts (s ∷ ts) [] h = absurd h
cells_long texts (s ∷ ts) (d ∷ cs) h = ap suc (cells_long texts ts cs h.1)

-- ---- patterns

pub patterns_push : (texts : List Bytes) (labels : List (List ℕ)) (ks : List NumberedComparison)
    (atoms : List NumberedAtom) (ps : List Shape) (j : ℕ) (m : NumberedAtom) (p : Shape)
    → ArePatternsOf texts labels ks atoms ps → length ps ≡ j → j < length atoms
    → slice_get atoms j ≡ Some m → IsPatternOf texts (label_at labels j) ks m p
    → ArePatternsOf texts labels ks atoms (ps ++ p ∷ [])
patterns_push texts labels ks atoms ps j m p h long low at is = record {
  few = omega (arith, length_push ps p);
  each = λ k n r e f. elim (pushed_get ps p r k f) [
    | inl before ↦ h.each k n r e before
    | inr last ↦
        let here : k ≡ j = last.at ∙ long in
        let same : m ≡ n = same_Some m n (sym at ∙ ap (slice_get atoms) (sym here) ∙ e) in
        subst (λ (i : ℕ). IsPatternOf texts (label_at labels i) ks n r) (sym here)
        (subst (λ (s : Shape). IsPatternOf texts (label_at labels j) ks n s) last.is
        (subst (λ (o : NumberedAtom). IsPatternOf texts (label_at labels j) ks o p) same is))
  ];
}

-- a pattern has a slot for each term
pub bound_long : (label : List ℕ) (ts : List NumberedTerm) (cs : List ℕ) → length cs ≡ length ts
    → length (bound label ts cs) ≡ length ts
unfolding bound
bound_long label [] cs long = refl
bound_long label (t ∷ ts) [] long = absurd (omega arith)
bound_long label (t ∷ ts) (c ∷ cs) long = ap suc (bound_long label ts cs (omega arith))

-- ---- Other rows at a relation's place.

-- the relation with other rows
abbrev changed : List Relation → ℕ → List CountedRow → Relation
changed rs at rows = let r = relation_at rs at in record r { rows = rows }

here : (rs : List Relation) (at : ℕ) (rows : List CountedRow) → at < length rs
    → relation_at (with_rows_at rs at rows) at ≡ changed rs at rows
here rs at rows low = get_or-set_same rs at (changed rs at rows) no_relation low

elsewhere : (rs : List Relation) (at k : ℕ) (rows : List CountedRow) → k ≢ at
    → relation_at (with_rows_at rs at rows) k ≡ relation_at rs k
elsewhere rs at k rows other = get_or-set_other rs at k (changed rs at rows) no_relation other

name_kept : (rs : List Relation) (at k : ℕ) (rows : List CountedRow) → at < length rs
    → (relation_at (with_rows_at rs at rows) k).name ≡ (relation_at rs k).name
name_kept rs at k rows low =
    elim (cases_eq k at) [
      | inl same ↦ ap (λ (i : ℕ). (relation_at (with_rows_at rs at rows) i).name) same
          ∙ ap (λ (r : Relation). r.name) (here rs at rows low)
          ∙ ap (λ (i : ℕ). (relation_at rs i).name) (sym same)
      | inr other ↦ ap (λ (r : Relation). r.name) (elsewhere rs at k rows other)
    ]

types_kept : (rs : List Relation) (at k : ℕ) (rows : List CountedRow) → at < length rs
    → (relation_at (with_rows_at rs at rows) k).types ≡ (relation_at rs k).types
types_kept rs at k rows low =
    elim (cases_eq k at) [
      | inl same ↦ ap (λ (i : ℕ). (relation_at (with_rows_at rs at rows) i).types) same
          ∙ ap (λ (r : Relation). r.types) (here rs at rows low)
          ∙ ap (λ (i : ℕ). (relation_at rs i).types) (sym same)
      | inr other ↦ ap (λ (r : Relation). r.types) (elsewhere rs at k rows other)
    ]

later : (c d : Catalog) (at : ℕ) (rows : List CountedRow) → IsCatalog d → at < length c.relations
    → d.texts ≡ c.texts → d.relations ≡ with_rows_at c.relations at rows → IsLater c d
later c d at rows h low texts e = record {
  catalog = h;
  more = [];
  texts = texts ∙ sym (append-nil c.texts);
  long = (let k = ap (λ (l : List Relation). length l) e
      ∙ length-set c.relations at (changed c.relations at rows) in omega arith);
  named = λ k within. ap (λ (l : List Relation). (relation_at l k).name) e
      ∙ name_kept c.relations at k rows low;
  typed = λ k within. ap (λ (l : List Relation). (relation_at l k).types) e
      ∙ types_kept c.relations at k rows low;
}

stands : (c d : Catalog) (at : ℕ) (cells : List ℕ) (row : Tuple) → IsLater c d
    → at < length c.relations → d.texts ≡ c.texts → StandForRow c at cells row
    → StandForRow d at cells row
stands c d at cells row l low texts h =
    subst (λ (ts : List ColumnType). StandFor d.texts ts cells row) (sym (l.typed at low))
    (subst (λ (known : List Bytes). StandFor known (relation_at c.relations at).types cells row)
    (sym texts) h)

rows_here : (c d : Catalog) (at : ℕ) (rows : List CountedRow) → at < length c.relations
    → d.relations ≡ with_rows_at c.relations at rows → rows_at d.relations at ≡ plain_of rows
rows_here c d at rows low e =
    ap (λ (l : List Relation). rows_at l at) e
    ∙ ap tuples_in (here c.relations at rows low)

rows_elsewhere : (c d : Catalog) (at k : ℕ) (rows : List CountedRow) → k ≢ at
    → d.relations ≡ with_rows_at c.relations at rows
    → rows_at d.relations k ≡ rows_at c.relations k
rows_elsewhere c d at k rows other e =
    ap (λ (l : List Relation). rows_at l k) e
    ∙ ap tuples_in (elsewhere c.relations at k rows other)

all_stand : (c d : Catalog) (at : ℕ) (cells : List (List ℕ)) (new : List Tuple) → IsLater c d
    → at < length c.relations → d.texts ≡ c.texts → StandForRows c at cells new
    → StandForRows d at cells new
all_stand c d at [] [] l low texts h = h
all_stand c d at [] (row ∷ new) l low texts h = absurd h
all_stand c d at (k ∷ cells) [] l low texts h = absurd h
all_stand c d at (k ∷ cells) (row ∷ new) l low texts h =
    (stands c d at k row l low texts h.0, all_stand c d at cells new l low texts h.1)

-- rows that are added to a catalog came
pub added_all : (c d : Catalog) (at : ℕ) (cells : List (List ℕ)) (new : List Tuple)
    (rows : List CountedRow) → IsCatalog d → at < length c.relations → StandForRows c at cells new
    → d.texts ≡ c.texts → d.relations ≡ with_rows_at c.relations at rows
    → plain_of rows ≡ rows_at c.relations at ++ new → CameAll c d at cells new
added_all c d at cells new rows h low stand texts e came =
    let l = later c d at rows h low texts e in
    record {
      later = l;
      stand = all_stand c d at cells new l low texts stand;
      rows = rows_here c d at rows low e ∙ came;
      others = λ k within other. rows_elsewhere c d at k rows other e;
    }

pub added_came : AddedCame
added_came c d at cells row h low stand texts e =
    let old = counted_at c.relations at in
    added_all c d at (cells ∷ []) (row ∷ []) (with_row old row) h low (stand, tt) texts e
    (tuples_with_row old row)

pub deleted_went : DeletedWent
deleted_went c d at cells row h low stand texts e =
    let old = counted_at c.relations at in
    let rows = without_copies old row in
    let l = later c d at rows h low texts e in
    record {
      later = l;
      stand = (stands c d at cells row l low texts stand, tt);
      rows = rows_here c d at rows low e ∙ tuples_without old row;
      others = λ k within other. rows_elsewhere c d at k rows other e;
    }

-- a further row that went
without_more : (gone rows : List Tuple) (row : Tuple)
    → without_row (without_rows rows gone) row ≡ without_rows rows (gone ++ row ∷ [])
without_more [] rows row = refl
without_more (g ∷ gone) rows row = without_more gone (without_row rows g) row

stand_more : (c : Catalog) (at : ℕ) (cells : List (List ℕ)) (gone : List Tuple) (k : List ℕ) (row : Tuple)
    → StandForRows c at cells gone → StandForRow c at k row
    → StandForRows c at (cells ++ k ∷ []) (gone ++ row ∷ [])
stand_more c at [] [] k row h one = (one, tt)
stand_more c at [] (g ∷ gone) k row h one = absurd h
stand_more c at (x ∷ cells) [] k row h one = absurd h
stand_more c at (x ∷ cells) (g ∷ gone) k row h one = (h.0, stand_more c at cells gone k row h.1 one)

pub further_went : FurtherWent
further_went c d e at cells gone k row low texts h w = record {
  later = record {
    catalog = w.later.catalog;
    more = h.later.more;
    texts = texts ∙ h.later.texts;
    long = (let a = h.later.long in let b = w.later.long in omega arith);
    named = λ i within. w.later.named i (let a = h.later.long in omega arith) ∙ h.later.named i within;
    typed = λ i within. w.later.typed i (let a = h.later.long in omega arith) ∙ h.later.typed i within;
  };
  stand = stand_more e at cells gone k row
      (all_stand d e at cells gone w.later (let a = h.later.long in omega arith) texts h.stand) w.stand.0;
  rows = w.rows ∙ ap (λ (rows : List Tuple). without_row rows row) h.rows
      ∙ without_more gone (rows_at c.relations at) row;
  others = λ i within other. w.others i (let a = h.later.long in omega arith) other ∙ h.others i within other;
}

-- another number of copies leaves the rows
pub copies_keep_rows : CopiesKeepRows
copies_keep_rows c d at row n h low texts e =
    let old = counted_at c.relations at in
    let rows = with_copies old row n in
    record {
      later = later c d at rows h low texts e;
      same = λ k within.
          elim (cases_eq k at) [
            | inl same ↦ ap (λ (i : ℕ). rows_at d.relations i) same
                ∙ rows_here c d at rows low e ∙ tuples_with_copies old row n
                ∙ ap (λ (i : ℕ). rows_at c.relations i) (sym same)
            | inr other ↦ rows_elsewhere c d at k rows other e
          ];
    }
