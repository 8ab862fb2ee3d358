-- Answers of the tree show the answers of the query.
use Rattle.std.proofs.Common.{◌≡◌, ℕ, ◌<◌, true, List, [], ◌∷◌, length, map, refl, ap, ap₂, sym, subst, ◌∙◌, inl, inr}
use Rattle.std.proofs.Common.{arith, zero, suc}
use Rattle.std.specs.Prelude.{◌==◌, Option, None, Some, slice_get, slice_index, drop, Contains, not}
use Rattle.std.proofs.lemmas.Bool.{false≢true, eqb-true, or_cases, cases_Bool, or_left, or_right, and_parts, not-true}
use Rattle.std.proofs.lemmas.List.{get_or-map, length-map}
use Rattle.std.proofs.lemmas.Option.{same_Some, slice_get_within}
use Rattle.std.specs.List.{list_any}
use Rattle.djq_hypergraph.specs.Hypergraph.{member}
use Rattle.djq_hypergraph.proofs.Sets.{member_here}
use Rattle.djq_model.specs.declared.value.Value.{Value}
use Rattle.djq_model.specs.declared.query.Query.{Query}
use Rattle.djq_model.specs.declared.query.Atom.{Atom}
use Rattle.djq_model.specs.declared.query.Term.{Term}
use Rattle.djq_model.specs.declared.query.Term.TheVariants.{Variable as Named, Hole, Constant}
use Rattle.djq_model.specs.Data.{Bytes, Tuple, bytes_eq}
use Rattle.djq_model.specs.Answer.{IsAnswer}
use Rattle.djq_model.specs.Equality.{bytes_eq-decides}
use Rattle.djq_model.specs.Typed.{is_of, fits}
use Rattle.djq_tree.specs.Labels.{label_at}
use Rattle.djq_union.proofs.Merges.{at_head, none_contained}
use Rattle.djq_value.specs.Literal.{has_name, are_different}
use Rattle.djq_protocol.specs.Variables.{Label}
use Rattle.djq_reduct.specs.Columns.{column}
use Rattle.djq_reduct.specs.Tables.{entries_at}
use Rattle.djq_reduct.specs.Reducts.{Reducts}
use Rattle.djq_reduct.specs.Answers.{IsAnswerOf}
use Rattle.djq_reduct.proofs.Assignments.{cell_there, row_same, member_on, IsSimple, reading_row}
use Rattle.djq_database.specs.Cells.{cell_for, CellStandsFor, IsCell, cells_of, HaveCells}
use Rattle.djq_database.specs.Parts.{value_of}
use Rattle.djq_database.specs.Catalog.{Catalog}
use Rattle.djq_database.proofs.Cells.{value_back}
use Rattle.djq_query.specs.declared.numbered.Variable.{Variable}
use Rattle.djq_query.specs.declared.numbered.NumberedTerm.{NumberedTerm}
use Rattle.djq_query.specs.declared.numbered.NumberedTerm.TheVariants.{Variable as Number, Constant as Fixed}
use Rattle.djq_query.specs.declared.numbered.NumberedAtom.{NumberedAtom}
use Rattle.djq_query.specs.Numbered.{Numbered, labels, is_number}
use Rattle.djq_query.specs.Pattern.{Shape}
use Rattle.djq_query.specs.Meaning.{TermIsShown, TermsAreShown}
use Rattle.djq_query.proofs.Numbers.{not_false}
use Rattle.djq_binder.specs.Asked.{column_of, AreAtomsOf}
use Rattle.djq_binder.proofs.EdgeOrder.{in_cons, in_rest}
use Rattle.djq_leaves.specs.Leaves.{IsOver}
use Rattle.djq_leaves.proofs.TreeAnswers.{assigned_of, answer_of, IsIn}
use Rattle.djq_leaves.proofs.LeafRows.{has_at, in_atom}
use Rattle.djq_live_query.specs.Shown.{value_at, shown, AreShownAs, IsShownIn, AnswersAreShown, AnswersStand}
use Rattle.djq_live_query.specs.Shown.{AnswersDiffer, AnswersAreListed}
use Rattle.djq_live_query.specs.Body.{HeadsAreBound}
use Rattle.djq_live_query.specs.Live.{values_of}
use Rattle.djq_live_query.specs.Member.{in_tree, CellsInTreeStand}
use Rattle.djq_live_query.specs.Order.{cell_of_variable}
use Rattle.djq_live_query.proofs.Assignments.{leaf_says, ArePassed, hold_all, pass_all, passed_all}
use Rattle.djq_live_query.proofs.Atoms.{value_by, value_by_is, HasNames, AreSatisfied, satisfies_all, cell_at, rows_for}
use Rattle.djq_live_query.proofs.Atoms.{cell_in, satisfied_all, in_unnamed, value_in}

-- ---- Answers of the tree show the answers of the query.

-- ---- leaves and atoms

-- an assignment is in all leaves exactly where it satisfies all atoms and passes all comparisons
pub satisfied : (c : Catalog) (q : Query) (n : Numbered) (ps : List Shape) (r : Reducts)
    (a : ℕ → ℕ) → IsOver c q n ps r → ((j : ℕ) → j < r.tree.leaves → IsIn r j a)
    → AreSatisfied c a n.atoms
satisfied c q n ps r a h leaves j m e =
    let low = slice_get_within n.atoms j m e in
    let p = has_at ps j (let f = h.patterns in omega arith) in
    ((leaf_says c (label_at r.tree.labels j) n.comparisons m p.element (entries_at r.tables j) a
    (h.leaves j m p.element e p.is)).0 (leaves j (let f = h.long in omega arith))).0

pub passed : (c : Catalog) (q : Query) (n : Numbered) (ps : List Shape) (r : Reducts)
    (a : ℕ → ℕ) → IsOver c q n ps r → ((j : ℕ) → j < r.tree.leaves → IsIn r j a)
    → ArePassed c.texts a n.comparisons
passed c q n ps r a h leaves =
    passed_all c.texts n.variables n.atoms q.comparisons n.comparisons a h.asked.comparisons
    (λ j m k e there has.
    let low = slice_get_within n.atoms j m e in
    let p = has_at ps j (let f = h.patterns in omega arith) in
    let leaf = h.leaves j m p.element e p.is in
    ((leaf_says c (label_at r.tree.labels j) n.comparisons m p.element (entries_at r.tables j) a
    leaf).0 (leaves j (let f = h.long in omega arith))).1 k there
    (leaf.pattern.variables k.variable ∙ has))

pub in_leaves : (c : Catalog) (q : Query) (n : Numbered) (ps : List Shape) (r : Reducts)
    (a : ℕ → ℕ) → IsOver c q n ps r → AreSatisfied c a n.atoms
    → ArePassed c.texts a n.comparisons → (j : ℕ) → j < r.tree.leaves → IsIn r j a
in_leaves c q n ps r a h sat pass j low =
    let m = has_at n.atoms j (let f = h.long in omega arith) in
    let p = has_at ps j (let f = h.long in let g = h.patterns in omega arith) in
    (leaf_says c (label_at r.tree.labels j) n.comparisons m.element p.element
    (entries_at r.tables j) a (h.leaves j m.element p.element m.is p.is)).1
    (sat j m.element m.is, λ k there has. pass k there)

-- ---- heads

pub first_label : (x y : Option Label) (xs ys : List (Option Label)) → x ∷ xs ≡ y ∷ ys → x ≡ y
first_label x y xs ys e = same_Some x y (ap (λ (l : List (Option Label)). slice_get l 0) e)

pub rest_labels : (x y : Option Label) (xs ys : List (Option Label)) → x ∷ xs ≡ y ∷ ys → xs ≡ ys
rest_labels x y xs ys e = ap (λ (l : List (Option Label)). drop 1 l) e

-- what is said of each variable of the head and its name makes two tuples the same
pub heads_same : (ls : List Label) (f : ℕ → Value) (g : Bytes → Value) (xs : List ℕ)
    (names : List Bytes) → map (slice_get ls) xs ≡ map (λ y. Some (Some y)) names
    → ((x : ℕ) (name : Bytes) → member x xs ≡ true → slice_get ls x ≡ Some (Some name)
    → f x ≡ g name)
    → map f xs ≡ map g names
heads_same ls f g [] [] e h = refl
heads_same ls f g [] (name ∷ names) e h = absurd cc
heads_same ls f g (x ∷ xs) [] e h = absurd cc
heads_same ls f g (x ∷ xs) (name ∷ names) e h =
    ap₂ (λ (v : Value) (vs : Tuple). v ∷ vs)
    (h x name (member_here x xs)
    (first_label (slice_get ls x) (Some (Some name)) (map (slice_get ls) xs)
    (map (λ (y : Bytes). Some (Some y)) names) e))
    (heads_same ls f g xs names
    (rest_labels (slice_get ls x) (Some (Some name)) (map (slice_get ls) xs)
    (map (λ (y : Bytes). Some (Some y)) names) e)
    (λ y other m k. h y other (member_on y x xs m) k))

-- the value that an assignment's row shows
pub row_value : (texts : List Bytes) (vs : List Variable) (F : List ℕ) (a : ℕ → ℕ) (x : ℕ)
    → member x F ≡ true
    → value_at texts vs F (map a F) x ≡ value_of texts (column_of vs x) (a x)
row_value texts vs F a x m =
    ap (λ (n : ℕ). value_of texts (column_of vs x) n) (cell_there a F x m)

-- ---- from an answer of the tree to one of the query

pub query_answer : (c : Catalog) (q : Query) (n : Numbered) (ps : List Shape) (r : Reducts)
    (u : List ℕ) → IsOver c q n ps r → IsAnswerOf r u
    → IsAnswer c.relations q (shown c.texts n r.tree.head u)
query_answer c q n ps r u h is =
    let x = assigned_of r u h.reducts is in
    let a = x.assignment in
    let sat = satisfied c q n ps r a h x.leaves in
    record {
      assignment = value_by c.texts n.variables a;
      satisfies = satisfies_all c n.variables a q.atoms n.atoms h.asked.catalog h.asked.one
          h.asked.atoms sat;
      compared = hold_all c n.variables a q.atoms n.atoms q.comparisons n.comparisons
          h.asked.catalog h.asked.one h.asked.atoms sat h.asked.comparisons
          (passed c q n ps r a h x.leaves);
      on_head = ap (λ (v : List ℕ). shown c.texts n r.tree.head v) x.is
          ∙ heads_same (labels n.variables) (value_at c.texts n.variables r.tree.head
          (map a r.tree.head)) (value_by c.texts n.variables a) n.head q.head h.asked.head
          (λ y name m e. row_value c.texts n.variables r.tree.head a y (h.head y ∙ m)
          ∙ sym (value_by_is c.texts n.variables a y name h.asked.one e));
    }

-- ---- from an answer of the query to one of the tree

-- the cell of a variable: that of its name's value, or, where it has none, that of its hole
abbrev cell_of_label : List Bytes → (Bytes → Value) → Option Label → ℕ → ℕ
cell_of_label texts values (Some (Some name)) cell = cell_for texts (values name)
cell_of_label texts values (Some None) cell = cell
cell_of_label texts values None cell = cell

pub tree_answer : (c : Catalog) (q : Query) (n : Numbered) (ps : List Shape) (r : Reducts)
    (answer : Tuple) → IsOver c q n ps r → IsAnswer c.relations q answer
    → IsShownIn c n r answer
tree_answer c q n ps r answer h is =
    let ls = labels n.variables in
    let values = is.assignment in
    let found = rows_for c n.variables values q.atoms n.atoms h.asked.catalog h.asked.atoms
    is.satisfies in
    let holes : ℕ → ℕ = λ y. cell_in c.texts q.atoms n.atoms found.rows y in
    let a : ℕ → ℕ = λ y. cell_of_label c.texts values (slice_get ls y) (holes y) in
    let names : HasNames c.texts ls values a =
    λ x name e. ap (λ (o : Option Label). cell_of_label c.texts values o (holes x)) e in
    let sat = satisfied_all c n.variables values a 0 q.atoms n.atoms found.rows names h.asked.atoms
    found.are h.asked.fresh
    (λ y m. ap (λ (o : Option Label). cell_of_label c.texts values o (holes y))
    (in_unnamed c n.variables q.atoms n.atoms y h.asked.atoms m)) in
    let pass = pass_all c n.variables values a q.atoms n.atoms found.rows q.comparisons
    n.comparisons h.asked.catalog h.asked.atoms found.are names h.asked.comparisons
    is.compared in
    record {
      tuple = map a r.tree.head;
      is_answer = answer_of r a h.reducts (in_leaves c q n ps r a h sat pass);
      is = is.on_head
          ∙ sym
          (heads_same ls (value_at c.texts n.variables r.tree.head (map a r.tree.head)) values
          n.head q.head h.asked.head
          (λ x name m e.
          let at = in_atom c q n ps r x h m in
          let s = value_in c n.variables values x name q.atoms n.atoms found.rows at.place at.atom
          h.asked.catalog h.asked.atoms found.are at.at at.has e in
          row_value c.texts n.variables r.tree.head a x (h.head x ∙ m)
          ∙ ap (λ (k : ℕ). value_of c.texts (column_of n.variables x) k) (names x name e)
          ∙ value_back c.texts (column_of n.variables x) (values name) s.of s.has));
    }

pub are_shown : AnswersAreShown
are_shown c q n ps r h answer = (
  λ is. tree_answer c q n ps r answer h is,
  λ is. subst (λ (t : Tuple). IsAnswer c.relations q t) (sym is.is)
      (query_answer c q n ps r is.tuple h is.is_answer),
)

-- ---- cells and values of an answer

-- the value that an answer shows is the one that its cell stands for
pub value_stands : (texts : List Bytes) (vs : List Variable) (x cell : ℕ)
    → IsCell texts (column_of vs x) cell
    → CellStandsFor texts (column_of vs x) cell (value_of texts (column_of vs x) cell)
value_stands texts vs x cell h =
    let back : value_of texts (column_of vs x) cell ≡ h.value =
    ap (λ (k : ℕ). value_of texts (column_of vs x) k) h.stands.is
    ∙ value_back texts (column_of vs x) h.value h.stands.of h.stands.has in
    subst (λ (v : Value). CellStandsFor texts (column_of vs x) cell v) (sym back) h.stands

pub head_stands : (c : Catalog) (q : Query) (n : Numbered) (ps : List Shape) (r : Reducts)
    (u : List ℕ) (x : ℕ) → IsOver c q n ps r → IsAnswerOf r u → member x n.head ≡ true
    → CellStandsFor c.texts (column_of n.variables x) (slice_index u (column r.tree.head x))
    (value_at c.texts n.variables r.tree.head u x)
head_stands c q n ps r u x h is m =
    let s = assigned_of r u h.reducts is in
    let at = in_atom c q n ps r x h m in
    let cell = cell_at c n.variables s.assignment x q.atoms n.atoms at.place at.atom
    h.asked.catalog h.asked.atoms (satisfied c q n ps r s.assignment h s.leaves) at.at at.has in
    let same : s.assignment x ≡ slice_index u (column r.tree.head x) =
    sym (cell_there s.assignment r.tree.head x (h.head x ∙ m))
    ∙ ap (λ (v : List ℕ). slice_index v (column r.tree.head x)) (sym s.is) in
    value_stands c.texts n.variables x (slice_index u (column r.tree.head x))
    (subst (λ (k : ℕ). IsCell c.texts (column_of n.variables x) k) same cell)

all_stand : (texts : List Bytes) (vs : List Variable) (F u xs : List ℕ)
    → ((x : ℕ) → member x xs ≡ true
    → CellStandsFor texts (column_of vs x) (slice_index u (column F x)) (value_at texts vs F u x))
    → AreShownAs texts vs F u xs (map (value_at texts vs F u) xs)
all_stand texts vs F u [] h = tt
all_stand texts vs F u (x ∷ xs) h =
    (h x (member_here x xs), all_stand texts vs F u xs (λ y m. h y (member_on y x xs m)))

pub stand : AnswersStand
stand c q n ps r h u is =
    all_stand c.texts n.variables r.tree.head u n.head
    (λ x m. head_stands c q n ps r u x h is m)

-- ---- different answers

first_value : (x y : Value) (xs ys : Tuple) → x ∷ xs ≡ y ∷ ys → x ≡ y
first_value x y xs ys e = same_Some x y (ap (λ (l : Tuple). slice_get l 0) e)

rest_values : (x y : Value) (xs ys : Tuple) → x ∷ xs ≡ y ∷ ys → xs ≡ ys
rest_values x y xs ys e = ap (λ (l : Tuple). drop 1 l) e

pub maps_at : (f g : ℕ → Value) (xs : List ℕ) (x : ℕ) → map f xs ≡ map g xs → member x xs ≡ true
    → f x ≡ g x
maps_at f g [] x e m = absurd (false≢true m)
maps_at f g (y ∷ xs) x e m =
    elim (or_cases (x == y) (member x xs) m) [
      | inl here ↦
          let same = eqb-true x y here in
          ap f same ∙ first_value (f y) (g y) (map f xs) (map g xs) e ∙ ap g (sym same)
      | inr there ↦ maps_at f g xs x (rest_values (f y) (g y) (map f xs) (map g xs) e) there
    ]

pub differ : AnswersDiffer
differ c q n ps r h u v is other e =
    let s = assigned_of r u h.reducts is in
    let t = assigned_of r v h.reducts other in
    let F = r.tree.head in
    s.is
    ∙ row_same s.assignment t.assignment F
    (λ x m.
    let low = sym (h.head x) ∙ m in
    let p = head_stands c q n ps r u x h is low in
    let k = head_stands c q n ps r v x h other low in
    let values = maps_at (value_at c.texts n.variables F u) (value_at c.texts n.variables F v)
    n.head x e low in
    sym (cell_there s.assignment F x m)
    ∙ ap (λ (w : List ℕ). slice_index w (column F x)) (sym s.is)
    ∙ p.is ∙ ap (cell_for c.texts) values ∙ sym k.is
    ∙ ap (λ (w : List ℕ). slice_index w (column F x)) t.is
    ∙ cell_there t.assignment F x m)
    ∙ sym t.is

-- ---- listings

pub listed : AnswersAreListed
listed c q n ps r h us different all complete =
    let show : List ℕ → Tuple = λ u. shown c.texts n r.tree.head u in
    record {
      different = λ i j d before low same.
          let long : length (map show us) ≡ length us = length-map us show in
          different i j [] before (omega arith)
          (differ c q n ps r h _ _ (all i [] (omega arith)) (all j [] (omega arith))
          (sym (get_or-map show us i [] d (omega arith)) ∙ same
          ∙ get_or-map show us j [] d (omega arith)));
      answers = λ i d low.
          let long : length (map show us) ≡ length us = length-map us show in
          subst (λ (t : Tuple). IsAnswer c.relations q t) (sym (get_or-map show us i [] d
          (omega arith)))
          (query_answer c q n ps r _ h (all i [] (omega arith)));
      complete = λ t is.
          let s = tree_answer c q n ps r t h is in
          let k = complete s.tuple s.is_answer in
          let low = k.1 in
          let long : length (map show us) ≡ length us = length-map us show in (
            k.0,
            omega arith,
            get_or-map show us k.0 s.tuple t low ∙ ap show k.2 ∙ sym s.is,
          );
    }

-- ---- The variables of a head stand in the body.

-- a number of the head has the name
record NumberOf (ls : List Label) (xs : List ℕ) (name : Bytes) : Type 0 where
  pub number : ℕ
  pub has : member number xs ≡ true
  pub named : slice_get ls number ≡ Some (Some name)

number_in : (ls : List Label) (xs : List ℕ) (names : List Bytes) (name : Bytes)
    → map (slice_get ls) xs ≡ map (λ y. Some (Some y)) names → Contains names name
    → NumberOf ls xs name
number_in ls [] [] name e c = absurd (none_contained name c)
number_in ls [] (y ∷ names) name e c = absurd cc
number_in ls (x ∷ xs) [] name e c = absurd (none_contained name c)
number_in ls (x ∷ xs) (y ∷ names) name e c =
    elim (in_cons y name names c) [
      | inl here ↦ record {
        number = x;
        has = member_here x xs;
        named = first_label (slice_get ls x) (Some (Some y)) (map (slice_get ls) xs)
            (map (λ (k : Bytes). Some (Some k)) names) e
            ∙ ap (λ (k : Bytes). Some (Some k)) here;
      }
      | inr there ↦
          let r = number_in ls xs names name
          (rest_labels (slice_get ls x) (Some (Some y)) (map (slice_get ls) xs)
          (map (λ (k : Bytes). Some (Some k)) names) e) there in
          record { number = r.number; has = member_on r.number x xs r.has; named = r.named }
    ]

-- ---- the term that a number stands for

label_as : (ls : List Label) (x k : ℕ) (label : Label) (name : Bytes) → x ≡ k
    → slice_get ls k ≡ Some label → slice_get ls x ≡ Some (Some name) → label ≡ Some name
label_as ls x k label name e shown named =
    same_Some label (Some name) (sym shown ∙ ap (slice_get ls) (sym e) ∙ named)

term_is : (ls : List Label) (t : Term) (n : NumberedTerm) (x : ℕ) (name : Bytes) → TermIsShown ls t n
    → is_number x n ≡ true → slice_get ls x ≡ Some (Some name) → t ≡ Named name
term_is ls (Named y) (Number k) x name shown is named =
    ap (λ (z : Bytes). Named z)
    (same_Some y name (label_as ls x k (Some y) name (eqb-true x k is) shown named))
term_is ls Hole (Number k) x name shown is named =
    let none : None ≡ Some name = label_as ls x k None name (eqb-true x k is) shown named in
    absurd cc
term_is ls (Constant v) (Number k) x name shown is named = absurd shown
term_is ls (Named y) (Fixed w) x name shown is named = absurd shown
term_is ls Hole (Fixed w) x name shown is named = absurd shown
term_is ls (Constant v) (Fixed w) x name shown is named = absurd (false≢true is)

term_in : (ls : List Label) (ts : List Term) (ns : List NumberedTerm) (x : ℕ) (name : Bytes)
    → TermsAreShown ls ts ns → list_any (is_number x) ns ≡ true → slice_get ls x ≡ Some (Some name)
    → Contains ts (Named name)
term_in ls [] [] x name shown has named = absurd (false≢true has)
term_in ls [] (n ∷ ns) x name shown has named = absurd shown
term_in ls (t ∷ ts) [] x name shown has named = absurd shown
term_in ls (t ∷ ts) (n ∷ ns) x name shown has named =
    elim (or_cases (is_number x n) (list_any (is_number x) ns) has) [
      | inl here ↦
          subst (λ (k : Term). Contains (k ∷ ts) (Named name))
          (sym (term_is ls t n x name shown.0 here named)) (at_head (Named name) ts)
      | inr there ↦ in_rest t (Named name) ts (term_in ls ts ns x name shown.1 there named)
    ]

-- ---- the atom that has it

abbrev HasTerm : List Atom → Term → Type 0
HasTerm atoms t = (a : Atom) × Contains atoms a × Contains a.terms t

atom_in : (c : Catalog) (vs : List Variable) (atoms : List Atom) (ms : List NumberedAtom) (j : ℕ)
    (m : NumberedAtom) (x : ℕ) (name : Bytes) → AreAtomsOf c vs atoms ms
    → slice_get ms j ≡ Some m → list_any (is_number x) m.terms ≡ true
    → slice_get (labels vs) x ≡ Some (Some name) → HasTerm atoms (Named name)
atom_in c vs [] [] j m x name h e has named = absurd cc
atom_in c vs [] (n ∷ ms) j m x name h e has named = absurd h
atom_in c vs (a ∷ atoms) [] j m x name h e has named = absurd h
atom_in c vs (a ∷ atoms) (n ∷ ms) zero m x name h e has named = (
  a,
  at_head a atoms,
  term_in (labels vs) a.terms n.terms x name h.0.shown
      (ap (λ (k : NumberedAtom). list_any (is_number x) k.terms) (same_Some n m e) ∙ has) named,
)
atom_in c vs (a ∷ atoms) (n ∷ ms) (suc j) m x name h e has named =
    let r = atom_in c vs atoms ms j m x name h.1 e has named in
    (r.0, in_rest a r.0 atoms r.1, r.2)

pub heads_bound : HeadsAreBound
heads_bound c l h x has =
    let n = l.numbered in
    let number = number_in (labels n.variables) n.head (l.query).head x h.over.asked.head has in
    let at = in_atom c l.query n l.patterns l.reducts number.number h.over number.has in
    atom_in c n.variables (l.query).atoms n.atoms at.place at.atom number.number x
    h.over.asked.atoms at.at at.has number.named

-- ---- Cells in the order of a head, as tuples of the tree.

-- ---- no variable stands in a head twice

-- the label of a name
abbrev named : Bytes → Option Label
named name = Some (Some name)

same_name : (a b : Bytes) → named a ≡ named b → a ≡ b
same_name a b e = same_Some a b (same_Some (Some a) (Some b) e)

-- a variable that stands among others has its name among theirs
name_there : (f : ℕ → Option Label) (x : ℕ) (name : Bytes) (xs : List ℕ) (names : List Bytes)
    → f x ≡ named name → map f xs ≡ map named names → member x xs ≡ true
    → has_name names name ≡ true
name_there f x name [] names is e m = absurd (false≢true m)
name_there f x name (y ∷ xs) [] is e m = absurd cc
name_there f x name (y ∷ xs) (other ∷ names) is e m =
    elim (or_cases (x == y) (member x xs) m) [
      | inl here ↦
          let same : named name ≡ named other =
          sym is ∙ ap f (eqb-true x y here)
          ∙ first_label (f y) (named other) (map f xs) (map named names) e in
          or_left (bytes_eq name other) (has_name names name)
          ((bytes_eq-decides name other).1 (same_name name other same))
      | inr there ↦ or_right (bytes_eq name other) (has_name names name)
          (name_there f x name xs names is
          (rest_labels (f y) (named other) (map f xs) (map named names) e) there)
    ]

simple_head : (f : ℕ → Option Label) (xs : List ℕ) (names : List Bytes)
    → map f xs ≡ map named names → are_different names ≡ true → IsSimple xs
simple_head f [] names e h = tt
simple_head f (x ∷ xs) [] e h = absurd cc
simple_head f (x ∷ xs) (name ∷ names) e h =
    let is = first_label (f x) (named name) (map f xs) (map named names) e in
    let rest = rest_labels (f x) (named name) (map f xs) (map named names) e in
    let p = and_parts (not (has_name names name)) (are_different names) h in (
      elim (cases_Bool (member x xs)) [
        | inl there ↦ absurd (false≢true (sym (not-true (has_name names name) p.0)
            ∙ name_there f x name xs names is rest there))
        | inr isnt ↦ isnt
      ],
      simple_head f xs names rest p.1,
    )

-- ---- cells that stand for a tuple

-- they are shown, where the head reads them
shown_as : (texts : List Bytes) (vs : List Variable) (F u xs : List ℕ) (v : Tuple)
    → map (cell_of_variable F u) xs ≡ cells_of texts v → fits (map (column_of vs) xs) v ≡ true
    → HaveCells texts v → AreShownAs texts vs F u xs v
shown_as texts vs F u [] [] e f h = tt
shown_as texts vs F u [] (w ∷ v) e f h = absurd (false≢true f)
shown_as texts vs F u (x ∷ xs) [] e f h = absurd (false≢true f)
shown_as texts vs F u (x ∷ xs) (w ∷ v) e f h =
    let p = and_parts (is_of (column_of vs x) w) (fits (map (column_of vs) xs) v) f in (
      record {
        of = p.0;
        has = h.0;
        is = ap (λ (l : List ℕ). slice_index l 0) e;
      },
      shown_as texts vs F u xs v (ap (λ (l : List ℕ). drop 1 l) e) p.1 h.1,
    )

-- and the values shown are the tuple
values_as : (texts : List Bytes) (vs : List Variable) (F u xs : List ℕ) (ws : Tuple)
    → AreShownAs texts vs F u xs ws → map (value_at texts vs F u) xs ≡ ws
values_as texts vs F u [] [] h = refl
values_as texts vs F u [] (w ∷ ws) h = absurd h
values_as texts vs F u (x ∷ xs) [] h = absurd h
values_as texts vs F u (x ∷ xs) (w ∷ ws) h =
    ap₂ (λ (v : Value) (vs : Tuple). v ∷ vs)
    (ap (λ (k : ℕ). value_of texts (column_of vs x) k) (h.0).is
    ∙ value_back texts (column_of vs x) w (h.0).of (h.0).has)
    (values_as texts vs F u xs ws h.1)

fits_long : (vs : List Variable) (xs : List ℕ) (v : Tuple) → fits (map (column_of vs) xs) v ≡ true
    → length v ≡ length xs
fits_long vs [] [] f = refl
fits_long vs [] (w ∷ v) f = absurd (false≢true f)
fits_long vs (x ∷ xs) [] f = absurd (false≢true f)
fits_long vs (x ∷ xs) (w ∷ v) f =
    let rest = fits_long vs xs v (and_parts (is_of (column_of vs x) w) (fits (map (column_of vs) xs) v) f).1 in
    omega arith

-- ---- of a query that is kept

-- cells in the head's order are read off their tuple of the tree
head_read : (head F t : List ℕ) → IsSimple head → length t ≡ length head
    → ((x : ℕ) → member x F ≡ member x head)
    → map (cell_of_variable F (map (cell_of_variable head t) F)) head ≡ t
head_read head F t simple long within =
    row_same (cell_of_variable F (map (cell_of_variable head t) F)) (cell_of_variable head t) head
    (λ x m. cell_there (cell_of_variable head t) F x (within x ∙ m))
    ∙ reading_row head t simple long

pub tree_stand : CellsInTreeStand
tree_stand c l kept t v s =
    let n = l.numbered in
    let F = l.reducts.tree.head in
    let asked = kept.over.asked in
    let u = in_tree l t in
    let simple = simple_head (slice_get (labels n.variables)) n.head l.query.head asked.head
    (not_false (are_different l.query.head) asked.once) in
    let long : length t ≡ length n.head = ap (λ (cells : List ℕ). length cells) s.are
    ∙ length-map v (cell_for c.texts) ∙ fits_long n.variables n.head v s.of in
    let shows : AreShownAs c.texts n.variables F u n.head v =
    shown_as c.texts n.variables F u n.head v (head_read n.head F t simple long kept.over.head ∙ s.are)
    s.of s.have in
    let same : values_of c.texts l u ≡ v = values_as c.texts n.variables F u n.head v shows in
    record {
      showable = record {
        wide = length-map F (cell_of_variable n.head t);
        stands = subst (AreShownAs c.texts n.variables F u n.head) (sym same) shows;
      };
      shows = same;
    }
