-- What a tuple of values has to do with the answers of a query's tree: its types, its cells.
use Rattle.std.proofs.Common.{◌≡◌, ℕ, zero, suc, ◌+◌, ◌<◌, Bool, true, List, [], ◌∷◌, ◌++◌, length, map, drop, refl, ap}
use Rattle.std.proofs.Common.{ap₂, sym, ◌∙◌, arith, ◌≤◌, false, subst, inl, inr, take}
use Rattle.std.specs.Prelude.{Option, Some, slice_index, option_to_list, ◌==◌, ◌||◌, ◌↔◌, None, option_map, unwrap_or}
use Rattle.std.specs.Prelude.{slice_get, slice_index_or}
use Rattle.std.proofs.lemmas.List.{drop_more, length-map, get_or-map, take_all}
use Rattle.std.specs.List.{list_any}
use Rattle.std.proofs.lemmas.Bool.{cases_Bool, cases_eq, eq-eqb, eqb-true, ne_eqb, false≢true, or_left, or_right}
use Rattle.std.proofs.lemmas.Bool.{and_parts, or_from}
use Rattle.std.proofs.lemmas.Option.{same_Some, slice_get-map, slice_get-get_or}
use Rattle.std.proofs.lemmas.List.Kept.{AllPairs-from_increasing}
use Rattle.djq_hypergraph.specs.Hypergraph.{member, one}
use Rattle.djq_hypergraph.specs.Variables.{IsVariableSet}
use Rattle.djq_hypergraph.proofs.Sets.{member_here, has_bit, one_le}
use Rattle.djq_hypergraph.proofs.Labels.{numbers, times}
use Rattle.djq_model.specs.declared.relation.ColumnType.{ColumnType}
use Rattle.djq_model.specs.declared.value.Value.{Value}
use Rattle.djq_model.specs.declared.query.Query.{Query}
use Rattle.djq_model.specs.declared.query.Atom.{Atom}
use Rattle.djq_model.specs.declared.query.Term.{Term}
use Rattle.djq_model.specs.declared.query.Term.TheVariants.{Variable as Named, Hole, Constant}
use Rattle.djq_model.specs.Data.{Tuple, Bytes, bytes_eq, relation_of}
use Rattle.djq_model.specs.Typed.{fits, is_of}
use Rattle.djq_model.specs.Equality.{bytes_eq-decides}
use Rattle.djq_model.specs.Answer.{IsAnswer}
use Rattle.djq_model.specs.Known.{knows_all, texts_in}
use Rattle.djq_tree.proofs.Nodes.{has_times, no_longer}
use Rattle.djq_protocol.specs.declared.answer.Refusal.{Refusal}
use Rattle.djq_protocol.specs.declared.answer.Refusal.TheVariants.{Arity, WrongType}
use Rattle.djq_protocol.specs.Columns.{types_of}
use Rattle.djq_protocol.specs.Variables.{Label}
use Rattle.djq_reduct.specs.Columns.{column}
use Rattle.djq_reduct.specs.Reducts.{Reducts}
use Rattle.djq_reduct.specs.Answers.{IsAnswerOf}
use Rattle.djq_reduct.proofs.Assignments.{column_here, column_on, column_none, column_within, member_on, IsSimple}
use Rattle.djq_reduct.proofs.Assignments.{Within, simple_of, cell_there, row_same, reading_row}
use Rattle.djq_database.specs.Cells.{cells_of, HaveCells, CellStandsFor}
use Rattle.djq_database.specs.Parts.{value_of}
use Rattle.djq_database.specs.Catalog.{Catalog, IsCatalog, relation_at}
use Rattle.djq_database.proofs.Cells.{value_back, unknown_row}
use Rattle.djq_query.specs.declared.numbered.Variable.{Variable}
use Rattle.djq_query.specs.declared.numbered.NumberedTerm.{NumberedTerm}
use Rattle.djq_query.specs.declared.numbered.NumberedTerm.TheVariants.{Variable as Number, Constant as Fixed}
use Rattle.djq_query.specs.declared.numbered.NumberedAtom.{NumberedAtom}
use Rattle.djq_query.specs.Numbered.{Numbered, labels, number_of, is_number, IsWithin}
use Rattle.djq_query.specs.Meaning.{TermsAreShown}
use Rattle.djq_query.specs.Pattern.{Shape}
use Rattle.djq_store_spec.specs.Asking.{type_among, variable_type, answer_types, misfit, Tells}
use Rattle.djq_binder.specs.Asked.{column_of, TermsSuit, IsAtomOf, AreAtomsOf}
use Rattle.djq_binder.proofs.Hypergraphs.{high_head, is_set}
use Rattle.djq_leaves.specs.Leaves.{IsOver}
use Rattle.djq_leaves.proofs.LeafRows.{in_atom}
use Rattle.djq_live_query.specs.declared.headed.HeadCell.{HeadCell}
use Rattle.djq_live_query.specs.Live.{Live, IsLive, IsKeptSomewhere, IsShowable}
use Rattle.djq_live_query.specs.Order.{cell_of_variable, AreCellsOfAnswer}
use Rattle.djq_live_query.specs.Shown.{value_at, shown, AreShownAs}
use Rattle.djq_live_query.specs.Headed.{head_cell, head_set, head_cells}
use Rattle.djq_live_query.proofs.Atoms.{found_at, HasOne}
use Rattle.djq_live_query.proofs.ShownAnswers.{stands_at}
use Rattle.djq_live_query.proofs.TreeAnswers.{query_answer, tree_answer, stand, first_label, rest_labels}

-- ---- Cells of a head's variables, in the head's order and in rising order.

-- ---- the place of a variable

-- the variable isn't before a place: it stands there, or behind, or nowhere
abbrev pub IsFrom : List ℕ → ℕ → ℕ → Type 0
IsFrom xs x at = column xs x ≡ at + column (drop at xs) x

pub from_next : (xs : List ℕ) (x at : ℕ) → at < length xs → (slice_index xs at ≡ x → ⊥)
    → IsFrom xs x at → IsFrom xs x (at + 1)
from_next xs x at low other h =
    let here = ap (λ (l : List ℕ). column l x) (drop_more xs at 0 low)
    ∙ column_on (slice_index xs at) (drop (at + 1) xs) x other in
    omega arith

pub from_here : (xs : List ℕ) (x at : ℕ) → at < length xs → slice_index xs at ≡ x
    → IsFrom xs x at → column xs x ≡ at
from_here xs x at low is h =
    let here = ap (λ (l : List ℕ). column l x) (drop_more xs at 0 low)
    ∙ column_here (slice_index xs at) (drop (at + 1) xs) x is in
    omega arith

drop_all : {A : Type 0} (xs : List A) → drop (length xs) xs ≡ []
drop_all [] = refl
drop_all (x ∷ xs) = drop_all xs

pub from_end : (xs : List ℕ) (x at : ℕ) → at ≡ length xs → IsFrom xs x at → column xs x ≡ at
from_end xs x at last h =
    let none = ap (λ (l : List ℕ). column l x)
    (ap (λ (n : ℕ). drop n xs) last ∙ drop_all xs) ∙ column_none x in
    omega arith

-- ---- types

-- the values from a place on suit the variables from there on
abbrev pub fits_from : List Variable → List ℕ → Tuple → ℕ → Bool
fits_from vs xs t at = fits (map (column_of vs) (drop at xs)) (drop at t)

-- ---- variables in rising order

pub popped : (o : Option ℕ) (old new : List ℕ) (x : ℕ) → old ≡ option_to_list o ++ new
    → o ≡ Some x → old ≡ x ∷ new
popped o old new x taken is = taken ∙ ap (λ (p : Option ℕ). option_to_list p ++ new) is

pub first_within : (head old new : List ℕ) (x : ℕ) → old ≡ x ∷ new
    → ((y : ℕ) → member y old ≡ true → member y head ≡ true) → member x head ≡ true
first_within head old new x e h =
    h x (ap (λ (l : List ℕ). member x l) e ∙ member_here x new)

-- ---- cells that agree

maps_to : (f : ℕ → ℕ) (xs cells : List ℕ) → length cells ≡ length xs
    → ((j : ℕ) → j < length xs → slice_index cells j ≡ f (slice_index xs j)) → map f xs ≡ cells
maps_to f [] [] long h = refl
maps_to f [] (c ∷ cells) long h = absurd (omega arith)
maps_to f (x ∷ xs) [] long h = absurd (omega arith)
maps_to f (x ∷ xs) (c ∷ cells) long h =
    ap₂ (λ (y : ℕ) (ys : List ℕ). y ∷ ys) (sym (h 0 (omega arith)))
    (maps_to f xs cells (omega arith) (λ j low. h (suc j) (omega arith)))

pub agree_all : (f : ℕ → ℕ) (xs cells : List ℕ) (at : ℕ) → length cells ≡ length xs
    → at ≡ length xs
    → ((j : ℕ) → j < at → slice_index cells j ≡ f (slice_index xs j)) → map f xs ≡ cells
agree_all f xs cells at long last h = maps_to f xs cells long (λ j low. h j (omega arith))

-- ---- places are within

pub member_at : (xs : List ℕ) (at : ℕ) → at < length xs → member (slice_index xs at) xs ≡ true
member_at [] at low = absurd (omega arith)
member_at (x ∷ xs) zero low = member_here x xs
member_at (x ∷ xs) (suc at) low =
    member_on (slice_index xs at) x xs (member_at xs at (omega arith))

pub place_low : (head : List ℕ) (x place count : ℕ) → member x head ≡ true
    → place ≡ column head x → count ≡ length head → place < count
place_low head x place count m is long = let low = column_within head x m in omega arith

-- ---- What a tuple of values has to do with the answers of a query's tree: its types, its cells.

-- ---- the type of a head's variable

types_here : (c : Catalog) (vs : List Variable) (a : Atom) (m : NumberedAtom) → IsCatalog c
    → IsAtomOf c vs a m
    → types_of (relation_of c.relations a.relation) ≡ (relation_at c.relations m.relation).types
types_here c vs a m h is =
    ap types_of (found_at c.relations a.relation m.relation h.names is.below is.named)

same_name : (vs : List Variable) (x k : ℕ) (name y : Bytes) → x ≡ k
    → slice_get (labels vs) x ≡ Some (Some name) → slice_get (labels vs) k ≡ Some (Some y)
    → y ≡ name
same_name vs x k name y e named shown =
    sym (same_Some name y (same_Some (Some name) (Some y)
    (sym named ∙ ap (slice_get (labels vs)) e ∙ shown)))

-- no number has a name and none
unnamed : (vs : List Variable) (x k : ℕ) (name : Bytes) → x ≡ k
    → slice_get (labels vs) x ≡ Some (Some name) → slice_get (labels vs) k ≡ Some None → ⊥
unnamed vs x k name e named shown =
    let none : Some name ≡ None = same_Some (Some name) None
    (sym named ∙ ap (slice_get (labels vs)) e ∙ shown) in
    absurd cc

-- the type of the first column where a variable stands is that of its number
among : (vs : List Variable) (texts : List Bytes) (x : ℕ) (name : Bytes) (ts : List Term)
    (ns : List NumberedTerm) (cs : List ColumnType) (rest : ColumnType) → HasOne vs
    → TermsAreShown (labels vs) ts ns → TermsSuit texts vs ns cs
    → slice_get (labels vs) x ≡ Some (Some name)
    → (list_any (is_number x) ns ≡ false → rest ≡ column_of vs x)
    → unwrap_or (type_among cs ts name) rest ≡ column_of vs x
among vs texts x name [] [] [] rest one shown suits e h = h refl
among vs texts x name [] [] (c ∷ cs) rest one shown suits e h = absurd suits
among vs texts x name [] (n ∷ ns) cs rest one shown suits e h = absurd shown
among vs texts x name (t ∷ ts) [] cs rest one shown suits e h = absurd shown
among vs texts x name (t ∷ ts) (n ∷ ns) [] rest one shown suits e h = absurd suits
among vs texts x name (Named y ∷ ts) (Fixed w ∷ ns) (c ∷ cs) rest one shown suits e h =
    absurd shown.0
among vs texts x name (Hole ∷ ts) (Fixed w ∷ ns) (c ∷ cs) rest one shown suits e h =
    absurd shown.0
among vs texts x name (Constant v ∷ ts) (Number k ∷ ns) (c ∷ cs) rest one shown suits e h =
    absurd shown.0
among vs texts x name (Constant v ∷ ts) (Fixed w ∷ ns) (c ∷ cs) rest one shown suits e h =
    among vs texts x name ts ns cs rest one shown.1 suits.1 e h
among vs texts x name (Hole ∷ ts) (Number k ∷ ns) (c ∷ cs) rest one shown suits e h =
    among vs texts x name ts ns cs rest one shown.1 suits.1 e
    (λ none. h (or_from (x == k) (list_any (is_number x) ns)
    (ne_eqb x k (λ same. unnamed vs x k name same e shown.0)) none))
among vs texts x name (Named y ∷ ts) (Number k ∷ ns) (c ∷ cs) rest one shown suits e h =
    elim (cases_Bool (bytes_eq y name)) [
      | inl same ↦
          let named = (bytes_eq-decides y name).0 same in
          let at : k ≡ x = sym (one k y shown.0) ∙ ap (number_of (labels vs)) named
          ∙ one x name e in
          rw same (sym suits.0 ∙ ap (column_of vs) at)
      | inr other ↦
          rw other
          (among vs texts x name ts ns cs rest one shown.1 suits.1 e
          (λ none. h (or_from (x == k) (list_any (is_number x) ns)
          (ne_eqb x k
          (λ at. false≢true (sym other
          ∙ (bytes_eq-decides y name).1 (same_name vs x k name y at e shown.0)))) none)))
    ]

in_later : (a b : Bool) → (a || b) ≡ true → a ≡ false → b ≡ true
in_later true b h none = absurd (false≢true (sym none))
in_later false b h none = h

type_in : (c : Catalog) (vs : List Variable) (x : ℕ) (name : Bytes) (atoms : List Atom)
    (ms : List NumberedAtom) → IsCatalog c → HasOne vs → AreAtomsOf c vs atoms ms
    → slice_get (labels vs) x ≡ Some (Some name)
    → list_any (λ m. list_any (is_number x) m.terms) ms ≡ true
    → variable_type c.relations atoms name ≡ column_of vs x
type_in c vs x name [] [] h one are e has_bit = absurd (false≢true has_bit)
type_in c vs x name [] (m ∷ ms) h one are e has_bit = absurd are
type_in c vs x name (a ∷ atoms) [] h one are e has_bit = absurd are
type_in c vs x name (a ∷ atoms) (m ∷ ms) h one are e has_bit =
    ap (λ (cs : List ColumnType). unwrap_or (type_among cs a.terms name)
    (variable_type c.relations atoms name)) (types_here c vs a m h are.0)
    ∙ among vs c.texts x name a.terms m.terms (relation_at c.relations m.relation).types
    (variable_type c.relations atoms name) one are.0.shown are.0.suited e
    (λ none. type_in c vs x name atoms ms h one are.1 e
    (in_later (list_any (is_number x) m.terms)
    (list_any (λ (k : NumberedAtom). list_any (is_number x) k.terms) ms) has_bit none))

any_at : (x : ℕ) (ms : List NumberedAtom) (j : ℕ) (m : NumberedAtom) → slice_get ms j ≡ Some m
    → list_any (is_number x) m.terms ≡ true
    → list_any (λ k. list_any (is_number x) k.terms) ms ≡ true
any_at x [] j m e has_bit = absurd cc
any_at x (n ∷ ms) zero m e has_bit =
    or_left (list_any (is_number x) n.terms)
    (list_any (λ (k : NumberedAtom). list_any (is_number x) k.terms) ms)
    (ap (λ (k : NumberedAtom). list_any (is_number x) k.terms) (same_Some n m e) ∙ has_bit)
any_at x (n ∷ ms) (suc j) m e has_bit =
    or_right (list_any (is_number x) n.terms)
    (list_any (λ (k : NumberedAtom). list_any (is_number x) k.terms) ms)
    (any_at x ms j m e has_bit)

-- what is said of each variable of the head and its name makes two lists the same
heads_same : {A : Type 0} (ls : List Label) (f : ℕ → A) (g : Bytes → A) (xs : List ℕ)
    (names : List Bytes) → map (slice_get ls) xs ≡ map (λ y. Some (Some y)) names
    → ((x : ℕ) (name : Bytes) → member x xs ≡ true → slice_get ls x ≡ Some (Some name)
    → g name ≡ f x)
    → map g names ≡ map f xs
heads_same ls f g [] [] e h = refl
heads_same ls f g [] (name ∷ names) e h = absurd cc
heads_same ls f g (x ∷ xs) [] e h = absurd cc
heads_same {A} ls f g (x ∷ xs) (name ∷ names) e h =
    ap₂ (λ (v : A) (vs : List A). v ∷ vs)
    (h x name (member_here x xs)
    (first_label (slice_get ls x) (Some (Some name)) (map (slice_get ls) xs)
    (map (λ (y : Bytes). Some (Some y)) names) e))
    (heads_same ls f g xs names
    (rest_labels (slice_get ls x) (Some (Some name)) (map (slice_get ls) xs)
    (map (λ (y : Bytes). Some (Some y)) names) e)
    (λ y other m k. h y other (member_on y x xs m) k))

-- the types of a query's answers are those of its head's numbers
pub types_are : (c : Catalog) (q : Query) (n : Numbered) (ps : List Shape) (r : Reducts)
    → IsOver c q n ps r
    → answer_types c.relations q ≡ map (column_of n.variables) n.head
types_are c q n ps r h =
    heads_same (labels n.variables) (column_of n.variables) (variable_type c.relations q.atoms)
    n.head q.head h.asked.head
    (λ x name m e.
    let at = in_atom c q n ps r x h m in
    type_in c n.variables x name q.atoms n.atoms h.asked.catalog h.asked.one h.asked.atoms e
    (any_at x n.atoms at.place at.atom at.at at.has))

-- ---- widths

pub head_long : (c : Catalog) (q : Query) (n : Numbered) (ps : List Shape) (r : Reducts)
    → IsOver c q n ps r → length n.head ≡ length q.head
head_long c q n ps r h =
    sym (length-map n.head (slice_get (labels n.variables)))
    ∙ ap (λ (l : List (Option Label)). length l) h.asked.head
    ∙ length-map q.head (λ (y : Bytes). Some (Some y))

pub atoms_long : (c : Catalog) (vs : List Variable) (atoms : List Atom) (ms : List NumberedAtom)
    → AreAtomsOf c vs atoms ms → length ms ≡ length atoms
atoms_long c vs [] [] h = refl
atoms_long c vs [] (m ∷ ms) h = absurd h
atoms_long c vs (a ∷ atoms) [] h = absurd h
atoms_long c vs (a ∷ atoms) (m ∷ ms) h = ap (λ (k : ℕ). suc k) (atoms_long c vs atoms ms h.1)

pub leaves_long : (c : Catalog) (q : Query) (n : Numbered) (ps : List Shape) (r : Reducts)
    → IsOver c q n ps r → r.tree.leaves ≡ length q.atoms
leaves_long c q n ps r h = h.long ∙ atoms_long c n.variables q.atoms n.atoms h.asked.atoms

once : (x : ℕ) (xs : List ℕ) → IsSimple xs → times numbers x xs ≤ 1
once x [] s = omega arith
once x (y ∷ xs) s =
    elim (cases_eq x y) [
      | inl same ↦
          let none : member x xs ≡ false = ap (λ (z : ℕ). member z xs) same ∙ s.0 in
          let m = has_times x xs in
          let gone : has_bit x xs ≡ 0 = ap one none in
          let l = one_le (x == y) in
          omega arith
      | inr other ↦
          let r = once x xs s.1 in
          let gone : one (x == y) ≡ 0 = ap one (ne_eqb x y other) in
          omega arith
    ]

fewer : (xs V : List ℕ) (x : ℕ) → IsSimple xs → Within xs V → times numbers x xs ≤ times numbers x V
fewer xs V x s within =
    let a = has_times x xs in
    let b = has_times x V in
    let o = once x xs s in
    elim (cases_Bool (member x xs)) [
      | inl is ↦
          let there : has_bit x V ≡ 1 = ap one (within x is) in
          omega arith
      | inr isnt ↦
          let gone : has_bit x xs ≡ 0 = ap one isnt in
          omega arith
    ]

-- a tree's head is no longer than its query's
pub head_narrow : (c : Catalog) (q : Query) (n : Numbered) (ps : List Shape) (r : Reducts)
    → IsOver c q n ps r → length r.tree.head ≤ length q.head
head_narrow c q n ps r h =
    let simple = simple_of r.tree.head h.reducts.family.is_tree.head_set.rising in
    let e = head_long c q n ps r h in
    let l = no_longer r.tree.head n.head
    (λ x. fewer r.tree.head n.head x simple (λ y m. sym (h.head y) ∙ m)) in
    omega arith

pub narrow : (c : Catalog) (l m : Live) → l ≡ m → IsLive c m
    → length l.reducts.tree.head ≤ length m.query.head
narrow c l m e live =
    let same = ap (λ (o : Live). length o.reducts.tree.head) e in
    let short = head_narrow c m.query m.numbered m.patterns m.reducts live.kept.over in
    omega arith

-- ---- whether a tuple suits

wrong_type : (types : List ColumnType) (t : Tuple) → length t ≡ length types
    → fits types t ≡ false → misfit types t ≡ Some WrongType
wrong_type types t long f = rw (eq-eqb (length t) (length types) long) (rw f refl)

right_type : (types : List ColumnType) (t : Tuple) → length t ≡ length types
    → fits types t ≡ true → misfit types t ≡ None
right_type types t long f = rw (eq-eqb (length t) (length types) long) (rw f refl)

misfit_long : (types : List ColumnType) (t : Tuple) → misfit types t ≡ None
    → length t ≡ length types
misfit_long types t h =
    elim (cases_Bool (length t == length types)) [
      | inl same ↦ eqb-true (length t) (length types) same
      | inr other ↦ let k : Some Arity ≡ None = rw other at h in absurd cc
    ]

misfit_fits : (types : List ColumnType) (t : Tuple) → misfit types t ≡ None
    → fits types t ≡ true
misfit_fits types t h =
    elim (cases_Bool (fits types t)) [
      | inl fit ↦ fit
      | inr unfit ↦
          let k : Some WrongType ≡ None =
          sym (wrong_type types t (misfit_long types t h) unfit) ∙ h in
          absurd cc
    ]

-- what is wrong with a tuple, by the types of the head's numbers
told : (c : Catalog) (l : Live) (vs : List Variable) (xs : List ℕ) (t : Tuple)
    (o : Option Refusal) → IsLive c l → vs ≡ l.numbered.variables → xs ≡ l.numbered.head
    → misfit (map (column_of vs) xs) t ≡ o
    → misfit (answer_types c.relations l.query) t ≡ o
told c l vs xs t o live variables head h =
    ap (λ (types : List ColumnType). misfit types t)
    (types_are c l.query l.numbered l.patterns l.reducts live.kept.over
    ∙ sym (ap₂ (λ (ws : List Variable) (ys : List ℕ). map (column_of ws) ys) variables head))
    ∙ h

pub tells_type : (c : Catalog) (l m : Live) (vs : List Variable) (xs : List ℕ) (t : Tuple)
    (b : Bool) → l ≡ m → IsLive c m → vs ≡ l.numbered.variables → xs ≡ l.numbered.head
    → length t ≡ length xs → b ≡ fits (map (column_of vs) xs) t → b ≡ false
    → misfit (answer_types c.relations m.query) t ≡ Some WrongType
tells_type c l m vs xs t b e live variables head long fit is =
    told c m vs xs t (Some WrongType) live
    (variables ∙ ap (λ (o : Live). o.numbered.variables) e)
    (head ∙ ap (λ (o : Live). o.numbered.head) e)
    (wrong_type (map (column_of vs) xs) t (long ∙ sym (length-map xs (column_of vs)))
    (sym fit ∙ is))

pub tells_none : (c : Catalog) (l m : Live) (vs : List Variable) (xs : List ℕ) (t : Tuple)
    (b : Bool) → l ≡ m → IsLive c m → vs ≡ l.numbered.variables → xs ≡ l.numbered.head
    → length t ≡ length xs → b ≡ fits (map (column_of vs) xs) t → b ≡ true
    → misfit (answer_types c.relations m.query) t ≡ None
tells_none c l m vs xs t b e live variables head long fit is =
    told c m vs xs t None live
    (variables ∙ ap (λ (o : Live). o.numbered.variables) e)
    (head ∙ ap (λ (o : Live). o.numbered.head) e)
    (right_type (map (column_of vs) xs) t (long ∙ sym (length-map xs (column_of vs)))
    (sym fit ∙ is))

-- a tuple that suits is as wide as the head
pub suits_long : (c : Catalog) (l : Live) (t : Tuple) → IsLive c l
    → misfit (answer_types c.relations l.query) t ≡ None → length t ≡ length l.numbered.head
suits_long c l t live h =
    misfit_long (answer_types c.relations l.query) t h
    ∙ length-map l.query.head (variable_type c.relations l.query.atoms)
    ∙ sym (head_long c l.query l.numbered l.patterns l.reducts live.kept.over)

-- ---- whether a tuple is an answer

-- the cells that show values are the values' cells
pub shown_have : (texts : List Bytes) (vs : List Variable) (F u xs : List ℕ) (t : Tuple)
    → AreShownAs texts vs F u xs t
    → HaveCells texts t × (map (cell_of_variable F u) xs ≡ cells_of texts t)
shown_have texts vs F u [] [] h = (tt, refl)
shown_have texts vs F u [] (v ∷ t) h = absurd h
shown_have texts vs F u (x ∷ xs) [] h = absurd h
shown_have texts vs F u (x ∷ xs) (v ∷ t) h =
    let r = shown_have texts vs F u xs t h.1 in
    ((h.0.has, r.0), ap₂ (λ (y : ℕ) (ys : List ℕ). y ∷ ys) h.0.is r.1)

-- the cells of an answer are those of an answer of the tree
pub answer_cells : (c : Catalog) (q : Query) (n : Numbered) (ps : List Shape) (r : Reducts)
    (t : Tuple) → IsOver c q n ps r → IsAnswer c.relations q t
    → HaveCells c.texts t × AreCellsOfAnswer r n.head (cells_of c.texts t)
answer_cells c q n ps r t h is =
    let F = r.tree.head in
    let s = tree_answer c q n ps r t h is in
    let u = s.tuple in
    let p = shown_have c.texts n.variables F u n.head t
    (subst (AreShownAs c.texts n.variables F u n.head) (sym s.is)
    (stand c q n ps r h u s.is_answer)) in
    let cells = cells_of c.texts t in
    let same : (x : ℕ) → member x n.head ≡ true → cell_of_variable n.head cells x ≡ cell_of_variable F u x =
    λ x m. ap (λ (l : List ℕ). slice_index l (column n.head x)) (sym p.1)
    ∙ cell_there (cell_of_variable F u) n.head x m in
    let whole : map (cell_of_variable n.head cells) F ≡ u =
    row_same (cell_of_variable n.head cells) (cell_of_variable F u) F (λ x m. same x (sym (h.head x) ∙ m))
    ∙ reading_row F u (simple_of F h.reducts.family.is_tree.head_set.rising)
    s.is_answer.wide in (
      p.0,
      record {
        is_answer = subst (IsAnswerOf r) (sym whole) s.is_answer;
        are = row_same (cell_of_variable n.head cells) (cell_of_variable F u) n.head same ∙ p.1;
      },
    )

pub values_same : (f g : ℕ → Value) (xs : List ℕ)
    → ((x : ℕ) → member x xs ≡ true → f x ≡ g x) → map f xs ≡ map g xs
values_same f g [] h = refl
values_same f g (x ∷ xs) h =
    ap₂ (λ (v : Value) (vs : Tuple). v ∷ vs) (h x (member_here x xs))
    (values_same f g xs (λ y m. h y (member_on y x xs m)))

-- cells stand for the values that they are the cells of
shows_back : (texts : List Bytes) (vs : List Variable) (f : ℕ → ℕ) (xs : List ℕ) (t : Tuple)
    → fits (map (column_of vs) xs) t ≡ true → HaveCells texts t
    → map f xs ≡ cells_of texts t → map (λ x. value_of texts (column_of vs x) (f x)) xs ≡ t
shows_back texts vs f [] [] fit have e = refl
shows_back texts vs f [] (v ∷ t) fit have e = absurd (false≢true fit)
shows_back texts vs f (x ∷ xs) [] fit have e = absurd (false≢true fit)
shows_back texts vs f (x ∷ xs) (v ∷ t) fit have e =
    let p = and_parts (is_of (column_of vs x) v) (fits (map (column_of vs) xs) t) fit in
    ap₂ (λ (w : Value) (ws : Tuple). w ∷ ws)
    (ap (value_of texts (column_of vs x)) (ap (λ (l : List ℕ). slice_index l 0) e)
    ∙ value_back texts (column_of vs x) v p.0 have.0)
    (shows_back texts vs f xs t p.1 have.1 (ap (λ (l : List ℕ). drop 1 l) e))

-- and the other way round
pub cells_answer : (c : Catalog) (q : Query) (n : Numbered) (ps : List Shape) (r : Reducts)
    (t : Tuple) → IsOver c q n ps r → fits (map (column_of n.variables) n.head) t ≡ true
    → HaveCells c.texts t → AreCellsOfAnswer r n.head (cells_of c.texts t)
    → IsAnswer c.relations q t
cells_answer c q n ps r t h fit have is =
    let F = r.tree.head in
    let f : ℕ → ℕ = cell_of_variable n.head (cells_of c.texts t) in
    let same : shown c.texts n F (map f F) ≡ t =
    values_same (value_at c.texts n.variables F (map f F))
    (λ x. value_of c.texts (column_of n.variables x) (f x)) n.head
    (λ x m. ap (value_of c.texts (column_of n.variables x))
    (cell_there f F x (h.head x ∙ m)))
    ∙ shows_back c.texts n.variables f n.head t fit have is.are in
    subst (IsAnswer c.relations q) same
    (query_answer c q n ps r (map f F) h is.is_answer)

-- what is told of a tuple that suits
pub tells_answer : (c : Catalog) (l m : Live) (t : Tuple) (xs cells : List ℕ) (b : Bool) → l ≡ m
    → IsLive c m → misfit (answer_types c.relations m.query) t ≡ None
    → HaveCells c.texts t → cells ≡ cells_of c.texts t → xs ≡ l.numbered.head
    → b ≡ true ↔ AreCellsOfAnswer l.reducts xs cells
    → Tells (IsAnswer c.relations m.query t) b
tells_answer c l m t xs cells true e live suits have are head exact =
    let over = live.kept.over in
    let q = m.query in
    let n = m.numbered in
    let same : AreCellsOfAnswer m.reducts n.head (cells_of c.texts t) =
    subst (AreCellsOfAnswer m.reducts n.head) are
    (subst (λ (ys : List ℕ). AreCellsOfAnswer m.reducts ys cells)
    (head ∙ ap (λ (o : Live). o.numbered.head) e)
    (subst (λ (o : Live). AreCellsOfAnswer o.reducts xs cells) e (exact.0 refl))) in
    cells_answer c q n m.patterns m.reducts t over
    (ap (λ (types : List ColumnType). fits types t)
    (sym (types_are c q n m.patterns m.reducts over))
    ∙ misfit_fits (answer_types c.relations q) t suits) have same
tells_answer c l m t xs cells false e live suits have are head exact = λ is.
    let there = (answer_cells c m.query m.numbered m.patterns m.reducts t live.kept.over is).1 in
    false≢true (exact.1
    (subst (λ (o : Live). AreCellsOfAnswer o.reducts xs cells) (sym e)
    (subst (λ (ys : List ℕ). AreCellsOfAnswer m.reducts ys cells)
    (sym (head ∙ ap (λ (o : Live). o.numbered.head) e))
    (subst (AreCellsOfAnswer m.reducts m.numbered.head) (sym are) there))))

-- a lookup for each leaf is one for each atom
pub has_counted : (c : Catalog) (l m : Live) → l ≡ m → IsLive c m
    → l.reducts.tree.leaves ≡ length m.query.atoms
has_counted c l m e live =
    ap (λ (o : Live). o.reducts.tree.leaves) e
    ∙ leaves_long c m.query m.numbered m.patterns m.reducts live.kept.over

-- an answer has cells
pub tells_unknown : (c : Catalog) (l : Live) (t : Tuple) → IsLive c l
    → knows_all c.texts (texts_in t) ≡ false → IsAnswer c.relations l.query t → ⊥
tells_unknown c l t live unknown is =
    unknown_row c.texts t unknown
    (answer_cells c l.query l.numbered l.patterns l.reducts t live.kept.over is).0

-- ---- a value of an answer

-- what is read of an answer at a place of the head
pub record ReadsValue (texts : List Bytes) (n : Numbered) (F u : List ℕ) (at place : ℕ)
    (kind : ColumnType) (slice : List ℕ) : Type 0 where
  pub low : place < length slice
  pub value : Value
  pub stands : CellStandsFor texts kind (slice_index slice place) value
  pub is : slice_get (shown texts n F u) at ≡ Some value

pub reads_value : (texts : List Bytes) (m : Live) (u : List ℕ) (at place : ℕ) (kind : ColumnType)
    (slice : List ℕ) → IsKeptSomewhere m → IsShowable texts m u → at < length m.query.head
    → kind ≡ column_of m.numbered.variables (slice_index m.numbered.head at)
    → place ≡ column m.reducts.tree.head (slice_index m.numbered.head at)
    → slice ≡ u → ReadsValue texts m.numbered m.reducts.tree.head u at place kind slice
reads_value texts m u at place kind slice kept is within kind_is place_is cells =
    let over = kept.1.over in
    let n = m.numbered in
    let G = m.reducts.tree.head in
    let x = slice_index n.head at in
    let low : at < length n.head =
    (let k = head_long kept.0 m.query n m.patterns m.reducts over in omega arith) in
    let in_head = member_at n.head at low in
    let wide = is.wide in
    let long = ap (λ (ys : List ℕ). length ys) cells in
    let under = column_within G x (over.head x ∙ in_head) in
    record {
      low = omega arith;
      value = value_at texts n.variables G u x;
      stands =
          subst (λ (k : ColumnType). CellStandsFor texts k (slice_index slice place)
          (value_at texts n.variables G u x)) (sym kind_is)
          (subst (λ (k : ℕ). CellStandsFor texts (column_of n.variables x) k
          (value_at texts n.variables G u x))
          (sym (ap₂ slice_index cells place_is))
          (stands_at texts n.variables G u n.head at is.stands low));
      is =
          slice_get-map (value_at texts n.variables G u) n.head at
          ∙ ap (option_map (value_at texts n.variables G u)) (slice_get-get_or n.head at 0 low);
    }

-- ---- What the places of a query's head show, as it is found place by place, and read for an answer.

-- a rising list of the head's variables is their set
pub is_head_set : (n : Numbered) (e : List ℕ) → IsWithin n → IsVariableSet e
    → ((x : ℕ) → member x e ≡ member x n.head) → e ≡ head_set n
is_head_set n e within set has =
    is_set (length n.variables) n.head e (AllPairs-from_increasing e set.rising) has
    (λ x high. high_head (length n.variables) x n.head high within.head)

-- once all places are seen
pub all_cells : (n : Numbered) (e hs : List ℕ) (vs : List Variable) (at : ℕ) (cells : List HeadCell)
    → IsWithin n → IsVariableSet e → ((x : ℕ) → member x e ≡ member x n.head)
    → vs ≡ n.variables → hs ≡ n.head → length hs ≤ at
    → cells ≡ map (head_cell vs e) (take at hs) → cells ≡ head_cells n
all_cells n e hs vs at cells within set has variables head all found =
    found
    ∙ ap (map (head_cell vs e)) (take_all at hs all)
    ∙ ap₂ (λ (us : List Variable) (F : List ℕ). map (head_cell us F) hs) variables
    (is_head_set n e within set has)
    ∙ ap (map (head_cell n.variables (head_set n))) head

-- what is read of an answer by what a place shows
abbrev pub ReadsBy : List Bytes → Live → List ℕ → ℕ → HeadCell → List ℕ → Type 0
ReadsBy texts m u at cell slice =
    ReadsValue texts m.numbered m.reducts.tree.head u at cell.at cell.column slice

pub reads_cell : (texts : List Bytes) (l m : Live) (u : List ℕ) (at : ℕ) (cells : List HeadCell)
    (d : HeadCell) (slice : List ℕ) → l ≡ m → IsKeptSomewhere m → IsShowable texts m u
    → at < length m.query.head → IsWithin l.numbered → cells ≡ head_cells l.numbered → slice ≡ u
    → ReadsBy texts m u at (slice_index_or cells at d) slice
reads_cell texts l m u at cells d slice e kept is within all found same =
    let over = kept.1.over in
    let n = m.numbered in
    let x = slice_index n.head at in
    let low : at < length n.head =
    (let k = head_long kept.0 m.query n m.patterns m.reducts over in omega arith) in
    let set = is_head_set n m.reducts.tree.head (subst (λ (o : Live). IsWithin o.numbered) e all)
    over.reducts.family.is_tree.head_set over.head in
    let here : slice_index_or cells at d ≡ head_cell n.variables (head_set n) x =
    ap (λ (cs : List HeadCell). slice_index_or cs at d)
    (found ∙ ap (λ (o : Live). head_cells o.numbered) e)
    ∙ get_or-map (head_cell n.variables (head_set n)) n.head at 0 d low in
    reads_value texts m u at (slice_index_or cells at d).at (slice_index_or cells at d).column slice
    kept is within (ap (λ (c : HeadCell). c.column) here)
    (ap (λ (c : HeadCell). c.at) here ∙ ap (λ (F : List ℕ). column F x) (sym set)) same
