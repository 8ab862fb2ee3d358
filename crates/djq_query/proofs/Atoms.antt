-- Atoms over the places of their variables, and the rows that match them.
use Rattle.std.proofs.Common.{◌≡◌, ℕ, suc, ◌+◌, ◌<◌, ◌≤◌, List, [], ◌∷◌, Bool, false, length, get_or, drop, min, refl}
use Rattle.std.proofs.Common.{sym, subst, ap, ap₂, ◌∙◌, add-one, arith, drop-cons, ⊎_elim, zero, ◌++◌, true, inl, inr}
use Rattle.std.proofs.Common.{append_assoc, length-append, ltb, ◌-◌, ℤ, take, eqb, set, length-set}
use Rattle.std.specs.Prelude.{◌||◌, Option, None, Some, cond, not, position, unwrap_or, option_to_list, ◌==◌, nat_lt}
use Rattle.std.specs.Prelude.{FitsSigned, ◌&&◌, slice_get, All, slice_index, map, ◌↔◌}
use Rattle.std.proofs.lemmas.List.{drop_all, append-nil, length-drop, take_all, get_or_append_left, take_more}
use Rattle.std.proofs.lemmas.List.{get_or_past, get_or_default, get_or-map, get_or-set_same, get_or-set_other}
use Rattle.std.proofs.lemmas.List.{map-append}
use Rattle.std.proofs.lemmas.Bool.{cases_lt, cases_eq, eq-eqb, ne_eqb, false≢true, lt-ltb, ltb-false, or_left, or_right}
use Rattle.std.proofs.lemmas.Bool.{and_from, ltb-true, and_parts, eqb-true}
use Rattle.std.specs.List.{list_all, list_any, position_or_len, prefix_len}
use Rattle.std.specs.List.Sorted.{IsStrictlyIncreasing}
use Rattle.std.proofs.lemmas.Bool.Decides.{nat_tests, Decides-int_eq}
use Rattle.std.proofs.lemmas.List.Sums.{position_or_len_is}
use Rattle.std.specs.Ordering.{int_eq}
use Rattle.std.specs.Int.{w64, cast_unsigned, cast_signed}
use Rattle.std.specs.Int.Signed.{lt_z}
use Rattle.std.proofs.lemmas.Int.{to_z-of_z}
use Rattle.std.proofs.Math.Seq.{get_or-append_seam}
use Rattle.std.proofs.lemmas.List.Folds.{list_all_at, list_any_more}
use Rattle.std.proofs.lemmas.Option.{slice_get_past, slice_get_read}
use Rattle.std.proofs.lemmas.Grind.{same_number_lists}
use Rattle.std.proofs.lemmas.List.Elements.{All-same, All-push}
use Rattle.djq_hypergraph.specs.Hypergraph.{member, edge_at}
use Rattle.djq_model.specs.declared.relation.ColumnType.{ColumnType}
use Rattle.djq_model.specs.declared.query.Term.{Term}
use Rattle.djq_model.specs.declared.query.Term.TheVariants.{Variable, Hole, Constant}
use Rattle.djq_model.specs.declared.relation.Relation.{Relation}
use Rattle.djq_model.specs.declared.query.Atom.{Atom}
use Rattle.djq_model.specs.declared.value.Value.{Value}
use Rattle.djq_model.specs.declared.query.Operator.{Operator}
use Rattle.djq_model.specs.declared.value.Value.TheVariants.{Int}
use Rattle.djq_model.specs.declared.query.Operator.TheVariants.{Less, LessOrEqual, Greater, GreaterOrEqual, Equal}
use Rattle.djq_model.specs.declared.query.Operator.TheVariants.{NotEqual}
use Rattle.djq_model.specs.Data.{Bytes}
use Rattle.djq_model.specs.Answer.{compares}
use Rattle.djq_value.specs.Literal.{are_different, has_name}
use Rattle.djq_protocol.specs.declared.limits.TheConstants.{VARIABLES}
use Rattle.djq_protocol.specs.QueryFault.{any_column, any_place, is_clash}
use Rattle.djq_protocol.specs.Columns.{columns_of}
use Rattle.djq_query.specs.declared.numbered.NumberedTerm.{NumberedTerm}
use Rattle.djq_query.specs.declared.numbered.NumberedTerm.TheVariants.{Variable as Number, Constant as Fixed}
use Rattle.djq_query.specs.declared.numbered.NumberedComparison.{NumberedComparison}
use Rattle.djq_query.specs.declared.pattern.Test.{Test}
use Rattle.djq_query.specs.declared.pattern.Slot.{Slot}
use Rattle.djq_query.specs.declared.pattern.Slot.TheVariants.{Place, Cell}
use Rattle.djq_query.specs.declared.numbered.NumberedAtom.{NumberedAtom}
use Rattle.djq_query.specs.Clashes.{clashes_with, mixes}
use Rattle.djq_query.specs.Numbered.{is_number, Numbered, IsWithin, is_below, are_below, terms_in, terms_at}
use Rattle.djq_query.specs.Pattern.{IsPattern, is_place, slot_is_within, slot_of, bound, test_of, tests_of, passes}
use Rattle.djq_query.specs.Pattern.{Shape, IsPlain, Passes, cell_of, put_cell, filled}

-- ---- Loops over the places of terms and columns.

-- a list from a place on
pub from_place : {A : Type 0} (xs : List A) (i : ℕ) (x : A) → i < length xs → x ≡ get_or xs i x → drop i xs
    ≡ x ∷ drop (i + 1) xs
from_place xs i x below is =
    rw add-one (drop-cons xs i x below ∙ ap (λ y. y ∷ drop (suc i) xs) (sym is))

any_none : (p : Term → ColumnType → Bool) (ts : List Term) → any_column p ts [] ≡ false
any_none p [] = refl
any_none p (t ∷ ts) = refl

-- no place is left
pub any_over : (p : Term → ColumnType → Bool) (ts : List Term) (cs : List ColumnType) (i : ℕ)
    → min (length ts) (length cs) ≤ i → any_column p ts cs ≡ any_column p (drop i ts) (drop i cs) → any_column p ts cs
    ≡ false
any_over p ts cs i past rest =
    rest ∙ ⊎_elim
    (λ short. ap (λ xs. any_column p xs (drop i cs)) (drop_all i ts (omega arith)))
    (λ long. ap (any_column p (drop i ts)) (drop_all i cs (omega arith)) ∙ any_none p (drop i ts))
    (cases_lt (length ts) (i + 1))

-- a test that never passes
any_never : (p : Term → ColumnType → Bool) → ((t : Term) (c : ColumnType) → p t c ≡ false)
    → (ts : List Term) (cs : List ColumnType) → any_column p ts cs ≡ false
any_never p never [] cs = refl
any_never p never (t ∷ ts) [] = refl
any_never p never (t ∷ ts) (c ∷ cs) = rw (never t c) (any_never p never ts cs)

place_never : (p : Term → ColumnType → Bool) → ((t : Term) (c : ColumnType) → p t c ≡ false)
    → (relations : List Relation) (atoms : List Atom) → any_place p relations atoms ≡ false
place_never p never relations [] = refl
place_never p never relations (a ∷ atoms) = rw (any_never p never a.terms (columns_of relations a.relation))
    (place_never p never relations atoms)

hole_alone : (c : ColumnType) (t : Term) (d : ColumnType) → is_clash Hole c t d ≡ false
hole_alone c (Variable x) d = refl
hole_alone c Hole d = refl
hole_alone c (Constant v) d = refl

constant_alone : (v : Value) (c : ColumnType) (t : Term) (d : ColumnType) → is_clash (Constant v) c t d ≡ false
constant_alone v c (Variable x) d = refl
constant_alone v c Hole d = refl
constant_alone v c (Constant w) d = refl

pub hole_mixes : (relations : List Relation) (atoms : List Atom) (t : Term) (c : ColumnType) → t ≡ Hole
    → mixes relations atoms t c ≡ false
unfolding mixes
hole_mixes relations atoms t c e = subst (λ u. mixes relations atoms u c ≡ false) (sym e)
    (place_never (is_clash Hole c) (hole_alone c) relations atoms)

pub constant_mixes : (relations : List Relation) (atoms : List Atom) (t : Term) (v : Value) (c : ColumnType) → t
    ≡ Constant v → mixes relations atoms t c ≡ false
unfolding mixes
constant_mixes relations atoms t v c e = subst (λ u. mixes relations atoms u c ≡ false) (sym e)
    (place_never (is_clash (Constant v) c) (constant_alone v c) relations atoms)

-- tests that agree
any_as : (p r : Term → ColumnType → Bool) → ((t : Term) (c : ColumnType) → p t c ≡ r t c)
    → (ts : List Term) (cs : List ColumnType) → any_column p ts cs ≡ any_column r ts cs
any_as p r same [] cs = refl
any_as p r same (t ∷ ts) [] = refl
any_as p r same (t ∷ ts) (c ∷ cs) = ap₂ (λ a b. a || b) (same t c) (any_as p r same ts cs)

place_as : (p r : Term → ColumnType → Bool) → ((t : Term) (c : ColumnType) → p t c ≡ r t c)
    → (relations : List Relation) (atoms : List Atom) → any_place p relations atoms ≡ any_place r relations atoms
place_as p r same relations [] = refl
place_as p r same relations (a ∷ atoms) = ap₂ (λ x y. x || y)
    (any_as p r same a.terms (columns_of relations a.relation)) (place_as p r same relations atoms)

same_clash : (x : Bytes) (c : ColumnType) (t : Term) (d : ColumnType) → is_clash (Variable x) c t d
    ≡ clashes_with x c t d
same_clash x c (Variable y) d = refl
same_clash x c Hole d = refl
same_clash x c (Constant v) d = refl

pub variable_mixes : (relations : List Relation) (atoms : List Atom) (t : Term) (x : Bytes) (c : ColumnType) → t
    ≡ Variable x → mixes relations atoms t c ≡ any_place (clashes_with x c) relations atoms
unfolding mixes
variable_mixes relations atoms t x c e = subst
    (λ u. mixes relations atoms u c ≡ any_place (clashes_with x c) relations atoms) (sym e)
    (place_as (is_clash (Variable x) c) (clashes_with x c) (same_clash x c) relations atoms)

-- ---- Atoms over the places of their variables.

-- the members of a set, one after another
pub taken_on : (done old new label : List ℕ) (o : Option ℕ) (x : ℕ) → old ≡ option_to_list o ++ new → o ≡ Some x
    → done ++ old ≡ label → (done ++ x ∷ []) ++ new ≡ label
taken_on done old new label o x taken some before =
    let e : old ≡ x ∷ new = taken ∙ ap (λ (p : Option ℕ). option_to_list p ++ new) some in
    append_assoc done (x ∷ []) new ∙ ap (λ (l : List ℕ). done ++ l) (sym e) ∙ before

pub taken_room : (done old new label : List ℕ) (o : Option ℕ) (x : ℕ) → old ≡ option_to_list o ++ new → o ≡ Some x
    → done ++ old ≡ label → length label ≤ 16 → length done < 16
taken_room done old new label o x taken some before few =
    let e : old ≡ x ∷ new = taken ∙ ap (λ (p : Option ℕ). option_to_list p ++ new) some in
    omega (arith, length-append done old, ap (λ (l : List ℕ). length l) before, ap (λ (l : List ℕ). length l) e)

pub taken_all : (done old label : List ℕ) → old ≡ [] → done ++ old ≡ label → done ≡ label
taken_all done old label none before = sym (append-nil done) ∙ ap (λ (l : List ℕ). done ++ l) (sym none) ∙ before

-- the place of a variable

place_or : (b : Bool) (n m : ℕ) → (b ≡ false → m ≡ n) → unwrap_or (cond b (Some n) None) m ≡ n
place_or true n m f = refl
place_or false n m f = f refl

at_most : (p : ℕ → Bool) (xs : List ℕ) → prefix_len p xs ≤ length xs
at_most p [] = omega arith
at_most p (x ∷ xs) = step (p x) (at_most p xs)
  where
    step : (b : Bool) → prefix_len p xs ≤ length xs → cond b (1 + prefix_len p xs) 0 ≤ suc (length xs)
    step true h = omega arith
    step false h = omega arith

place_found : (p : ℕ → Bool) (xs : List ℕ) → unwrap_or (position p xs) (length xs) ≡ position_or_len p xs
place_found p xs =
    place_or (ltb (position_or_len p xs) (length xs)) (position_or_len p xs) (length xs)
    (λ past. omega (arith, ltb-false (position_or_len p xs) (length xs) past, at_most (λ x. not (p x)) xs))

pub slot_found : (label : List ℕ) (t : NumberedTerm) (x c n : ℕ) (o : Option ℕ) → t ≡ Number x → n
    ≡ unwrap_or o (length label) → o ≡ position (λ y. y == x) label → Place n ≡ slot_of label t c
unfolding slot_of
slot_found label t x c n o e told found =
    ap (λ (k : ℕ). Place k)
    (told ∙ ap (λ (p : Option ℕ). unwrap_or p (length label)) found ∙ place_found (λ y. y == x) label)
    ∙ ap (λ u. slot_of label u c) (sym e)

pub slot_fixed : (label : List ℕ) (t : NumberedTerm) (c : ℕ) (v : Value) → t ≡ Fixed v → Cell c ≡ slot_of label t c
unfolding slot_of
slot_fixed label t c v e = ap (λ u. slot_of label u c) (sym e)

-- the slots, one after another
pub from_read : {A : Type 0} (xs : List A) (i : ℕ) (x d : A) → i < length xs → x ≡ get_or xs i d → drop i xs
    ≡ x ∷ drop (i + 1) xs
from_read xs i x d below is = rw add-one (drop-cons xs i d below ∙ ap (λ y. y ∷ drop (suc i) xs) (sym is))

pub bound_on : (done : List Slot) (label : List ℕ) (ts : List NumberedTerm) (cs : List ℕ) (i : ℕ) (t : NumberedTerm)
    (s : Slot) → i < length ts → length cs ≡ length ts → t ≡ get_or ts i t → s ≡ slot_of label t (get_or cs i 0)
    → (done ++ s ∷ []) ++ bound label (drop (i + 1) ts) (drop (i + 1) cs) ≡ done ++ bound label (drop i ts) (drop i cs)
unfolding bound
bound_on done label ts cs i t s below long is told =
    append_assoc done (s ∷ []) (bound label (drop (i + 1) ts) (drop (i + 1) cs))
    ∙ ap (λ r. done ++ r ∷ bound label (drop (i + 1) ts) (drop (i + 1) cs)) told
    ∙ ap₂ (λ us vs. done ++ bound label us vs) (sym (from_place ts i t below is))
    (sym (from_read cs i (get_or cs i 0) 0 (omega arith) refl))

pub bound_over : (done : List Slot) (label : List ℕ) (ts : List NumberedTerm) (cs : List ℕ) (i : ℕ) → length ts ≤ i
    → done ++ bound label (drop i ts) (drop i cs) ≡ done
unfolding bound
bound_over done label ts cs i past = ap (λ us. done ++ bound label us (drop i cs)) (drop_all i ts past)
    ∙ append-nil done

-- each place is a variable's, and each variable has one

place_below : (x : ℕ) (label : List ℕ) → member x label ≡ true → position_or_len (λ y. y == x) label < length label
place_below x [] h = absurd (false≢true h)
place_below x (y ∷ label) h =
    elim (cases_eq x y) [
      | inl same ↦ rw (eq-eqb y x (sym same)) (omega arith)
      | inr apart ↦ (
          let k : member x label ≡ true = rw (ne_eqb x y apart) at h in
          rw (ne_eqb y x (λ e. apart (sym e))) (omega (arith, place_below x label k)))
    ]

slots_within : (label : List ℕ) (ts : List NumberedTerm) (cs : List ℕ)
    → ((x : ℕ) → list_any (is_number x) ts ≡ true → member x label ≡ true)
    → list_all (slot_is_within (length label)) (bound label ts cs) ≡ true
unfolding bound slot_of
slots_within label [] cs h = refl
slots_within label (t ∷ ts) [] h = refl
slots_within label (Number x ∷ ts) (c ∷ cs) h =
    and_from _ (list_all (slot_is_within (length label)) (bound label ts cs))
    (lt-ltb (position_or_len (λ y. y == x) label) (length label)
    (place_below x label (h x (or_left (x == x) _ (eq-eqb x x refl)))))
    (slots_within label ts cs (λ y e. h y (or_right (y == x) _ e)))
slots_within label (Fixed v ∷ ts) (c ∷ cs) h = slots_within label ts cs h

slots_all : (label : List ℕ) (ts : List NumberedTerm) (cs : List ℕ) (x : ℕ) → length cs ≡ length ts
    → list_any (is_number x) ts ≡ true → list_any (is_place (position_or_len (λ y. y == x) label)) (bound label ts cs)
    ≡ true
unfolding bound slot_of
slots_all label [] cs x long h = absurd (false≢true h)
slots_all label (t ∷ ts) [] x long h = absurd (omega arith)
slots_all label (Number z ∷ ts) (c ∷ cs) x long h =
    let at : ℕ → ℕ = λ v. position_or_len (λ y. y == v) label in
    elim (cases_eq x z) [
      | inl same ↦ or_left (at x == at z) _ (eq-eqb (at x) (at z) (ap at same))
      | inr apart ↦ or_right (at x == at z) _
          (slots_all label ts cs x (omega arith)
          (ap (λ b. b || list_any (is_number x) ts) (sym (ne_eqb x z apart)) ∙ h))
    ]
slots_all label (Fixed v ∷ ts) (c ∷ cs) x long h = slots_all label ts cs x (omega arith) h

member_at : (label : List ℕ) (p : ℕ) → p < length label → member (get_or label p 0) label ≡ true
member_at [] p below = absurd (omega arith)
member_at (y ∷ label) zero below = or_left (y == y) _ (eq-eqb y y refl)
member_at (y ∷ label) (suc p) below = or_right (get_or label p 0 == y) _ (member_at label p (omega arith))

rising_apart : (label : List ℕ) → IsStrictlyIncreasing label → (n k p : ℕ) → p ≡ k + suc n → p < length label
    → get_or label k 0 < get_or label p 0
rising_apart label rising zero k p e below = rw e (rising k (omega arith))
rising_apart label rising (suc n) k p e below =
    let here : get_or label k 0 < get_or label (k + 1) 0 = rising k (omega arith) in
    let rest : get_or label (k + 1) 0 < get_or label p 0 = rising_apart label rising n (k + 1) p (omega arith) below in
    omega arith

position_at : (label : List ℕ) → IsStrictlyIncreasing label → (p : ℕ) → p < length label
    → position_or_len (λ y. y == get_or label p 0) label ≡ p
position_at label rising p below =
    position_or_len_is (λ y. y == get_or label p 0) label p 0 (omega arith)
    (λ k before. ne_eqb (get_or label k 0) (get_or label p 0)
    (λ e. absurd (omega (arith, rising_apart label rising (p - (k + 1)) k p (omega arith) below))))
    (λ _. eq-eqb (get_or label p 0) (get_or label p 0) refl)

-- the tests, one after another

pub place_up : (a b : ℕ) → ltb (1 + a) (suc b) ≡ ltb a b
place_up a b = grind (arith, nat_tests)

member_place : (x : ℕ) (label : List ℕ) → member x label ≡ ltb (position_or_len (λ y. y == x) label) (length label)
member_place x [] = refl
member_place x (y ∷ label) =
    elim (cases_eq x y) [
      | inl same ↦ rw (eq-eqb x y same, eq-eqb y x (sym same)) (sym (lt-ltb 0 (suc (length label)) (omega arith)))
      | inr apart ↦ rw (ne_eqb x y apart, ne_eqb y x (λ e. apart (sym e)))
          (member_place x label ∙ sym (place_up (position_or_len (λ y. y == x) label) (length label)))
    ]

abbrev a_test : ℕ → Operator → ℕ → Test
a_test place operator cell = record { place = place; operator = operator; cell = cell }

pub found_by : (b : Bool) (k n : ℕ) → cond b (Some k) None ≡ Some n → (b ≡ true) × (k ≡ n)
found_by true k n e = (refl, cc)
found_by false k n e = absurd cc

missed_by : (b : Bool) (k : ℕ) → cond {A = Option ℕ} b (Some k) None ≡ None → b ≡ false
missed_by true k e = absurd cc
missed_by false k e = refl

pub test_found : (label : List ℕ) (c : NumberedComparison) (cell n : ℕ) (o : Option ℕ) → o
    ≡ position (λ y. y == c.variable) label → o ≡ Some n
    → (record { place = n; operator = c.operator; cell = cell }) ∷ [] ≡ test_of label c cell
unfolding test_of
test_found label c cell n o told some =
    let at = position_or_len (λ y. y == c.variable) label in
    let found = found_by (ltb at (length label)) at n (sym told ∙ some) in
    let there : member c.variable label ≡ true = member_place c.variable label ∙ found.0 in
    ap (λ (k : ℕ). a_test k c.operator cell ∷ []) (sym found.1)
    ∙ ap (λ b. cond b (a_test at c.operator cell ∷ []) []) (sym there)

pub test_missed : (label : List ℕ) (c : NumberedComparison) (cell : ℕ) (o : Option ℕ) → o
    ≡ position (λ y. y == c.variable) label → o ≡ None → [] ≡ test_of label c cell
unfolding test_of
test_missed label c cell o told none =
    let at = position_or_len (λ y. y == c.variable) label in
    let gone : member c.variable label ≡ false = member_place c.variable label
    ∙ missed_by (ltb at (length label)) at (sym told ∙ none) in
    ap (λ b. cond b (a_test at c.operator cell ∷ []) []) (sym gone)

pub tests_on : (done ts : List Test) (label : List ℕ) (cs : List NumberedComparison) (cells : List ℕ) (i : ℕ)
    (c : NumberedComparison) → i < length cs → length cells ≡ length cs → c ≡ get_or cs i c → ts
    ≡ test_of label c (get_or cells i 0)
    → (done ++ ts) ++ tests_of label (drop (i + 1) cs) (drop (i + 1) cells)
    ≡ done ++ tests_of label (drop i cs) (drop i cells)
unfolding tests_of
tests_on done ts label cs cells i c below long is told =
    append_assoc done ts (tests_of label (drop (i + 1) cs) (drop (i + 1) cells))
    ∙ ap (λ (r : List Test). done ++ (r ++ tests_of label (drop (i + 1) cs) (drop (i + 1) cells))) told
    ∙ ap₂ (λ us vs. done ++ tests_of label us vs) (sym (from_place cs i c below is))
    (sym (from_read cells i (get_or cells i 0) 0 (omega arith) refl))

pub tests_over : (done : List Test) (label : List ℕ) (cs : List NumberedComparison) (cells : List ℕ) (i : ℕ)
    → length cs ≤ i → done ++ tests_of label (drop i cs) (drop i cells) ≡ done
unfolding tests_of
tests_over done label cs cells i past = ap (λ us. done ++ tests_of label us (drop i cells)) (drop_all i cs past)
    ∙ append-nil done

test_within : (label : List ℕ) (c : NumberedComparison) (cell : ℕ) (ts : List Test) (b : Bool) → member c.variable label
    ≡ b → list_all (λ (t : Test). nat_lt t.place (length label)) ts ≡ true
    → list_all (λ (t : Test). nat_lt t.place (length label))
    (cond b (a_test (position_or_len (λ y. y == c.variable) label) c.operator cell ∷ []) [] ++ ts) ≡ true
test_within label c cell ts true is rest = and_from
    (nat_lt (position_or_len (λ y. y == c.variable) label) (length label)) _
    (lt-ltb (position_or_len (λ y. y == c.variable) label) (length label) (place_below c.variable label is)) rest
test_within label c cell ts false is rest = rest

tests_within : (label : List ℕ) (cs : List NumberedComparison) (cells : List ℕ)
    → list_all (λ (t : Test). nat_lt t.place (length label)) (tests_of label cs cells) ≡ true
unfolding tests_of test_of
tests_within label [] cells = refl
tests_within label (c ∷ cs) [] = refl
tests_within label (c ∷ cs) (cell ∷ cells) = test_within label c cell (tests_of label cs cells)
    (member c.variable label) refl (tests_within label cs cells)

pub pattern_of : (label : List ℕ) (ts : List NumberedTerm) (cs : List ℕ) (compared : List NumberedComparison)
    (constants : List ℕ) (width : ℕ) (slots : List Slot) (tests : List Test) → IsStrictlyIncreasing label
    → length label ≤ 16 → length cs ≡ length ts
    → ((x : ℕ) → member x label ≡ list_any (is_number x) ts) → width ≡ length label → slots ≡ bound label ts cs → tests
    ≡ tests_of label compared constants → IsPattern (record { width = width; slots = slots; tests = tests })
pattern_of label ts cs compared constants width slots tests rising few long members wide told tested = record {
  narrow = omega arith;
  within = ap₂ (λ (w : ℕ) ss. list_all (slot_is_within w) ss) wide told
      ∙ slots_within label ts cs (λ x h. members x ∙ h);
  all = λ p below.
      let under : p < length label = omega arith in
      ap (list_any (is_place p)) told
      ∙ ap (λ (k : ℕ). list_any (is_place k) (bound label ts cs)) (sym (position_at label rising p under))
      ∙ slots_all label ts cs (get_or label p 0) long (sym (members (get_or label p 0)) ∙ member_at label p under);
  tested = ap₂ (λ (w : ℕ) (ts : List Test). list_all (λ t. nat_lt t.place w) ts) wide tested
      ∙ tests_within label compared constants;
}

-- ---- What the tests of a pattern mean.

-- integers over their bits

same_integers : (i j : ℤ) → FitsSigned w64 i → FitsSigned w64 j → (cast_unsigned w64 i == cast_unsigned w64 j)
    ≡ int_eq i j
same_integers i j f g = by_test (int_eq i j) refl
  where
    back : (k : ℤ) → FitsSigned w64 k → cast_signed w64 (cast_unsigned w64 k) ≡ k
    back k h = to_z-of_z w64 k h

    by_test : (b : Bool) → int_eq i j ≡ b → (cast_unsigned w64 i == cast_unsigned w64 j) ≡ int_eq i j
    by_test true e = eq-eqb (cast_unsigned w64 i) (cast_unsigned w64 j)
        (ap (cast_unsigned w64) ((Decides-int_eq i j).0 e)) ∙ sym e
    by_test false e =
        ne_eqb (cast_unsigned w64 i) (cast_unsigned w64 j)
        (λ s. false≢true (sym e ∙ (Decides-int_eq i j).1 (sym (back i f) ∙ ap (cast_signed w64) s ∙ back j g)))
        ∙ sym e

pub integers_compare : (o : Operator) (i j : ℤ) → FitsSigned w64 i → FitsSigned w64 j
    → passes o (cast_unsigned w64 i) (cast_unsigned w64 j) ≡ compares o (Int i) (Int j)
integers_compare Equal i j f g = same_integers i j f g
integers_compare NotEqual i j f g = ap not (same_integers i j f g)
integers_compare Less i j f g = ap₂ lt_z (to_z-of_z w64 i f) (to_z-of_z w64 j g)
integers_compare LessOrEqual i j f g = ap₂ (λ a b. not (lt_z b a)) (to_z-of_z w64 i f) (to_z-of_z w64 j g)
integers_compare Greater i j f g = ap₂ (λ a b. lt_z b a) (to_z-of_z w64 i f) (to_z-of_z w64 j g)
integers_compare GreaterOrEqual i j f g = ap₂ (λ a b. not (lt_z a b)) (to_z-of_z w64 i f) (to_z-of_z w64 j g)

-- ---- Names that stand once each, from a place on.

-- the name at a place, and those behind it
pub different_rest : (names : List Bytes) (i : ℕ) (name : Bytes) → i < length names → name ≡ get_or names i name
    → are_different (drop i names) ≡ (not (has_name (drop (i + 1) names) name) && are_different (drop (i + 1) names))
different_rest names i name below is = ap are_different (from_place names i name below is)

-- what is behind a place, to the end
pub rest_whole : (names : List Bytes) (i : ℕ) → take (length names - i) (drop i names) ≡ drop i names
rest_whole names i = take_all (length names - i) (drop i names) (omega (arith, length-drop i names))

-- ---- The variables of atoms and of a head, as sets.

-- each passes, so this one does
pub all_true_at : {A : Type 0} (p : A → Bool) (xs : List A) (i : ℕ) (x : A) → list_all p xs ≡ true → i < length xs → x
    ≡ get_or xs i x → p x ≡ true
all_true_at p xs i x all below is = by_test (p x) refl
  where
    by_test : (b : Bool) → p x ≡ b → p x ≡ true
    by_test true e = e
    by_test false e = absurd (false≢true (sym (list_all_at p xs i x below (ap p (sym is) ∙ e)) ∙ all))

term_more : (m k : ℕ) (t : NumberedTerm) → m ≤ k → is_below m t ≡ true → is_below k t ≡ true
term_more m k (Number x) le h = lt-ltb x k (omega (arith, ltb-true x m h))
term_more m k (Fixed v) le h = refl

-- terms below a number are below a larger one
pub terms_more : (m k : ℕ) (ts : List NumberedTerm) → m ≤ k → are_below m ts ≡ true → are_below k ts ≡ true
terms_more m k [] le h = refl
terms_more m k (t ∷ ts) le h =
    let parts = and_parts (is_below m t) (are_below m ts) h in
    and_from (is_below k t) (are_below k ts) (term_more m k t le parts.0) (terms_more m k ts le parts.1)

-- what a query's law says of one atom, and of one number of its head
pub atom_within : (n : Numbered) (i : ℕ) (a : NumberedAtom) → IsWithin n → i < length n.atoms → a ≡ get_or n.atoms i a
    → are_below VARIABLES a.terms ≡ true
atom_within n i a within below is =
    terms_more (length n.variables) VARIABLES a.terms within.few
    (all_true_at (λ (a : NumberedAtom). are_below (length n.variables) a.terms) n.atoms i a within.body below is)

-- edges, one after another
pub edge_pushed : (atoms : List NumberedAtom) (es : List (List ℕ)) (i : ℕ) (a : NumberedAtom) (ts : List NumberedTerm)
    (e : List ℕ) → i < length atoms → a ≡ get_or atoms i a → ts ≡ a.terms → length es ≡ i
    → ((x : ℕ) → member x e ≡ list_any (is_number x) ts)
    → ((p x : ℕ) → p < i → member x (edge_at es p) ≡ list_any (is_number x) (terms_at atoms p))
    → (p x : ℕ) → p < i + 1 → member x (edge_at (es ++ e ∷ []) p) ≡ list_any (is_number x) (terms_at atoms p)
edge_pushed atoms es i a ts e below is same long here before p x within =
    ⊎_elim
    (λ (l : p < i). ap (member x) (get_or_append_left es (e ∷ []) [] p (omega arith)) ∙ before p x l)
    (λ (g : i ≤ p).
    let at : p ≡ length es = omega arith in
    let last : edge_at (es ++ e ∷ []) p ≡ e = ap (edge_at (es ++ e ∷ [])) at ∙ get_or-append_seam es e [] [] in
    let terms : terms_at atoms p
    ≡ ts = ap terms_in (ap (slice_get atoms) (at ∙ long) ∙ slice_get_read atoms (length atoms) i a refl below is)
    ∙ sym same in
    ap (member x) last ∙ here x ∙ ap (list_any (is_number x)) (sym terms))
    (cases_lt p i)

pub edges_over : (atoms : List NumberedAtom) (es : List (List ℕ)) (i : ℕ) → length atoms ≤ i → length es ≡ i
    → ((p x : ℕ) → p < i → member x (edge_at es p) ≡ list_any (is_number x) (terms_at atoms p))
    → (p x : ℕ) → member x (edge_at es p) ≡ list_any (is_number x) (terms_at atoms p)
edges_over atoms es i past long before p x =
    ⊎_elim
    (λ (l : p < i). before p x l)
    (λ (g : i ≤ p). ap (member x) (get_or_past es p [] (omega arith))
    ∙ ap (list_any (is_number x)) (sym (ap terms_in (slice_get_past atoms p (omega arith)))))
    (cases_lt p i)

-- a head, one variable after another
or_split : (a b c : Bool) → (a || (b || c)) ≡ (b || (a || c))
or_split true true c = refl
or_split true false c = refl
or_split false b c = refl

member_behind : (xs : List ℕ) (x y : ℕ) → member x (xs ++ y ∷ []) ≡ ((x == y) || member x xs)
member_behind [] x y = refl
member_behind (z ∷ xs) x y = ap (λ b. (x == z) || b) (member_behind xs x y) ∙ or_split (x == z) (x == y) (member x xs)

-- the variable at a place is put in
pub head_on : (xs hs vs ws : List ℕ) (i d : ℕ) → hs ≡ xs → i < length hs
    → ((x : ℕ) → member x ws ≡ ((x == get_or hs i d) || member x vs)) → ((x : ℕ) → member x vs ≡ member x (take i xs))
    → (x : ℕ) → member x ws ≡ member x (take (i + 1) xs)
head_on xs hs vs ws i d same below put before x =
    let there : hs ≡ xs = same in
    let within : i < length xs = omega (arith, ap (λ (l : List ℕ). length l) same) in
    put x
    ∙ ap₂ (λ (y : ℕ) b. (x == y) || b) (ap (λ (l : List ℕ). get_or l i d) same) (before x)
    ∙ sym (ap (member x) (take_more xs i d within) ∙ member_behind (take i xs) x (get_or xs i d))

-- ---- Rows that an atom gives, column by column.

-- a slot of a pattern, whatever the default
pub slot_within : (w : ℕ) (slots : List Slot) (i : ℕ) (s d : Slot) → list_all (slot_is_within w) slots ≡ true
    → i < length slots → s ≡ get_or slots i d → slot_is_within w s ≡ true
slot_within w slots i s d all below is =
    all_true_at (slot_is_within w) slots i s all below (is ∙ get_or_default slots i d s below)

-- the cell that a filled row has at a column
pub filled_at : (u row : List ℕ) (slots : List Slot) (i : ℕ) (d : Slot) → filled u slots ≡ row → i < length slots
    → get_or row i 0 ≡ cell_of u (get_or slots i d)
unfolding filled
filled_at u row slots i d e below = ap (λ (r : List ℕ). get_or r i 0) (sym e) ∙ get_or-map (cell_of u) slots i d 0 below

put_length : (t : List ℕ) (s : Slot) (c : ℕ) → length (put_cell t s c) ≡ length t
unfolding put_cell
put_length t (Place p) c = length-set t p c
put_length t (Cell d) c = refl

pub put_wide : (t v : List ℕ) (s : Slot) (c : ℕ) → v ≡ put_cell t s c → length v ≡ length t
put_wide t v s c e = ap (λ (l : List ℕ). length l) e ∙ put_length t s c

or_right_matching : (b : Bool) → (b || false) ≡ true → b ≡ true
or_right_matching true e = refl
or_right_matching false e = e

-- a place that was read before, or is read now
put_read : (t u : List ℕ) (s : Slot) (c p : ℕ) (b : Bool) → c ≡ cell_of u s → slot_is_within (length t) s ≡ true
    → (b ≡ true → slice_index t p ≡ slice_index u p) → (b || is_place p s) ≡ true
    → slice_index (put_cell t s c) p ≡ slice_index u p
unfolding put_cell cell_of
put_read t u (Place q) c p b is within before known =
    elim (cases_eq p q) [
      | inl same ↦ ap (λ (k : ℕ). get_or (set t q c) k 0) same ∙ get_or-set_same t q c 0 (ltb-true q (length t) within)
          ∙ is ∙ ap (slice_index u) (sym same)
      | inr apart ↦
          let there : b ≡ true = or_right_matching b (ap (λ v. b || v) (sym (ne_eqb p q apart)) ∙ known) in
          get_or-set_other t q p c 0 apart ∙ before there
    ]
put_read t u (Cell d) c p b is within before known = before (or_right_matching b known)

pub read_on : (t v u row : List ℕ) (slots ss : List Slot) (i : ℕ) (d : Slot) → ss ≡ slots → i < length ss
    → slot_is_within (length t) (get_or ss i d) ≡ true → v ≡ put_cell t (get_or ss i d) (get_or row i 0)
    → filled u slots ≡ row → ((p : ℕ) → list_any (is_place p) (take i slots) ≡ true → slice_index t p ≡ slice_index u p)
    → (p : ℕ) → list_any (is_place p) (take (i + 1) slots) ≡ true → slice_index v p ≡ slice_index u p
read_on t v u row slots ss i d same below within put fill before p known =
    let here : get_or ss i d ≡ get_or slots i d = ap (λ (l : List Slot). get_or l i d) same in
    let under : i < length slots = omega (arith, ap (λ (l : List Slot). length l) same) in
    ap (λ (l : List ℕ). slice_index l p) put
    ∙ put_read t u (get_or ss i d) (get_or row i 0) p (list_any (is_place p) (take i slots))
    (filled_at u row slots i d fill under ∙ ap (cell_of u) (sym here)) within (before p)
    (ap (λ s. list_any (is_place p) (take i slots) || is_place p s) here
    ∙ sym (list_any_more (is_place p) slots i d under) ∙ known)

-- every place was read, so the tuple is known
pub read_all : (n : Shape) (t u : List ℕ) (i : ℕ) → IsPattern n → length n.slots ≤ i → length t ≡ n.width → length u
    ≡ n.width
    → ((p : ℕ) → list_any (is_place p) (take i n.slots) ≡ true → slice_index t p ≡ slice_index u p) → t ≡ u
read_all n t u i pattern past wide long before =
    same_number_lists t u (wide ∙ sym long)
    (λ k below. before k (ap (list_any (is_place k)) (take_all i n.slots past) ∙ pattern.all k (omega arith)))

-- a row column by column

pub filled_none : (u : List ℕ) → filled u [] ≡ []
unfolding filled
filled_none u = refl

pub filled_more : (u row : List ℕ) (slots ss : List Slot) (i : ℕ) (d : Slot) → ss ≡ slots → i < length ss
    → i < length row → filled u (take i slots) ≡ take i row → cell_of u (get_or ss i d) ≡ get_or row i 0
    → filled u (take (i + 1) slots) ≡ take (i + 1) row
unfolding filled
filled_more u row slots ss i d same below under before here =
    ap (map (cell_of u)) (take_more slots i d (omega (arith, ap (λ (l : List Slot). length l) same)))
    ∙ map-append (cell_of u) (take i slots) (get_or slots i d ∷ [])
    ∙ ap₂ (λ (xs : List ℕ) (x : ℕ). xs ++ x ∷ []) before
    (ap (λ (l : List Slot). cell_of u (get_or l i d)) (sym same) ∙ here)
    ∙ sym (take_more row i 0 under)

-- a column that differs, or none
pub gives_not : (p : Shape) (u row : List ℕ) (ss : List Slot) (i : ℕ) (d : Slot) → ss ≡ p.slots → i < length ss
    → (cell_of u (get_or ss i d) ≡ get_or row i 0 → ⊥) → (false ≡ true) ↔ (filled u p.slots ≡ row)
gives_not p u row ss i d same below other = (
  λ e. absurd (false≢true e),
  λ fills. absurd
      (other
      (ap (λ (l : List Slot). cell_of u (get_or l i d)) same
      ∙ sym (filled_at u row p.slots i d fills (omega (arith, ap (λ (l : List Slot). length l) same))))),
)

pub gives_all : (p : Shape) (u row : List ℕ) (i : ℕ) → length p.slots ≤ i → length row ≤ i
    → filled u (take i p.slots) ≡ take i row → (true ≡ true) ↔ (filled u p.slots ≡ row)
gives_all p u row i past over e = (
  λ is. ap (filled u) (sym (take_all i p.slots past)) ∙ e ∙ take_all i row over,
  λ fills. refl,
)

-- the tests of a tuple, one after another

-- what a read past the end would give
abbrev pub no_test : Test
no_test = record { place = 0; operator = Less; cell = 0 }

pub tests_more : (u : List ℕ) (ts ss : List Test) (i : ℕ) → ss ≡ ts → i < length ss → Passes u (get_or ss i no_test)
    → All (Passes u) (take i ts) → All (Passes u) (take (i + 1) ts)
tests_more u ts ss i same below passed before =
    All-same (Passes u) (take (i + 1) ts) (take i ts ++ get_or ss i no_test ∷ [])
    (ap (λ (l : List Test). take (i + 1) l) (sym same) ∙ take_more ss i no_test below
    ∙ ap (λ (l : List Test). take i l ++ get_or ss i no_test ∷ []) same)
    (All-push (Passes u) (take i ts) (get_or ss i no_test) before passed)

pub tests_all : (u : List ℕ) (ts : List Test) (i : ℕ) → length ts ≤ i → All (Passes u) (take i ts) → (true ≡ true)
    ↔ All (Passes u) ts
tests_all u ts i past all = (λ is. All-same (Passes u) ts (take i ts) (sym (take_all i ts past)) all, λ h. refl)

-- one slot
pub cell_at : (u : List ℕ) (s : Slot) (p : ℕ) → s ≡ Place p → get_or u p 0 ≡ cell_of u s
unfolding cell_of
cell_at u s p e = ap (cell_of u) (sym e)

pub cell_fixed : (u : List ℕ) (s : Slot) (c : ℕ) → s ≡ Cell c → c ≡ cell_of u s
unfolding cell_of
cell_fixed u s c e = ap (cell_of u) (sym e)

pub put_at : (t : List ℕ) (s : Slot) (p c : ℕ) → s ≡ Place p → set t p c ≡ put_cell t s c
unfolding put_cell
put_at t s p c e = ap (λ r. put_cell t r c) (sym e)

pub put_fixed : (t : List ℕ) (s : Slot) (d c : ℕ) → s ≡ Cell d → t ≡ put_cell t s c
unfolding put_cell
put_fixed t s d c e = ap (λ r. put_cell t r c) (sym e)

pub within_read : (n : Shape) (t : List ℕ) (ss : List Slot) (i : ℕ) (d : Slot) → IsPattern n → ss ≡ n.slots → length t
    ≡ n.width → i < length ss → slot_is_within (length t) (get_or ss i d) ≡ true
within_read n t ss i d pattern same wide below =
    slot_within (length t) ss i (get_or ss i d) d
    (ap₂ (λ (w : ℕ) (l : List Slot). list_all (slot_is_within w) l) wide same ∙ pattern.within) below refl

-- a variable's place that is the column's number
pub placed_at : (u : List ℕ) (s : Slot) (p k : ℕ) → s ≡ Place p → eqb p k ≡ true → cell_of u s ≡ slice_index u k
placed_at u s p k is same = sym (cell_at u s p is) ∙ ap (slice_index u) (eqb-true p k same)

-- patterns whose tuples are their rows

-- a tuple is the row that it gives up to a column, where it is up to the one before
pub plain_more : (w : ℕ) (slots : List Slot) (i : ℕ) (d : Slot) → length slots ≡ w → i < length slots
    → ((u : List ℕ) → cell_of u (get_or slots i d) ≡ slice_index u i)
    → ((u : List ℕ) → length u ≡ w → filled u (take i slots) ≡ take i u) → (u : List ℕ) → length u ≡ w
    → filled u (take (i + 1) slots) ≡ take (i + 1) u
plain_more w slots i d long below here before u wide =
    filled_more u u slots slots i d refl below (omega (arith, wide, long, below)) (before u wide) (here u)

pub plain_all : (w : ℕ) (slots : List Slot) (i : ℕ) → length slots ≡ w → length slots ≤ i
    → ((u : List ℕ) → length u ≡ w → filled u (take i slots) ≡ take i u) → IsPlain w slots
plain_all w slots i long past before = record {
  long = long;
  same = λ u wide.
      ap (filled u) (sym (take_all i slots past)) ∙ before u wide ∙ take_all i u (omega (arith, wide, long, past));
}
