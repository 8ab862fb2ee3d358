-- Numbers of names, terms and atoms.
use Rattle.std.proofs.Common.{◌≡◌, ℕ, ◌+◌, ◌<◌, ◌≤◌, List, [], ◌∷◌, ◌++◌, Bool, true, false, length, get_or, take, drop}
use Rattle.std.proofs.Common.{refl, sym, subst, ap, ◌∙◌, arith, length-append, ltb, add-zero, suc, ap₂, append_assoc}
use Rattle.std.specs.Prelude.{not, ◌||◌, cond, None, Some, unwrap_or, nat_lt, ◌==◌, Option, position, map}
use Rattle.std.specs.List.{list_any, fold, list_all, position_or_len, prefix_len}
use Rattle.std.proofs.lemmas.Bool.{lt-ltb, eqb-true, ltb-true, ltb-false, false≢true, and_from, or_parts, not-false}
use Rattle.std.proofs.lemmas.List.Folds.{list_any-append, list_any_at}
use Rattle.std.proofs.lemmas.List.Sums.{fold-append, fold_more}
use Rattle.std.proofs.lemmas.List.{take-append-drop, append-nil, drop_all, take_more, map-append}
use Rattle.std.proofs.Math.Bool.{or-false, or_assoc}
pub use Rattle.std.proofs.Math.Bool.{or-false as or_false}
pub use Rattle.std.proofs.lemmas.Bool.{not-false as not_false}
use Rattle.djq_model.specs.declared.query.Atom.{Atom}
use Rattle.djq_model.specs.declared.query.Term.{Term}
use Rattle.djq_model.specs.declared.query.Term.TheVariants.{Variable, Hole, Constant, Variable as Named}
use Rattle.djq_model.specs.declared.relation.ColumnType.{ColumnType}
use Rattle.djq_model.specs.declared.value.Value.{Value}
use Rattle.djq_model.specs.declared.relation.Relation.{Relation}
use Rattle.djq_model.specs.declared.query.Comparison.{Comparison}
use Rattle.djq_model.specs.Data.{Bytes, bytes_eq}
use Rattle.djq_model.specs.Equality.{bytes_eq-decides}
use Rattle.djq_protocol.specs.declared.limits.TheConstants.{VARIABLES}
use Rattle.djq_protocol.specs.Variables.{Label, is_variable, is_named, is_known, stands_in, with_term, with_terms}
use Rattle.djq_protocol.specs.Variables.{with_atom, variables_of}
use Rattle.djq_protocol.specs.Columns.{columns_of}
use Rattle.djq_query.specs.declared.numbered.NumberedAtom.{NumberedAtom}
use Rattle.djq_query.specs.declared.numbered.NumberedComparison.{NumberedComparison}
use Rattle.djq_query.specs.declared.numbered.Variable.{Variable as NumberedVariable}
use Rattle.djq_query.specs.declared.numbered.NumberedTerm.{NumberedTerm}
use Rattle.djq_query.specs.Standing.{is_fresh, CountsUpTo}
use Rattle.djq_query.specs.Numbered.{labels, number_of, numbered, numbered_terms, numbered_comparison, with_place}
use Rattle.djq_query.specs.Numbered.{with_places, with_columns, is_below, are_below, IsNumberedAtom, AreNumbered}
use Rattle.djq_query.proofs.Atoms.{from_place, from_read, place_up, found_by}

-- ---- How many variables are known behind terms and atoms.

or_same : (a b : Bool) → (b ≡ true → a ≡ true) → a ≡ (a || b)
or_same true b f = refl
or_same false false f = refl
or_same false true f = f refl

-- which names are known behind a term

name_known : (known : List Label) (y x : Bytes) (b : Bool) → is_known known y ≡ b
    → is_known (cond b known (known ++ Some y ∷ [])) x ≡ (is_known known x || bytes_eq y x)
name_known known y x true e = or_same (is_known known x) (bytes_eq y x)
    (λ same. subst (λ z. is_known known z ≡ true) ((bytes_eq-decides y x).0 same) e)
name_known known y x false e = list_any-append (is_named x) known (Some y ∷ [])
    ∙ ap (λ b. is_known known x || b) (or-false (bytes_eq y x))

term_known : (known : List Label) (t : Term) (x : Bytes) → is_known (with_term known t) x
    ≡ (is_known known x || is_variable x t)
term_known known (Variable y) x = name_known known y x (is_known known y) refl
term_known known Hole x = list_any-append (is_named x) known (None ∷ [])
term_known known (Constant v) x = sym (or-false (is_known known x))

terms_known : (known : List Label) (ts : List Term) (x : Bytes) → is_known (with_terms known ts) x
    ≡ (is_known known x || list_any (is_variable x) ts)
terms_known known [] x = sym (or-false (is_known known x))
terms_known known (t ∷ ts) x =
    terms_known (with_term known t) ts x
    ∙ ap (λ b. b || list_any (is_variable x) ts) (term_known known t x)
    ∙ or_assoc (is_known known x) (is_variable x t) (list_any (is_variable x) ts)

atoms_known : (known : List Label) (atoms : List Atom) (x : Bytes) → is_known (fold with_atom known atoms) x
    ≡ (is_known known x || stands_in atoms x)
atoms_known known [] x = sym (or-false (is_known known x))
atoms_known known (a ∷ atoms) x =
    atoms_known (with_atom known a) atoms x
    ∙ ap (λ b. b || stands_in atoms x) (terms_known known a.terms x)
    ∙ or_assoc (is_known known x) (list_any (is_variable x) a.terms) (stands_in atoms x)

-- a name is known behind the atoms in which it stands
pub known_behind : (before : List Atom) (beside : List Term) (x : Bytes)
    → is_known (with_terms (variables_of before) beside) x ≡ (stands_in before x || list_any (is_variable x) beside)
known_behind before beside x =
    terms_known (variables_of before) beside x
    ∙ ap (λ b. b || list_any (is_variable x) beside) (atoms_known [] before x)

-- how many are

name_counted : (known : List Label) (y : Bytes) (b : Bool) → length (cond b known (known ++ Some y ∷ []))
    ≡ length known + cond (not b) 1 0
name_counted known y true = omega arith
name_counted known y false = length-append known (Some y ∷ [])

pub term_counted : (before : List Atom) (beside : List Term) (t : Term)
    → let known = with_terms (variables_of before) beside in
    length (with_term known t) ≡ length known + cond (is_fresh before beside t) 1 0
term_counted before beside (Variable y) =
    let known = with_terms (variables_of before) beside in
    name_counted known y (is_known known y) ∙ ap (λ b. length known + cond (not b) 1 0) (known_behind before beside y)
term_counted before beside Hole = let known = with_terms (variables_of before) beside in length-append known (None ∷ [])
term_counted before beside (Constant v) = omega arith

more_name : (known : List Label) (y : Bytes) (b : Bool) → length known ≤ length (cond b known (known ++ Some y ∷ []))
more_name known y true = omega arith
more_name known y false = omega (arith, length-append known (Some y ∷ []))

pub term_more : (known : List Label) (t : Term) → length known ≤ length (with_term known t)
term_more known (Variable y) = more_name known y (is_known known y)
term_more known Hole = omega (arith, length-append known (None ∷ []))
term_more known (Constant v) = omega arith

pub terms_more : (known : List Label) (ts : List Term) → length known ≤ length (with_terms known ts)
terms_more known [] = omega arith
terms_more known (t ∷ ts) = omega (arith, term_more known t, terms_more (with_term known t) ts)

pub atoms_more : (known : List Label) (atoms : List Atom) → length known ≤ length (fold with_atom known atoms)
atoms_more known [] = omega arith
atoms_more known (a ∷ atoms) = omega (arith, terms_more known a.terms, atoms_more (with_atom known a) atoms)

-- a first part has no more than the whole
pub terms_part : (known : List Label) (ts : List Term) (n : ℕ)
    → length (with_terms known (take n ts)) ≤ length (with_terms known ts)
terms_part known ts n =
    let whole : with_terms known ts
    ≡ with_terms (with_terms known (take n ts)) (drop n ts) = ap (with_terms known) (sym (take-append-drop n ts))
    ∙ fold-append with_term known (take n ts) (drop n ts) in
    omega (arith, terms_more (with_terms known (take n ts)) (drop n ts), ap (λ (l : List Label). length l) whole)

pub atoms_part : (atoms : List Atom) (n : ℕ) → length (variables_of (take n atoms)) ≤ length (variables_of atoms)
atoms_part atoms n =
    let whole : variables_of atoms
    ≡ fold with_atom (variables_of (take n atoms)) (drop n atoms) = ap variables_of (sym (take-append-drop n atoms))
    ∙ fold-append with_atom [] (take n atoms) (drop n atoms) in
    omega (arith, atoms_more (variables_of (take n atoms)) (drop n atoms), ap (λ (l : List Label). length l) whole)

-- steps of loops

pub terms_step : (known : List Label) (ts : List Term) (i : ℕ) (t : Term) → i < length ts → t ≡ get_or ts i t
    → with_terms known (take (i + 1) ts) ≡ with_term (with_terms known (take i ts)) t
terms_step known ts i t below is = fold_more with_term known ts i t below
    ∙ ap (with_term (with_terms known (take i ts))) (sym is)

pub atoms_step : (atoms : List Atom) (i : ℕ) (a : Atom) → i < length atoms → a ≡ get_or atoms i a
    → variables_of (take (i + 1) atoms) ≡ with_terms (variables_of (take i atoms)) a.terms
atoms_step atoms i a below is = fold_more with_atom [] atoms i a below
    ∙ ap (with_atom (variables_of (take i atoms))) (sym is)

-- one more term, counted
pub count_step : (before : List Atom) (ts : List Term) (i : ℕ) (t : Term) → i < length ts → t ≡ get_or ts i t
    → length (with_terms (variables_of before) (take (i + 1) ts))
    ≡ length (with_terms (variables_of before) (take i ts)) + cond (is_fresh before (take i ts) t) 1 0
count_step before ts i t below is =
    ap (λ (l : List Label). length l) (terms_step (variables_of before) ts i t below is)
    ∙ term_counted before (take i ts) t

pub count_more : (before : List Atom) (ts : List Term) (i : ℕ) (t : Term) (count : ℕ) (b : Bool) → i < length ts → t
    ≡ get_or ts i t
    → count ≡ length (with_terms (variables_of before) (take i ts)) → b ≡ is_fresh before (take i ts) t → b ≡ true
    → count + 1 ≡ length (with_terms (variables_of before) (take (i + 1) ts))
count_more before ts i t count b below is counted tested e =
    ap (λ (n : ℕ). n + 1) counted
    ∙ sym (count_step before ts i t below is
    ∙ ap (λ v. length (with_terms (variables_of before) (take i ts)) + cond v 1 0) (sym tested ∙ e))

pub count_same : (before : List Atom) (ts : List Term) (i : ℕ) (t : Term) (count : ℕ) (b : Bool) → i < length ts → t
    ≡ get_or ts i t
    → count ≡ length (with_terms (variables_of before) (take i ts)) → b ≡ is_fresh before (take i ts) t → b ≡ false
    → count ≡ length (with_terms (variables_of before) (take (i + 1) ts))
count_same before ts i t count b below is counted tested e =
    let step = count_step before ts i t below is
    ∙ ap (λ v. length (with_terms (variables_of before) (take i ts)) + cond v 1 0) (sym tested ∙ e) in
    counted ∙ sym (step ∙ add-zero (length (with_terms (variables_of before) (take i ts))))

-- more than the limit in a first part
pub many_terms : (known : List Label) (ts : List Term) (n count : ℕ) → count ≡ length (with_terms known (take n ts))
    → VARIABLES < count → CountsUpTo (length (with_terms known ts)) count
many_terms known ts n count counted above =
    let part = terms_part known ts n in
    record { few = λ h. absurd (omega arith); many = λ h. omega arith }

pub many_atoms : (atoms : List Atom) (i : ℕ) (a : Atom) (ts : List Term) → i < length atoms → a ≡ get_or atoms i a → ts
    ≡ a.terms
    → VARIABLES < length (with_terms (variables_of (take i atoms)) ts) → ltb VARIABLES (length (variables_of atoms))
    ≡ true
many_atoms atoms i a ts below is same above =
    let step : length (variables_of (take (i + 1) atoms)) ≡ length (with_terms (variables_of (take i atoms)) ts) =
    ap (λ (l : List Label). length l)
    (atoms_step atoms i a below is ∙ ap (with_terms (variables_of (take i atoms))) (sym same)) in
    lt-ltb VARIABLES (length (variables_of atoms)) (omega (arith, atoms_part atoms (i + 1)))

-- ---- Numbers of names, terms and atoms.

at_most : (p : Label → Bool) (xs : List Label) → prefix_len p xs ≤ length xs
at_most p [] = omega arith
at_most p (x ∷ xs) = step (p x) (at_most p xs)
  where
    step : (b : Bool) → prefix_len p xs ≤ length xs → cond b (1 + prefix_len p xs) 0 ≤ suc (length xs)
    step true h = omega arith
    step false h = omega arith

-- whether one passes is whether there is a first that does
any_at : (p : Label → Bool) (xs : List Label) → list_any p xs ≡ ltb (position_or_len p xs) (length xs)
any_at p [] = refl
any_at p (x ∷ xs) = step (p x) (any_at p xs)
  where
    step : (b : Bool) → list_any p xs ≡ ltb (position_or_len p xs) (length xs) → (b || list_any p xs)
        ≡ ltb (cond (not b) (1 + position_or_len p xs) 0) (suc (length xs))
    step true h = sym (lt-ltb 0 (suc (length xs)) (omega arith))
    step false h = h ∙ sym (place_up (position_or_len p xs) (length xs))

-- the first of variables is that of their names
prefix_named : (p : Label → Bool) (known : List NumberedVariable) → prefix_len (λ (v : NumberedVariable). p v.name) known
    ≡ prefix_len p (labels known)
prefix_named p [] = refl
prefix_named p (v ∷ known) = ap (λ (n : ℕ). cond (p v.name) (1 + n) 0) (prefix_named p known)

pub length_labels : (known : List NumberedVariable) → length (labels known) ≡ length known
length_labels [] = refl
length_labels (v ∷ known) = ap suc (length_labels known)

number_at : (known : List NumberedVariable) (x : Bytes) → position (λ (v : NumberedVariable). is_named x v.name) known
    ≡ cond (is_known (labels known) x) (Some (number_of (labels known) x)) None
number_at known x =
    ap₂ (λ (n m : ℕ). cond (ltb n m) (Some n) None) (prefix_named (λ l. not (is_named x l)) known)
    (sym (length_labels known))
    ∙ ap (λ b. cond b (Some (number_of (labels known) x)) None) (sym (any_at (is_named x) (labels known)))

pub number_none : (b : Bool) (n : ℕ) → cond b (Some n) None ≡ None → b ≡ false
number_none true n e = absurd cc
number_none false n e = refl

-- a name that is known, and one that isn't

pub known_found : (known : List NumberedVariable) (x : Bytes) (n : ℕ) → position (λ (v : NumberedVariable). is_named x v.name) known
    ≡ Some n → (is_known (labels known) x ≡ true) × (number_of (labels known) x ≡ n)
known_found known x n e = found_by (is_known (labels known) x) (number_of (labels known) x) n
    (sym (number_at known x) ∙ e)

pub known_missed : (known : List NumberedVariable) (x : Bytes) → position (λ (v : NumberedVariable). is_named x v.name) known ≡ None
    → (is_known (labels known) x ≡ false) × (number_of (labels known) x ≡ length known)
known_missed known x e =
    let unknown : is_known (labels known) x
    ≡ false = number_none (is_known (labels known) x) (number_of (labels known) x) (sym (number_at known x) ∙ e) in
    let past : length (labels known) ≤ number_of (labels known) x = ltb-false (number_of (labels known) x)
    (length (labels known)) (sym (any_at (is_named x) (labels known)) ∙ unknown) in
    (unknown, omega (arith, at_most (λ l. not (is_named x l)) (labels known), length_labels known))

-- terms, one after another

pub with_known : (known : List NumberedVariable) (x : Bytes) (c : ColumnType) → is_known (labels known) x ≡ true
    → with_place known (Named x) c ≡ known
unfolding with_place
with_known known x c e = rw e refl

pub with_unknown : (known : List NumberedVariable) (x : Bytes) (c : ColumnType) → is_known (labels known) x ≡ false
    → with_place known (Named x) c ≡ known ++ record { name = Some x; column = c } ∷ []
unfolding with_place
with_unknown known x c e = rw e refl

pub with_hole : (known : List NumberedVariable) (t : Term) (c : ColumnType) → t ≡ Hole → with_place known t c
    ≡ known ++ record { name = None; column = c } ∷ []
unfolding with_place
with_hole known t c e = ap (λ u. with_place known u c) e

pub with_constant : (known : List NumberedVariable) (t : Term) (v : Value) (c : ColumnType) → t ≡ Constant v
    → with_place known t c ≡ known
unfolding with_place
with_constant known t v c e = ap (λ u. with_place known u c) e

labels_behind : (known : List NumberedVariable) (v : NumberedVariable) → labels (known ++ v ∷ []) ≡ labels known ++ v.name ∷ []
labels_behind [] v = refl
labels_behind (w ∷ known) v = ap (λ (ls : List Label). w.name ∷ ls) (labels_behind known v)

label_step : (known : List NumberedVariable) (x : Bytes) (c : ColumnType) (b : Bool)
    → labels (cond b known (known ++ record { name = Some x; column = c } ∷ []))
    ≡ cond b (labels known) (labels known ++ Some x ∷ [])
label_step known x c true = refl
label_step known x c false = labels_behind known (record { name = Some x; column = c })

pub labels_with : (known : List NumberedVariable) (t : Term) (c : ColumnType) → labels (with_place known t c)
    ≡ with_term (labels known) t
unfolding with_place
labels_with known (Named x) c = label_step known x c (is_known (labels known) x)
labels_with known Hole c = labels_behind known (record { name = None; column = c })
labels_with known (Constant v) c = refl

pub numbered_step : (done : List NumberedTerm) (known : List NumberedVariable) (ts : List Term) (i : ℕ) (t : Term)
    (c : ColumnType) → i < length ts → t ≡ get_or ts i t
    → (done ++ numbered (labels known) t ∷ []) ++ numbered_terms (labels (with_place known t c)) (drop (i + 1) ts)
    ≡ done ++ numbered_terms (labels known) (drop i ts)
unfolding numbered_terms
numbered_step done known ts i t c below is =
    append_assoc done (numbered (labels known) t ∷ [])
    (numbered_terms (labels (with_place known t c)) (drop (i + 1) ts))
    ∙ ap (λ ls. done ++ numbered (labels known) t ∷ numbered_terms ls (drop (i + 1) ts)) (labels_with known t c)
    ∙ ap (λ us. done ++ numbered_terms (labels known) us) (sym (from_place ts i t below is))

pub places_step : (known : List NumberedVariable) (ts : List Term) (cs : List ColumnType) (i : ℕ) (t : Term) (c d : ColumnType)
    → i < length ts → i < length cs → t ≡ get_or ts i t → c ≡ get_or cs i d
    → with_places (with_place known t c) (drop (i + 1) ts) (drop (i + 1) cs) ≡ with_places known (drop i ts) (drop i cs)
unfolding with_places
places_step known ts cs i t c d below under e f = sym
    (ap₂ (with_places known) (from_place ts i t below e) (from_read cs i c d under f))

pub numbered_end : (done : List NumberedTerm) (known : List Label) (ts : List Term) (i : ℕ) → length ts ≤ i
    → done ++ numbered_terms known (drop i ts) ≡ done
unfolding numbered_terms
numbered_end done known ts i past = ap (λ us. done ++ numbered_terms known us) (drop_all i ts past) ∙ append-nil done

pub places_end : (known : List NumberedVariable) (ts : List Term) (cs : List ColumnType) (i : ℕ) → length ts ≤ i
    → with_places known (drop i ts) (drop i cs) ≡ known
unfolding with_places
places_end known ts cs i past = ap (λ us. with_places known us (drop i cs)) (drop_all i ts past)

-- atoms, one after another

pub any_false_at : {A : Type 0} (p : A → Bool) (xs : List A) (i : ℕ) (x : A) → list_any p xs ≡ false → i < length xs → x
    ≡ get_or xs i x → p x ≡ false
any_false_at p xs i x none below is = by_test (p x) refl
  where
    by_test : (b : Bool) → p x ≡ b → p x ≡ false
    by_test false e = e
    by_test true e = absurd (false≢true (sym none ∙ list_any_at p xs i x below (ap p (sym is) ∙ e)))

pub same_length : (a b : ℕ) → not (a == b) ≡ false → a ≡ b
same_length a b e = by_test (a == b) refl e
  where
    by_test : (t : Bool) → (a == b) ≡ t → not t ≡ false → a ≡ b
    by_test true is h = eqb-true a b is
    by_test false is h = absurd (false≢true (sym h))

-- an atom among those with the right number of terms
pub arity_at : (rs : List Relation) (atoms : List Atom) (i : ℕ) (a : Atom)
    → list_any (λ (a : Atom). not (length a.terms == length (columns_of rs a.relation))) atoms ≡ false
    → i < length atoms → a ≡ get_or atoms i a
    → length a.terms ≡ length (columns_of rs a.relation)
arity_at rs atoms i a none below is = same_length (length a.terms) (length (columns_of rs a.relation))
    (any_false_at (λ (a : Atom). not (length a.terms == length (columns_of rs a.relation))) atoms i a none below is)

labels_places : (known : List NumberedVariable) (ts : List Term) (cs : List ColumnType) → length ts ≡ length cs
    → labels (with_places known ts cs) ≡ with_terms (labels known) ts
unfolding with_places
labels_places known [] cs e = refl
labels_places known (t ∷ ts) [] e = absurd (omega arith)
labels_places known (t ∷ ts) (c ∷ cs) e = labels_places (with_place known t c) ts cs (omega arith)
    ∙ ap (λ ls. with_terms ls ts) (labels_with known t c)

pub numbered_on : (rs : List Relation) (known old : List NumberedVariable) (atoms : List Atom) (done : List NumberedAtom)
    (i : ℕ) (a : Atom) (n : NumberedAtom)
    → i < length atoms → a ≡ get_or atoms i a → length a.terms ≡ length (columns_of rs a.relation)
    → IsNumberedAtom rs (labels known) a n
    → ((ns : List NumberedAtom) → AreNumbered rs (labels known) (drop i atoms) ns
    → AreNumbered rs (labels old) atoms (done ++ ns))
    → (ns : List NumberedAtom) → AreNumbered rs (labels (with_columns rs known a)) (drop (i + 1) atoms) ns
    → AreNumbered rs (labels old) atoms ((done ++ n ∷ []) ++ ns)
unfolding AreNumbered
numbered_on rs known old atoms done i a n below is arity one before ns more =
    subst (λ (ms : List NumberedAtom). AreNumbered rs (labels old) atoms ms) (sym (append_assoc done (n ∷ []) ns))
    (before (n ∷ ns)
    (subst (λ (rest : List Atom). AreNumbered rs (labels known) rest (n ∷ ns)) (sym (from_place atoms i a below is)) (
      one,
      subst (λ (ls : List Label). AreNumbered rs ls (drop (i + 1) atoms) ns)
          (labels_places known a.terms (columns_of rs a.relation) arity) more,
    )))

pub numbered_all : (rs : List Relation) (known : List Label) (atoms : List Atom) (i : ℕ) → length atoms ≤ i
    → AreNumbered rs known (drop i atoms) []
unfolding AreNumbered
numbered_all rs known atoms i past = subst (λ (rest : List Atom). AreNumbered rs known rest [])
    (sym (drop_all i atoms past)) tt

pub numbered_over : (rs : List Relation) (known old : List NumberedVariable) (atoms : List Atom) (done : List NumberedAtom)
    (i : ℕ) → length atoms ≤ i
    → ((ns : List NumberedAtom) → AreNumbered rs (labels known) (drop i atoms) ns
    → AreNumbered rs (labels old) atoms (done ++ ns)) → AreNumbered rs (labels old) atoms done
numbered_over rs known old atoms done i past before =
    subst (λ (ms : List NumberedAtom). AreNumbered rs (labels old) atoms ms) (append-nil done)
    (before [] (numbered_all rs (labels known) atoms i past))

pub columns_on : (rs : List Relation) (known : List NumberedVariable) (atoms : List Atom) (i : ℕ) (a : Atom) → i < length atoms
    → a ≡ get_or atoms i a
    → fold (with_columns rs) (with_columns rs known a) (drop (i + 1) atoms)
    ≡ fold (with_columns rs) known (drop i atoms)
columns_on rs known atoms i a below is = ap (fold (with_columns rs) known) (sym (from_place atoms i a below is))

-- the variables with their types are those without them
pub labels_columns : (rs : List Relation) (known : List NumberedVariable) (atoms : List Atom)
    → list_any (λ (a : Atom). not (length a.terms == length (columns_of rs a.relation))) atoms ≡ false
    → labels (fold (with_columns rs) known atoms) ≡ fold with_atom (labels known) atoms
labels_columns rs known [] none = refl
labels_columns rs known (a ∷ atoms) none =
    let parts = or_parts (not (length a.terms == length (columns_of rs a.relation)))
    (list_any (λ (a : Atom). not (length a.terms == length (columns_of rs a.relation))) atoms) none in
    labels_columns rs (with_columns rs known a) atoms parts.1
    ∙ ap (λ (ls : List Label). fold with_atom ls atoms)
    (labels_places known a.terms (columns_of rs a.relation)
    (same_length (length a.terms) (length (columns_of rs a.relation)) parts.0))

-- names of a head

or_else : (b : Bool) (n m : ℕ) → (b ≡ false → n ≡ m) → unwrap_or (cond b (Some n) None) m ≡ n
or_else true n m f = refl
or_else false n m f = sym (f refl)

pub number_or : (known : List NumberedVariable) (x : Bytes)
    → unwrap_or (position (λ (v : NumberedVariable). is_named x v.name) known) (length known) ≡ number_of (labels known) x
number_or known x =
    ap (λ (o : Option ℕ). unwrap_or o (length known)) (number_at known x)
    ∙ or_else (is_known (labels known) x) (number_of (labels known) x) (length known)
    (λ unknown. (known_missed known x
    (number_at known x ∙ ap (λ b. cond b (Some (number_of (labels known) x)) None) unknown)).1)

-- numbers are within

number_within : (known : List Label) (x : Bytes) → is_known known x ≡ true → number_of known x < length known
number_within known x e = ltb-true (number_of known x) (length known) (sym (any_at (is_named x) known) ∙ e)

name_below : (known : List Label) (x : Bytes) (b : Bool) (m : ℕ) → is_known known x ≡ b
    → length (cond b known (known ++ Some x ∷ [])) ≤ m → number_of known x < m
name_below known x true m e h = omega (arith, number_within known x e)
name_below known x false m e h = omega
    (arith, at_most (λ l. not (is_named x l)) known, length-append known (Some x ∷ []))

term_below : (known : List Label) (t : Term) (m : ℕ) → length (with_term known t) ≤ m → is_below m (numbered known t)
    ≡ true
term_below known (Named x) m h = lt-ltb (number_of known x) m (name_below known x (is_known known x) m refl h)
term_below known Hole m h = lt-ltb (length known) m (omega (arith, h, length-append known (None ∷ [])))
term_below known (Constant v) m h = refl

terms_below : (known : List Label) (ts : List Term) (m : ℕ) → length (with_terms known ts) ≤ m
    → are_below m (numbered_terms known ts) ≡ true
unfolding numbered_terms
terms_below known [] m h = refl
terms_below known (t ∷ ts) m h =
    and_from (is_below m (numbered known t)) (are_below m (numbered_terms (with_term known t) ts))
    (term_below known t m (omega (arith, terms_more (with_term known t) ts)))
    (terms_below (with_term known t) ts m h)

pub atoms_below : (rs : List Relation) (known : List Label) (atoms : List Atom) (ns : List NumberedAtom) (m : ℕ)
    → AreNumbered rs known atoms ns → length (fold with_atom known atoms) ≤ m
    → list_all (λ (n : NumberedAtom). are_below m n.terms) ns ≡ true
unfolding AreNumbered
atoms_below rs known [] [] m h l = refl
atoms_below rs known [] (n ∷ ns) m h l = absurd h
atoms_below rs known (a ∷ atoms) [] m h l = absurd h
atoms_below rs known (a ∷ atoms) (n ∷ ns) m h l =
    and_from (are_below m n.terms) (list_all (λ (n : NumberedAtom). are_below m n.terms) ns)
    (ap (are_below m) h.0.1 ∙ terms_below known a.terms m (omega (arith, atoms_more (with_atom known a) atoms)))
    (atoms_below rs (with_atom known a) atoms ns m h.1 l)

pub head_below : (atoms : List Atom) (head : List Bytes) → list_any (λ x. not (stands_in atoms x)) head ≡ false
    → list_all (λ x. nat_lt x (length (variables_of atoms))) (map (number_of (variables_of atoms)) head) ≡ true
head_below atoms [] none = refl
head_below atoms (x ∷ head) none =
    let parts = or_parts (not (stands_in atoms x)) (list_any (λ x. not (stands_in atoms x)) head) none in
    let known : is_known (variables_of atoms) x ≡ true = known_behind atoms [] x ∙ or-false (stands_in atoms x)
    ∙ not-false (stands_in atoms x) parts.0 in
    and_from (nat_lt (number_of (variables_of atoms) x) (length (variables_of atoms)))
    (list_all (λ x. nat_lt x (length (variables_of atoms))) (map (number_of (variables_of atoms)) head))
    (lt-ltb (number_of (variables_of atoms) x) (length (variables_of atoms))
    (number_within (variables_of atoms) x known))
    (head_below atoms head parts.1)

pub compared_below : (atoms : List Atom) (comparisons : List Comparison)
    → list_any (λ c. not (stands_in atoms c.variable)) comparisons ≡ false
    → list_all (λ (c : NumberedComparison). nat_lt c.variable (length (variables_of atoms)))
    (map (numbered_comparison (variables_of atoms)) comparisons) ≡ true
compared_below atoms [] none = refl
compared_below atoms (c ∷ cs) none =
    let parts = or_parts (not (stands_in atoms c.variable))
    (list_any (λ (c : Comparison). not (stands_in atoms c.variable)) cs) none in
    let known : is_known (variables_of atoms) c.variable ≡ true = known_behind atoms [] c.variable
    ∙ or-false (stands_in atoms c.variable) ∙ not-false (stands_in atoms c.variable) parts.0 in
    and_from (nat_lt (number_of (variables_of atoms) c.variable) (length (variables_of atoms)))
    (list_all (λ (n : NumberedComparison). nat_lt n.variable (length (variables_of atoms)))
    (map (numbered_comparison (variables_of atoms)) cs))
    (lt-ltb (number_of (variables_of atoms) c.variable) (length (variables_of atoms))
    (number_within (variables_of atoms) c.variable known))
    (compared_below atoms cs parts.1)

-- one more comparison
pub compared_step : (f : Comparison → NumberedComparison) (xs : List Comparison) (i : ℕ) (x : Comparison)
    → i < length xs → x ≡ get_or xs i x → map f (take (i + 1) xs) ≡ map f (take i xs) ++ f x ∷ []
compared_step f xs i x below is =
    ap (map f) (take_more xs i x below ∙ ap (λ (n : Comparison). take i xs ++ n ∷ []) (sym is))
    ∙ map-append f (take i xs) (x ∷ [])

-- one more name of a head
pub head_step : (f : Bytes → ℕ) (xs : List Bytes) (i : ℕ) (x : Bytes) → i < length xs → x ≡ get_or xs i x
    → map f (take (i + 1) xs) ≡ map f (take i xs) ++ f x ∷ []
head_step f xs i x below is =
    ap (map f) (take_more xs i x below ∙ ap (λ (n : Bytes). take i xs ++ n ∷ []) (sym is))
    ∙ map-append f (take i xs) (x ∷ [])

-- a name that isn't known has the next number
pub number_unknown : (known : List Label) (x : Bytes) → is_known known x ≡ false → number_of known x ≡ length known
number_unknown known x e =
    let past = ltb-false (number_of known x) (length known) (sym (any_at (is_named x) known) ∙ e) in
    omega (arith, past, at_most (λ l. not (is_named x l)) known)
