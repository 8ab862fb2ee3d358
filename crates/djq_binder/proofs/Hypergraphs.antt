-- The hypergraph of a query, and sets of variables as rising lists.
use Rattle.std.proofs.Common.{◌≡◌, ℕ, zero, suc, ◌+◌, ◌<◌, ◌≤◌, true, false, List, [], ◌∷◌, ◌++◌, refl, ap, sym, ◌∙◌}
use Rattle.std.proofs.Common.{inl, inr, arith, length, map, ap₂}
use Rattle.std.specs.Prelude.{◌==◌, ◌||◌, slice_index, not, nat_lt, Some, None, slice_get}
use Rattle.std.specs.List.Sorted.{IsStrictlyIncreasing}
use Rattle.std.proofs.lemmas.Bool.{cases_Bool, cases_eq, cases_lt, eq-eqb, ne_eqb, eqb-true, ltb-true, false≢true}
use Rattle.std.proofs.lemmas.Bool.{or_cases, and_parts, or_left, or_right, or_parts}
use Rattle.std.proofs.lemmas.List.{get_or_append_left, get_or_push}
use Rattle.std.proofs.lemmas.List.Kept.{AllPairs-from_increasing, IsStrictlyIncreasing-filter}
use Rattle.std.specs.List.{list_all, list_any}
use Rattle.djq_hypergraph.specs.Hypergraph.{member, numbers_below, set_below, edge_at}
use Rattle.djq_hypergraph.specs.Variables.{IsVariableSet, AreVariableSets, AreCovered}
use Rattle.djq_hypergraph.proofs.Sets.{has_filter, one_true, one_false, from_true, from_false, Rising, same_sets}
use Rattle.djq_hypergraph.proofs.Sets.{member_past}
use Rattle.djq_hypergraph.proofs.Labels.{edge_in}
use Rattle.djq_model.specs.declared.relation.Relation.{Relation}
use Rattle.djq_model.specs.declared.query.Query.{Query}
use Rattle.djq_model.specs.declared.query.Atom.{Atom}
use Rattle.djq_model.specs.declared.query.Term.{Term}
use Rattle.djq_model.specs.declared.query.Term.TheVariants.{Variable as Named, Hole, Constant}
use Rattle.djq_model.specs.Data.{Bytes}
use Rattle.djq_model.specs.Equality.{bytes_eq-decides}
use Rattle.djq_plan.proofs.GrowthSteps.{length_below}
use Rattle.djq_protocol.specs.Hypergraph.{number_of, numbers_in, edges_from, edges_of, head_of}
use Rattle.djq_protocol.specs.QueryFault.{query_fault}
use Rattle.djq_protocol.specs.Variables.{Label, is_variable, stands_in, with_term, with_atom, variables_of}
use Rattle.djq_reduct.proofs.Assignments.{member_on}
use Rattle.djq_query.specs.declared.numbered.NumberedTerm.{NumberedTerm}
use Rattle.djq_query.specs.declared.numbered.NumberedTerm.TheVariants.{Variable as Number, Constant as Fixed}
use Rattle.djq_query.specs.declared.numbered.NumberedAtom.{NumberedAtom}
use Rattle.djq_query.specs.Numbered.{Numbered, IsNumbered, AreNumbered, IsWithin, are_below, is_below, is_number}
use Rattle.djq_query.specs.Numbered.{labels, numbered_terms, terms_at}
use Rattle.djq_query.specs.Meaning.{TermsAreShown, AreAtomsShown}
use Rattle.djq_query.proofs.NumberedQueries.{sound_of, shown_by}
use Rattle.djq_query.proofs.Numbers.{not_false, length_labels, labels_columns}

-- ---- Sets of variables as rising lists.

-- ---- the numbers below a number

below_at : (n k : ℕ) → k < n → slice_index (numbers_below n) k ≡ k
below_at zero k low = absurd (omega arith)
below_at (suc n) k low =
    elim (cases_eq n k) [
      | inl e ↦ get_or_push (numbers_below n) n 0 k (length_below n ∙ e) ∙ e
      | inr apart ↦
          get_or_append_left (numbers_below n) (n ∷ []) 0 k
          (let l = length_below n in omega arith)
          ∙ below_at n k (omega arith)
    ]

below_rises : (n : ℕ) → IsStrictlyIncreasing (numbers_below n)
below_rises n k low =
    let l = length_below n in
    let a = below_at n k (omega arith) in
    let b = below_at n (k + 1) (omega arith) in
    omega arith

pub set_rises : (n : ℕ) (xs : List ℕ) → Rising (set_below n xs)
set_rises n xs = AllPairs-from_increasing (set_below n xs)
    (IsStrictlyIncreasing-filter (λ x. member x xs) (numbers_below n) (below_rises n))

push_member : (x n : ℕ) (l : List ℕ) → x ≡ n → member x (l ++ n ∷ []) ≡ true
push_member x n [] e = rw (eq-eqb x n e) refl
push_member x n (y ∷ l) e = member_on x y (l ++ n ∷ []) (push_member x n l e)

push_past : (x n : ℕ) (l : List ℕ) → (x ≡ n → ⊥) → member x (l ++ n ∷ []) ≡ member x l
push_past x n [] apart = member_past x n [] apart
push_past x n (y ∷ l) apart = ap (λ b. (x == y) || b) (push_past x n l apart)

pub below_has : (n x : ℕ) → x < n → member x (numbers_below n) ≡ true
below_has zero x low = absurd (omega arith)
below_has (suc n) x low =
    elim (cases_eq x n) [
      | inl e ↦ push_member x n (numbers_below n) e
      | inr apart ↦ push_past x n (numbers_below n) apart ∙ below_has n x (omega arith)
    ]

below_lacks : (n x : ℕ) → n ≤ x → member x (numbers_below n) ≡ false
below_lacks zero x high = refl
below_lacks (suc n) x high =
    push_past x n (numbers_below n) (λ e. absurd (omega arith)) ∙ below_lacks n x (omega arith)

pub set_has : (n x : ℕ) (xs : List ℕ) → x < n → member x (set_below n xs) ≡ member x xs
set_has n x xs low =
    let f = has_filter (λ y. member y xs) x (numbers_below n) in
    let all = from_true (member x (numbers_below n)) (below_has n x low) in
    elim (cases_Bool (member x xs)) [
      | inl m ↦
          one_true (member x (set_below n xs)) (let o = from_true (member x xs) m in omega arith)
          ∙ sym m
      | inr l ↦
          one_false (member x (set_below n xs)) (let o = from_false (member x xs) l in omega arith)
          ∙ sym l
    ]

pub set_lacks : (n x : ℕ) (xs : List ℕ) → n ≤ x → member x (set_below n xs) ≡ false
set_lacks n x xs high =
    let f = has_filter (λ y. member y xs) x (numbers_below n) in
    let none = from_false (member x (numbers_below n)) (below_lacks n x high) in
    one_false (member x (set_below n xs)) (omega arith)

-- a rising list with these members is the set
pub is_set : (n : ℕ) (xs e : List ℕ) → Rising e → ((x : ℕ) → member x e ≡ member x xs)
    → ((x : ℕ) → n ≤ x → member x xs ≡ false) → e ≡ set_below n xs
is_set n xs e rising same low =
    same_sets e (set_below n xs) rising (set_rises n xs) (λ x.
    elim (cases_lt x n) [
      | inl below ↦ same x ∙ sym (set_has n x xs below)
      | inr past ↦ same x ∙ low x past ∙ sym (set_lacks n x xs past)
    ])

-- ---- The hypergraph of a query, and that of its numbers.

-- ---- edges

-- the numbers that stand in terms
pub numbers_same : (known : List Label) (ts : List Term) (x : ℕ)
    → list_any (is_number x) (numbered_terms known ts) ≡ member x (numbers_in known ts)
unfolding numbers_in numbered_terms
numbers_same known [] x = refl
numbers_same known (Named y ∷ ts) x =
    ap (λ b. (x == number_of known y) || b) (numbers_same (with_term known (Named y)) ts x)
numbers_same known (Hole ∷ ts) x =
    ap (λ b. (x == length known) || b) (numbers_same (with_term known Hole) ts x)
numbers_same known (Constant v ∷ ts) x = numbers_same known ts x

-- a number past all variables stands in no term
high_term : (n x : ℕ) (t : NumberedTerm) → n ≤ x → is_below n t ≡ true → is_number x t ≡ false
high_term n x (Number y) high low =
    ne_eqb x y (λ e. absurd (let l = ltb-true y n low in omega arith))
high_term n x (Fixed v) high low = refl

pub high_terms : (n x : ℕ) (ts : List NumberedTerm) → n ≤ x → are_below n ts ≡ true
    → list_any (is_number x) ts ≡ false
high_terms n x [] high low = refl
high_terms n x (t ∷ ts) high low =
    let p = and_parts (is_below n t) (are_below n ts) low in
    rw (high_term n x t high p.0) (high_terms n x ts high p.1)

edge_same : (n : ℕ) (known : List Label) (a : Atom) (m : NumberedAtom) (e : List ℕ)
    → m.terms ≡ numbered_terms known a.terms → are_below n m.terms ≡ true → Rising e
    → ((x : ℕ) → member x e ≡ list_any (is_number x) m.terms)
    → e ≡ set_below n (numbers_in known a.terms)
edge_same n known a m e is low rising has =
    let same : (x : ℕ) → list_any (is_number x) m.terms ≡ member x (numbers_in known a.terms)
    = λ x. ap (λ ts. list_any (is_number x) ts) is ∙ numbers_same known a.terms x in
    is_set n (numbers_in known a.terms) e rising (λ x. has x ∙ same x)
    (λ x high. sym (same x) ∙ high_terms n x m.terms high low)

edges_same : (rs : List Relation) (n : ℕ) (known : List Label) (atoms : List Atom)
    (ms : List NumberedAtom) (es : List (List ℕ)) → AreNumbered rs known atoms ms
    → list_all (λ (a : NumberedAtom). are_below n a.terms) ms ≡ true → length es ≡ length ms
    → ((p : ℕ) → Rising (edge_at es p))
    → ((p x : ℕ) → member x (edge_at es p) ≡ list_any (is_number x) (terms_at ms p))
    → es ≡ edges_from n known atoms
unfolding AreNumbered edges_from
edges_same rs n known [] [] [] h low long rising has = refl
edges_same rs n known [] [] (e ∷ es) h low long rising has = absurd (omega arith)
edges_same rs n known [] (m ∷ ms) es h low long rising has = absurd h
edges_same rs n known (a ∷ atoms) [] es h low long rising has = absurd h
edges_same rs n known (a ∷ atoms) (m ∷ ms) [] h low long rising has = absurd (omega arith)
edges_same rs n known (a ∷ atoms) (m ∷ ms) (e ∷ es) h low long rising has =
    let p = and_parts (are_below n m.terms)
    (list_all (λ (a : NumberedAtom). are_below n a.terms) ms) low in
    ap₂ (λ (f : List ℕ) (fs : List (List ℕ)). f ∷ fs)
    (edge_same n known a m e h.0.1 p.0 (rising 0) (λ x. has 0 x))
    (edges_same rs n (with_atom known a) atoms ms es h.1 p.1 (omega arith)
    (λ q. rising (suc q)) (λ q x. has (suc q) x))

-- the names of a query's variables
pub named_labels : (rs : List Relation) (q : Query) (n : Numbered) → query_fault rs q ≡ None
    → IsNumbered rs q n → labels n.variables ≡ variables_of q.atoms
named_labels rs q n fault h =
    ap labels h.variables ∙ labels_columns rs [] q.atoms (sound_of rs q fault).arity

pub count_labels : (rs : List Relation) (q : Query) (n : Numbered) → query_fault rs q ≡ None
    → IsNumbered rs q n → length (variables_of q.atoms) ≡ length n.variables
count_labels rs q n fault h =
    ap (λ (ls : List Label). length ls) (sym (named_labels rs q n fault h))
    ∙ length_labels n.variables

-- edges that have the variables of a query by number are the query's
pub edges_are : (rs : List Relation) (q : Query) (n : Numbered) (es : List (List ℕ))
    → query_fault rs q ≡ None → IsNumbered rs q n → IsWithin n → length es ≡ length n.atoms
    → AreVariableSets es
    → ((p x : ℕ) → member x (edge_at es p) ≡ list_any (is_number x) (terms_at n.atoms p))
    → es ≡ edges_of q
edges_are rs q n es fault h within long sets has =
    edges_same rs (length n.variables) [] q.atoms n.atoms es h.atoms within.body long
    (λ p. AllPairs-from_increasing (edge_at es p) (sets p).rising) has
    ∙ ap (λ (k : ℕ). edges_from k [] q.atoms) (sym (count_labels rs q n fault h))

-- ---- the head

pub high_head : (n x : ℕ) (xs : List ℕ) → n ≤ x → list_all (λ y. nat_lt y n) xs ≡ true
    → member x xs ≡ false
high_head n x [] high low = refl
high_head n x (y ∷ xs) high low =
    let p = and_parts (nat_lt y n) (list_all (λ y. nat_lt y n) xs) low in
    rw (ne_eqb x y (λ e. absurd (let l = ltb-true y n p.0 in omega arith)))
    (high_head n x xs high p.1)

pub head_numbers : (rs : List Relation) (q : Query) (n : Numbered) → query_fault rs q ≡ None
    → IsNumbered rs q n → n.head ≡ map (number_of (variables_of q.atoms)) q.head
head_numbers rs q n fault h =
    h.head ∙ ap (λ (ls : List Label). map (number_of ls) q.head) (named_labels rs q n fault h)

pub head_is : (rs : List Relation) (q : Query) (n : Numbered) (e : List ℕ)
    → query_fault rs q ≡ None → IsNumbered rs q n → IsWithin n → IsVariableSet e
    → ((x : ℕ) → member x e ≡ member x n.head) → e ≡ head_of q
head_is rs q n e fault h within set has =
    is_set (length n.variables) n.head e (AllPairs-from_increasing e set.rising) has
    (λ x high. high_head (length n.variables) x n.head high within.head)
    ∙ ap₂ (λ (k : ℕ) (xs : List ℕ). set_below k xs) (sym (count_labels rs q n fault h))
    (head_numbers rs q n fault h)

-- ---- the head's variables lie in edges

name_shown : (ls : List Label) (x : Bytes) (t : Term) (m : NumberedTerm)
    → ((k : ℕ) (y : Bytes) → slice_get ls k ≡ Some (Some y) → number_of ls y ≡ k)
    → TermsAreShown ls (t ∷ []) (m ∷ []) → is_variable x t ≡ true
    → is_number (number_of ls x) m ≡ true
name_shown ls x (Named y) (Number k) one shown is =
    eq-eqb (number_of ls x) k
    (ap (number_of ls) (sym ((bytes_eq-decides y x).0 is)) ∙ one k y shown.0)
name_shown ls x (Named y) (Fixed v) one shown is = absurd shown.0
name_shown ls x Hole m one shown is = absurd (false≢true is)
name_shown ls x (Constant v) m one shown is = absurd (false≢true is)

terms_shown : (ls : List Label) (x : Bytes) (ts : List Term) (ms : List NumberedTerm)
    → ((k : ℕ) (y : Bytes) → slice_get ls k ≡ Some (Some y) → number_of ls y ≡ k)
    → TermsAreShown ls ts ms → list_any (is_variable x) ts ≡ true
    → list_any (is_number (number_of ls x)) ms ≡ true
terms_shown ls x [] ms one shown is = absurd (false≢true is)
terms_shown ls x (t ∷ ts) [] one shown is = absurd shown
terms_shown ls x (t ∷ ts) (m ∷ ms) one shown is =
    elim (or_cases (is_variable x t) (list_any (is_variable x) ts) is) [
      | inl here ↦ or_left (is_number (number_of ls x) m)
          (list_any (is_number (number_of ls x)) ms)
          (name_shown ls x t m one (shown.0, tt) here)
      | inr there ↦ or_right (is_number (number_of ls x) m)
          (list_any (is_number (number_of ls x)) ms) (terms_shown ls x ts ms one shown.1 there)
    ]

atom_with : (rs : List Relation) (ls : List Label) (x : Bytes) (atoms : List Atom)
    (ms : List NumberedAtom)
    → ((k : ℕ) (y : Bytes) → slice_get ls k ≡ Some (Some y) → number_of ls y ≡ k)
    → AreAtomsShown rs ls atoms ms → stands_in atoms x ≡ true
    → (p : ℕ) × (list_any (is_number (number_of ls x)) (terms_at ms p) ≡ true)
atom_with rs ls x [] ms one shown is = absurd (false≢true is)
atom_with rs ls x (a ∷ atoms) [] one shown is = absurd shown
atom_with rs ls x (a ∷ atoms) (m ∷ ms) one shown is =
    elim (or_cases (list_any (is_variable x) a.terms) (stands_in atoms x) is) [
      | inl here ↦ (0, terms_shown ls x a.terms m.terms one shown.1 here)
      | inr there ↦
          let r = atom_with rs ls x atoms ms one shown.2 there in
          (suc r.0, r.1)
    ]

head_stands : (ls : List Label) (atoms : List Atom) (head : List Bytes) (y : ℕ)
    → list_any (λ x. not (stands_in atoms x)) head ≡ false
    → member y (map (number_of ls) head) ≡ true
    → (x : Bytes) × (stands_in atoms x ≡ true) × (y ≡ number_of ls x)
head_stands ls atoms [] y none m = absurd (false≢true m)
head_stands ls atoms (x ∷ head) y none m =
    let p = or_parts (not (stands_in atoms x)) (list_any (λ x. not (stands_in atoms x)) head)
    none in
    elim (or_cases (y == number_of ls x) (member y (map (number_of ls) head)) m) [
      | inl here ↦ (x, not_false (stands_in atoms x) p.0, eqb-true y (number_of ls x) here)
      | inr there ↦ head_stands ls atoms head y p.1 there
    ]

pub head_covered : (rs : List Relation) (q : Query) (n : Numbered) (es : List (List ℕ))
    (e : List ℕ) → query_fault rs q ≡ None → IsNumbered rs q n
    → ((p x : ℕ) → member x (edge_at es p) ≡ list_any (is_number x) (terms_at n.atoms p))
    → ((x : ℕ) → member x e ≡ member x n.head) → AreCovered e es
head_covered rs q n es e fault h has head y in_head =
    let s = shown_by rs q n fault h in
    let ls = labels n.variables in
    let r = head_stands ls q.atoms q.head y (sound_of rs q fault).bound
    (ap (member y) (sym h.head) ∙ sym (head y) ∙ in_head) in
    let a = atom_with rs ls r.0 q.atoms n.atoms s.one s.body r.1 in
    let lies : member y (edge_at es a.0) ≡ true =
    has a.0 y ∙ ap (λ (k : ℕ). list_any (is_number k) (terms_at n.atoms a.0)) r.2 ∙ a.1 in
    let d = edge_in es a.0 y in
    let o = from_true (member y (edge_at es a.0)) lies in
    omega arith

-- ---- how many edges

pub edges_long : (n : ℕ) (known : List Label) (atoms : List Atom)
    → length (edges_from n known atoms) ≡ length atoms
unfolding edges_from
edges_long n known [] = refl
edges_long n known (a ∷ atoms) = ap suc (edges_long n (with_atom known a) atoms)
