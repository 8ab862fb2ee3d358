-- The first fault of a query, and what its numbers mean.
use Rattle.std.proofs.Common.{◌≡◌, List, Bool, true, false, refl, sym, ap, ap₂, ℕ, length, ◌∙◌, ltb, ◌<◌, [], ◌∷◌, zero}
use Rattle.std.proofs.Common.{suc, arith, ◌+◌, ◌≤◌, ◌++◌, subst, inl, inr, length-append}
use Rattle.std.specs.Prelude.{Option, None, Some, cond, not, position, is_none, slice_get, map, ◌||◌, nat_lt}
use Rattle.std.specs.List.{list_any, position_or_len, fold, find, list_all}
use Rattle.std.proofs.lemmas.Bool.{not_from_true, ltb-true, ltb-false, false≢true, ne_eqb, eq-eqb, cases_lt, or_parts}
use Rattle.std.proofs.lemmas.Bool.{not-false}
use Rattle.std.proofs.lemmas.List.Folds.{find_at, position_or_len_push}
use Rattle.std.proofs.lemmas.Option.{slice_get_past, slice_get_within}
use Rattle.std.proofs.Math.Bool.{or-false}
use Rattle.std.proofs.lemmas.List.{length-map}
use Rattle.djq_model.specs.declared.relation.Relation.{Relation}
use Rattle.djq_model.specs.declared.query.Query.{Query}
use Rattle.djq_model.specs.declared.query.Atom.{Atom}
use Rattle.djq_model.specs.declared.query.Comparison.{Comparison}
use Rattle.djq_model.specs.declared.query.Term.{Term}
use Rattle.djq_model.specs.declared.query.Term.TheVariants.{Variable as Named, Hole, Constant}
use Rattle.djq_model.specs.Data.{Bytes, bytes_eq, relation_of}
use Rattle.djq_model.specs.Equality.{bytes_eq-decides}
use Rattle.djq_value.specs.Literal.{are_different}
use Rattle.djq_protocol.specs.declared.answer.Refusal.{Refusal}
use Rattle.djq_protocol.specs.declared.answer.Refusal.TheVariants.{NoRelation, Arity, WrongType, VariableType, Unbound}
use Rattle.djq_protocol.specs.declared.answer.Refusal.TheVariants.{HeadRepeated, HeadUnbound, Limit}
use Rattle.djq_protocol.specs.declared.limits.TheConstants.{ATOMS, VARIABLES, HEAD_VARIABLES}
use Rattle.djq_protocol.specs.Variables.{stands_in, Label, is_known, is_named, variables_of, with_term, with_terms}
use Rattle.djq_protocol.specs.Variables.{with_atom}
use Rattle.djq_protocol.specs.QueryFault.{any_place, is_clash, reads_unknown, has_wrong_arity, has_misfit, has_clash}
use Rattle.djq_protocol.specs.QueryFault.{is_miscompared, compares_unbound, has_miscompared, repeats_head}
use Rattle.djq_protocol.specs.QueryFault.{has_unbound_head, is_too_large, query_fault}
use Rattle.djq_query.specs.declared.numbered.NumberedTerm.{NumberedTerm}
use Rattle.djq_query.specs.declared.numbered.NumberedTerm.TheVariants.{Variable as Number, Constant as Fixed}
use Rattle.djq_query.specs.declared.numbered.NumberedAtom.{NumberedAtom}
use Rattle.djq_query.specs.declared.numbered.NumberedComparison.{NumberedComparison}
use Rattle.djq_query.specs.declared.numbered.Variable.{Variable}
use Rattle.djq_query.specs.Clashes.{mixes}
use Rattle.djq_query.specs.Relations.{IsId}
use Rattle.djq_query.specs.Numbered.{Numbered, IsNumbered, labels, number_of, numbered, numbered_terms}
use Rattle.djq_query.specs.Numbered.{numbered_comparison, AreNumbered, with_columns, IsWithin}
use Rattle.djq_query.specs.Meaning.{Rise, holes_among, holes_in, TermIsShown, TermsAreShown, AreAtomsShown}
use Rattle.djq_query.specs.Meaning.{AreComparisonsShown, QueryIsShown}
use Rattle.djq_query.proofs.Numbers.{term_more, known_behind, labels_columns, number_unknown, length_labels}
use Rattle.djq_query.proofs.Numbers.{atoms_below, head_below, compared_below}

-- ---- The first fault of a query, told by the conditions in front of it.

on : (b : Bool) (r : Refusal) (o p : Option Refusal) → b ≡ false → p ≡ o → p ≡ cond b (Some r) o
on true r o p e f = absurd cc
on false r o p e f = f

here : (b : Bool) (r : Refusal) (o : Option Refusal) → b ≡ true → Some r ≡ cond b (Some r) o
here true r o e = refl
here false r o e = absurd cc

pub fault_arity : (rs : List Relation) (q : Query) → reads_unknown rs q ≡ false → has_wrong_arity rs q ≡ true
    → Some Arity ≡ query_fault rs q
fault_arity rs q a b = on (reads_unknown rs q) NoRelation _ _ a (here (has_wrong_arity rs q) Arity _ b)

pub fault_misfit : (rs : List Relation) (q : Query) → reads_unknown rs q ≡ false → has_wrong_arity rs q ≡ false
    → has_misfit rs q ≡ true → Some WrongType ≡ query_fault rs q
fault_misfit rs q a b c = on (reads_unknown rs q) NoRelation _ _ a
    (on (has_wrong_arity rs q) Arity _ _ b (here (has_misfit rs q) WrongType _ c))

pub fault_clash : (rs : List Relation) (q : Query) → reads_unknown rs q ≡ false → has_wrong_arity rs q ≡ false
    → has_misfit rs q ≡ false → has_clash rs q ≡ true → Some VariableType ≡ query_fault rs q
fault_clash rs q a b c d = on (reads_unknown rs q) NoRelation _ _ a
    (on (has_wrong_arity rs q) Arity _ _ b
    (on (has_misfit rs q) WrongType _ _ c (here (has_clash rs q) VariableType _ d)))

-- no place of the atoms is wrong
pub record AreAtomsSound (rs : List Relation) (q : Query) : Type 0 where
  pub known : reads_unknown rs q ≡ false
  pub arity : has_wrong_arity rs q ≡ false
  pub fits : has_misfit rs q ≡ false
  pub clashes : has_clash rs q ≡ false

-- and no comparison
pub record IsBodySound (rs : List Relation) (q : Query) : Type 0 where
  pub atoms : AreAtomsSound rs q
  pub bound : compares_unbound q ≡ false
  pub compared : has_miscompared rs q ≡ false

-- what comes behind the atoms, and behind the body
abbrev of_head : Query → Option Refusal
of_head q = cond (repeats_head q) (Some HeadRepeated)
    (cond (has_unbound_head q) (Some HeadUnbound) (cond (is_too_large q) (Some Limit) None))

abbrev of_comparisons : List Relation → Query → Option Refusal
of_comparisons rs q = cond (compares_unbound q) (Some Unbound)
    (cond (has_miscompared rs q) (Some WrongType) (of_head q))

behind_atoms : (rs : List Relation) (q : Query) (o : Option Refusal) → AreAtomsSound rs q → o ≡ of_comparisons rs q → o
    ≡ query_fault rs q
behind_atoms rs q o s e = on (reads_unknown rs q) NoRelation _ _ s.known
    (on (has_wrong_arity rs q) Arity _ _ s.arity
    (on (has_misfit rs q) WrongType _ _ s.fits (on (has_clash rs q) VariableType _ _ s.clashes e)))

behind : (rs : List Relation) (q : Query) (o : Option Refusal) → IsBodySound rs q → o ≡ of_head q → o ≡ query_fault rs q
behind rs q o s e = behind_atoms rs q o s.atoms
    (on (compares_unbound q) Unbound _ _ s.bound (on (has_miscompared rs q) WrongType _ _ s.compared e))

pub fault_compared_unbound : (rs : List Relation) (q : Query) → AreAtomsSound rs q → compares_unbound q ≡ true
    → Some Unbound ≡ query_fault rs q
fault_compared_unbound rs q s a = behind_atoms rs q (Some Unbound) s (here (compares_unbound q) Unbound _ a)

pub fault_miscompared : (rs : List Relation) (q : Query) → AreAtomsSound rs q → compares_unbound q ≡ false
    → has_miscompared rs q ≡ true → Some WrongType ≡ query_fault rs q
fault_miscompared rs q s a b = behind_atoms rs q (Some WrongType) s
    (on (compares_unbound q) Unbound _ _ a (here (has_miscompared rs q) WrongType _ b))

pub fault_repeated : (rs : List Relation) (q : Query) → IsBodySound rs q → are_different q.head ≡ false
    → Some HeadRepeated ≡ query_fault rs q
fault_repeated rs q s a = behind rs q (Some HeadRepeated) s (here (repeats_head q) HeadRepeated _ (ap not a))

pub fault_unbound : (rs : List Relation) (q : Query) → IsBodySound rs q → are_different q.head ≡ true
    → has_unbound_head q ≡ true → Some HeadUnbound ≡ query_fault rs q
fault_unbound rs q s a b = behind rs q (Some HeadUnbound) s
    (on (repeats_head q) HeadRepeated _ _ (not_from_true (are_different q.head) a)
    (here (has_unbound_head q) HeadUnbound _ b))

pub fault_limit : (rs : List Relation) (q : Query) → IsBodySound rs q → are_different q.head ≡ true → has_unbound_head q
    ≡ false → is_too_large q ≡ true → Some Limit ≡ query_fault rs q
fault_limit rs q s a b c = behind rs q (Some Limit) s
    (on (repeats_head q) HeadRepeated _ _ (not_from_true (are_different q.head) a)
    (on (has_unbound_head q) HeadUnbound _ _ b (here (is_too_large q) Limit _ c)))

pub fault_none : (rs : List Relation) (q : Query) → IsBodySound rs q → are_different q.head ≡ true → has_unbound_head q
    ≡ false → is_too_large q ≡ false → None ≡ query_fault rs q
fault_none rs q s a b c = behind rs q None s
    (on (repeats_head q) HeadRepeated _ _ (not_from_true (are_different q.head) a)
    (on (has_unbound_head q) HeadUnbound _ _ b (on (is_too_large q) Limit _ _ c refl)))

-- the conditions over a body and a head that are the query's
pub clash_over : (rs : List Relation) (q : Query) (atoms : List Atom) → atoms ≡ q.atoms → has_clash rs q
    ≡ any_place (mixes rs atoms) rs atoms
unfolding mixes
clash_over rs q atoms e = ap (λ (ats : List Atom). any_place (λ t c. any_place (is_clash t c) rs ats) rs ats) (sym e)

pub unbound_over : (q : Query) (atoms : List Atom) (head : List Bytes) → atoms ≡ q.atoms → head ≡ q.head
    → has_unbound_head q ≡ list_any (λ x. not (stands_in atoms x)) head
unbound_over q atoms head e f = ap₂ (λ (ats : List Atom) (xs : List Bytes). list_any (λ x. not (stands_in ats x)) xs)
    (sym e) (sym f)

pub compared_unbound_over : (q : Query) (atoms : List Atom) (comparisons : List Comparison) → atoms ≡ q.atoms
    → comparisons ≡ q.comparisons → compares_unbound q ≡ list_any (λ c. not (stands_in atoms c.variable)) comparisons
compared_unbound_over q atoms comparisons e f = ap₂
    (λ (ats : List Atom) (cs : List Comparison). list_any (λ c. not (stands_in ats c.variable)) cs) (sym e) (sym f)

pub miscompared_over : (rs : List Relation) (q : Query) (atoms : List Atom) (comparisons : List Comparison) → atoms
    ≡ q.atoms → comparisons ≡ q.comparisons → has_miscompared rs q
    ≡ list_any (λ c. any_place (is_miscompared c) rs atoms) comparisons
miscompared_over rs q atoms comparisons e f = ap₂
    (λ (ats : List Atom) (cs : List Comparison). list_any (λ c. any_place (is_miscompared c) rs ats) cs) (sym e) (sym f)

-- a query without a fault

pub peel : (b : Bool) (r : Refusal) (o : Option Refusal) → cond b (Some r) o ≡ None → (b ≡ false) × (o ≡ None)
peel true r o e = absurd cc
peel false r o e = (refl, e)

pub record IsSound (rs : List Relation) (q : Query) : Type 0 where
  pub known : reads_unknown rs q ≡ false
  pub arity : has_wrong_arity rs q ≡ false
  pub clashes : has_clash rs q ≡ false
  pub compared_bound : compares_unbound q ≡ false
  pub compared : has_miscompared rs q ≡ false
  pub bound : has_unbound_head q ≡ false
  pub small : is_too_large q ≡ false

pub sound_of : (rs : List Relation) (q : Query) → query_fault rs q ≡ None → IsSound rs q
sound_of rs q e =
    let a = peel (reads_unknown rs q) NoRelation _ e in
    let b = peel (has_wrong_arity rs q) Arity _ a.1 in
    let c = peel (has_misfit rs q) WrongType _ b.1 in
    let d = peel (has_clash rs q) VariableType _ c.1 in
    let u = peel (compares_unbound q) Unbound _ d.1 in
    let w = peel (has_miscompared rs q) WrongType _ u.1 in
    let f = peel (repeats_head q) HeadRepeated _ w.1 in
    let g = peel (has_unbound_head q) HeadUnbound _ f.1 in
    let h = peel (is_too_large q) Limit None g.1 in
    record { known = a.0; arity = b.0; clashes = d.0; compared_bound = u.0; compared = w.0; bound = g.0; small = h.0 }

-- ---- A relation that is found by going over all of them.

pub is_found : (rs : List Relation) (name : Bytes) → IsId rs name (position (λ (r : Relation). bytes_eq r.name name) rs)
is_found rs name = by_test (ltb at (length rs)) refl
  where
    at : ℕ
    at = position_or_len (λ (r : Relation). bytes_eq r.name name) rs

    by_test : (b : Bool) → ltb at (length rs) ≡ b → IsId rs name (cond b (Some at) None)
    by_test true e = (ltb-true at (length rs) e, sym (find_at (λ (r : Relation). bytes_eq r.name name) rs))
    by_test false e = find_at (λ (r : Relation). bytes_eq r.name name) rs
        ∙ slice_get_past rs at (ltb-false at (length rs) e)

-- ---- The number of a relation, and whether there is one.

found_at : (relations : List Relation) (id : ℕ) → id < length relations → is_none (slice_get relations id) ≡ false
found_at (r ∷ rs) zero below = refl
found_at [] id below = absurd (omega arith)
found_at (r ∷ rs) (suc id) below = found_at rs id (omega arith)

pub id_none : (relations : List Relation) (name : Bytes) (id : Option ℕ) → IsId relations name id
    → is_none (relation_of relations name) ≡ is_none id
id_none relations name None h = ap is_none h
id_none relations name (Some id) h = ap is_none (sym h.1) ∙ found_at relations id h.0

-- ---- What the numbers of a query mean.

-- what is known stays so
kept : (ls ms : List Label) (k : ℕ) (l : Label) → slice_get ls k ≡ Some l → slice_get (ls ++ ms) k ≡ Some l
kept [] ms k l e = absurd cc
kept (m ∷ ls) ms zero l e = e
kept (m ∷ ls) ms (suc k) l e = kept ls ms k l e

last : (ls : List Label) (l : Label) → slice_get (ls ++ l ∷ []) (length ls) ≡ Some l
last [] l = refl
last (m ∷ ls) l = last ls l

name_kept : (known : List Label) (x : Bytes) (b : Bool) (k : ℕ) (l : Label) → slice_get known k ≡ Some l
    → slice_get (cond b known (known ++ Some x ∷ [])) k ≡ Some l
name_kept known x true k l e = e
name_kept known x false k l e = kept known (Some x ∷ []) k l e

term_kept : (known : List Label) (t : Term) (k : ℕ) (l : Label) → slice_get known k ≡ Some l
    → slice_get (with_term known t) k ≡ Some l
term_kept known (Named x) k l e = name_kept known x (is_known known x) k l e
term_kept known Hole k l e = kept known (None ∷ []) k l e
term_kept known (Constant v) k l e = e

terms_kept : (known : List Label) (ts : List Term) (k : ℕ) (l : Label) → slice_get known k ≡ Some l
    → slice_get (with_terms known ts) k ≡ Some l
terms_kept known [] k l e = e
terms_kept known (t ∷ ts) k l e = terms_kept (with_term known t) ts k l (term_kept known t k l e)

atoms_kept : (known : List Label) (atoms : List Atom) (k : ℕ) (l : Label) → slice_get known k ≡ Some l
    → slice_get (fold with_atom known atoms) k ≡ Some l
atoms_kept known [] k l e = e
atoms_kept known (a ∷ atoms) k l e = atoms_kept (with_atom known a) atoms k l (terms_kept known a.terms k l e)

-- a known name is at its number
found_step : (known : List Label) (y x : Bytes) (b : Bool) → bytes_eq y x ≡ b
    → (is_known known x ≡ true → find (is_named x) known ≡ Some (Some x)) → (b || is_known known x) ≡ true
    → cond b (Some (Some y)) (find (is_named x) known) ≡ Some (Some x)
found_step known y x true is f h = ap (λ (z : Bytes). Some (Some z)) ((bytes_eq-decides y x).0 is)
found_step known y x false is f h = f h

found_named : (known : List Label) (x : Bytes) → is_known known x ≡ true → find (is_named x) known ≡ Some (Some x)
found_named [] x e = absurd (false≢true e)
found_named (None ∷ known) x e = found_named known x e
found_named (Some y ∷ known) x e = found_step known y x (bytes_eq y x) refl (found_named known x) e

pub named_at : (known : List Label) (x : Bytes) → is_known known x ≡ true → slice_get known (number_of known x)
    ≡ Some (Some x)
named_at known x e = sym (find_at (is_named x) known) ∙ found_named known x e

name_shown : (known : List Label) (x : Bytes) (b : Bool) → is_known known x ≡ b
    → slice_get (cond b known (known ++ Some x ∷ [])) (number_of known x) ≡ Some (Some x)
name_shown known x true e = named_at known x e
name_shown known x false e = ap (slice_get (known ++ Some x ∷ [])) (number_unknown known x e) ∙ last known (Some x)

term_shown : (known : List Label) (t : Term) → TermIsShown (with_term known t) t (numbered known t)
term_shown known (Named x) = name_shown known x (is_known known x) refl
term_shown known Hole = last known None
term_shown known (Constant v) = refl

shown_kept : (ls ms : List Label) (t : Term) (n : NumberedTerm)
    → ((k : ℕ) (l : Label) → slice_get ls k ≡ Some l → slice_get ms k ≡ Some l) → TermIsShown ls t n
    → TermIsShown ms t n
shown_kept ls ms (Named x) (Number k) f h = f k (Some x) h
shown_kept ls ms Hole (Number k) f h = f k None h
shown_kept ls ms (Constant v) (Fixed w) f h = h
shown_kept ls ms (Named x) (Fixed w) f h = absurd h
shown_kept ls ms Hole (Fixed w) f h = absurd h
shown_kept ls ms (Constant v) (Number k) f h = absurd h

terms_shown : (known ms : List Label) (ts : List Term)
    → ((k : ℕ) (l : Label) → slice_get (with_terms known ts) k ≡ Some l → slice_get ms k ≡ Some l)
    → TermsAreShown ms ts (numbered_terms known ts)
unfolding numbered_terms
terms_shown known ms [] f = tt
terms_shown known ms (t ∷ ts) f = (
  shown_kept (with_term known t) ms t (numbered known t) (λ k l e. f k l (terms_kept (with_term known t) ts k l e))
      (term_shown known t),
  terms_shown (with_term known t) ms ts f,
)

atoms_shown : (rs : List Relation) (known ms : List Label) (atoms : List Atom) (ns : List NumberedAtom)
    → ((k : ℕ) (l : Label) → slice_get (fold with_atom known atoms) k ≡ Some l → slice_get ms k ≡ Some l)
    → AreNumbered rs known atoms ns → AreAtomsShown rs ms atoms ns
unfolding AreNumbered
atoms_shown rs known ms [] [] f h = tt
atoms_shown rs known ms [] (n ∷ ns) f h = absurd h
atoms_shown rs known ms (a ∷ atoms) [] f h = absurd h
atoms_shown rs known ms (a ∷ atoms) (n ∷ ns) f h = (
  h.0.0,
  subst (TermsAreShown ms a.terms) (sym h.0.1)
      (terms_shown known ms a.terms (λ k l e. f k l (atoms_kept (with_atom known a) atoms k l e))),
  atoms_shown rs (with_atom known a) ms atoms ns f h.1,
)

-- each name has one number

left_of : (ls ms : List Label) (k : ℕ) → k < length ls → slice_get (ls ++ ms) k ≡ slice_get ls k
left_of [] ms k below = absurd (omega arith)
left_of (l ∷ ls) ms zero below = refl
left_of (l ∷ ls) ms (suc k) below = left_of ls ms k (omega arith)

same_bytes : (x : Bytes) → bytes_eq x x ≡ true
same_bytes x = (bytes_eq-decides x x).1 refl

same_label : (l m : Label) (o : Option Label) → o ≡ Some l → o ≡ Some m → l ≡ m
same_label l m o e f = cc

named_cond : (x : Bytes) (l : Label) → l ≡ Some x → ◌≡◌ {A = ℕ} (cond (is_named x l) 0 1) 0
named_cond x l e = ap (λ (m : Label). cond {A = ℕ} (is_named x m) 0 1) e ∙ ap (λ b. cond {A = ℕ} b 0 1) (same_bytes x)

unique_more : (known : List Label) (l : Label)
    → ((k : ℕ) (x : Bytes) → slice_get known k ≡ Some (Some x) → number_of known x ≡ k)
    → ((x : Bytes) → l ≡ Some x → is_known known x ≡ false) → (k : ℕ) (x : Bytes) → slice_get (known ++ l ∷ []) k
    ≡ Some (Some x) → number_of (known ++ l ∷ []) x ≡ k
unique_more known l one fresh k x e =
    elim (cases_lt k (length known)) [
      | inl below ↦
          let before : number_of known x ≡ k = one k x (sym (left_of known (l ∷ []) k below) ∙ e) in
          position_or_len_push (is_named x) known l
          ∙ ap (λ b. cond b (length known + cond (is_named x l) 0 1) (number_of known x))
          (ne_eqb (number_of known x) (length known) (λ s. absurd (omega arith)))
          ∙ before
      | inr above ↦
          let within = slice_get_within (known ++ l ∷ []) k (Some x) e in
          let at : k ≡ length known = omega (arith, within, length-append known (l ∷ [])) in
          let is : l ≡ Some x = same_label l (Some x) (slice_get (known ++ l ∷ []) k)
          (ap (slice_get (known ++ l ∷ [])) at ∙ last known l) e in
          let zero_more : ◌≡◌ {A = ℕ} (cond (is_named x l) 0 1) 0 = named_cond x l is in
          position_or_len_push (is_named x) known l
          ∙ ap (λ b. cond b (length known + cond (is_named x l) 0 1) (number_of known x))
          (eq-eqb (number_of known x) (length known) (number_unknown known x (fresh x is)))
          ∙ omega arith
    ]

name_unique : (known : List Label) (y : Bytes) (b : Bool) → is_known known y ≡ b
    → ((k : ℕ) (x : Bytes) → slice_get known k ≡ Some (Some x) → number_of known x ≡ k)
    → (k : ℕ) (x : Bytes) → slice_get (cond b known (known ++ Some y ∷ [])) k ≡ Some (Some x)
    → number_of (cond b known (known ++ Some y ∷ [])) x ≡ k
name_unique known y true e one k x h = one k x h
name_unique known y false e one k x h = unique_more known (Some y) one
    (λ z s. subst (λ (w : Bytes). is_known known w ≡ false) (same_name y z s) e) k x h
  where
    same_name : (y z : Bytes) → Some y ≡ Some z → y ≡ z
    same_name y z s = cc

term_unique : (known : List Label) (t : Term)
    → ((k : ℕ) (x : Bytes) → slice_get known k ≡ Some (Some x) → number_of known x ≡ k)
    → (k : ℕ) (x : Bytes) → slice_get (with_term known t) k ≡ Some (Some x) → number_of (with_term known t) x ≡ k
term_unique known (Named y) one k x h = name_unique known y (is_known known y) refl one k x h
term_unique known Hole one k x h = unique_more known None one (λ z s. absurd cc) k x h
term_unique known (Constant v) one k x h = one k x h

terms_unique : (known : List Label) (ts : List Term)
    → ((k : ℕ) (x : Bytes) → slice_get known k ≡ Some (Some x) → number_of known x ≡ k)
    → (k : ℕ) (x : Bytes) → slice_get (with_terms known ts) k ≡ Some (Some x) → number_of (with_terms known ts) x ≡ k
terms_unique known [] one k x h = one k x h
terms_unique known (t ∷ ts) one k x h = terms_unique (with_term known t) ts (term_unique known t one) k x h

atoms_unique : (known : List Label) (atoms : List Atom)
    → ((k : ℕ) (x : Bytes) → slice_get known k ≡ Some (Some x) → number_of known x ≡ k)
    → (k : ℕ) (x : Bytes) → slice_get (fold with_atom known atoms) k ≡ Some (Some x)
    → number_of (fold with_atom known atoms) x ≡ k
atoms_unique known [] one k x h = one k x h
atoms_unique known (a ∷ atoms) one k x h = atoms_unique (with_atom known a) atoms (terms_unique known a.terms one) k x h

none_unique : (k : ℕ) (x : Bytes) → slice_get {X = Label} [] k ≡ Some (Some x) → number_of [] x ≡ k
none_unique k x e = absurd cc

-- each hole has a number of its own

rise_from : (m k : ℕ) (xs : List ℕ) → m ≤ k → Rise k xs → Rise m xs
unfolding Rise
rise_from m k [] le h = tt
rise_from m k (x ∷ xs) le h = (omega (arith, h.0), h.1)

terms_rise : (known : List Label) (ts : List Term) (rest : List ℕ) → Rise (length (with_terms known ts)) rest
    → Rise (length known) (holes_among ts (numbered_terms known ts) ++ rest)
unfolding holes_among numbered_terms Rise
terms_rise known [] rest h = h
terms_rise known (Named x ∷ ts) rest h =
    rise_from (length known) (length (with_term known (Named x)))
    (holes_among ts (numbered_terms (with_term known (Named x)) ts) ++ rest)
    (term_more known (Named x)) (terms_rise (with_term known (Named x)) ts rest h)
terms_rise known (Hole ∷ ts) rest h = (
  omega arith,
  subst (λ (m : ℕ). Rise m (holes_among ts (numbered_terms (with_term known Hole) ts) ++ rest))
      (length-append known (None ∷ [])) (terms_rise (with_term known Hole) ts rest h),
)
terms_rise known (Constant v ∷ ts) rest h = terms_rise known ts rest h

atoms_rise : (rs : List Relation) (known : List Label) (atoms : List Atom) (ns : List NumberedAtom)
    → AreNumbered rs known atoms ns → Rise (length known) (holes_in atoms ns)
unfolding AreNumbered holes_in Rise
atoms_rise rs known [] [] h = tt
atoms_rise rs known [] (n ∷ ns) h = absurd h
atoms_rise rs known (a ∷ atoms) [] h = absurd h
atoms_rise rs known (a ∷ atoms) (n ∷ ns) h =
    subst (λ (ms : List NumberedTerm). Rise (length known) (holes_among a.terms ms ++ holes_in atoms ns)) (sym h.0.1)
    (terms_rise known a.terms (holes_in atoms ns) (atoms_rise rs (with_atom known a) atoms ns h.1))

head_shown : (atoms : List Atom) (head : List Bytes) → list_any (λ x. not (stands_in atoms x)) head ≡ false
    → map (slice_get (variables_of atoms)) (map (number_of (variables_of atoms)) head) ≡ map (λ x. Some (Some x)) head
head_shown atoms [] none = refl
head_shown atoms (x ∷ head) none =
    let parts = or_parts (not (stands_in atoms x)) (list_any (λ x. not (stands_in atoms x)) head) none in
    let known : is_known (variables_of atoms) x ≡ true = known_behind atoms [] x ∙ or-false (stands_in atoms x)
    ∙ not-false (stands_in atoms x) parts.0 in
    ap₂ (λ o os. o ∷ os) (named_at (variables_of atoms) x known) (head_shown atoms head parts.1)

compared_shown : (atoms : List Atom) (comparisons : List Comparison)
    → list_any (λ c. not (stands_in atoms c.variable)) comparisons ≡ false
    → AreComparisonsShown (variables_of atoms) comparisons (map (numbered_comparison (variables_of atoms)) comparisons)
compared_shown atoms [] none = tt
compared_shown atoms (c ∷ cs) none =
    let parts = or_parts (not (stands_in atoms c.variable))
    (list_any (λ (c : Comparison). not (stands_in atoms c.variable)) cs) none in
    let known : is_known (variables_of atoms) c.variable ≡ true = known_behind atoms [] c.variable
    ∙ or-false (stands_in atoms c.variable) ∙ not-false (stands_in atoms c.variable) parts.0 in (
      record { variable = named_at (variables_of atoms) c.variable known; operator = refl; constant = refl },
      compared_shown atoms cs parts.1,
    )

-- a query without a fault, by number
pub shown_by : (rs : List Relation) (q : Query) (n : Numbered) → query_fault rs q ≡ None → IsNumbered rs q n
    → QueryIsShown rs q n
shown_by rs q n fault numbered =
    let sound = sound_of rs q fault in
    let named : labels n.variables ≡ variables_of q.atoms = ap labels numbered.variables
    ∙ labels_columns rs [] q.atoms sound.arity in
    let heads : n.head ≡ map (number_of (variables_of q.atoms)) q.head = numbered.head
    ∙ ap (λ (ls : List Label). map (number_of ls) q.head) named in
    let tests : n.comparisons ≡ map (numbered_comparison (variables_of q.atoms)) q.comparisons = numbered.comparisons
    ∙ ap (λ (ls : List Label). map (numbered_comparison ls) q.comparisons) named in
    record {
      variables = named;
      body = subst (λ (ls : List Label). AreAtomsShown rs ls q.atoms n.atoms) (sym named)
          (atoms_shown rs [] (variables_of q.atoms) q.atoms n.atoms (λ k l e. e) numbered.atoms);
      comparisons =
          subst (λ (ls : List Label). AreComparisonsShown ls q.comparisons n.comparisons) (sym named)
          (subst (λ (cs : List NumberedComparison). AreComparisonsShown (variables_of q.atoms) q.comparisons cs)
          (sym tests) (compared_shown q.atoms q.comparisons sound.compared_bound));
      one = subst (λ (ls : List Label). (k : ℕ) (x : Bytes) → slice_get ls k ≡ Some (Some x) → number_of ls x ≡ k)
          (sym named) (atoms_unique [] q.atoms none_unique);
      fresh = atoms_rise rs [] q.atoms n.atoms numbered.atoms;
      head = ap₂ (λ (ls : List Label) (ns : List ℕ). map (slice_get ls) ns) named heads
          ∙ head_shown q.atoms q.head sound.bound;
    }

-- ---- Each number of a numbered query is that of a variable, and there are few of them.

-- a query without a fault, by number
pub within_of : (rs : List Relation) (q : Query) (ns : List NumberedAtom) (cs : List NumberedComparison)
    (vs : List Variable) (head : List ℕ)
    → query_fault rs q ≡ None → AreNumbered rs [] q.atoms ns → cs ≡ map (numbered_comparison (labels vs)) q.comparisons
    → vs ≡ fold (with_columns rs) [] q.atoms → head ≡ map (number_of (labels vs)) q.head
    → IsWithin (record { head = head; atoms = ns; comparisons = cs; variables = vs })
within_of rs q ns cs vs head fault numbered compared variables heads =
    let sound : IsSound rs q = sound_of rs q fault in
    let small = or_parts (nat_lt ATOMS (length q.atoms)) _ sound.small in
    let more = or_parts (nat_lt VARIABLES (length (variables_of q.atoms))) _ small.1 in
    let sizes = or_parts (nat_lt HEAD_VARIABLES (length q.head)) _ more.1 in
    let named : labels vs ≡ variables_of q.atoms = ap labels variables ∙ labels_columns rs [] q.atoms sound.arity in
    let size : length vs ≡ length (variables_of q.atoms) = sym (length_labels vs)
    ∙ ap (λ (ls : List Label). length ls) named in
    let few : length (variables_of q.atoms) ≤ VARIABLES = ltb-false VARIABLES (length (variables_of q.atoms)) more.0 in
    let narrow : length q.head ≤ HEAD_VARIABLES = ltb-false HEAD_VARIABLES (length q.head) sizes.0 in
    let numbers : head ≡ map (number_of (variables_of q.atoms)) q.head = heads
    ∙ ap (λ (ls : List Label). map (number_of ls) q.head) named in
    let tests : cs ≡ map (numbered_comparison (variables_of q.atoms)) q.comparisons = compared
    ∙ ap (λ (ls : List Label). map (numbered_comparison ls) q.comparisons) named in
    record {
      few = omega arith;
      body = atoms_below rs [] q.atoms ns (length vs) numbered (omega arith);
      compared = ap₂ (λ (m : ℕ) (ns : List NumberedComparison). list_all (λ c. nat_lt c.variable m) ns) size tests
          ∙ compared_below q.atoms q.comparisons sound.compared_bound;
      narrow = omega (
        arith,
        ap (λ (ns : List ℕ). length ns) numbers,
        length-map q.head
            (number_of (variables_of q.atoms)),
      );
      head = ap₂ (λ (m : ℕ) (ns : List ℕ). list_all (λ x. nat_lt x m) ns) size numbers
          ∙ head_below q.atoms q.head sound.bound;
    }
