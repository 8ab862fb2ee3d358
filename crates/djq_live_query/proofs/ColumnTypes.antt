-- The types of a query's variables are those of all columns that they stand in.
use Rattle.std.proofs.Common.{◌≡◌, ℕ, zero, suc, Bool, true, false, List, [], ◌∷◌, ◌++◌, length, cond, refl, ap, sym}
use Rattle.std.proofs.Common.{subst, ◌∙◌, ◌⊎◌, inl, inr, arith}
use Rattle.std.specs.Prelude.{◌&&◌, ◌==◌, not, Option, None, Some, is_none, slice_get}
use Rattle.std.specs.List.{fold, list_any}
use Rattle.std.proofs.lemmas.Bool.{cases_Bool, eq-eqb, false≢true, or_cases, or_left, or_right, and_parts, or_parts}
use Rattle.std.proofs.lemmas.Option.{same_Some, slice_get_within, get_or_from_slice_get}
use Rattle.djq_model.specs.declared.value.Value.{Value}
use Rattle.djq_model.specs.declared.relation.ColumnType.{ColumnType}
use Rattle.djq_model.specs.declared.relation.ColumnType.TheVariants.{Int as IntColumn, Text as TextColumn}
use Rattle.djq_model.specs.declared.relation.Relation.{Relation}
use Rattle.djq_model.specs.declared.query.Query.{Query}
use Rattle.djq_model.specs.declared.query.Atom.{Atom}
use Rattle.djq_model.specs.declared.query.Comparison.{Comparison}
use Rattle.djq_model.specs.declared.query.Operator.{Operator}
use Rattle.djq_model.specs.declared.query.Term.{Term}
use Rattle.djq_model.specs.declared.query.Term.TheVariants.{Variable as Named, Hole, Constant}
use Rattle.djq_model.specs.Data.{Bytes, bytes_eq, relation_of}
use Rattle.djq_model.specs.Equality.{bytes_eq-decides}
use Rattle.djq_model.specs.Typed.{is_of}
use Rattle.djq_plan.proofs.Choices.{after_and}
use Rattle.djq_protocol.specs.declared.answer.Refusal.TheVariants.{NoRelation, Arity, WrongType, VariableType, Unbound}
use Rattle.djq_protocol.specs.declared.answer.Refusal.TheVariants.{HeadRepeated}
use Rattle.djq_protocol.specs.Columns.{columns_of, types_of, same_type}
use Rattle.djq_protocol.specs.QueryFault.{any_column, any_place, has_order, is_misfit, is_miscompared, is_clash}
use Rattle.djq_protocol.specs.QueryFault.{reads_unknown, has_wrong_arity, has_misfit, has_clash, compares_unbound}
use Rattle.djq_protocol.specs.QueryFault.{has_miscompared, repeats_head, query_fault}
use Rattle.djq_protocol.specs.Variables.{Label, is_known, is_variable, stands_in, with_term, with_atom}
use Rattle.djq_database.specs.Cells.{HaveCells}
use Rattle.djq_database.specs.Catalog.{Catalog, IsCatalog, no_relation, relation_at}
use Rattle.djq_database.proofs.Cells.{eq_refl}
use Rattle.djq_query.specs.declared.numbered.Variable.{Variable}
use Rattle.djq_query.specs.declared.numbered.NumberedTerm.{NumberedTerm}
use Rattle.djq_query.specs.declared.numbered.NumberedTerm.TheVariants.{Variable as Number, Constant as Fixed}
use Rattle.djq_query.specs.declared.numbered.NumberedAtom.{NumberedAtom}
use Rattle.djq_query.specs.declared.numbered.NumberedComparison.{NumberedComparison}
use Rattle.djq_query.specs.Numbered.{AreNumbered, is_number, labels, number_of, numbered, numbered_terms, with_place}
use Rattle.djq_query.specs.Numbered.{with_places, with_columns}
use Rattle.djq_query.specs.Meaning.{TermsAreShown, AreAtomsShown, AreComparisonsShown}
use Rattle.djq_query.proofs.Numbers.{or_false, not_false, length_labels, labels_with, labels_columns, same_length}
use Rattle.djq_query.proofs.NumberedQueries.{sound_of, peel, shown_by}
use Rattle.djq_binder.specs.Asked.{column_in, column_of, TermSuits, TermsSuit, IsAtomOf, AreAtomsOf, AreComparisonsOf}
use Rattle.djq_binder.specs.Asked.{HaveConstants, constants_in, is_in, NumberedIsAsked}
use Rattle.djq_live_query.proofs.Atoms.{found_at, HasOne}

-- ---- variables that become known

abbrev Grows : List Variable → List Variable → Type 0
Grows ks ls = (k : ℕ) (v : Variable) → slice_get ks k ≡ Some v → slice_get ls k ≡ Some v

push_grows : (ks : List Variable) (w : Variable) → Grows ks (ks ++ w ∷ [])
push_grows [] w k v e = absurd cc
push_grows (u ∷ ks) w zero v e = e
push_grows (u ∷ ks) w (suc k) v e = push_grows ks w k v e

push_last : (ks : List Variable) (w : Variable) → slice_get (ks ++ w ∷ []) (length ks) ≡ Some w
push_last [] w = refl
push_last (u ∷ ks) w = push_last ks w

pushed_at : (ks : List Variable) (w : Variable) (k : ℕ) (v : Variable)
    → slice_get (ks ++ w ∷ []) k ≡ Some v → (slice_get ks k ≡ Some v) ⊎ (w ≡ v)
pushed_at [] w zero v e = inr (same_Some w v e)
pushed_at [] w (suc k) v e = absurd cc
pushed_at (u ∷ ks) w zero v e = inl e
pushed_at (u ∷ ks) w (suc k) v e = pushed_at ks w k v e

name_grows : (ks : List Variable) (w : Variable) (b : Bool) → Grows ks (cond b ks (ks ++ w ∷ []))
name_grows ks w true k v e = e
name_grows ks w false k v e = push_grows ks w k v e

place_grows : (ks : List Variable) (t : Term) (c : ColumnType) → Grows ks (with_place ks t c)
unfolding with_place
place_grows ks (Named x) c =
    name_grows ks (record { name = Some x; column = c }) (is_known (labels ks) x)
place_grows ks Hole c = push_grows ks (record { name = None; column = c })
place_grows ks (Constant w) c = λ k v e. e

places_grow : (ks : List Variable) (ts : List Term) (cs : List ColumnType)
    → Grows ks (with_places ks ts cs)
unfolding with_places
places_grow ks [] cs k v e = e
places_grow ks (t ∷ ts) [] k v e = e
places_grow ks (t ∷ ts) (c ∷ cs) k v e =
    places_grow (with_place ks t c) ts cs k v (place_grows ks t c k v e)

atoms_grow : (rs : List Relation) (ks : List Variable) (atoms : List Atom)
    → Grows ks (fold (with_columns rs) ks atoms)
atoms_grow rs ks [] k v e = e
atoms_grow rs ks (a ∷ atoms) k v e =
    atoms_grow rs (with_columns rs ks a) atoms k v
    (places_grow ks a.terms (columns_of rs a.relation) k v e)

-- ---- no clash

-- the named variables clash with no place of the body
abbrev Agree : List Relation → List Atom → List Variable → Type 0
Agree rs all ks = (k : ℕ) (v : Variable) (x : Bytes) → slice_get ks k ≡ Some v → v.name ≡ Some x
    → any_place (is_clash (Named x) v.column) rs all ≡ false

agree_push : (rs : List Relation) (all : List Atom) (ks : List Variable) (w : Variable)
    → Agree rs all ks
    → ((x : Bytes) → w.name ≡ Some x → any_place (is_clash (Named x) w.column) rs all ≡ false)
    → Agree rs all (ks ++ w ∷ [])
agree_push rs all ks w agree h k v x e name =
    elim (pushed_at ks w k v e) [
      | inl before ↦ agree k v x before name
      | inr same ↦
          subst (λ (u : Variable). any_place (is_clash (Named x) u.column) rs all ≡ false) same
          (h x (ap (λ (u : Variable). u.name) same ∙ name))
    ]

agree_name : (rs : List Relation) (all : List Atom) (ks : List Variable) (w : Variable) (b : Bool)
    → Agree rs all ks
    → ((x : Bytes) → w.name ≡ Some x → any_place (is_clash (Named x) w.column) rs all ≡ false)
    → Agree rs all (cond b ks (ks ++ w ∷ []))
agree_name rs all ks w true agree h = agree
agree_name rs all ks w false agree h = agree_push rs all ks w agree h

agree_place : (rs : List Relation) (all : List Atom) (ks : List Variable) (t : Term)
    (c : ColumnType) → any_place (is_clash t c) rs all ≡ false → Agree rs all ks
    → Agree rs all (with_place ks t c)
unfolding with_place
agree_place rs all ks (Named x) c none agree =
    agree_name rs all ks (record { name = Some x; column = c }) (is_known (labels ks) x) agree
    (λ y e. subst (λ (z : Bytes). any_place (is_clash (Named z) c) rs all ≡ false)
    (same_Some x y e) none)
agree_place rs all ks Hole c none agree =
    agree_push rs all ks (record { name = None; column = c }) agree (λ y e. absurd cc)
agree_place rs all ks (Constant w) c none agree = agree

agree_places : (rs : List Relation) (all : List Atom) (ks : List Variable) (ts : List Term)
    (cs : List ColumnType) → any_column (λ t c. any_place (is_clash t c) rs all) ts cs ≡ false
    → Agree rs all ks → Agree rs all (with_places ks ts cs)
unfolding with_places
agree_places rs all ks [] cs none agree = agree
agree_places rs all ks (t ∷ ts) [] none agree = agree
agree_places rs all ks (t ∷ ts) (c ∷ cs) none agree =
    let p = or_parts (any_place (is_clash t c) rs all)
    (any_column (λ u d. any_place (is_clash u d) rs all) ts cs) none in
    agree_places rs all (with_place ks t c) ts cs p.1 (agree_place rs all ks t c p.0 agree)

agree_atoms : (rs : List Relation) (all : List Atom) (ks : List Variable) (atoms : List Atom)
    → any_place (λ t c. any_place (is_clash t c) rs all) rs atoms ≡ false → Agree rs all ks
    → Agree rs all (fold (with_columns rs) ks atoms)
agree_atoms rs all ks [] none agree = agree
agree_atoms rs all ks (a ∷ atoms) none agree =
    let p = or_parts
    (any_column (λ t c. any_place (is_clash t c) rs all) a.terms (columns_of rs a.relation))
    (any_place (λ t c. any_place (is_clash t c) rs all) rs atoms) none in
    agree_atoms rs all (with_columns rs ks a) atoms p.1
    (agree_places rs all ks a.terms (columns_of rs a.relation) p.0 agree)

-- ---- the type of a name

record Labelled (ks : List Variable) (k : ℕ) (l : Label) : Type 0 where
  pub variable : Variable
  pub is : slice_get ks k ≡ Some variable
  pub name : variable.name ≡ l

labelled : (ks : List Variable) (k : ℕ) (l : Label) → slice_get (labels ks) k ≡ Some l
    → Labelled ks k l
labelled [] k l e = absurd cc
labelled (v ∷ ks) zero l e = record { variable = v; is = refl; name = same_Some v.name l e }
labelled (v ∷ ks) (suc k) l e = let r = labelled ks k l e in
    record { variable = r.variable; is = r.is; name = r.name }

same_types : (c d : ColumnType) → same_type c d ≡ true → d ≡ c
same_types IntColumn IntColumn e = refl
same_types TextColumn TextColumn e = refl
same_types IntColumn TextColumn e = absurd (false≢true e)
same_types TextColumn IntColumn e = absurd (false≢true e)

typed_name : (rs : List Relation) (all : List Atom) (final : List Variable) (x : Bytes) (k : ℕ)
    (c : ColumnType) → Agree rs all final → slice_get (labels final) k ≡ Some (Some x)
    → ((p : Term → ColumnType → Bool) → any_place p rs all ≡ false → p (Named x) c ≡ false)
    → column_of final k ≡ c
typed_name rs all final x k c agree e place =
    let l = labelled final k (Some x) e in
    let d = l.variable.column in
    let none = place (is_clash (Named x) d) (agree k l.variable x l.is l.name) in
    ap column_in l.is
    ∙ same_types c d (not_false (same_type c d)
    (after_and (bytes_eq x x) (not (same_type c d)) (eq_refl x) none))

-- ---- one atom's terms

suit_term : (rs : List Relation) (all : List Atom) (final : List Variable) (texts : List Bytes)
    (ks : List Variable) (t : Term) (c : ColumnType) → Grows (with_place ks t c) final
    → Agree rs all final
    → TermsAreShown (labels final) (t ∷ []) (numbered (labels ks) t ∷ [])
    → ((p : Term → ColumnType → Bool) → any_place p rs all ≡ false → p t c ≡ false)
    → is_misfit t c ≡ false → HaveConstants texts (numbered (labels ks) t ∷ [])
    → TermSuits texts final (numbered (labels ks) t) c
unfolding with_place
suit_term rs all final texts ks (Named x) c grows agree shown place fit have =
    typed_name rs all final x (number_of (labels ks) x) c agree shown.0 place
suit_term rs all final texts ks Hole c grows agree shown place fit have =
    ap (λ (k : ℕ). column_of final k) (length_labels ks)
    ∙ ap column_in
    (grows (length ks) (record { name = None; column = c })
    (push_last ks (record { name = None; column = c })))
suit_term rs all final texts ks (Constant v) c grows agree shown place fit have =
    (not_false (is_of c v) fit, have.0)

suited_terms : (rs : List Relation) (all : List Atom) (final : List Variable) (texts : List Bytes)
    (ks : List Variable) (ts : List Term) (cs : List ColumnType)
    → Grows (with_places ks ts cs) final → Agree rs all final
    → TermsAreShown (labels final) ts (numbered_terms (labels ks) ts)
    → ((p : Term → ColumnType → Bool) → any_place p rs all ≡ false → any_column p ts cs ≡ false)
    → any_column is_misfit ts cs ≡ false → length ts ≡ length cs
    → HaveConstants texts (numbered_terms (labels ks) ts)
    → TermsSuit texts final (numbered_terms (labels ks) ts) cs
unfolding numbered_terms with_places
suited_terms rs all final texts ks [] [] grows agree shown places fit long have = tt
suited_terms rs all final texts ks [] (c ∷ cs) grows agree shown places fit long have =
    absurd (omega arith)
suited_terms rs all final texts ks (t ∷ ts) [] grows agree shown places fit long have =
    absurd (omega arith)
suited_terms rs all final texts ks (t ∷ ts) (c ∷ cs) grows agree shown places fit long have =
    let next = with_place ks t c in
    let same : labels next ≡ with_term (labels ks) t = labels_with ks t c in
    let fits = or_parts (is_misfit t c) (any_column is_misfit ts cs) fit in (
      suit_term rs all final texts ks t c (λ k v e. grows k v (places_grow next ts cs k v e)) agree
          (shown.0, tt)
          (λ p none. (or_parts (p t c) (any_column p ts cs) (places p none)).0) fits.0
          (have.0, tt),
      subst (λ (ls : List Label). TermsSuit texts final (numbered_terms ls ts) cs) same
          (suited_terms rs all final texts next ts cs grows agree
          (subst (λ (ls : List Label). TermsAreShown (labels final) ts (numbered_terms ls ts)) (sym same)
          shown.1)
          (λ p none. (or_parts (p t c) (any_column p ts cs) (places p none)).1) fits.1
          (omega arith)
          (subst (λ (ls : List Label). HaveConstants texts (numbered_terms ls ts)) (sym same)
          have.1)),
    )

-- ---- relations

record Found (rs : List Relation) (name : Bytes) : Type 0 where
  pub relation : Relation
  pub is : relation_of rs name ≡ Some relation

found : (rs : List Relation) (name : Bytes) (o : Option Relation) → relation_of rs name ≡ o
    → is_none o ≡ false → Found rs name
found rs name None e h = absurd (false≢true (sym h))
found rs name (Some r) e h = record { relation = r; is = e }

found_name : (rs : List Relation) (name : Bytes) (r : Relation) → relation_of rs name ≡ Some r
    → r.name ≡ name
found_name [] name r e = absurd cc
found_name (s ∷ rs) name r e =
    elim (cases_Bool (bytes_eq s.name name)) [
      | inl same ↦
          let k : Some s ≡ Some r = rw same at e in
          ap (λ (u : Relation). u.name) (sym (same_Some s r k))
          ∙ (bytes_eq-decides s.name name).0 same
      | inr other ↦
          let k : relation_of rs name ≡ Some r = rw other at e in
          found_name rs name r k
    ]

atom_of : (c : Catalog) (all : List Atom) (final ks : List Variable) (a : Atom) (m : NumberedAtom)
    → Grows (with_columns c.relations ks a) final → Agree c.relations all final
    → slice_get c.relations m.relation ≡ relation_of c.relations a.relation
    → TermsAreShown (labels final) a.terms m.terms → m.terms ≡ numbered_terms (labels ks) a.terms
    → is_none (relation_of c.relations a.relation) ≡ false
    → length a.terms ≡ length (columns_of c.relations a.relation)
    → any_column is_misfit a.terms (columns_of c.relations a.relation) ≡ false
    → ((p : Term → ColumnType → Bool) → any_place p c.relations all ≡ false
    → any_column p a.terms (columns_of c.relations a.relation) ≡ false)
    → HaveConstants c.texts m.terms → IsAtomOf c final a m
atom_of c all final ks a m grows agree at shown is known long fit places have =
    let rs = c.relations in
    let r = found rs a.relation (relation_of rs a.relation) refl known in
    let here : slice_get rs m.relation ≡ Some r.relation = at ∙ r.is in
    let same : relation_at rs m.relation ≡ r.relation =
    get_or_from_slice_get rs m.relation r.relation no_relation here in
    let suited = suited_terms rs all final c.texts ks a.terms (columns_of rs a.relation) grows agree
    (subst (λ (ns : List NumberedTerm). TermsAreShown
    (labels final) a.terms ns) is shown) places fit long
    (subst (λ (ns : List NumberedTerm). HaveConstants c.texts ns) is have) in
    record {
      below = slice_get_within rs m.relation r.relation here;
      named = ap (λ (s : Relation). s.name) same ∙ found_name rs a.relation r.relation r.is;
      shown = shown;
      suited = subst (λ (cs : List ColumnType). TermsSuit c.texts final m.terms cs)
          (ap types_of r.is ∙ ap (λ (s : Relation). s.types) (sym same))
          (subst (λ (ns : List NumberedTerm). TermsSuit c.texts final ns (columns_of rs a.relation))
          (sym is) suited);
    }

-- ---- all atoms

atoms_of : (c : Catalog) (all : List Atom) (final ks : List Variable) (atoms : List Atom)
    (ms : List NumberedAtom) → Grows (fold (with_columns c.relations) ks atoms) final
    → Agree c.relations all final → AreAtomsShown c.relations (labels final) atoms ms
    → AreNumbered c.relations (labels ks) atoms ms
    → list_any (λ (a : Atom). is_none (relation_of c.relations a.relation)) atoms ≡ false
    → list_any (λ (a : Atom). not (length a.terms == length
    (columns_of c.relations a.relation))) atoms
    ≡ false
    → any_place is_misfit c.relations atoms ≡ false
    → ((p : Term → ColumnType → Bool) → any_place p c.relations all ≡ false
    → any_place p c.relations atoms ≡ false)
    → ((j : ℕ) (m : NumberedAtom) → slice_get ms j ≡ Some m → HaveConstants c.texts m.terms)
    → AreAtomsOf c final atoms ms
unfolding AreNumbered
atoms_of c all final ks [] [] grows agree shown h known arity fit places have = tt
atoms_of c all final ks [] (m ∷ ms) grows agree shown h known arity fit places have = absurd h
atoms_of c all final ks (a ∷ atoms) [] grows agree shown h known arity fit places have = absurd h
atoms_of c all final ks (a ∷ atoms) (m ∷ ms) grows agree shown h known arity fit places have =
    let rs = c.relations in
    let next = with_columns rs ks a in
    let k = or_parts (is_none (relation_of rs a.relation))
    (list_any (λ (b : Atom). is_none (relation_of rs b.relation)) atoms) known in
    let l = or_parts (not (length a.terms == length (columns_of rs a.relation)))
    (list_any (λ (b : Atom). not (length b.terms == length
    (columns_of rs b.relation))) atoms) arity in
    let f = or_parts (any_column is_misfit a.terms (columns_of rs a.relation))
    (any_place is_misfit rs atoms) fit in
    let same : labels next ≡ with_atom (labels ks) a = labels_columns rs ks (a ∷ [])
    (or_false (not (length a.terms == length (columns_of rs a.relation))) ∙ l.0) in (
      atom_of c all final ks a m (λ i v e. grows i v (atoms_grow rs next atoms i v e)) agree shown.0
          shown.1 h.0.1 k.0 (same_length (length a.terms) (length (columns_of rs a.relation)) l.0) f.0
          (λ p none. (or_parts (any_column p a.terms (columns_of rs a.relation))
          (any_place p rs atoms) (places p none)).0) (have 0 m refl),
      atoms_of c all final next atoms ms grows agree shown.2
          (subst (λ (ls : List Label). AreNumbered rs ls atoms ms) (sym same) h.1) k.1 l.1 f.1
          (λ p none. (or_parts (any_column p a.terms (columns_of rs a.relation))
          (any_place p rs atoms) (places p none)).1) (λ j n e. have (suc j) n e),
    )

-- ---- comparisons

-- a comparison's variable, which stands among these terms, has its number there, and its column's
-- type suits the comparison
suited_among : (vs : List Variable) (texts : List Bytes) (k : Comparison) (x : ℕ) (ts : List Term)
    (ns : List NumberedTerm) (cs : List ColumnType) → HasOne vs
    → slice_get (labels vs) x ≡ Some (Some k.variable) → TermsAreShown (labels vs) ts ns
    → TermsSuit texts vs ns cs → list_any (is_variable k.variable) ts ≡ true
    → any_column (is_miscompared k) ts cs ≡ false
    → (list_any (is_number x) ns ≡ true)
    × ((is_of (column_of vs x) k.constant && has_order k.operator (column_of vs x)) ≡ true)
suited_among vs texts k x [] [] cs one e shown suits has none = absurd (false≢true has)
suited_among vs texts k x [] (n ∷ ns) cs one e shown suits has none = absurd shown
suited_among vs texts k x (t ∷ ts) [] cs one e shown suits has none = absurd shown
suited_among vs texts k x (t ∷ ts) (n ∷ ns) [] one e shown suits has none = absurd suits
suited_among vs texts k x (Named y ∷ ts) (Fixed w ∷ ns) (c ∷ cs) one e shown suits has none =
    absurd shown.0
suited_among vs texts k x (Hole ∷ ts) (Fixed w ∷ ns) (c ∷ cs) one e shown suits has none =
    absurd shown.0
suited_among vs texts k x (Constant v ∷ ts) (Number j ∷ ns) (c ∷ cs) one e shown suits has none =
    absurd shown.0
suited_among vs texts k x (Constant v ∷ ts) (Fixed w ∷ ns) (c ∷ cs) one e shown suits has none =
    suited_among vs texts k x ts ns cs one e shown.1 suits.1 has none
suited_among vs texts k x (Hole ∷ ts) (Number j ∷ ns) (c ∷ cs) one e shown suits has none =
    let r = suited_among vs texts k x ts ns cs one e shown.1 suits.1 has none in
    (or_right (x == j) (list_any (is_number x) ns) r.0, r.1)
suited_among vs texts k x (Named y ∷ ts) (Number j ∷ ns) (c ∷ cs) one e shown suits has none =
    let p = or_parts (is_miscompared k (Named y) c) (any_column (is_miscompared k) ts cs) none in
    elim (or_cases (bytes_eq y k.variable) (list_any (is_variable k.variable) ts) has) [
      | inl same ↦
          let named = (bytes_eq-decides y k.variable).0 same in
          let at : j ≡ x = sym (one j y shown.0) ∙ ap (number_of (labels vs)) named
          ∙ one x k.variable e in
          let column : column_of vs x ≡ c = ap (column_of vs) (sym at) ∙ suits.0 in
          let fit : (is_of c k.constant && has_order k.operator c) ≡ true =
          not_false (is_of c k.constant && has_order k.operator c)
          (after_and (bytes_eq y k.variable)
          (not (is_of c k.constant && has_order k.operator c)) same p.0) in (
            or_left (x == j) (list_any (is_number x) ns) (eq-eqb x j (sym at)),
            subst (λ (d : ColumnType). (is_of d k.constant && has_order k.operator d) ≡ true)
                (sym column) fit,
          )
      | inr later ↦
          let r = suited_among vs texts k x ts ns cs one e shown.1 suits.1 later p.1 in
          (or_right (x == j) (list_any (is_number x) ns) r.0, r.1)
    ]

-- so it is of a variable that stands in an atom
suited_in : (c : Catalog) (vs : List Variable) (k : Comparison) (x : ℕ) (atoms : List Atom)
    (ms : List NumberedAtom) → IsCatalog c → HasOne vs
    → slice_get (labels vs) x ≡ Some (Some k.variable) → AreAtomsOf c vs atoms ms
    → stands_in atoms k.variable ≡ true → any_place (is_miscompared k) c.relations atoms ≡ false
    → (is_in ms x ≡ true)
    × ((is_of (column_of vs x) k.constant && has_order k.operator (column_of vs x)) ≡ true)
suited_in c vs k x [] ms h one e are has none = absurd (false≢true has)
suited_in c vs k x (a ∷ atoms) [] h one e are has none = absurd are
suited_in c vs k x (a ∷ atoms) (m ∷ ms) h one e are has none =
    let types : columns_of c.relations a.relation ≡ (relation_at c.relations m.relation).types =
    ap types_of (found_at c.relations a.relation m.relation h.names are.0.below are.0.named) in
    let p = or_parts
    (any_column (is_miscompared k) a.terms (columns_of c.relations a.relation))
    (any_place (is_miscompared k) c.relations atoms) none in
    elim (or_cases (list_any (is_variable k.variable) a.terms) (stands_in atoms k.variable) has) [
      | inl here ↦
          let r = suited_among vs c.texts k x a.terms m.terms
          (relation_at c.relations m.relation).types one e are.0.shown are.0.suited here
          (ap (λ (cs : List ColumnType). any_column (is_miscompared k) a.terms cs) (sym types)
          ∙ p.0) in
          (or_left (list_any (is_number x) m.terms) (is_in ms x) r.0, r.1)
      | inr there ↦
          let r = suited_in c vs k x atoms ms h one e are.1 there p.1 in
          (or_right (list_any (is_number x) m.terms) (is_in ms x) r.0, r.1)
    ]

comparisons_of : (c : Catalog) (vs : List Variable) (atoms : List Atom) (ms : List NumberedAtom)
    (ks : List Comparison) (ns : List NumberedComparison) → IsCatalog c → HasOne vs
    → AreAtomsOf c vs atoms ms → AreComparisonsShown (labels vs) ks ns
    → list_any (λ (k : Comparison). not (stands_in atoms k.variable)) ks ≡ false
    → list_any (λ (k : Comparison). any_place (is_miscompared k) c.relations atoms) ks ≡ false
    → HaveCells c.texts (constants_in ns) → AreComparisonsOf c.texts vs ms ks ns
comparisons_of c vs atoms ms [] [] h one are shown bound fit have = tt
comparisons_of c vs atoms ms [] (n ∷ ns) h one are shown bound fit have = absurd shown
comparisons_of c vs atoms ms (k ∷ ks) [] h one are shown bound fit have = absurd shown
comparisons_of c vs atoms ms (k ∷ ks) (n ∷ ns) h one are shown bound fit have =
    let b = or_parts (not (stands_in atoms k.variable))
    (list_any (λ (j : Comparison). not (stands_in atoms j.variable)) ks) bound in
    let f = or_parts (any_place (is_miscompared k) c.relations atoms)
    (list_any (λ (j : Comparison). any_place (is_miscompared j) c.relations atoms) ks) fit in
    let s = shown.0 in
    let column = column_of vs n.variable in
    let r = suited_in c vs k n.variable atoms ms h one s.variable are
    (not_false (stands_in atoms k.variable) b.0) f.0 in
    let p = and_parts (is_of column k.constant) (has_order k.operator column) r.1 in (
      record {
        shown = s;
        stands = r.0;
        of = ap (λ (v : Value). is_of column v) s.constant ∙ p.0;
        ordered = ap (λ (o : Operator). has_order o column) s.operator ∙ p.1;
        has = have.0;
      },
      comparisons_of c vs atoms ms ks ns h one are shown.1 b.1 f.1 have.1,
    )

-- no constant is of another type than its column
no_misfit : (rs : List Relation) (q : Query) → query_fault rs q ≡ None
    → any_place is_misfit rs q.atoms ≡ false
no_misfit rs q e =
    let a = peel (reads_unknown rs q) NoRelation _ e in
    let b = peel (has_wrong_arity rs q) Arity _ a.1 in
    (peel (has_misfit rs q) WrongType _ b.1).0

-- no variable stands in the head twice
no_repeat : (rs : List Relation) (q : Query) → query_fault rs q ≡ None → repeats_head q ≡ false
no_repeat rs q e =
    let a = peel (reads_unknown rs q) NoRelation _ e in
    let b = peel (has_wrong_arity rs q) Arity _ a.1 in
    let d = peel (has_misfit rs q) WrongType _ b.1 in
    let f = peel (has_clash rs q) VariableType _ d.1 in
    let g = peel (compares_unbound q) Unbound _ f.1 in
    let h = peel (has_miscompared rs q) WrongType _ g.1 in
    (peel (repeats_head q) HeadRepeated _ h.1).0

pub numbered_asked : NumberedIsAsked
numbered_asked c q n catalog fault h have compared =
    let rs = c.relations in
    let sound = sound_of rs q fault in
    let s = shown_by rs q n fault h in
    let agree : Agree rs q.atoms n.variables =
    subst (λ (vs : List Variable). Agree rs q.atoms vs) (sym h.variables)
    (agree_atoms rs q.atoms [] q.atoms sound.clashes (λ k v x e name. absurd cc)) in
    let grows : Grows (fold (with_columns rs) [] q.atoms) n.variables =
    subst (λ (vs : List Variable). Grows (fold (with_columns rs) [] q.atoms) vs) (sym h.variables)
    (λ k v e. e) in
    let atoms = atoms_of c q.atoms n.variables [] q.atoms n.atoms grows agree s.body h.atoms
    sound.known sound.arity (no_misfit rs q fault) (λ p none. none) have in
    record {
      catalog = catalog;
      variables = s.variables;
      atoms = atoms;
      comparisons = comparisons_of c n.variables q.atoms n.atoms q.comparisons n.comparisons
          catalog s.one atoms s.comparisons sound.compared_bound sound.compared compared;
      one = s.one;
      fresh = s.fresh;
      head = s.head;
      once = no_repeat rs q fault;
    }
