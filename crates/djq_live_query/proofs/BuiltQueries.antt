-- The tree of a query, and a query that is built over a catalog.
use Rattle.std.proofs.Common.{◌≡◌, ◌↔◌, ℕ, Bool, IsTrue, zero, suc, ◌<◌, ◌≤◌, true, List, [], ◌∷◌, ◌++◌, length, map}
use Rattle.std.proofs.Common.{take, refl, ap, sym, ◌∙◌, subst, inl, inr, arith, append_assoc, ap₂}
use Rattle.std.specs.Prelude.{◌==◌, ◌||◌, Some, slice_get, Option, None}
use Rattle.std.specs.List.{list_all, list_any, flat_map}
use Rattle.std.proofs.lemmas.Bool.{cases_Bool, cases_eq, cases_lt, ne_eqb, false≢true, and_parts}
use Rattle.std.proofs.lemmas.List.{get_or_append_left, get_or_past, length-map, take_at}
use Rattle.std.proofs.lemmas.List.Kept.{AllPairs-from_increasing}
use Rattle.std.proofs.lemmas.Option.{same_Some, slice_get_within}
use Rattle.djq_hypergraph.specs.Hypergraph.{member, edge_at, set_below, one}
use Rattle.djq_hypergraph.specs.Variables.{AreNamed}
use Rattle.djq_hypergraph.specs.Flat.{IsFlat}
use Rattle.djq_hypergraph.proofs.Sets.{one_le, from_true, from_false, Rising, first_alone}
use Rattle.djq_hypergraph.proofs.Labels.{numbers, times}
use Rattle.djq_model.specs.declared.relation.Relation.{Relation}
use Rattle.djq_model.specs.declared.query.Query.{Query}
use Rattle.djq_model.specs.declared.query.Atom.{Atom}
use Rattle.djq_model.specs.declared.query.Comparison.{Comparison}
use Rattle.djq_model.specs.declared.query.Term.{Term}
use Rattle.djq_model.specs.declared.query.Term.TheVariants.{Variable as Named, Hole, Constant}
use Rattle.djq_model.specs.Data.{Bytes}
use Rattle.djq_cursors.specs.declared.progress.Progress.TheVariants.{Open}
use Rattle.djq_index.specs.Entries.{Entry, count_of, marks}
use Rattle.djq_tree.specs.declared.node.Node.{Node}
use Rattle.djq_tree.specs.declared.node.Node.TheVariants.{Leaf, Trim, Meet}
use Rattle.djq_tree.specs.Growing.{Growth, start, IsTreeOf}
use Rattle.djq_tree.specs.Labels.{label_at}
use Rattle.djq_tree.specs.Tree.{Tree, IsTree, node_at, leaf_labels}
use Rattle.djq_tree.proofs.Nodes.{has_times, no_longer}
use Rattle.djq_plan.proofs.GrownTrees.{grow_extends}
use Rattle.djq_protocol.specs.Hypergraph.{edges_from, edges_of, head_of, label_name, numbers_in, variable_names}
use Rattle.djq_protocol.specs.Variables.{Label, variables_of, with_atom, compared_behind, constant_of, constants_from}
use Rattle.djq_protocol.specs.Variables.{constants_of, with_term}
use Rattle.djq_protocol.specs.QueryFault.{query_fault}
use Rattle.djq_reduct.specs.Tables.{entries_at}
use Rattle.djq_reduct.specs.Reducts.{Reducts, IsReducts, IsNarrow}
use Rattle.djq_reduct.proofs.Assignments.{within_of}
use Rattle.djq_database.specs.Cells.{HaveCells}
use Rattle.djq_database.specs.Catalog.{Catalog, IsCatalog, no_relation, relation_at}
use Rattle.djq_query.specs.declared.numbered.NumberedTerm.{NumberedTerm}
use Rattle.djq_query.specs.declared.numbered.NumberedTerm.TheVariants.{Variable as Number, Constant as Fixed}
use Rattle.djq_query.specs.declared.numbered.NumberedAtom.{NumberedAtom}
use Rattle.djq_query.specs.declared.numbered.NumberedComparison.{NumberedComparison}
use Rattle.djq_query.specs.Numbered.{AreNumbered, are_below, is_number, numbered_terms, Numbered, IsNumbered, IsWithin}
use Rattle.djq_query.specs.Numbered.{labels, numbered_comparison}
use Rattle.djq_query.specs.Pattern.{Shape}
use Rattle.djq_binder.specs.declared.plan.PlannedQuery.{PlannedQuery}
use Rattle.djq_binder.specs.Asked.{HaveConstants, IsAsked, constants_in}
use Rattle.djq_binder.specs.Planning.{IsPlanned}
use Rattle.djq_binder.proofs.Hypergraphs.{numbers_same, high_terms, edges_long, count_labels, head_numbers, high_head}
use Rattle.djq_binder.proofs.Hypergraphs.{set_has, set_lacks}
use Rattle.djq_binder.proofs.Interning.{HaveFrom, compared_have, have_parts}
use Rattle.djq_leaves.specs.Building.{AreBindable, AreFilled, ArePatternsOf, AtBoth, SuitsRelation}
use Rattle.djq_leaves.specs.Leaves.{IsOver, IsPatternOf}
use Rattle.djq_leaves.proofs.LeafRows.{has_at, bound_long, cells_long}
use Rattle.djq_live_query.specs.Cursors.{Progress, slot_at}
use Rattle.djq_live_query.specs.Live.{IsLive}
use Rattle.djq_live_query.proofs.Catalogs.{atom_at}
use Rattle.djq_live_query.proofs.ColumnTypes.{numbered_asked}
use Rattle.djq_live_query.proofs.LeafRows.{suited_long}

-- ---- The tree of a query: its leaves have the atoms' variables, and no label is wide.

-- ---- the leaves' labels

-- the labels begin with the edges
pub record Begins (H : List (List ℕ)) (labels : List (List ℕ)) : Type 0 where
  pub more : List (List ℕ)
  pub is : labels ≡ H ++ more

pub tree_begins : (H : List (List ℕ)) (F : List ℕ) (t : Tree) → IsTreeOf H F t
    → Begins H t.labels
tree_begins H F t h =
    let e = grow_extends F h.first.steps (start H) in
    let f = grow_extends [] h.second.steps h.mid in
    let mid : h.mid.labels ≡ H ++ e.more_labels =
    ap (λ (s : Growth). s.labels) h.first.leads ∙ e.labels in
    let last : h.last.labels ≡ h.mid.labels ++ f.more_labels =
    ap (λ (s : Growth). s.labels) h.second.leads ∙ f.labels in
    record {
      more = e.more_labels ++ f.more_labels;
      is = ap (λ (s : Tree). s.labels) h.is ∙ last
          ∙ ap (λ (l : List (List ℕ)). l ++ f.more_labels) mid
          ∙ append_assoc H e.more_labels f.more_labels;
    }

pub tree_leaves : (H : List (List ℕ)) (F : List ℕ) (t : Tree) → IsTreeOf H F t
    → t.leaves ≡ length H
tree_leaves H F t h = ap (λ (s : Tree). s.leaves) h.is

pub tree_head : (H : List (List ℕ)) (F : List ℕ) (t : Tree) → IsTreeOf H F t → t.head ≡ F
tree_head H F t h = ap (λ (s : Tree). s.head) h.is

pub tree_label : (H : List (List ℕ)) (F : List ℕ) (t : Tree) (j : ℕ) → IsTreeOf H F t
    → j < length H → label_at t.labels j ≡ edge_at H j
tree_label H F t j h low =
    let b = tree_begins H F t h in
    ap (λ (l : List (List ℕ)). label_at l j) b.is ∙ get_or_append_left H b.more [] j low

pub tree_leaf_labels : (H : List (List ℕ)) (F : List ℕ) (t : Tree) → IsTreeOf H F t
    → leaf_labels t ≡ H
tree_leaf_labels H F t h =
    let b = tree_begins H F t h in
    ap (take t.leaves) b.is ∙ take_at H b.more t.leaves (sym (tree_leaves H F t h))

-- whether a query is flat is told by its tree's leaves and head
pub flat_told : (H : List (List ℕ)) (F : List ℕ) (t s : Tree) → IsTreeOf H F t → s ≡ t
    → (labels : List (List ℕ)) (head : List ℕ) (flat : Bool) → labels ≡ leaf_labels s → head ≡ s.head
    → IsTrue flat ↔ IsFlat labels head → IsTrue flat ↔ IsFlat H F
flat_told H F t s h same labels head flat leaves top told =
    subst (λ (L : List (List ℕ)). IsTrue flat ↔ IsFlat L F)
    (leaves ∙ ap leaf_labels same ∙ tree_leaf_labels H F t h)
    (subst (λ (G : List ℕ). IsTrue flat ↔ IsFlat labels G)
    (top ∙ ap (λ (u : Tree). u.head) same ∙ tree_head H F t h) told)

-- ---- the variables of an edge

set_says : (n x : ℕ) (known : List Label) (a : Atom) (m : NumberedAtom)
    → m.terms ≡ numbered_terms known a.terms → are_below n m.terms ≡ true
    → member x (set_below n (numbers_in known a.terms)) ≡ list_any (is_number x) m.terms
set_says n x known a m is low =
    elim (cases_lt x n) [
      | inl below ↦
          set_has n x (numbers_in known a.terms) below ∙ sym (numbers_same known a.terms x)
          ∙ ap (λ ts. list_any (is_number x) ts) (sym is)
      | inr past ↦
          set_lacks n x (numbers_in known a.terms) past ∙ sym (high_terms n x m.terms past low)
    ]

pub edge_says : (rs : List Relation) (n x : ℕ) (known : List Label) (atoms : List Atom)
    (ms : List NumberedAtom) (j : ℕ) (m : NumberedAtom) → AreNumbered rs known atoms ms
    → list_all (λ (a : NumberedAtom). are_below n a.terms) ms ≡ true → slice_get ms j ≡ Some m
    → member x (edge_at (edges_from n known atoms) j) ≡ list_any (is_number x) m.terms
unfolding AreNumbered edges_from
edge_says rs n x known [] [] j m h low at = absurd cc
edge_says rs n x known [] (k ∷ ms) j m h low at = absurd h
edge_says rs n x known (a ∷ atoms) [] j m h low at = absurd h
edge_says rs n x known (a ∷ atoms) (k ∷ ms) zero m h low at =
    let p = and_parts (are_below n k.terms)
    (list_all (λ (a : NumberedAtom). are_below n a.terms) ms) low in
    set_says n x known a k h.0.1 p.0
    ∙ ap (λ (o : NumberedAtom). list_any (is_number x) o.terms) (same_Some k m at)
edge_says rs n x known (a ∷ atoms) (k ∷ ms) (suc j) m h low at =
    let p = and_parts (are_below n k.terms)
    (list_all (λ (a : NumberedAtom). are_below n a.terms) ms) low in
    edge_says rs n x (with_atom known a) atoms ms j m h.1 p.1 at

pub numbered_long : (rs : List Relation) (known : List Label) (atoms : List Atom)
    (ms : List NumberedAtom) → AreNumbered rs known atoms ms → length ms ≡ length atoms
unfolding AreNumbered
numbered_long rs known [] [] h = refl
numbered_long rs known [] (k ∷ ms) h = absurd h
numbered_long rs known (a ∷ atoms) [] h = absurd h
numbered_long rs known (a ∷ atoms) (k ∷ ms) h =
    ap suc (numbered_long rs (with_atom known a) atoms ms h.1)

-- ---- widths

-- in a rising list a number stands once at most
rest_rises : (y : ℕ) (l : List ℕ) → Rising (y ∷ l) → Rising l
rest_rises y l h i j d a b = h (suc i) (suc j) d (omega arith) (omega arith)

once : (x : ℕ) (l : List ℕ) → Rising l → times numbers x l ≤ 1
once x [] h = omega arith
once x (y ∷ l) h =
    let rest = once x l (rest_rises y l h) in
    let b = one_le (x == y) in
    elim (cases_eq x y) [
      | inl same ↦
          let none = from_false (member x l) (first_alone y x l h same) in
          let count = has_times x l in
          omega arith
      | inr apart ↦
          let zero_here : one (x == y) ≡ 0 = from_false (x == y) (ne_eqb x y apart) in
          omega arith
    ]

-- a rising list with members of another one isn't longer
pub no_more : (l V : List ℕ) → Rising l → ((x : ℕ) → member x l ≡ true → member x V ≡ true)
    → length l ≤ length V
no_more l V rising within =
    no_longer l V (λ x.
    let a = once x l rising in
    let b = has_times x l in
    let c = has_times x V in
    elim (cases_Bool (member x l)) [
      | inl m ↦ (let d = from_true (member x V) (within x m) in omega arith)
      | inr n ↦ (let d = from_false (member x l) n in omega arith)
    ])

abbrev pub numbers_of : List NumberedTerm → List ℕ
numbers_of [] = []
numbers_of (Number x ∷ ts) = x ∷ numbers_of ts
numbers_of (Fixed v ∷ ts) = numbers_of ts

numbers_say : (x : ℕ) (ts : List NumberedTerm)
    → member x (numbers_of ts) ≡ list_any (is_number x) ts
numbers_say x [] = refl
numbers_say x (Number y ∷ ts) = ap (λ b. (x == y) || b) (numbers_say x ts)
numbers_say x (Fixed v ∷ ts) = numbers_say x ts

numbers_few : (ts : List NumberedTerm) → length (numbers_of ts) ≤ length ts
numbers_few [] = omega arith
numbers_few (Number y ∷ ts) = (let r = numbers_few ts in omega arith)
numbers_few (Fixed v ∷ ts) = (let r = numbers_few ts in omega arith)

pub label_few : (l : List ℕ) (ts : List NumberedTerm) → Rising l
    → ((x : ℕ) → member x l ≡ list_any (is_number x) ts) → length l ≤ length ts
label_few l ts rising says =
    let few = no_more l (numbers_of ts) rising (λ x m. numbers_say x ts ∙ sym (says x) ∙ m) in
    let less = numbers_few ts in
    omega arith

label_rises : (t : Tree) (k : ℕ) → IsTree t → Rising (label_at t.labels k)
label_rises t k s = AllPairs-from_increasing (label_at t.labels k) (s.sets k).rising

narrow_node : (t : Tree) (k : ℕ) (n : Node) → IsTree t → node_at t.nodes k ≡ n
    → ((j : ℕ) → j < t.leaves → length (label_at t.labels j) ≤ 16)
    → ((c : ℕ) → c < k → length (label_at t.labels c) ≤ 16)
    → length (label_at t.labels k) ≤ 16
narrow_node t k (Leaf a) s e leaf lower =
    elim (cases_lt k (length t.nodes)) [
      | inl low ↦ leaf k (s.inner k a low e)
      | inr past ↦
          let long = s.labelled in
          let none : label_at t.labels k ≡ [] = get_or_past t.labels k [] (omega arith) in
          let empty = ap (λ (l : List ℕ). length l) none in
          omega arith
    ]
narrow_node t k (Trim c) s e leaf lower =
    let trim = s.trim k c e in
    let few = no_more (label_at t.labels k) (label_at t.labels c) (label_rises t k s)
    (within_of (label_at t.labels k) (label_at t.labels c) trim.within) in
    let child = lower c trim.lower in
    omega arith
narrow_node t k (Meet g d) s e leaf lower =
    let meet = s.meet k g d e in
    let same = ap (λ (l : List ℕ). length l) meet.guard in
    let child = lower g meet.guard_lower in
    omega arith

narrow_below : (t : Tree) (n : ℕ) → IsTree t
    → ((j : ℕ) → j < t.leaves → length (label_at t.labels j) ≤ 16)
    → (k : ℕ) → k < n → length (label_at t.labels k) ≤ 16
narrow_below t zero s leaf k low = absurd (omega arith)
narrow_below t (suc n) s leaf k low =
    narrow_node t k (node_at t.nodes k) s refl leaf
    (λ c less. narrow_below t n s leaf c (omega arith))

-- where the leaves' labels are narrow, all are
pub narrow_labels : (t : Tree) → IsTree t
    → ((j : ℕ) → j < t.leaves → length (label_at t.labels j) ≤ 16)
    → (k : ℕ) → length (label_at t.labels k) ≤ 16
narrow_labels t s leaf k = narrow_below t (suc k) s leaf k (omega arith)

-- ---- names

edge_low : (n : ℕ) (known : List Label) (atoms : List Atom) (p x : ℕ)
    → member x (edge_at (edges_from n known atoms) p) ≡ true → x < n
unfolding edges_from
edge_low n known [] p x m = absurd (false≢true m)
edge_low n known (a ∷ atoms) zero x m =
    elim (cases_lt x n) [
      | inl low ↦ low
      | inr past ↦ absurd
          (false≢true (sym (set_lacks n x (numbers_in known a.terms) past) ∙ m))
    ]
edge_low n known (a ∷ atoms) (suc p) x m = edge_low n (with_atom known a) atoms p x m

-- each variable of a leaf has a name
pub variables_named : (q : Query) (t : Tree) → IsTreeOf (edges_of q) (head_of q) t
    → AreNamed (variable_names q) (leaf_labels t)
variables_named q t h p x m =
    let is = tree_leaf_labels (edges_of q) (head_of q) t h in
    let low = edge_low (length (variables_of q.atoms)) [] q.atoms p x
    (ap (λ (l : List (List ℕ)). member x (edge_at l p)) (sym is) ∙ m) in
    let long = length-map (variables_of q.atoms) label_name in
    omega arith

-- and each leaf an atom
pub leaves_named : (q : Query) (t : Tree) → IsTreeOf (edges_of q) (head_of q) t
    → t.leaves ≤ length (map (λ a. a.relation) q.atoms)
leaves_named q t h =
    let leaves = tree_leaves (edges_of q) (head_of q) t h in
    let edges = edges_long (length (variables_of q.atoms)) [] q.atoms in
    let long = length-map q.atoms (λ (a : Atom). a.relation) in
    omega arith

-- ---- A query that is built over a catalog.

-- ---- constants

terms_have : (texts : List Bytes) (known : List Label) (ts : List Term)
    → HaveCells texts (flat_map constant_of ts) → HaveConstants texts (numbered_terms known ts)
unfolding numbered_terms
terms_have texts known [] h = tt
terms_have texts known (Named x ∷ ts) h = (tt, terms_have texts (with_term known (Named x)) ts h)
terms_have texts known (Hole ∷ ts) h = (tt, terms_have texts (with_term known Hole) ts h)
terms_have texts known (Constant v ∷ ts) h = (h.0, terms_have texts known ts h.1)

pub atoms_have : (texts : List Bytes) (rs : List Relation) (known : List Label) (n : ℕ)
    (atoms : List Atom) (cs : List Comparison) (ms : List NumberedAtom) (j : ℕ) (m : NumberedAtom)
    → HaveCells texts (constants_from n atoms cs) → AreNumbered rs known atoms ms
    → slice_get ms j ≡ Some m → HaveConstants texts m.terms
unfolding AreNumbered
atoms_have texts rs known n [] cs [] j m h is at = absurd cc
atoms_have texts rs known n [] cs (k ∷ ms) j m h is at = absurd is
atoms_have texts rs known n (a ∷ atoms) cs [] j m h is at = absurd is
atoms_have texts rs known n (a ∷ atoms) cs (k ∷ ms) zero m h is at =
    let rest = constants_from (suc n) atoms cs in
    let b = have_parts texts (compared_behind n cs) (flat_map constant_of a.terms ++ rest) h in
    let p = have_parts texts (flat_map constant_of a.terms) rest b.1 in
    subst (λ (o : NumberedAtom). HaveConstants texts o.terms) (same_Some k m at)
    (subst (λ (ts : List NumberedTerm). HaveConstants texts ts) (sym is.0.1)
    (terms_have texts known a.terms p.0))
atoms_have texts rs known n (a ∷ atoms) cs (k ∷ ms) (suc j) m h is at =
    let rest = constants_from (suc n) atoms cs in
    let b = have_parts texts (compared_behind n cs) (flat_map constant_of a.terms ++ rest) h in
    let p = have_parts texts (flat_map constant_of a.terms) rest b.1 in
    atoms_have texts rs (with_atom known a) (suc n) atoms cs ms j m p.1 is.1 at

-- the constants of comparisons by number
numbered_have : (texts : List Bytes) (ls : List Label) (cs : List Comparison)
    → HaveFrom texts 0 cs → HaveCells texts (constants_in (map (numbered_comparison ls) cs))
numbered_have texts ls [] h = tt
numbered_have texts ls (k ∷ cs) h = (h.0 (omega arith), numbered_have texts ls cs h.1)

comparisons_have : (c : Catalog) (q : Query) (n : Numbered) → IsNumbered c.relations q n
    → HaveCells c.texts (constants_of q) → HaveCells c.texts (constants_in n.comparisons)
comparisons_have c q n numbered have =
    subst (λ (ks : List NumberedComparison). HaveCells c.texts (constants_in ks))
    (sym numbered.comparisons)
    (numbered_have c.texts (labels n.variables) q.comparisons
    (compared_have c.texts 0 q.atoms q.comparisons have))

-- ---- what is given

pub record IsGiven (c : Catalog) (q : Query) (n : Numbered) (t : Tree) : Type 0 where
  pub catalog : IsCatalog c
  pub sound : query_fault c.relations q ≡ None
  pub numbered : IsNumbered c.relations q n
  pub named : IsTreeOf (edges_of q) (head_of q) t
  pub within : IsWithin n
  pub tree : IsTree t
  pub constants : HaveCells c.texts (constants_of q)

module _ (c : Catalog) (q : Query) (n : Numbered) (t : Tree) (given : IsGiven c q n t) where
  asked : IsAsked c q n
  asked = numbered_asked c q n given.catalog given.sound given.numbered
      (λ j m at. atoms_have c.texts c.relations [] 0 q.atoms q.comparisons n.atoms j m
      given.constants given.numbered.atoms at)
      (comparisons_have c q n given.numbered given.constants)

  edges_count : length (edges_of q) ≡ length n.atoms
  edges_count =
      edges_long (length (variables_of q.atoms)) [] q.atoms
      ∙ sym (numbered_long c.relations [] q.atoms n.atoms given.numbered.atoms)

  pub leaves_count : t.leaves ≡ length n.atoms
  leaves_count = tree_leaves (edges_of q) (head_of q) t given.named ∙ edges_count

  label_says : (j : ℕ) (m : NumberedAtom) → slice_get n.atoms j ≡ Some m → (x : ℕ)
      → member x (label_at t.labels j) ≡ list_any (is_number x) m.terms
  label_says j m at x =
      let low = slice_get_within n.atoms j m at in
      let long = edges_count in
      let count = count_labels c.relations q n given.sound given.numbered in
      ap (λ (l : List ℕ). member x l)
      (tree_label (edges_of q) (head_of q) t j given.named (omega arith))
      ∙ ap (λ (k : ℕ). member x (edge_at (edges_from k [] q.atoms) j)) count
      ∙ edge_says c.relations (length n.variables) x [] q.atoms n.atoms j m
      given.numbered.atoms given.within.body at

  -- an atom is over a relation that is there, and has a term for each of its columns
  atom_long : (j : ℕ) (m : NumberedAtom) → slice_get n.atoms j ≡ Some m
      → (m.relation < length c.relations)
      × (length m.terms ≡ length (relation_at c.relations m.relation).types)
  atom_long j m at =
      let a = atom_at c n.variables q.atoms n.atoms j m asked.atoms at in (
        a.is.below,
        suited_long c.texts n.variables m.terms
            (relation_at c.relations m.relation).types a.is.suited,
      )

  leaf_narrow : (j : ℕ) → j < t.leaves → length (label_at t.labels j) ≤ 16
  leaf_narrow j low =
      let count = leaves_count in
      let there = has_at n.atoms j (omega arith) in
      let m = there.element in
      let l = atom_long j m there.is in
      let few = label_few (label_at t.labels j) m.terms
      (AllPairs-from_increasing (label_at t.labels j) (given.tree.sets j).rising)
      (label_says j m there.is) in
      let narrow = (given.catalog.kept m.relation no_relation l.0).narrow in
      let same = l.1 in
      omega arith

  head_says : (x : ℕ) → member x t.head ≡ member x n.head
  head_says x =
      let count = count_labels c.relations q n given.sound given.numbered in
      let k = length n.variables in
      let is : t.head ≡ set_below k n.head =
      tree_head (edges_of q) (head_of q) t given.named
      ∙ ap₂ (λ (i : ℕ) (xs : List ℕ). set_below i xs) count
      (sym (head_numbers c.relations q n given.sound given.numbered)) in
      ap (λ (l : List ℕ). member x l) is
      ∙ elim (cases_lt x k) [
        | inl low ↦ set_has k x n.head low
        | inr past ↦ set_lacks k x n.head past
            ∙ sym (high_head k x n.head past given.within.head)
      ]

  head_narrow : length t.head ≤ 16
  head_narrow =
      let few = no_more t.head n.head (AllPairs-from_increasing t.head given.tree.head_set.rising)
      (λ x m. sym (head_says x) ∙ m) in
      let narrow = given.within.narrow in
      omega arith

  pub narrow_tree : IsNarrow t
  narrow_tree = record { labels = narrow_labels t given.tree leaf_narrow; head = head_narrow }

  pub bindable : AreBindable c.texts t n.comparisons n.atoms
  bindable = record {
    leaves = (let count = leaves_count in let fits = given.tree.fits in omega arith);
    constants = λ j m at. atoms_have c.texts c.relations [] 0 q.atoms q.comparisons n.atoms j m
        given.constants given.numbered.atoms at;
    compared = comparisons_have c q n given.numbered given.constants;
    labels = label_says;
    narrow = narrow_labels t given.tree leaf_narrow;
  }

  pub suited : (ps : List Shape) → ArePatternsOf c.texts t.labels n.comparisons n.atoms ps
      → AtBoth (λ j m p. SuitsRelation c (label_at t.labels j) m.relation p) n.atoms ps
  suited ps are j m p at here =
      let is = are.each j m p at here in
      let l = atom_long j m at in
      let long = cells_long c.texts m.terms is.cells is.are in
      record {
        there = l.0;
        width = is.width;
        columns = ap (λ ss. length ss) is.slots
            ∙ bound_long (label_at t.labels j) m.terms is.cells long ∙ l.1;
      }

  pub over : (ps : List Shape) (before r : Reducts)
      → ArePatternsOf c.texts t.labels n.comparisons n.atoms ps
      → length ps ≡ length n.atoms → AreFilled c n.atoms ps (length n.atoms) before r
      → before.tree ≡ t → IsReducts r → IsOver c q n ps r
  over ps before r are long filled same sound =
      let tree : r.tree ≡ t = filled.tree ∙ same in
      record {
        asked = asked;
        reducts = sound;
        head = λ x. ap (λ (s : Tree). member x s.head) tree ∙ head_says x;
        long = ap (λ (s : Tree). s.leaves) tree ∙ leaves_count;
        patterns = long;
        leaves = λ j m p at here. record {
          pattern = subst (λ (s : Tree). IsPatternOf c.texts (label_at s.labels j) n.comparisons m p) (sym tree)
              (are.each j m p at here);
          holds = filled.filled j m p at here (slice_get_within n.atoms j m at);
        };
      }

-- reducts without tuples
cnt_none : (es : List Entry) (u : List ℕ) → es ≡ [] → count_of es u ≡ 0
unfolding count_of
cnt_none es u e = ap (λ (l : List Entry). count_of l u) e

marks_none : (es : List Entry) (u : List ℕ) → es ≡ [] → count_of (marks es) u ≡ 0
unfolding count_of marks
marks_none es u e = ap (λ (l : List Entry). count_of (marks l) u) e

pub none_filled : (c : Catalog) (atoms : List NumberedAtom) (ps : List Shape) (r : Reducts)
    → ((k : ℕ) → entries_at r.tables k ≡ []) → AreFilled c atoms ps 0 r r
none_filled c atoms ps r empty = record {
  tree = refl;
  bare = record { none = λ i v. marks_none (entries_at r.tables i) v (empty i) };
  filled = λ j m p at here low. absurd (omega arith);
  empty = λ j from low u. cnt_none (entries_at r.tables j) u (empty j);
}

-- ---- as the calls say it

pub given_of : (c : Catalog) (q : Query) (n : Numbered) (t : Tree) (p : PlannedQuery) → IsCatalog c
    → query_fault c.relations q ≡ None → IsPlanned c.relations q p
    → n ≡ p.numbered → t ≡ p.tree → IsWithin n → IsTree t
    → HaveCells c.texts (constants_of q) → IsGiven c q n t
given_of c q n t p catalog sound planned e f within tree constants = record {
  catalog = catalog;
  sound = sound;
  numbered = subst (λ (m : Numbered). IsNumbered c.relations q m) (sym e) planned.numbered;
  named = subst (λ (s : Tree). IsTreeOf (edges_of q) (head_of q) s) (sym f) planned.named;
  within = within;
  tree = tree;
  constants = constants;
}

-- the patterns of these atoms and comparisons are those of the query's
patterns_there : (texts : List Bytes) (ls : List (List ℕ)) (n : Numbered)
    (atoms : List NumberedAtom) (ks : List NumberedComparison) (ps : List Shape)
    → atoms ≡ n.atoms → ks ≡ n.comparisons → ArePatternsOf texts ls ks atoms ps
    → ArePatternsOf texts ls n.comparisons n.atoms ps
patterns_there texts ls n atoms ks ps is also are =
    subst (λ (l : List NumberedAtom). ArePatternsOf texts ls n.comparisons l ps) is
    (subst (λ (l : List NumberedComparison). ArePatternsOf texts ls l atoms ps) also are)

pub suit_there : (c : Catalog) (q : Query) (n : Numbered) (t s : Tree)
    (atoms later : List NumberedAtom) (ks : List NumberedComparison) (ps qs : List Shape)
    → IsGiven c q n t → atoms ≡ n.atoms → ks ≡ n.comparisons
    → later ≡ n.atoms → qs ≡ ps → s ≡ t → ArePatternsOf c.texts t.labels ks atoms ps
    → AtBoth (λ j m p. SuitsRelation c (label_at s.labels j) m.relation p) later qs
suit_there c q n t s atoms later ks ps qs given is also too same trees are =
    let here = patterns_there c.texts t.labels n atoms ks ps is also are in
    subst (λ (u : Tree). AtBoth (λ j m p. SuitsRelation c (label_at u.labels j) m.relation p)
    later qs) (sym trees)
    (subst (λ (l : List NumberedAtom). AtBoth
    (λ j m p. SuitsRelation c (label_at t.labels j) m.relation p) l qs) (sym too)
    (subst (λ (rs : List Shape). AtBoth
    (λ j m p. SuitsRelation c (label_at t.labels j) m.relation p) n.atoms rs) (sym same)
    (suited c q n t given ps here)))

no_cursor : (k : ℕ) (p : Progress) → slot_at [] k ≡ Some p → ⊥
no_cursor k p e = absurd cc

pub live_there : (c : Catalog) (q : Query) (n : Numbered) (t : Tree)
    (atoms later : List NumberedAtom) (ks : List NumberedComparison) (ps qs : List Shape)
    (before r : Reducts) (headed : Numbered) (cursors : List (Option Progress)) → IsGiven c q n t
    → atoms ≡ n.atoms → ks ≡ n.comparisons → later ≡ n.atoms
    → qs ≡ ps → before.tree ≡ t → length ps ≡ length atoms
    → ArePatternsOf c.texts t.labels ks atoms ps
    → AreFilled c later qs (length later) before r → IsReducts r → headed ≡ n → cursors ≡ []
    → IsLive c (record {
      query = q;
      numbered = headed;
      patterns = ps;
      reducts = r;
      cursors = cursors;
    })
live_there c q n t atoms later ks ps qs before r headed cursors given is also too same trees long
    are filled sound kept none =
    let here = patterns_there c.texts t.labels n atoms ks ps is also are in
    let there : AreFilled c n.atoms ps (length n.atoms) before r =
    subst (λ (rs : List Shape). AreFilled c n.atoms rs (length n.atoms) before r) same
    (subst (λ (l : List NumberedAtom). AreFilled c l qs (length l) before r) too filled) in
    subst (λ (m : Numbered). IsLive c (record {
      query = q;
      numbered = m;
      patterns = ps;
      reducts = r;
      cursors = cursors;
    })) (sym kept)
    (record {
      kept = record {
        over = over c q n t given ps before r here
            (long ∙ ap (λ (l : List NumberedAtom). length l) is) there trees sound;
        named = subst (λ (s : Tree). IsTreeOf (edges_of q) (head_of q) s)
            (sym (filled.tree ∙ trees)) given.named;
        bare = filled.bare;
      };
      fits = λ k cursor ended e. absurd
          (no_cursor k (Open cursor ended)
          (sym (ap (λ (cs : List (Option Progress)). slot_at cs k) none) ∙ e));
    })
