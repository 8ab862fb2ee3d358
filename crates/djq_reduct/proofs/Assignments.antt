-- Reducts, and the rows of cells that an assignment gives on labels.
use Rattle.std.proofs.Common.{◌≡◌, ℕ, zero, suc, ◌*◌, ◌<◌, ◌≤◌, List, [], length, refl, ap, ap₂, subst, sym, ◌∙◌, arith}
use Rattle.std.proofs.Common.{inl, inr, Bool, true, false, ◌∷◌, append_assoc, ◌+◌, length-append, map}
use Rattle.std.proofs.lemmas.Bool.{cases_lt, cases_eq, eq-eqb, ne_eqb, eqb-true, false≢true, cases_Bool, or_cases}
use Rattle.std.proofs.lemmas.Bool.{or_right}
use Rattle.std.specs.Prelude.{slice_index_or, ◌&&◌, ◌++◌, Option, Some, None, option_to_list, IfNone, nat_eq, ⊤, ◌==◌}
use Rattle.std.specs.Prelude.{AllPairs, slice_index}
use Rattle.std.proofs.lemmas.List.{get_or_past, get_or_read, append-nil, get_or_append_left}
use Rattle.std.specs.Option.{option_eq}
use Rattle.std.proofs.Math.Seq.{get_or-append_seam}
use Rattle.std.specs.List.Sorted.{IsStrictlyIncreasing}
use Rattle.std.proofs.lemmas.List.Kept.{AllPairs-from_increasing}
use Rattle.djq_hypergraph.specs.Hypergraph.{member, subset}
use Rattle.djq_hypergraph.proofs.Sets.{above, member_here}
use Rattle.djq_index.specs.Tuple.{pick}
use Rattle.djq_index.specs.Entries.{Entry, supports_of, count_of, group_size}
use Rattle.djq_index.specs.Table.{Table, IsTable, TuplesDiffer, AreColumns, ArePlaced, AreLast, AreWide, AreSupported}
use Rattle.djq_index.proofs.Groups.{cnt_same, many_same}
use Rattle.djq_tree.specs.declared.node.Node.{Node}
use Rattle.djq_tree.specs.declared.node.Node.TheVariants.{Leaf, Trim, Meet}
use Rattle.djq_tree.specs.Tree.{Tree, node_at, IsTree}
use Rattle.djq_tree.specs.Labels.{label_at}
use Rattle.djq_tree.specs.Keys.{key_of}
use Rattle.djq_tree.proofs.Paths.{key_within}
use Rattle.djq_reduct.specs.Columns.{columns, column}
use Rattle.djq_reduct.specs.Tables.{no_table, table_at, entries_at, key_at, width_at, empty_table}
use Rattle.djq_reduct.specs.Reducts.{Reducts, IsReductOf, IsReducts, SameLeaves, SameTables, IsKeyed, IsNarrow}

-- ---- Reducts are known once the leaves' tuples are.

-- the entries of a table that is a table
pub apart_at : (ts : List Table) (k : ℕ) → IsTable (table_at ts k) → TuplesDiffer (entries_at ts k)
unfolding entries_at
apart_at ts k h = h.apart

-- past the end no table has a tuple
pub entries_past : (ts : List Table) (k : ℕ) → length ts ≤ k → entries_at ts k ≡ []
unfolding entries_at table_at
entries_past ts k h = ap (λ (t : Table). t.entries) (get_or_past ts k no_table h)

-- the equation of a node, by the kind of node
pub leaf_law : (n : Node) (a : ℕ) (ts : List Table) (k : ℕ) → n ≡ Leaf a → IsReductOf n ts k → (w : List ℕ)
    → supports_of (entries_at ts k) w ≡ count_of (entries_at ts k) w
unfolding IsReductOf
leaf_law n a ts k e h = subst (λ (m : Node). IsReductOf m ts k) e h

pub trim_law : (n : Node) (c : ℕ) (ts : List Table) (k : ℕ) → n ≡ Trim c → IsReductOf n ts k → (w : List ℕ)
    → supports_of (entries_at ts k) w ≡ group_size (key_at ts c) (entries_at ts c) w
unfolding IsReductOf
trim_law n c ts k e h = subst (λ (m : Node). IsReductOf m ts k) e h

pub meet_law : (n : Node) (g s : ℕ) (ts : List Table) (k : ℕ) → n ≡ Meet g s → IsReductOf n ts k → (w : List ℕ)
    → supports_of (entries_at ts k) w ≡ count_of (entries_at ts g) w * count_of (entries_at ts s) (pick (key_at ts g) w)
unfolding IsReductOf
meet_law n g s ts k e h = subst (λ (m : Node). IsReductOf m ts k) e h

-- two families agree at a node: the same supports there
abbrev Agree : Reducts → Reducts → ℕ → Type 0
Agree r s k = (u : List ℕ) → supports_of (entries_at s.tables k) u ≡ supports_of (entries_at r.tables k) u

cnt_agree : (r s : Reducts) (k : ℕ) → IsReducts r → IsReducts s → Agree r s k → (u : List ℕ)
    → count_of (entries_at s.tables k) u ≡ count_of (entries_at r.tables k) u
cnt_agree r s k hr hs a =
    cnt_same (entries_at s.tables k) (entries_at r.tables k) (apart_at s.tables k (hs.family.sound k))
    (apart_at r.tables k (hr.family.sound k)) (hs.family.supported k) (hr.family.supported k) a

many_agree : (r s : Reducts) (k : ℕ) (key : List ℕ) → IsReducts r → IsReducts s → Agree r s k → (u : List ℕ)
    → group_size key (entries_at s.tables k) u ≡ group_size key (entries_at r.tables k) u
many_agree r s k key hr hs a =
    many_same key (entries_at s.tables k) (entries_at r.tables k) (apart_at s.tables k (hs.family.sound k))
    (apart_at r.tables k (hr.family.sound k)) (hs.family.supported k) (hr.family.supported k) a

pub key_agree : (r s : Reducts) (k : ℕ) → IsReducts r → IsReducts s → s.tree ≡ r.tree → k < length r.tree.nodes
    → key_at s.tables k ≡ key_at r.tables k
key_agree r s k hr hs e h =
    (hs.family.keyed k (subst (λ (t : Tree). k < length t.nodes) (sym e) h)).key
    ∙ ap (λ (t : Tree). columns (label_at t.labels k) (key_of t k)) e ∙ sym (hr.family.keyed k h).key

-- a node agrees where its children do
node_agrees : (r s : Reducts) (k : ℕ) (n : Node) → IsReducts r → IsReducts s → SameLeaves r s → k < length r.tree.nodes
    → node_at r.tree.nodes k ≡ n
    → ((i : ℕ) → i < k → Agree r s i) → Agree r s k
node_agrees r s k (Leaf a) hr hs h within e below u =
    let other : node_at s.tree.nodes k ≡ Leaf a = ap (λ (t : Tree). node_at t.nodes k) h.same_tree ∙ e in
    let inside : k < length s.tree.nodes = subst (λ (t : Tree). k < length t.nodes) (sym h.same_tree) within in
    leaf_law (node_at s.tree.nodes k) a s.tables k other (hs.reduced.at k (omega arith) inside) u
    ∙ h.same k u (hr.family.is_tree.inner k a within e)
    ∙ sym (leaf_law (node_at r.tree.nodes k) a r.tables k e (hr.reduced.at k (omega arith) within) u)
node_agrees r s k (Trim c) hr hs h within e below u =
    let other : node_at s.tree.nodes k ≡ Trim c = ap (λ (t : Tree). node_at t.nodes k) h.same_tree ∙ e in
    let inside : k < length s.tree.nodes = subst (λ (t : Tree). k < length t.nodes) (sym h.same_tree) within in
    let lower : c < k = (hr.family.is_tree.trim k c e).lower in
    trim_law (node_at s.tree.nodes k) c s.tables k other (hs.reduced.at k (omega arith) inside) u
    ∙ ap (λ (ks : List ℕ). group_size ks (entries_at s.tables c) u) (key_agree r s c hr hs h.same_tree (omega arith))
    ∙ many_agree r s c (key_at r.tables c) hr hs (below c lower) u
    ∙ sym (trim_law (node_at r.tree.nodes k) c r.tables k e (hr.reduced.at k (omega arith) within) u)
node_agrees r s k (Meet g d) hr hs h within e below u =
    let other : node_at s.tree.nodes k ≡ Meet g d = ap (λ (t : Tree). node_at t.nodes k) h.same_tree ∙ e in
    let inside : k < length s.tree.nodes = subst (λ (t : Tree). k < length t.nodes) (sym h.same_tree) within in
    let m = hr.family.is_tree.meet k g d e in
    let low : g < k = m.guard_lower in
    meet_law (node_at s.tree.nodes k) g d s.tables k other (hs.reduced.at k (omega arith) inside) u
    ∙ ap₂ (λ (a b : ℕ). a * b) (cnt_agree r s g hr hs (below g m.guard_lower) u)
    (ap (λ (ks : List ℕ). count_of (entries_at s.tables d) (pick ks u)) (key_agree r s g hr hs h.same_tree
    (omega arith))
    ∙ cnt_agree r s d hr hs (below d m.side_lower) (pick (key_at r.tables g) u))
    ∙ sym (meet_law (node_at r.tree.nodes k) g d r.tables k e (hr.reduced.at k (omega arith) within) u)

past_agrees : (r s : Reducts) (k : ℕ) → IsReducts r → IsReducts s → SameLeaves r s → length r.tree.nodes ≤ k
    → Agree r s k
past_agrees r s k hr hs h past u =
    ap (λ (es : List Entry). supports_of es u)
    (entries_past s.tables k (rw hs.family.long (subst (λ (t : Tree). length t.nodes ≤ k) (sym h.same_tree) past)))
    ∙ sym (ap (λ (es : List Entry). supports_of es u) (entries_past r.tables k (rw hr.family.long past)))

-- so all agree, from the leaves up
agree_below : (r s : Reducts) (n : ℕ) → IsReducts r → IsReducts s → SameLeaves r s → (k : ℕ) → k < n → Agree r s k
agree_below r s zero hr hs h k low = absurd (omega arith)
agree_below r s (suc n) hr hs h k low =
    elim (cases_lt k (length r.tree.nodes)) [
      | inl within ↦ node_agrees r s k (node_at r.tree.nodes k) hr hs h within refl
          (λ i lower. agree_below r s n hr hs h i (omega arith))
      | inr past ↦ past_agrees r s k hr hs h past
    ]

-- two families of reducts with the same leaves are the same
pub one_family : (r s : Reducts) → IsReducts r → IsReducts s → SameLeaves r s → SameTables r s
one_family r s hr hs h = record {
  tuples = λ k u. cnt_agree r s k hr hs (agree_below r s (suc k) hr hs h k (omega arith)) u;
  supports = λ k u. agree_below r s (suc k) hr hs h k (omega arith) u;
}

-- the table that a place of the list has
pub at_place : (ts : List Table) (k : ℕ) (t : Table) → t ≡ table_at ts k → (t.entries ≡ entries_at ts k)
    × (t.key ≡ key_at ts k) × (t.width ≡ width_at ts k)
unfolding entries_at key_at width_at table_at
at_place ts k t e = (ap (λ (u : Table). u.entries) e, ap (λ (u : Table). u.key) e, ap (λ (u : Table). u.width) e)

pub read_at : (r s : Reducts) (k : ℕ) (t : Table) → r ≡ s → k < length r.tables → t ≡ slice_index_or r.tables k t → t
    ≡ table_at s.tables k
unfolding table_at
read_at r s k t same within e = get_or_read r.tables k t within e no_table
    ∙ ap (λ (q : Reducts). slice_index_or q.tables k no_table) same

-- ---- Columns of a label.

-- a variable of a label has its place there
pub column_within : (l : List ℕ) (x : ℕ) → member x l ≡ true → column l x < length l
unfolding column
column_within [] x h = absurd (false≢true h)
column_within (y ∷ ys) x h =
    elim (cases_eq x y) [
      | inl same ↦ rw (eq-eqb y x (sym same)) (omega arith)
      | inr apart ↦ (
          let k : member x ys ≡ true = rw (ne_eqb x y apart) at h in
          rw (ne_eqb y x (λ e. apart (sym e))) (omega (arith, column_within ys x k)))
    ]

and_left : (a b : Bool) → a && b ≡ true → a ≡ true
and_left true b h = refl
and_left false b h = absurd (false≢true h)

and_right : (a b : Bool) → a && b ≡ true → b ≡ true
and_right true b h = h
and_right false b h = absurd (false≢true h)

-- so the columns of a key that lies within the label are columns of its table
pub columns_within : (l k : List ℕ) → subset k l ≡ true → AreColumns (length l) (columns l k)
unfolding columns AreColumns
columns_within l [] h = tt
columns_within l (x ∷ k) h = (
  column_within l x (and_left (member x l) (subset k l) h),
  columns_within l k
      (and_right (member x l) (subset k l) h),
)

-- one step of the search for a column
pub column_here : (y : ℕ) (ys : List ℕ) (x : ℕ) → y ≡ x → column (y ∷ ys) x ≡ 0
unfolding column
column_here y ys x e = rw (eq-eqb y x e) refl

pub column_on : (y : ℕ) (ys : List ℕ) (x : ℕ) → (y ≡ x → ⊥) → column (y ∷ ys) x ≡ suc (column ys x)
unfolding column
column_on y ys x e = rw (ne_eqb y x e) refl

pub column_none : (x : ℕ) → column [] x ≡ 0
unfolding column
column_none x = refl

pub columns_on : (l : List ℕ) (x : ℕ) (k : List ℕ) → columns l (x ∷ k) ≡ column l x ∷ columns l k
unfolding columns
columns_on l x k = refl

pub columns_none : (l : List ℕ) → columns l [] ≡ []
unfolding columns
columns_none l = refl

-- one step of the search for a column: the lowest variable that is left is taken out
pub column_found : (o : Option ℕ) (old new : List ℕ) (x : ℕ) → old ≡ option_to_list o ++ new → o ≡ Some x → column old x
    ≡ 0
column_found o old new x taken found =
    let e : old ≡ x ∷ new = taken ∙ ap (λ (p : Option ℕ). option_to_list p ++ new) found in
    ap (λ (l : List ℕ). column l x) e ∙ column_here x new x refl

pub column_missed : (o : Option ℕ) (old new : List ℕ) (x : ℕ) → old ≡ option_to_list o ++ new → IfNone o (old ≡ [])
    → 0 < length old → (o ≡ Some x → ⊥) → (column old x ≡ suc (column new x)) × (length old ≡ suc (length new))
column_missed None old new x taken none some other = absurd (omega (arith, ap (λ (l : List ℕ). length l) none))
column_missed (Some y) old new x taken none some other = (
  ap (λ (l : List ℕ). column l x) taken
      ∙ column_on y new x (λ e. other (ap (λ (z : ℕ). Some z) e)),
  ap (λ (l : List ℕ). length l) taken,
)

pub column_left : (l : List ℕ) (x : ℕ) → length l ≡ 0 → column l x ≡ 0
column_left [] x h = column_none x
column_left (y ∷ ys) x h = absurd (omega arith)

pub columns_step : (label done : List ℕ) (o : Option ℕ) (old new : List ℕ) (x : ℕ) → old ≡ option_to_list o ++ new → o
    ≡ Some x
    → (done ++ column label x ∷ []) ++ columns label new ≡ done ++ columns label old
columns_step label done o old new x taken some =
    let e : old ≡ x ∷ new = taken ∙ ap (λ (p : Option ℕ). option_to_list p ++ new) some in
    append_assoc done (column label x ∷ []) (columns label new)
    ∙ ap (λ (l : List ℕ). done ++ l) (sym (columns_on label x new) ∙ ap (λ (l : List ℕ). columns label l) (sym e))

pub columns_end : (label done all old : List ℕ) → done ++ columns label old ≡ all → old ≡ [] → done ≡ all
columns_end label done all old h e = sym (append-nil done)
    ∙ ap (λ (l : List ℕ). done ++ l) (sym (columns_none label) ∙ ap (λ (l : List ℕ). columns label l) (sym e)) ∙ h

pub same_option : (o : Option ℕ) (x : ℕ) (b : Bool) → b ≡ option_eq nat_eq o (Some x) → b ≡ true → o ≡ Some x
same_option None x b h e = absurd (false≢true (sym h ∙ e))
same_option (Some y) x b h e = ap (λ (z : ℕ). Some z) (eqb-true y x (sym h ∙ e))

pub other_option : (o : Option ℕ) (x : ℕ) (b : Bool) → b ≡ option_eq nat_eq o (Some x) → b ≡ false → o ≡ Some x → ⊥
other_option o x b h e same =
    let k : b ≡ option_eq nat_eq (Some x) (Some x) = subst (λ (p : Option ℕ). b ≡ option_eq nat_eq p (Some x)) same h in
    false≢true (sym e ∙ k ∙ eq-eqb x x refl)

-- ---- A tree's tables while no leaf has a tuple.

-- the empty tables of the first n nodes
unfoldable pub empty_tables : Tree → ℕ → List Table
empty_tables t zero = []
empty_tables t (suc n) = empty_tables t n ++ empty_table t n ∷ []

pub length_tables : (t : Tree) (n : ℕ) → length (empty_tables t n) ≡ n
unfolding empty_tables
length_tables t zero = refl
length_tables t (suc n) = omega (arith, length-append (empty_tables t n) (empty_table t n ∷ []), length_tables t n)

pub made_at : (t : Tree) (n k : ℕ) → k < n → table_at (empty_tables t n) k ≡ empty_table t k
unfolding table_at empty_tables
made_at t zero k h = absurd (omega arith)
made_at t (suc n) k h =
    let long = length_tables t n in
    elim (cases_eq k n) [
      | inl last ↦ subst (λ i. slice_index_or (empty_tables t n ++ empty_table t n ∷ []) i no_table ≡ empty_table t k)
          (long ∙ sym last) (get_or-append_seam (empty_tables t n) (empty_table t n) [] no_table
          ∙ ap (λ i. empty_table t i) (sym last))
      | inr other ↦ get_or_append_left (empty_tables t n) (empty_table t n ∷ []) no_table k (omega arith)
          ∙ made_at t n k (omega arith)
    ]

made_past : (t : Tree) (n k : ℕ) → n ≤ k → table_at (empty_tables t n) k ≡ no_table
unfolding table_at
made_past t n k h = get_or_past (empty_tables t n) k no_table (omega (arith, length_tables t n))

pub made_entries : (t : Tree) (n k : ℕ) → entries_at (empty_tables t n) k ≡ []
unfolding entries_at
made_entries t n k =
    elim (cases_lt k n) [
      | inl within ↦ ap (λ (u : Table). u.entries) (made_at t n k within)
      | inr past ↦ ap (λ (u : Table). u.entries) (made_past t n k past)
    ]

-- a table without tuples
blank : (width : ℕ) (key : List ℕ) → AreColumns width key → IsTable (record { width = width; key = key; entries = [] })
unfolding TuplesDiffer ArePlaced AreLast AreWide
blank width key h = record { apart = tt; placed = tt; last = tt; wide = tt; columns = h }

blank_columns : AreColumns 0 []
unfolding AreColumns
blank_columns = tt

pub fitting : (t : Tree) (k : ℕ) → IsTree t
    → AreColumns (length (label_at t.labels k)) (columns (label_at t.labels k) (key_of t k))
fitting t k h = columns_within (label_at t.labels k) (key_of t k) (key_within t k (key_of t k) h refl)

made_sound : (t : Tree) (n k : ℕ) → IsTree t → IsTable (table_at (empty_tables t n) k)
made_sound t n k h =
    elim (cases_lt k n) [
      | inl within ↦ subst IsTable (sym (made_at t n k within))
          (blank (length (label_at t.labels k)) (columns (label_at t.labels k) (key_of t k)) (fitting t k h))
      | inr past ↦ subst IsTable (sym (made_past t n k past)) (blank 0 [] blank_columns)
    ]

made_keyed : (t : Tree) (n k : ℕ) → k < n → IsKeyed t (empty_tables t n) k
unfolding width_at key_at
made_keyed t n k h = record
    { width = ap (λ (u : Table). u.width) (made_at t n k h); key = ap (λ (u : Table). u.key) (made_at t n k h) }

none_supported : AreSupported []
unfolding AreSupported
none_supported = tt

no_supp : (u : List ℕ) → supports_of [] u ≡ 0
unfolding supports_of
no_supp u = refl

no_cnt : (u : List ℕ) → count_of [] u ≡ 0
unfolding count_of
no_cnt u = refl

no_many : (key u : List ℕ) → group_size key [] u ≡ 0
unfolding group_size
no_many key u = refl

-- how they are made, one after the other
pub made_none : (t : Tree) → empty_tables t 0 ≡ []
unfolding empty_tables
made_none t = refl

pub made_on : (t : Tree) (n : ℕ) → empty_tables t n ++ empty_table t n ∷ [] ≡ empty_tables t (n + 1)
unfolding empty_tables
made_on t n = let e : suc n ≡ n + 1 = omega arith in ap (λ i. empty_tables t i) e

-- where no table has a tuple, each is its node's reduct
none_reduct : (n : Node) (ts : List Table) (k : ℕ) → ((i : ℕ) → entries_at ts i ≡ []) → IsReductOf n ts k
unfolding IsReductOf
none_reduct (Leaf a) ts k h = λ w. rw (h k) (no_supp w ∙ sym (no_cnt w))
none_reduct (Trim c) ts k h = λ w. rw (h k, h c) (no_supp w ∙ sym (no_many (key_at ts c) w))
none_reduct (Meet g s) ts k h = λ w. rw (h k, h g, h s)
    (no_supp w ∙ omega (arith, no_cnt w, ap (λ n. n * count_of [] (pick (key_at ts g) w)) (no_cnt w)))

-- so they are reducts
pub made_reducts : (t : Tree) → IsTree t → IsNarrow t
    → IsReducts (record { tree = t; tables = empty_tables t (length t.nodes) })
made_reducts t h narrow = record {
  family = record {
    is_tree = h;
    narrow = narrow;
    long = length_tables t (length t.nodes);
    sound = λ k. made_sound t (length t.nodes) k h;
    keyed = λ k within. made_keyed t (length t.nodes) k within;
    supported = λ k. subst AreSupported (sym (made_entries t (length t.nodes) k)) none_supported;
  };
  reduced = record {
    at = λ k low within. none_reduct (node_at t.nodes k) (empty_tables t (length t.nodes)) k
        (λ i. made_entries t (length t.nodes) i);
  };
}

-- ---- Rows of cells that an assignment gives on labels.

-- no variable stands twice
abbrev pub IsSimple : List ℕ → Type 0
IsSimple [] = ⊤
IsSimple (x ∷ l) = (member x l ≡ false) × IsSimple l

-- each variable of the first label is in the second
abbrev pub Within : List ℕ → List ℕ → Type 0
Within k l = (x : ℕ) → member x k ≡ true → member x l ≡ true

pub within_of : (k l : List ℕ) → subset k l ≡ true → Within k l
within_of [] l h x m = absurd (false≢true m)
within_of (y ∷ k) l h x m =
    let both = and_both (member y l) (subset k l) h in
    elim (or_cases (x == y) (member x k) m) [
      | inl here ↦ ap (λ (z : ℕ). member z l) (eqb-true x y here) ∙ both.0
      | inr there ↦ within_of k l both.1 x there
    ]
  where
    and_both : (a b : Bool) → (a && b) ≡ true → (a ≡ true) × (b ≡ true)
    and_both true b h = (refl, h)
    and_both false b h = absurd (false≢true h)

simple_pairs : (l : List ℕ) → AllPairs (λ x y. x < y) l → IsSimple l
simple_pairs [] h = tt
simple_pairs (x ∷ l) h = (
  elim (cases_Bool (member x l)) [
    | inl is ↦ absurd
        (let b = above x x l (λ k d i. h 0 (suc k) d (omega arith) (omega arith)) is in omega arith)
    | inr isnt ↦ isnt
  ],
  simple_pairs l (λ i j d a b. h (suc i) (suc j) d (omega arith) (omega arith)),
)

pub simple_of : (l : List ℕ) → IsStrictlyIncreasing l → IsSimple l
simple_of l h = simple_pairs l (AllPairs-from_increasing l h)

pub absent : (x y : ℕ) (l : List ℕ) → member x l ≡ false → member y l ≡ true → x ≡ y → ⊥
absent x y l h m e = false≢true (sym h ∙ ap (λ (z : ℕ). member z l) e ∙ m)

pub member_on : (x y : ℕ) (l : List ℕ) → member x l ≡ true → member x (y ∷ l) ≡ true
member_on x y l m = or_right (x == y) (member x l) m

-- a row has the cell of a variable at the variable's column
pub cell_there : (a : ℕ → ℕ) (l : List ℕ) (x : ℕ) → member x l ≡ true
    → slice_index (map a l) (column l x) ≡ a x
cell_there a [] x m = absurd (false≢true m)
cell_there a (y ∷ l) x m =
    elim (cases_eq y x) [
      | inl here ↦ ap (λ (i : ℕ). slice_index (a y ∷ map a l) i) (column_here y l x here)
          ∙ ap a here
      | inr other ↦
          let n : member x l ≡ true = elim (or_cases (x == y) (member x l) m)
          [ inl k ↦ absurd (other (sym (eqb-true x y k))) | inr k ↦ k ] in
          ap (λ (i : ℕ). slice_index (a y ∷ map a l) i) (column_on y l x other) ∙ cell_there a l x n
    ]

pub row_same : (a b : ℕ → ℕ) (l : List ℕ) → ((x : ℕ) → member x l ≡ true → a x ≡ b x)
    → map a l ≡ map b l
row_same a b [] h = refl
row_same a b (x ∷ l) h = ap₂ (λ (y : ℕ) (ys : List ℕ). y ∷ ys) (h x (member_here x l))
    (row_same a b l (λ y m. h y (member_on y x l m)))

-- the assignment that a tuple over a label stands for
abbrev pub reading : List ℕ → List ℕ → ℕ → ℕ
reading l u x = slice_index u (column l x)

pub pick_reading : (F l u : List ℕ) → pick (columns F l) u ≡ map (λ x. reading F u x) l
unfolding pick columns
pick_reading F [] u = refl
pick_reading F (x ∷ l) u = ap (λ (ys : List ℕ). slice_index u (column F x) ∷ ys)
    (pick_reading F l u)

pub pick_row : (a : ℕ → ℕ) (F l : List ℕ) → Within l F → pick (columns F l) (map a F) ≡ map a l
pick_row a F l h = pick_reading F l (map a F)
    ∙ row_same (λ x. reading F (map a F) x) a l (λ x m. cell_there a F x (h x m))

-- a tuple is the row that its reading gives
pub reading_row : (l u : List ℕ) → IsSimple l → length u ≡ length l
    → map (λ x. reading l u x) l ≡ u
reading_row [] [] h e = refl
reading_row [] (c ∷ u) h e = absurd (omega arith)
reading_row (x ∷ l) [] h e = absurd (omega arith)
reading_row (x ∷ l) (c ∷ u) h e =
    ap₂ (λ (y : ℕ) (ys : List ℕ). y ∷ ys)
    (ap (λ (i : ℕ). slice_index (c ∷ u) i) (column_here x l x refl))
    (row_same (λ y. reading (x ∷ l) (c ∷ u) y) (λ y. reading l u y) l
    (λ y m. ap (λ (i : ℕ). slice_index (c ∷ u) i) (column_on x l y (absent x y l h.0 m)))
    ∙ reading_row l u h.1 (omega arith))

-- all columns of a label give a tuple itself
pub pick_itself : (l u : List ℕ) → IsSimple l → length u ≡ length l → pick (columns l l) u ≡ u
pick_itself l u h e = pick_reading l l u ∙ reading_row l u h e
