-- The nodes of a tree: their labels, and how many are trims.
use Rattle.std.proofs.Common.{◌≡◌, ℕ, zero, suc, ◌<◌, Bool, true, List, [], ◌∷◌, ◌++◌, length, eqb, Some, refl, ap, sym}
use Rattle.std.proofs.Common.{◌∙◌, append_assoc, append-nil, inl, inr, arith, ◌≢◌, ◌+◌, ◌-◌, ◌*◌, false, not, cond}
use Rattle.std.proofs.Common.{◌||◌, take, Option, None, is_some, subst, ◌⊎◌, min, drop}
use Rattle.std.specs.Prelude.{◌≤◌, slice_get, codes, decimal, ◌==◌, nat_lt, count_by}
use Rattle.std.proofs.lemmas.List.{get_or-take, get_or_past, take_more, take_all, take-append-drop}
use Rattle.std.proofs.lemmas.Bool.{cases_lt, eq-eqb, or_right, cases_Bool, cases_eq, ne_eqb, eqb-true, false≢true}
use Rattle.std.proofs.lemmas.Bool.{lt-leb, lt-ltb, le-ltb, le-leb}
use Rattle.std.proofs.lemmas.Option.{get_or_from_slice_get}
use Rattle.std.proofs.lemmas.List.Sums.{sum_by-append}
use Rattle.djq_hypergraph.specs.Hypergraph.{member, degree, one}
use Rattle.djq_hypergraph.specs.Variables.{AreNamed}
use Rattle.djq_hypergraph.proofs.Sets.{has_bit, from_true, subset_says, one_le, one_false, from_false, one_and, one_or}
use Rattle.djq_hypergraph.proofs.Sets.{one_true}
use Rattle.djq_hypergraph.proofs.Labels.{edge_in, edge_with, numbers, times, times_itself, out_of, out_same}
use Rattle.djq_hypergraph.proofs.Labels.{length_same, outside}
use Rattle.djq_tree.specs.declared.node.Node.{Node}
use Rattle.djq_tree.specs.declared.node.Node.TheVariants.{Leaf, Trim, Meet}
use Rattle.djq_tree.specs.Labels.{label_at}
use Rattle.djq_tree.specs.Tree.{Tree, IsTree, node_at, is_out, leaf_labels, has_child, parent, IsTop}
use Rattle.djq_tree.specs.Explaining.{IsNamed, name_at, comma_listed, label_text, node_text, end_text, line_text}
use Rattle.djq_tree.specs.Levels.{is_start, levels, levels_below, level_on}
use Rattle.djq_tree.specs.Counts.{is_trim, trims, others, how_many, IsSmall}
use Rattle.djq_tree.proofs.Paths.{rising_of, parent_above, trim_child}

-- ---- A label's text.

pub name_of : (names : List (List ℕ)) (i : ℕ) (t : List ℕ) → slice_get names i ≡ Some t → t ≡ name_at names i
name_of names i t h = sym (get_or_from_slice_get names i t [] h)

-- what the first variable and the others are below
pub popped : (l m : List ℕ) (x n : ℕ) → l ≡ x ∷ m → ((y : ℕ) → member y l ≡ true → y < n) → (x < n)
    × ((y : ℕ) → member y m ≡ true → y < n)
popped l m x n e h =
    let first : member x l ≡ true = rw (e, eq-eqb x x refl) refl in
    (h x first, λ y k. h y (rw e (or_right (eqb y x) (member y m) k)))

-- one more variable is written
pub listed_more : (names : List (List ℕ)) (s s1 s2 t all l m : List ℕ) (x : ℕ) → s1 ≡ s ++ codes "," → s2 ≡ s1 ++ t
    → slice_get names x ≡ Some t → l ≡ x ∷ m → s ++ comma_listed names l ≡ all → s2 ++ comma_listed names m ≡ all
listed_more names s s1 s2 t all l m x comma name at e h =
    let n = name_of names x t at in
    let f : s ++ comma_listed names (x ∷ m) ≡ all = ap (λ k. s ++ comma_listed names k) (sym e) ∙ h in
    rw (name, comma, n) (simp append_assoc refl ∙ f)

-- the whole label is written
pub labelled_first : (names : List (List ℕ)) (s s1 t l m : List ℕ) (x : ℕ) → s1 ≡ s ++ t → slice_get names x ≡ Some t
    → l ≡ x ∷ m → s1 ++ comma_listed names m ≡ s ++ label_text names l
labelled_first names s s1 t l m x name at e =
    rw (name, name_of names x t at, e) (append_assoc s (name_at names x) (comma_listed names m))

-- nothing is left to write
pub labelled : (names : List (List ℕ)) (s s1 s2 t l m r : List ℕ) (x : ℕ) → s1 ≡ s ++ t → slice_get names x ≡ Some t → l
    ≡ x ∷ m → r ≡ [] → s2 ++ comma_listed names r ≡ s1 ++ comma_listed names m → s2 ≡ s ++ label_text names l
labelled names s s1 s2 t l m r x name at e none h =
    let f : s2 ++ [] ≡ s1 ++ comma_listed names m = ap (λ k. s2 ++ comma_listed names k) (sym none) ∙ h in
    sym (append-nil s2) ∙ f ∙ labelled_first names s s1 t l m x name at e

-- the atom of a leaf has a name
pub node_named : (atoms : List (List ℕ)) (t : Tree) (j : ℕ) (n : Node) → IsTree t → j < length t.nodes
    → t.leaves ≤ length atoms → n ≡ node_at t.nodes j → IsNamed atoms n
node_named atoms t j (Leaf a) s within enough e =
    let is : node_at t.nodes j ≡ Leaf a = sym e in
    let low = s.inner j a within is in
    let own : node_at t.nodes j ≡ Leaf j = s.leaf j low in
    let same : a ≡ j = (let k : Leaf a ≡ Leaf j = sym is ∙ own in cc) in
    omega arith
node_named atoms t j (Trim c) s within enough e = tt
node_named atoms t j (Meet g d) s within enough e = tt

-- seven texts, one after another
pub written : (s s1 s2 s3 s4 s5 s6 s7 a b c d e f g : List ℕ) → s1 ≡ s ++ a → s2 ≡ s1 ++ b → s3 ≡ s2 ++ c → s4 ≡ s3 ++ d
    → s5 ≡ s4 ++ e → s6 ≡ s5 ++ f → s7 ≡ s6 ++ g → s7 ≡ s ++ (a ++ b ++ c ++ d ++ e ++ f ++ g)
written s s1 s2 s3 s4 s5 s6 s7 a b c d e f g h1 h2 h3 h4 h5 h6 h7 = rw (h7, h6, h5, h4, h3, h2, h1)
    (simp append_assoc refl)

-- a line is written
pub line_written : (atoms variables : List (List ℕ)) (t : Tree) (j : ℕ) (n : Node) (l : List ℕ) (o : Bool)
    (s s1 s2 s3 s4 s5 s6 s7 : List ℕ) → n ≡ node_at t.nodes j → l ≡ label_at t.labels j → o ≡ is_out t.out j
    → s1 ≡ s ++ codes "n " → s2 ≡ s1 ++ decimal j → s3 ≡ s2 ++ codes " " → s4 ≡ s3 ++ node_text atoms n → s5
    ≡ s4 ++ codes " " → s6 ≡ s5 ++ label_text variables l → s7 ≡ s6 ++ end_text o → s7
    ≡ s ++ line_text atoms variables t j
line_written atoms variables t j n l o s s1 s2 s3 s4 s5 s6 s7 at_n at_l at_o h1 h2 h3 h4 h5 h6 h7 =
    rw (← at_n, ← at_l, ← at_o)
    (written s s1 s2 s3 s4 s5 s6 s7 (codes "n ") (decimal j) (codes " ") (node_text atoms n) (codes " ")
    (label_text variables l) (end_text o) h1 h2 h3 h4 h5 h6 h7)

-- ---- each variable of a label lies in a leaf's

leaf_node : (t : Tree) (j x : ℕ) (n : Node) → IsTree t → j < length t.nodes → node_at t.nodes j ≡ n → t.leaves ≤ j
    → ((c : ℕ) → c < j → 0 < has_bit x (label_at t.labels c) → 0 < degree x (leaf_labels t))
    → 0 < has_bit x (label_at t.labels j) → 0 < degree x (leaf_labels t)
leaf_node t j x (Leaf a) s within e late lower h = absurd (let low = s.inner j a within e in omega arith)
leaf_node t j x (Trim c) s within e late lower h =
    let i = s.trim j c e in
    lower c i.lower (let k = subset_says (label_at t.labels j) (label_at t.labels c) i.within x in omega arith)
leaf_node t j x (Meet g d) s within e late lower h =
    let i = s.meet j g d e in
    lower g i.guard_lower
    (let k : has_bit x (label_at t.labels j) ≡ has_bit x (label_at t.labels g) = ap (has_bit x) i.guard in omega arith)

leaf_below : (t : Tree) → IsTree t → (n j x : ℕ) → j < n → 0 < has_bit x (label_at t.labels j)
    → 0 < degree x (leaf_labels t)
leaf_below t s zero j x low h = absurd (omega arith)
leaf_below t s (suc n) j x low h =
    elim (cases_lt j t.leaves) [
      | inl early ↦
          let k : has_bit x (label_at (leaf_labels t) j)
          ≡ has_bit x (label_at t.labels j) = ap (has_bit x) (get_or-take t.leaves t.labels j [] early) in
          let d = edge_in (leaf_labels t) j x in
          omega arith
      | inr late ↦
          elim (cases_lt j (length t.nodes)) [
            | inl within ↦ leaf_node t j x (node_at t.nodes j) s within refl late
                (λ c lower k. leaf_below t s n c x (omega arith) k) h
            | inr past ↦
                absurd (let e = s.labelled in let k : has_bit x (label_at t.labels j)
                ≡ has_bit x [] = ap (has_bit x) (get_or_past t.labels j [] (omega arith)) in omega arith)
          ]
    ]

-- a variable of a label lies in the label of a leaf
pub leaf_has : (t : Tree) → IsTree t → (j x : ℕ) → 0 < has_bit x (label_at t.labels j) → 0 < degree x (leaf_labels t)
leaf_has t s j x h = leaf_below t s (suc j) j x (omega arith) h

-- where the leaves' variables have names, all have
pub label_named : (names : List (List ℕ)) (t : Tree) (j : ℕ) (l : List ℕ) → IsTree t → l ≡ label_at t.labels j
    → AreNamed names (leaf_labels t) → (x : ℕ) → member x l ≡ true → x < length names
label_named names t j l s at leaves x h =
    let e = edge_with (leaf_labels t) x
    (leaf_has t s j x (from_true (member x (label_at t.labels j)) (ap (member x) (sym at) ∙ h))) in
    leaves e.0 x e.1

-- ---- How many nodes of a tree are no trims, and how many are current at a time.

-- ---- counting numbers

pub how_many_le : (p q : ℕ → Bool) (n : ℕ) → ((j : ℕ) → j < n → one (p j) ≤ one (q j)) → how_many p n ≤ how_many q n
how_many_le p q zero h = omega arith
how_many_le p q (suc n) h = let r = how_many_le p q n (λ j low. h j (omega arith)) in let e = h n (omega arith) in omega
    arith

how_many_past : (p : ℕ → Bool) (n d : ℕ) → ((j : ℕ) → n ≤ j → p j ≡ false) → how_many p (n + d) ≡ how_many p n
how_many_past p n zero h = ap (how_many p) (let e : n + 0 ≡ n = omega arith in e)
how_many_past p n (suc d) h =
    let r = how_many_past p n d h in
    let e : n + suc d ≡ suc (n + d) = omega arith in
    ap (how_many p) e ∙ (let k = from_false (p (n + d)) (h (n + d) (omega arith)) in omega arith)

none_of : (p : ℕ → Bool) (n : ℕ) → ((j : ℕ) → j < n → p j ≡ false) → how_many p n ≡ 0
none_of p zero h = refl
none_of p (suc n) h = let r = none_of p n (λ j low. h j (omega arith)) in let k = from_false (p n) (h n (omega arith))
    in omega arith

all_of : (p : ℕ → Bool) (n : ℕ) → ((j : ℕ) → j < n → p j ≡ true) → how_many p n ≡ n
all_of p zero h = refl
all_of p (suc n) h = let r = all_of p n (λ j low. h j (omega arith)) in let k = from_true (p n) (h n (omega arith)) in
    let l = one_le (p n) in omega arith

-- one number alone
pub how_many_one : (c n : ℕ) → how_many (λ j. c == j) n ≡ one (nat_lt c n)
how_many_one c zero = sym (from_false (nat_lt c 0) (le-ltb c 0 (omega arith)))
how_many_one c (suc n) =
    let r = how_many_one c n in
    elim (cases_eq c n) [
      | inl same ↦
          let a = from_false (nat_lt c n) (le-ltb c n (omega arith)) in
          let b = from_true (nat_lt c (suc n)) (lt-ltb c (suc n) (omega arith)) in
          let d = one_le (nat_lt c (suc n)) in
          let e : one (c == n) ≡ 1 = ap one (eq-eqb c n same) in
          omega arith
      | inr apart ↦ let e : one (c == n) ≡ 0 = ap one (ne_eqb c n apart) in r_apart r e apart (cases_lt c n)
    ]
  where
    r_apart : how_many (λ j. c == j) n ≡ one (nat_lt c n) → one (c == n) ≡ 0 → c ≢ n → (c < n) ⊎ (n ≤ c)
        → how_many (λ j. c == j) n + one (c == n) ≡ one (nat_lt c (suc n))
    r_apart r e apart (inl low) =
        let a : one (nat_lt c n) ≡ 1 = ap one (lt-ltb c n low) in
        let b : one (nat_lt c (suc n)) ≡ 1 = ap one (lt-ltb c (suc n) (omega arith)) in
        omega arith
    r_apart r e apart (inr high) =
        let a : one (nat_lt c n) ≡ 0 = ap one (le-ltb c n high) in
        let b : one (nat_lt c (suc n)) ≡ 0 = ap one (le-ltb c (suc n) (omega arith)) in
        omega arith

-- ---- children

pub kids_trim : (c k : ℕ) → c < k → how_many (has_child (Trim c)) k ≡ 1
kids_trim c k low = how_many_one c k ∙ ap one (lt-ltb c k low)

kids_both : (g d n : ℕ) → g ≢ d → how_many (has_child (Meet g d)) n
    ≡ how_many (λ j. g == j) n + how_many (λ j. d == j) n
kids_both g d zero apart = refl
kids_both g d (suc n) apart =
    let r = kids_both g d n apart in
    let e = both (g == n) (d == n) (λ x y. apart (eqb-true g n x ∙ sym (eqb-true d n y))) in
    omega arith
  where
    both : (a b : Bool) → (a ≡ true → b ≡ true → ⊥) → one (a || b) ≡ one a + one b
    both true true h = absurd (h refl refl)
    both true false h = refl
    both false true h = refl
    both false false h = refl

pub kids_meet : (g d k : ℕ) → g ≢ d → g < k → d < k → how_many (has_child (Meet g d)) k ≡ 2
kids_meet g d k apart low low_side =
    let a = kids_both g d k apart in
    let b : how_many (λ j. g == j) k ≡ 1 = how_many_one g k ∙ ap one (lt-ltb g k low) in
    let c : how_many (λ j. d == j) k ≡ 1 = how_many_one d k ∙ ap one (lt-ltb d k low_side) in
    omega arith

-- ---- current nodes

-- whether a node below k has the node j as a child
pub used : List Node → ℕ → ℕ → Bool
used nodes zero j = false
used nodes (suc k) j = used nodes k j || has_child (node_at nodes k) j

-- how many nodes below k are no child of another one: those that are current before k
abbrev pub currents : List Node → ℕ → ℕ
currents nodes k = how_many (λ j. not (used nodes k j)) k

used_by : (nodes : List Node) (k j : ℕ) → used nodes k j ≡ true → (i : ℕ) × (i < k)
    × (has_child (node_at nodes i) j ≡ true)
unfolding used
used_by nodes zero j h = absurd cc
used_by nodes (suc k) j h =
    elim (cases_Bool (has_child (node_at nodes k) j)) [
      | inl here ↦ (k, omega arith, here)
      | inr other ↦ let r = used_by nodes k j (earlier (used nodes k j) (has_child (node_at nodes k) j) h other) in
          (r.0, (let low = r.1 in omega arith), r.2)
    ]
  where
    earlier : (a b : Bool) → a || b ≡ true → b ≡ false → a ≡ true
    earlier true b x y = refl
    earlier false true x y = absurd cc
    earlier false false x y = x

pub used_from : (nodes : List Node) (k i j : ℕ) → i < k → has_child (node_at nodes i) j ≡ true → used nodes k j ≡ true
unfolding used
used_from nodes zero i j low h = absurd (omega arith)
used_from nodes (suc k) i j low h =
    elim (cases_eq i k) [
      | inl same ↦ either (used nodes k j) (has_child (node_at nodes k) j)
          (ap (λ (m : ℕ). has_child (node_at nodes m) j) (sym same) ∙ h)
      | inr apart ↦ rw (used_from nodes k i j (omega arith) h) refl
    ]
  where
    either : (a b : Bool) → b ≡ true → (a || b) ≡ true
    either true b h = refl
    either false b h = h

pub unused_from : (nodes : List Node) (k j : ℕ) → ((i : ℕ) → i < k → has_child (node_at nodes i) j ≡ true → ⊥)
    → used nodes k j ≡ false
unused_from nodes k j h = elim (cases_Bool (used nodes k j))
    [ inl one_is ↦ absurd (let u = used_by nodes k j one_is in h u.0 u.1 u.2) | inr none ↦ none ]

-- the children of node k are no children of nodes below it
uses_new : (t : Tree) (k j : ℕ) → IsTree t → has_child (node_at t.nodes k) j ≡ true → used t.nodes k j ≡ false
uses_new t k j s h = unused_from t.nodes k j (λ i low other. let e = s.one_parent j i k other h in omega arith)

used_step : (t : Tree) (k n : ℕ) → IsTree t
    → how_many (λ j. not (used t.nodes (suc k) j)) n + how_many (has_child (node_at t.nodes k)) n
    ≡ how_many (λ j. not (used t.nodes k j)) n
unfolding used
used_step t k zero s = refl
used_step t k (suc n) s =
    let r = used_step t k n s in
    let e = taken (used t.nodes k n) (has_child (node_at t.nodes k) n) (λ h. uses_new t k n s h) in
    omega arith
  where
    taken : (a b : Bool) → (b ≡ true → a ≡ false) → one (not (a || b)) + one b ≡ one (not a)
    taken true true h = absurd (false≢true (sym (h refl)))
    taken true false h = refl
    taken false true h = refl
    taken false false h = refl

-- with node k the children of it are current no more, and it is
pub currents_step : (t : Tree) (k : ℕ) → IsTree t
    → currents t.nodes (suc k) + how_many (has_child (node_at t.nodes k)) k ≡ currents t.nodes k + 1
currents_step t k s =
    let r = used_step t k k s in
    let fresh : used t.nodes (suc k) k
    ≡ false = unused_from t.nodes (suc k) k (λ i low h. let up = rising_of t s i k h in omega arith) in
    let e : one (not (used t.nodes (suc k) k)) ≡ 1 = ap (λ (b : Bool). one (not b)) fresh in
    omega arith

-- ---- the first nodes

pub count_more : (p : Node → Bool) (nodes : List Node) (k : ℕ) → k < length nodes → count_by p (take (k + 1) nodes)
    ≡ count_by p (take k nodes) + one (p (node_at nodes k))
count_more p nodes k low =
    ap (count_by p) (take_more nodes k (Leaf 0) low)
    ∙ sum_by-append (λ x. cond (p x) 1 0) (take k nodes) (node_at nodes k ∷ [])
    ∙ (let e : count_by p (node_at nodes k ∷ [])
    ≡ one (p (node_at nodes k)) = omega arith in ap (λ (z : ℕ). count_by p (take k nodes) + z) e)

-- up to k nodes of the tree: those that aren't trims and those that are current are twice as many as the leaves
pub record Counted (t : Tree) (k : ℕ) : Type 0 where
  pub both : others (take k t.nodes) + currents t.nodes k ≡ 2 * t.leaves
  pub few : currents t.nodes k ≤ t.leaves

leaves_counted : (t : Tree) (k : ℕ) → IsTree t → k ≤ t.leaves → (others (take k t.nodes) ≡ k)
    × (trims (take k t.nodes) ≡ 0)
leaves_counted t zero s low = (refl, refl)
leaves_counted t (suc k) s low =
    let r = leaves_counted t k s (omega arith) in
    let a = r.0 in
    let b = r.1 in
    let fits = s.fits in
    let e = s.leaf k (omega arith) in
    let m : others (take (k + 1) t.nodes)
    ≡ others (take k t.nodes) + 1 = count_more (λ n. not (is_trim n)) t.nodes k (omega arith)
    ∙ ap (λ (n : Node). others (take k t.nodes) + one (not (is_trim n))) e in
    let n : trims (take (k + 1) t.nodes) ≡ trims (take k t.nodes) + 0 = count_more is_trim t.nodes k (omega arith)
    ∙ ap (λ (n : Node). trims (take k t.nodes) + one (is_trim n)) e in
    let i : k + 1 ≡ suc k = omega arith in (
      ap (λ (z : ℕ). others (take z t.nodes)) (sym i) ∙ omega arith,
      ap (λ (z : ℕ). trims (take z t.nodes)) (sym i)
          ∙ omega arith,
    )

pub leaf_childless : (t : Tree) (i j : ℕ) → IsTree t → i < t.leaves → has_child (node_at t.nodes i) j ≡ true → ⊥
leaf_childless t i j s low h = false≢true (ap (λ (n : Node). has_child n j) (sym (s.leaf i low)) ∙ h)

at_leaves : (t : Tree) → IsTree t → Counted t t.leaves
at_leaves t s =
    let c : currents t.nodes t.leaves ≡ t.leaves =
    all_of (λ j. not (used t.nodes t.leaves j)) t.leaves
    (λ j low. ap not (unused_from t.nodes t.leaves j (λ i below h. leaf_childless t i j s below h))) in
    let o = (leaves_counted t t.leaves s (omega arith)).0 in
    record { both = omega arith; few = omega arith }

counted_more : (t : Tree) (k : ℕ) (n : Node) → IsTree t → t.leaves ≤ k → k < length t.nodes → node_at t.nodes k ≡ n
    → Counted t k → Counted t (suc k)
counted_more t k (Leaf a) s late within e c = absurd (let low = s.inner k a within e in omega arith)
counted_more t k (Trim d) s late within e c =
    let step = currents_step t k s in
    let kids : how_many (has_child (node_at t.nodes k)) k ≡ 1 = ap (λ (n : Node). how_many (has_child n) k) e
    ∙ kids_trim d k (s.trim k d e).lower in
    let m : others (take (k + 1) t.nodes)
    ≡ others (take k t.nodes) + 0 = count_more (λ n. not (is_trim n)) t.nodes k within
    ∙ ap (λ (n : Node). others (take k t.nodes) + one (not (is_trim n))) e in
    let i : others (take (k + 1) t.nodes)
    ≡ others (take (suc k) t.nodes) = ap (λ (z : ℕ). others (take z t.nodes))
    (let i : k + 1 ≡ suc k = omega arith in i) in
    let a = c.both in
    let b = c.few in
    record { both = omega arith; few = omega arith }
counted_more t k (Meet g d) s late within e c =
    let step = currents_step t k s in
    let r = s.meet k g d e in
    let kids : how_many (has_child (node_at t.nodes k)) k ≡ 2 = ap (λ (n : Node). how_many (has_child n) k) e
    ∙ kids_meet g d k r.apart r.guard_lower r.side_lower in
    let m : others (take (k + 1) t.nodes)
    ≡ others (take k t.nodes) + 1 = count_more (λ n. not (is_trim n)) t.nodes k within
    ∙ ap (λ (n : Node). others (take k t.nodes) + one (not (is_trim n))) e in
    let i : others (take (k + 1) t.nodes)
    ≡ others (take (suc k) t.nodes) = ap (λ (z : ℕ). others (take z t.nodes))
    (let i : k + 1 ≡ suc k = omega arith in i) in
    let a = c.both in
    let b = c.few in
    record { both = omega arith; few = omega arith }

pub counted_at : (t : Tree) (n k : ℕ) → IsTree t → k ≡ t.leaves + n → k ≤ length t.nodes → Counted t k
counted_at t zero k s e low = subst (λ (z : ℕ). Counted t z) (let i : t.leaves ≡ k = omega arith in i) (at_leaves t s)
counted_at t (suc n) zero s e low = absurd (omega arith)
counted_at t (suc n) (suc k) s e low =
    counted_more t k (node_at t.nodes k) s (omega arith) (omega arith) refl
    (counted_at t n k s (omega arith) (omega arith))

-- ---- at the end the root alone is current

last_current : (t : Tree) (n : ℕ) → IsTree t → length t.nodes ≡ suc n → currents t.nodes (suc n) ≡ 1
last_current t n s e =
    let r = none_of (λ j. not (used t.nodes (suc n) j)) n
    (λ j low. ap not (let p = some_parent (parent t.nodes j) (s.below j (omega arith)) in let u = parent_above t.nodes j
    p.0 (rising_of t s) p.1 in let v = u.1 in used_from t.nodes (suc n) p.0 j (omega arith) u.2)) in
    let free : used t.nodes (suc n) n
    ≡ false = unused_from t.nodes (suc n) n (λ i low h. let up = rising_of t s i n h in omega arith) in
    let k : one (not (used t.nodes (suc n) n)) ≡ 1 = ap (λ (b : Bool). one (not b)) free in
    omega arith
  where
    some_parent : (o : Option ℕ) → is_some o ≡ true → (p : ℕ) × (o ≡ Some p)
    some_parent None h = absurd cc
    some_parent (Some p) h = (p, refl)

nodes_of : (N m : ℕ) → 0 < m → m ≤ N → (n : ℕ) × (N ≡ suc n)
nodes_of zero m some fits = absurd (omega arith)
nodes_of (suc n) m some fits = (n, refl)

pub not_trims_of : (t : Tree) → IsTree t → others t.nodes + 1 ≡ 2 * t.leaves
not_trims_of t s =
    let n = nodes_of (length t.nodes) t.leaves s.some s.fits in
    let c = counted_at t (length t.nodes - t.leaves) (length t.nodes) s (let f = s.fits in omega arith) (omega arith) in
    let both = c.both in
    let l = last_current t n.0 s n.1 in
    let e : currents t.nodes (length t.nodes) ≡ currents t.nodes (suc n.0) = ap (currents t.nodes) n.1 in
    let a : others (take (length t.nodes) t.nodes)
    ≡ others t.nodes = ap others (take_all (length t.nodes) t.nodes (omega arith)) in
    omega arith

-- ---- as the second stage begins

start_free : (t : Tree) (j : ℕ) → IsTree t → j < t.second_stage
    → one (is_start t j) ≤ one (not (used t.nodes t.second_stage j))
start_free t j s low =
    elim (cases_Bool (is_out t.out j)) [
      | inl here ↦
          let free : used t.nodes t.second_stage j ≡ false =
          unused_from t.nodes t.second_stage j
          (λ i below h. false≢true (sym (lt-leb t.second_stage i below) ∙ sym (s.out_split i j h) ∙ here)) in
          let k : one (not (used t.nodes t.second_stage j)) ≡ 1 = ap (λ (b : Bool). one (not b)) free in
          let l = one_le (is_start t j) in
          omega arith
      | inr off ↦
          let a = one_and (is_out t.out j) (nat_lt j t.second_stage) in
          let b = from_false (is_out t.out j) off in
          omega arith
    ]

start_past : (t : Tree) (j : ℕ) → t.second_stage ≤ j → is_start t j ≡ false
start_past t j high = one_false (is_start t j)
    (let a = one_and (is_out t.out j) (nat_lt j t.second_stage) in let b = from_false (nat_lt j t.second_stage)
    (le-ltb j t.second_stage high) in omega arith)

pub few_starts_of : (t : Tree) → IsTree t → how_many (is_start t) (length t.nodes) ≤ t.leaves
few_starts_of t s =
    let low = s.stages.0 in
    let high = s.stages.1 in
    let c = counted_at t (t.second_stage - t.leaves) t.second_stage s (omega arith) (omega arith) in
    let few = c.few in
    let e : t.second_stage + (length t.nodes - t.second_stage) ≡ length t.nodes = omega arith in
    let p = how_many_past (is_start t) t.second_stage (length t.nodes - t.second_stage) (λ j late. start_past t j late)
    in
    let q : how_many (is_start t) (t.second_stage + (length t.nodes - t.second_stage))
    ≡ how_many (is_start t) (length t.nodes) = ap (how_many (is_start t)) e in
    let l = how_many_le (is_start t) (λ j. not (used t.nodes t.second_stage j)) t.second_stage
    (λ j below. start_free t j s below) in
    omega arith

-- ---- How many nodes of a tree are trims: each loses a variable that no other one loses.

-- ---- lists of numbers

pub has_times : (j : ℕ) (ns : List ℕ) → has_bit j ns ≡ min 1 (times numbers j ns)
has_times j [] = refl
has_times j (y ∷ ns) =
    let o = one_or (j == y) (member j ns) in
    let l = one_le (j == y) in
    let r = has_times j ns in
    omega arith

-- a list in which no number stands more often than in another one isn't longer
pub no_longer : (xs V : List ℕ) → ((x : ℕ) → times numbers x xs ≤ times numbers x V) → length xs ≤ length V
no_longer [] V h = omega arith
no_longer (x ∷ xs) V h =
    let i = times_itself numbers x in
    let stands : 0 < times numbers x V = (let q = h x in omega arith) in
    let r = no_longer xs (out_of numbers x V) (λ d. let q = h d in let o = out_same numbers x V stands d in omega arith)
    in
    let l = length_same numbers V (x ∷ out_of numbers x V) (out_same numbers x V stands) in
    omega arith

-- ---- what trims lose

-- of the nodes from a on and below b one is a trim that loses x
record Loses (t : Tree) (a b x : ℕ) : Type 0 where
  trim : ℕ
  child : ℕ
  from : a ≤ trim
  below : trim < b
  is : node_at t.nodes trim ≡ Trim child
  had : 0 < has_bit x (label_at t.labels child)
  lost : has_bit x (label_at t.labels trim) ≡ 0

loses_top : (t : Tree) (a b x : ℕ) → IsTree t → (l : Loses t a b x) → IsTop t.nodes t.labels x l.child
loses_top t a b x s l = record {
  has = one_true (member x (label_at t.labels l.child)) l.had;
  ends = λ k h.
      let e = s.one_parent l.child k l.trim h (trim_child t.nodes l.trim l.child l.is) in
      ap (λ (i : ℕ). member x (label_at t.labels i)) e ∙ one_false (member x (label_at t.labels l.trim)) l.lost;
}

-- a variable is lost once
one_trim : (t : Tree) (a b c d x : ℕ) → IsTree t → (l : Loses t a b x) (m : Loses t c d x) → l.trim ≡ m.trim
one_trim t a b c d x s l m =
    let e = s.one_top x l.child m.child (loses_top t a b x s l) (loses_top t c d x s m) in
    s.one_parent l.child l.trim m.trim (trim_child t.nodes l.trim l.child l.is)
    (ap (λ (i : ℕ). has_child (node_at t.nodes m.trim) i) e ∙ trim_child t.nodes m.trim m.child m.is)

wider : (t : Tree) (a b c x : ℕ) → b ≤ c → Loses t a b x → Loses t a c x
wider t a b c x h l = record {
  trim = l.trim;
  child = l.child;
  from = l.from;
  below = (let k = l.below in omega arith);
  is = l.is;
  had = l.had;
  lost = l.lost;
}

-- the variables that the trims among n nodes from a on lose, one for each
record Dropped (t : Tree) (a n : ℕ) : Type 0 where
  vars : List ℕ
  many : trims (take a t.nodes) + length vars ≡ trims (take (a + n) t.nodes)
  once : (x : ℕ) → times numbers x vars ≤ 1
  each : (x : ℕ) → 0 < times numbers x vars → Loses t a (a + n) x

another : (t : Tree) (a n : ℕ) → IsTree t → a + n < length t.nodes → is_trim (node_at t.nodes (a + n)) ≡ false
    → Dropped t a n → Dropped t a (suc n)
another t a n s within other d = record {
  vars = d.vars;
  many =
      let m : trims (take (a + n + 1) t.nodes)
      ≡ trims (take (a + n) t.nodes) + 0 = count_more is_trim t.nodes (a + n) within
      ∙ ap (λ (b : Bool). trims (take (a + n) t.nodes) + one b) other in
      let i : a + n + 1 ≡ a + suc n = omega arith in
      let k : trims (take (a + n + 1) t.nodes)
      ≡ trims (take (a + suc n) t.nodes) = ap (λ (z : ℕ). trims (take z t.nodes)) i in
      let h = d.many in
      omega arith;
  once = d.once;
  each = λ x h. wider t a (a + n) (a + suc n) x (omega arith) (d.each x h);
}

one_more : (t : Tree) (a n c : ℕ) → IsTree t → a + n < length t.nodes → node_at t.nodes (a + n) ≡ Trim c → Dropped t a n
    → Dropped t a (suc n)
one_more t a n c s within e d =
    let o = outside (label_at t.labels c) (label_at t.labels (a + n)) (s.trim (a + n) c e).proper in
    let mine : Loses t a (a + suc n) o.var = record
    { trim = a + n; child = c; from = omega arith; below = omega arith; is = e; had = o.within; lost = o.without }
    in
    let fresh : times numbers o.var d.vars ≡ 0 =
    elim (cases_lt 0 (times numbers o.var d.vars)) [
      | inl some ↦ absurd (let l = d.each o.var some in let k = one_trim t a (a + n) a (a + suc n) o.var s l mine in let
          b = l.below in omega arith)
      | inr none ↦ omega arith
    ] in
    record {
      vars = o.var ∷ d.vars;
      many =
          let m : trims (take (a + n + 1) t.nodes)
          ≡ trims (take (a + n) t.nodes) + 1 = count_more is_trim t.nodes (a + n) within
          ∙ ap (λ (k : Node). trims (take (a + n) t.nodes) + one (is_trim k)) e in
          let i : a + n + 1 ≡ a + suc n = omega arith in
          let k : trims (take (a + n + 1) t.nodes)
          ≡ trims (take (a + suc n) t.nodes) = ap (λ (z : ℕ). trims (take z t.nodes)) i in
          let h = d.many in
          omega arith;
      once = λ x.
          elim (cases_eq x o.var) [
            | inl same ↦ let k : times numbers x d.vars ≡ 0 = ap (λ (z : ℕ). times numbers z d.vars) same
                ∙ fresh in let l = one_le (x == o.var) in omega arith
            | inr apart ↦ let k : one (x == o.var)
                ≡ 0 = ap one (ne_eqb x o.var apart) in let l = d.once x in omega arith
          ];
      each = λ x h.
          elim (cases_eq x o.var) [
            | inl same ↦ subst (λ (z : ℕ). Loses t a (a + suc n) z) (sym same) mine
            | inr apart ↦ wider t a (a + n) (a + suc n) x (omega arith)
                (d.each x (let k : one (x == o.var) ≡ 0 = ap one (ne_eqb x o.var apart) in omega arith))
          ];
    }

dropped_kind : (t : Tree) (a n : ℕ) (m : Node) → IsTree t → a + n < length t.nodes → node_at t.nodes (a + n) ≡ m
    → Dropped t a n → Dropped t a (suc n)
dropped_kind t a n (Leaf b) s within e d = another t a n s within (ap is_trim e) d
dropped_kind t a n (Trim c) s within e d = one_more t a n c s within e d
dropped_kind t a n (Meet g i) s within e d = another t a n s within (ap is_trim e) d

dropped : (t : Tree) (a n : ℕ) → IsTree t → a + n ≤ length t.nodes → Dropped t a n
dropped t a zero s low = record {
  vars = [];
  many = (let i : a ≡ a + 0 = omega arith in let k : trims (take a t.nodes)
      ≡ trims (take (a + 0) t.nodes) = ap (λ (z : ℕ). trims (take z t.nodes)) i in omega arith);
  once = λ x. omega arith;
  each = λ x h. absurd (omega arith);
}
dropped t a (suc n) s low = dropped_kind t a n (node_at t.nodes (a + n)) s (omega arith) refl
    (dropped t a n s (omega arith))

-- where a list has all that is lost, it isn't shorter
few_dropped : (t : Tree) (a n : ℕ) (V : List ℕ) → (d : Dropped t a n)
    → ((x : ℕ) → Loses t a (a + n) x → 0 < has_bit x V)
    → length d.vars ≤ length V
few_dropped t a n V d all =
    no_longer d.vars V
    (λ x. elim (cases_lt 0 (times numbers x d.vars)) [
      | inl some ↦ let h = all x (d.each x some) in let k = has_times x V in let l = d.once x in omega arith
      | inr none ↦ omega arith
    ])

pub all_trims_of : (t : Tree) → IsTree t → (V : List ℕ) → ((x : ℕ) → 0 < degree x (leaf_labels t) → member x V ≡ true)
    → trims t.nodes ≤ length V
all_trims_of t s V all =
    let d = dropped t 0 (length t.nodes) s (omega arith) in
    let few = few_dropped t 0 (length t.nodes) V d
    (λ x l. from_true (member x V) (all x (leaf_has t s l.child x l.had))) in
    let many = d.many in
    let e : trims (take (0 + length t.nodes) t.nodes)
    ≡ trims t.nodes = ap trims (take_all (0 + length t.nodes) t.nodes (omega arith)) in
    let z : trims (take 0 t.nodes) ≡ 0 = refl in
    omega arith

-- the second stage's trims lose variables of the head
second_lost : (t : Tree) (b x : ℕ) → IsTree t → Loses t t.second_stage b x → 0 < has_bit x t.head
second_lost t b x s l =
    let out = s.out_split l.trim l.child (trim_child t.nodes l.trim l.child l.is)
    ∙ le-leb t.second_stage l.trim l.from in
    let within = subset_says (label_at t.labels l.child) t.head (s.head.within l.child out) x in
    let had = l.had in
    omega arith

pub second_trims_of : (t : Tree) → IsTree t → trims (drop t.second_stage t.nodes) ≤ length t.head
second_trims_of t s =
    let n = length t.nodes - t.second_stage in
    let high = s.stages.1 in
    let d = dropped t t.second_stage n s (omega arith) in
    let few = few_dropped t t.second_stage n t.head d (λ x l. second_lost t (t.second_stage + n) x s l) in
    let many = d.many in
    let e : trims (take (t.second_stage + n) t.nodes)
    ≡ trims t.nodes = ap trims (take_all (t.second_stage + n) t.nodes (omega arith)) in
    let both : trims t.nodes ≡ trims (take t.second_stage t.nodes) + trims (drop t.second_stage t.nodes) =
    ap trims (sym (take-append-drop t.second_stage t.nodes))
    ∙ sum_by-append (λ x. cond (is_trim x) 1 0) (take t.second_stage t.nodes) (drop t.second_stage t.nodes) in
    omega arith

-- ---- levels are the second stage's trims

pub no_levels : (t : Tree) (k : ℕ) → k ≤ t.second_stage → levels_below t k ≡ []
no_levels t zero low = refl
no_levels t (suc k) low = rw (lt-leb t.second_stage k (omega arith)) refl

level_more : (k : ℕ) (n : Node) (ks : List ℕ) → length (level_on k n ks) ≡ length ks + one (is_trim n)
level_more k (Leaf a) ks = omega arith
level_more k (Trim c) ks = omega arith
level_more k (Meet g s) ks = omega arith

level_step : (t : Tree) (k : ℕ) → t.second_stage ≤ k → levels_below t (suc k)
    ≡ level_on k (node_at t.nodes k) (levels_below t k)
level_step t k late = rw (le-leb t.second_stage k late) refl

levels_at : (t : Tree) (n k : ℕ) → k ≡ t.second_stage + n → k ≤ length t.nodes
    → trims (take t.second_stage t.nodes) + length (levels_below t k) ≡ trims (take k t.nodes)
levels_at t zero k e low =
    let z : length (levels_below t k) ≡ 0 = ap (λ (l : List ℕ). length l) (no_levels t k (omega arith)) in
    let i : t.second_stage ≡ k = omega arith in
    let m : trims (take t.second_stage t.nodes) ≡ trims (take k t.nodes) = ap (λ (z : ℕ). trims (take z t.nodes)) i in
    omega arith
levels_at t (suc n) zero e low = absurd (omega arith)
levels_at t (suc n) (suc k) e low =
    let r = levels_at t n k (omega arith) (omega arith) in
    let l : length (levels_below t (suc k)) ≡ length (levels_below t k) + one (is_trim (node_at t.nodes k)) =
    ap (λ (l : List ℕ). length l) (level_step t k (omega arith))
    ∙ level_more k (node_at t.nodes k) (levels_below t k) in
    let m = count_more is_trim t.nodes k (omega arith) in
    let i : k + 1 ≡ suc k = omega arith in
    let j : trims (take (k + 1) t.nodes) ≡ trims (take (suc k) t.nodes) = ap (λ (z : ℕ). trims (take z t.nodes)) i in
    omega arith

pub levels_count : (t : Tree) → IsTree t → length (levels t) ≡ trims (drop t.second_stage t.nodes)
levels_count t s =
    let high = s.stages.1 in
    let l = levels_at t (length t.nodes - t.second_stage) (length t.nodes) (omega arith) (omega arith) in
    let e : trims (take (length t.nodes) t.nodes)
    ≡ trims t.nodes = ap trims (take_all (length t.nodes) t.nodes (omega arith)) in
    let both : trims t.nodes ≡ trims (take t.second_stage t.nodes) + trims (drop t.second_stage t.nodes) =
    ap trims (sym (take-append-drop t.second_stage t.nodes))
    ∙ sum_by-append (λ x. cond (is_trim x) 1 0) (take t.second_stage t.nodes) (drop t.second_stage t.nodes) in
    omega arith

-- every tree is small
pub small_of : (t : Tree) → IsTree t → IsSmall t
small_of t s = record {
  not_trims = not_trims_of t s;
  all_trims = all_trims_of t s;
  second_trims = second_trims_of t s;
  few_levels = (let c = levels_count t s in let l = second_trims_of t s in omega arith);
  few_starts = few_starts_of t s;
}
