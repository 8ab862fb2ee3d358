-- The path from a node to the root, the keys along it, and where it enters `out`.
use Rattle.std.proofs.Common.{◌≡◌, ℕ, zero, suc, ◌+◌, ◌<◌, ◌≤◌, Bool, true, false, cond, Some, None, refl, ap, sym, ◌∙◌}
use Rattle.std.proofs.Common.{arith, inl, inr, List, [], ◌∷◌, length, Option, find, subst, eqb, get_or, IfSome, ◌-◌}
use Rattle.std.proofs.Common.{is_some, ◌⊎◌}
use Rattle.std.proofs.lemmas.Bool.{cases_eq, cases_Bool, eqb-true, or_cases, cases_lt, eq-eqb, ne_eqb, false≢true}
use Rattle.std.proofs.lemmas.Bool.{le-leb, lt-leb, leb-true}
use Rattle.std.specs.Prelude.{◌==◌, nat_le, slice_index_or}
use Rattle.std.proofs.Math.Bool.{or-true}
use Rattle.std.proofs.lemmas.List.{get_or_past, get_or_default, get_or_read}
use Rattle.djq_hypergraph.specs.Hypergraph.{subset, member}
use Rattle.djq_hypergraph.proofs.Sets.{subset_from, has_bit, has_here, has_other, from_true}
use Rattle.djq_tree.specs.declared.node.Node.{Node}
use Rattle.djq_tree.specs.declared.node.Node.TheVariants.{Leaf, Trim, Meet}
use Rattle.djq_tree.specs.Lowest.{lowest_from}
use Rattle.djq_tree.specs.Tree.{Tree, IsTree, node_at, has_child, IsRising, parent, climb, climb_on, path_of}
use Rattle.djq_tree.specs.Tree.{path_or_none, is_out, IsFrontier, SplitsPath}
use Rattle.djq_tree.specs.Labels.{label_at}
use Rattle.djq_tree.specs.Keys.{key_under, key_by, key_of}

-- ---- The lowest number that passes a test.

-- k is the lowest of the n numbers from a on that passes
pub record IsLowest (p : ℕ → Bool) (a n k : ℕ) : Type 0 where
  pub from : a ≤ k
  pub below : k < a + n
  pub passes : p k ≡ true
  pub lowest : (j : ℕ) → a ≤ j → j < k → p j ≡ false

pub lowest_is : (p : ℕ → Bool) (a n k : ℕ) → a ≤ k → k < a + n → p k ≡ true → ((j : ℕ) → a ≤ j → j < k → p j ≡ false)
    → lowest_from p a n ≡ Some k
lowest_is p a zero k from below passes others = absurd (omega arith)
lowest_is p a (suc n) k from below passes others =
    elim (cases_eq a k) [
      | inl e ↦ rw (ap p e ∙ passes) (ap (λ (z : ℕ). Some z) e)
      | inr apart ↦
          rw (others a (omega arith) (omega arith))
          (lowest_is p (a + 1) n k (omega arith) (omega arith) passes (λ j h i. others j (omega arith) i))
    ]

pub lowest_none_is : (p : ℕ → Bool) (a n : ℕ) → ((j : ℕ) → a ≤ j → j < a + n → p j ≡ false) → lowest_from p a n ≡ None
lowest_none_is p a zero others = refl
lowest_none_is p a (suc n) others =
    rw (others a (omega arith) (omega arith))
    (lowest_none_is p (a + 1) n (λ j h i. others j (omega arith) (omega arith)))

some_step : (b : Bool) (p : ℕ → Bool) (a n k : ℕ) → p a ≡ b
    → (lowest_from p (a + 1) n ≡ Some k → IsLowest p (a + 1) n k) → cond b (Some a) (lowest_from p (a + 1) n) ≡ Some k
    → IsLowest p a (suc n) k
some_step true p a n k e r h =
    let same : a ≡ k = cc in
    record {
      from = omega arith;
      below = omega arith;
      passes = ap p (sym same)
          ∙ e;
      lowest = λ j low high. absurd (omega arith);
    }
some_step false p a n k e r h =
    let s = r h in
    record {
      from = omega arith;
      below = omega arith;
      passes = s.passes;
      lowest = λ j low high. elim (cases_eq a j)
          [ inl same ↦ ap p (sym same) ∙ e | inr apart ↦ s.lowest j (omega arith) high ];
    }

none_step : (b : Bool) (p : ℕ → Bool) (a n j : ℕ) → p a ≡ b → (lowest_from p (a + 1) n ≡ None → a + 1 ≤ j → p j ≡ false)
    → cond b (Some a) (lowest_from p (a + 1) n) ≡ None → a ≤ j → p j ≡ false
none_step true p a n j e r h low = absurd cc
none_step false p a n j e r h low = elim (cases_eq a j)
    [ inl same ↦ ap p (sym same) ∙ e | inr apart ↦ r h (omega arith) ]

pub lowest_none : (p : ℕ → Bool) (a n : ℕ) → lowest_from p a n ≡ None → (j : ℕ) → a ≤ j → j < a + n → p j ≡ false
lowest_none p a zero h j low high = absurd (omega arith)
lowest_none p a (suc n) h j low high = none_step (p a) p a n j refl (λ g k. lowest_none p (a + 1) n g j k (omega arith))
    h low

pub lowest_some : (p : ℕ → Bool) (a n k : ℕ) → lowest_from p a n ≡ Some k → IsLowest p a n k
lowest_some p a zero k h = absurd cc
lowest_some p a (suc n) k h = some_step (p a) p a n k refl (λ g. lowest_some p (a + 1) n k g) h

-- ---- The path from a node to the root.

-- a parent is a node with this child, and higher
pub parent_above : (nodes : List Node) (j p : ℕ) → IsRising nodes → parent nodes j ≡ Some p → (j < p)
    × (p < length nodes) × (has_child (node_at nodes p) j ≡ true)
parent_above nodes j p rising h =
    let s = lowest_some (λ k. has_child (node_at nodes k) j) 0 (length nodes) p h in
    let up = rising p j s.passes in
    (up, omega arith, s.passes)

pub parent_is : (nodes : List Node) (j k : ℕ) → k < length nodes → has_child (node_at nodes k) j ≡ true
    → ((i : ℕ) → i < k → has_child (node_at nodes i) j ≡ false) → parent nodes j ≡ Some k
parent_is nodes j k within child others = lowest_is (λ i. has_child (node_at nodes i) j) 0 (length nodes) k
    (omega arith) (omega arith) child (λ i low high. others i high)

pub parent_none_is : (nodes : List Node) (j : ℕ) → ((i : ℕ) → i < length nodes → has_child (node_at nodes i) j ≡ false)
    → parent nodes j ≡ None
parent_none_is nodes j others = lowest_none_is (λ i. has_child (node_at nodes i) j) 0 (length nodes)
    (λ i low high. others i (omega arith))

-- no node from the end on has a parent
pub no_parent : (nodes : List Node) (j : ℕ) → IsRising nodes → length nodes ≤ j + 1 → parent nodes j ≡ None
no_parent nodes j rising above =
    lowest_none_is (λ k. has_child (node_at nodes k) j) 0 (length nodes)
    (λ k low high. elim (cases_Bool (has_child (node_at nodes k) j))
    [ inl yes_child ↦ absurd (let up = rising k j yes_child in omega arith) | inr none ↦ none ])

climb_top : (nodes : List Node) (up : ℕ → List ℕ) (j : ℕ) → IsRising nodes → length nodes ≤ j
    → climb_on up j (parent nodes j) ≡ j ∷ []
climb_top nodes up j rising above = rw (no_parent nodes j rising (omega arith)) refl

climb_more : (nodes : List Node) (n m j : ℕ) (o : Option ℕ) → ((p : ℕ) → o ≡ Some p → climb nodes n p ≡ climb nodes m p)
    → climb_on (climb nodes n) j o ≡ climb_on (climb nodes m) j o
climb_more nodes n m j None r = refl
climb_more nodes n m j (Some p) r = ap (λ (l : List ℕ). j ∷ l) (r p refl)

-- enough steps are enough
pub climb_enough : (nodes : List Node) → IsRising nodes → (n m j : ℕ) → length nodes ≤ n + j → length nodes ≤ m + j
    → climb nodes n j ≡ climb nodes m j
climb_enough nodes rising zero zero j h k = refl
climb_enough nodes rising zero (suc m) j h k = sym (climb_top nodes (climb nodes m) j rising (omega arith))
climb_enough nodes rising (suc n) zero j h k = climb_top nodes (climb nodes n) j rising (omega arith)
climb_enough nodes rising (suc n) (suc m) j h k =
    climb_more nodes n m j (parent nodes j)
    (λ p e. let up = (parent_above nodes j p rising e).0 in climb_enough nodes rising n m p (omega arith) (omega arith))

climb_rest : (nodes : List Node) (j : ℕ) (o : Option ℕ) → climb_on (climb nodes (length nodes)) j o
    ≡ j ∷ path_or_none nodes o
climb_rest nodes j None = refl
climb_rest nodes j (Some p) = refl

-- a path is its node and the parent's path
pub path_step : (nodes : List Node) (j : ℕ) → IsRising nodes → path_of nodes j ≡ j ∷ path_or_none nodes (parent nodes j)
path_step nodes j rising =
    climb_enough nodes rising (length nodes) (suc (length nodes)) j (omega arith) (omega arith)
    ∙ climb_rest nodes j (parent nodes j)

-- a step of the iterator
pub next_step : (nodes : List Node) (o p : Option ℕ) (l : List ℕ) (j : ℕ) → IsRising nodes
    → path_or_none nodes o ≡ l → o
    ≡ Some j → p ≡ parent nodes j → l ≡ j ∷ path_or_none nodes p
next_step nodes o p l j rising seen is up = sym seen ∙ rw (is, up) (path_step nodes j rising)

-- a tree's children have lower numbers
rising_node : (t : Tree) (k j : ℕ) (n : Node) → IsTree t → node_at t.nodes k ≡ n → has_child n j ≡ true → j < k
rising_node t k j (Leaf a) s e h = absurd cc
rising_node t k j (Trim c) s e h = let i = s.trim k c e in let low = i.lower in let same = eqb-true c j h in omega arith
rising_node t k j (Meet g d) s e h =
    let i = s.meet k g d e in
    let low = i.guard_lower in
    let low_side = i.side_lower in
    elim (or_cases (eqb g j) (eqb d j) h)
    [ inl x ↦ let same = eqb-true g j x in omega arith | inr x ↦ let same = eqb-true d j x in omega arith ]

pub rising_of : (t : Tree) → IsTree t → IsRising t.nodes
rising_of t s k j h = rising_node t k j (node_at t.nodes k) s refl h

pub frontier_here : (t : Tree) (j : ℕ) → IsTree t → is_out t.out j ≡ true → IsFrontier t j j
frontier_here t j s yes_out = rw (path_step t.nodes j (rising_of t s), yes_out) refl

pub frontier_up : (t : Tree) (j p : ℕ) → IsTree t → is_out t.out j ≡ false → parent t.nodes j ≡ Some p
    → find (λ k. is_out t.out k) (path_of t.nodes j) ≡ find (λ k. is_out t.out k) (path_of t.nodes p)
frontier_up t j p s off e = rw (path_step t.nodes j (rising_of t s), off, e) refl

pub up_within : (t : Tree) (j p : ℕ) → IsTree t → parent t.nodes j ≡ Some p → (j < p) × (p < length t.nodes)
up_within t j p s e = let u = parent_above t.nodes j p (rising_of t s) e in (u.0, u.1)

-- a step of the walk to the frontier
pub frontier_step : (u t : Tree) (nodes : List Node) (o : Option ℕ) (j p : ℕ) → u ≡ t → IsTree u → nodes ≡ u.nodes
    → is_out u.out j ≡ false → o ≡ parent nodes j → o ≡ Some p → (j < p) × (p < length t.nodes)
    × (find (λ k. is_out t.out k) (path_of t.nodes j) ≡ find (λ k. is_out t.out k) (path_of t.nodes p))
frontier_step u t nodes o j p same s seen off up is =
    let e : parent u.nodes j ≡ Some p = ap (λ (ns : List Node). parent ns j) (sym seen) ∙ sym up ∙ is in
    let w = up_within u j p s e in
    let f = frontier_up u j p s off e in
    subst (λ (t : Tree). (j < p) × (p < length t.nodes)
    × (find (λ k. is_out t.out k) (path_of t.nodes j) ≡ find (λ k. is_out t.out k) (path_of t.nodes p))) same
    (w.0, w.1, f)

-- ---- Group keys by the node's role.

-- a node with this child is its parent
pub parent_of_child : (t : Tree) (k j : ℕ) → IsTree t → has_child (node_at t.nodes k) j ≡ true → k < length t.nodes
    → parent t.nodes j ≡ Some k
parent_of_child t k j s child within =
    lowest_is (λ i. has_child (node_at t.nodes i) j) 0 (length t.nodes) k (omega arith) (omega arith) child
    (λ i from below. elim (cases_Bool (has_child (node_at t.nodes i) j))
    [ inl same ↦ absurd (let e = s.one_parent j i k same child in omega arith) | inr other ↦ other ])

-- a node with a child is a node
pub child_within : (nodes : List Node) (k j : ℕ) → has_child (node_at nodes k) j ≡ true → k < length nodes
child_within nodes k j h =
    elim (cases_lt k (length nodes)) [
      | inl low ↦ low
      | inr high ↦ absurd (false≢true (ap (λ (n : Node). has_child n j) (sym (get_or_past nodes k (Leaf 0) high)) ∙ h))
    ]

pub trim_child : (nodes : List Node) (k c : ℕ) → node_at nodes k ≡ Trim c → has_child (node_at nodes k) c ≡ true
trim_child nodes k c e = rw e (eq-eqb c c refl)

pub guard_child : (nodes : List Node) (k g d : ℕ) → node_at nodes k ≡ Meet g d → has_child (node_at nodes k) g ≡ true
guard_child nodes k g d e = rw (e, eq-eqb g g refl) refl

pub side_child : (nodes : List Node) (k g d : ℕ) → node_at nodes k ≡ Meet g d → has_child (node_at nodes k) d ≡ true
side_child nodes k g d e = rw (e, eq-eqb d d refl) (or-true (g == d))

key_child : (t : Tree) (k j : ℕ) (n : Node) → IsTree t → node_at t.nodes k ≡ n → has_child (node_at t.nodes k) j ≡ true
    → key_of t j ≡ key_under t.labels j k n
key_child t k j n s e h = rw (parent_of_child t k j s h (child_within t.nodes k j h), e) refl

-- the child of a trim is keyed by the trim's label
pub key_of_trim : (t : Tree) (k c : ℕ) → IsTree t → node_at t.nodes k ≡ Trim c → key_of t c ≡ label_at t.labels k
key_of_trim t k c s e = key_child t k c (Trim c) s e (trim_child t.nodes k c e)

-- a guard is keyed by its side's label
pub key_of_guard : (t : Tree) (k g d : ℕ) → IsTree t → node_at t.nodes k ≡ Meet g d → key_of t g ≡ label_at t.labels d
key_of_guard t k g d s e = key_child t k g (Meet g d) s e (guard_child t.nodes k g d e) ∙ rw (eq-eqb g g refl) refl

subset_same : (l : List ℕ) → subset l l ≡ true
subset_same l = subset_from l l (λ x. omega arith)

within_under : (t : Tree) (j k : ℕ) (n : Node) → IsTree t → node_at t.nodes k ≡ n → has_child n j ≡ true
    → subset (key_under t.labels j k n) (label_at t.labels j) ≡ true
within_under t j k (Leaf a) s e h = absurd cc
within_under t j k (Trim c) s e h = ap (λ (i : ℕ). subset (label_at t.labels k) (label_at t.labels i))
    (sym (eqb-true c j h)) ∙ (s.trim k c e).within
within_under t j k (Meet g d) s e h =
    elim (cases_eq g j) [
      | inl same ↦ rw (eq-eqb g j same)
          (ap (λ (i : ℕ). subset (label_at t.labels d) (label_at t.labels i)) (sym same) ∙ (s.meet k g d e).side)
      | inr apart ↦ rw (ne_eqb g j apart) (subset_same (label_at t.labels j))
    ]

within_by : (t : Tree) (j : ℕ) (o : Option ℕ) → IsTree t → parent t.nodes j ≡ o
    → subset (key_by t j o) (label_at t.labels j) ≡ true
within_by t j None s e = subset_same (label_at t.labels j)
within_by t j (Some k) s e = within_under t j k (node_at t.nodes k) s refl
    (parent_above t.nodes j k (rising_of t s) e).2

-- a key lies within the node's label
pub key_within : (t : Tree) (j : ℕ) (l : List ℕ) → IsTree t → l ≡ key_of t j → subset l (label_at t.labels j) ≡ true
key_within t j l s e = ap (λ (k : List ℕ). subset k (label_at t.labels j)) e ∙ within_by t j (parent t.nodes j) s refl

pub side_within : (t : Tree) (k g d : ℕ) → IsTree t → k < length t.nodes → Meet g d ≡ node_at t.nodes k
    → d < length t.nodes
side_within t k g d s within e = let i = (s.meet k g d (sym e)).side_lower in omega arith

pub parent_read : (t : Tree) (j : ℕ) (o : Option ℕ) → IsTree t → o ≡ parent t.nodes j
    → IfSome o (λ k. (j < k) × (k < length t.nodes))
parent_read t j None s e = tt
parent_read t j (Some k) s e = up_within t j k s (sym e)

pub key_read_trim : (t : Tree) (j k c : ℕ) (o : Option ℕ) (n : Node) (l : List ℕ) → o ≡ parent t.nodes j → o ≡ Some k
    → n ≡ node_at t.nodes k → n ≡ Trim c → l ≡ label_at t.labels k → l ≡ key_of t j
key_read_trim t j k c o n l up some at is own = rw (sym up ∙ some, sym at ∙ is) own

pub key_read_guard : (t : Tree) (j k g d : ℕ) (o : Option ℕ) (n : Node) (l : List ℕ) → o ≡ parent t.nodes j → o ≡ Some k
    → n ≡ node_at t.nodes k → n ≡ Meet g d → g ≡ j → l ≡ label_at t.labels d → l ≡ key_of t j
key_read_guard t j k g d o n l up some at is same own = rw (sym up ∙ some, sym at ∙ is, eq-eqb g j same) own

pub key_read_own : (t : Tree) (j : ℕ) (l : List ℕ) → l ≡ label_at t.labels j → subset l (label_at t.labels j) ≡ true
key_read_own t j l own = ap (λ (k : List ℕ). subset k (label_at t.labels j)) own ∙ subset_same (label_at t.labels j)

-- a node that has j as a child is its parent
pub told_parent : (u t : Tree) (j k : ℕ) (n : Node) (b : Bool) → u ≡ t → IsTree u → k < length u.nodes → n
    ≡ get_or u.nodes k n → b ≡ has_child n j → b ≡ true → parent t.nodes j ≡ Some k
told_parent u t j k n b same s within is tells has =
    subst (λ (v : Tree). parent v.nodes j ≡ Some k) same
    (parent_of_child u k j s
    (ap (λ (m : Node). has_child m j) (sym (is ∙ get_or_default u.nodes k n (Leaf 0) within)) ∙ sym tells ∙ has)
    within)

-- ---- Where a path enters `out`.

first_or : (k j : ℕ) (l : List ℕ) → 0 < has_bit k (j ∷ l) → (k ≡ j) ⊎ (0 < has_bit k l)
first_or k j l h = elim (cases_eq k j)
    [ inl e ↦ inl e | inr apart ↦ inr (let o = has_other k j l apart in omega arith) ]

some_of : (o : Option ℕ) → is_some o ≡ true → (p : ℕ) × (o ≡ Some p)
some_of None h = absurd cc
some_of (Some p) h = (p, refl)

-- the parent of a node in `out` is in `out`
pub out_up : (t : Tree) (j p : ℕ) → IsTree t → is_out t.out j ≡ true → parent t.nodes j ≡ Some p → is_out t.out p ≡ true
out_up t j p s here up =
    let u = parent_above t.nodes j p (rising_of t s) up in
    let late = leb-true t.second_stage p (sym (s.out_split p j u.2) ∙ here) in
    elim (cases_eq (p + 1) (length t.nodes)) [
      | inl last ↦ let i : p ≡ length t.nodes - 1 = omega arith in ap (λ (k : ℕ). is_out t.out k) i ∙ s.root_out
      | inr apart ↦
          let low = u.1 in
          let q = some_of (parent t.nodes p) (s.below p (omega arith)) in
          let v = parent_above t.nodes p q.0 (rising_of t s) q.1 in
          let high = v.0 in
          s.out_split q.0 p v.2 ∙ le-leb t.second_stage q.0 (omega arith)
    ]

-- the node k is in `out`, and isn't below j
record OutFrom (t : Tree) (j k : ℕ) : Type 0 where
  out : is_out t.out k ≡ true
  high : j ≤ k

out_here : (t : Tree) (j k : ℕ) → is_out t.out j ≡ true → k ≡ j → OutFrom t j k
out_here t j k here e = record { out = ap (λ (i : ℕ). is_out t.out i) e ∙ here; high = omega arith }

out_climb : (t : Tree) → IsTree t → (up : ℕ → List ℕ) (j k : ℕ) (o : Option ℕ) → parent t.nodes j ≡ o → is_out t.out j
    ≡ true
    → ((p : ℕ) → o ≡ Some p → 0 < has_bit k (up p) → OutFrom t p k) → 0 < has_bit k (climb_on up j o) → OutFrom t j k
out_climb t s up j k None e here r h = elim (first_or k j [] h)
    [ inl same ↦ out_here t j k here same | inr none ↦ absurd (omega arith) ]
out_climb t s up j k (Some p) e here r h =
    elim (first_or k j (up p) h) [
      | inl same ↦ out_here t j k here same
      | inr later ↦
          let q = r p refl later in
          let u = parent_above t.nodes j p (rising_of t s) e in
          record { out = q.out; high = (let a = q.high in let b = u.0 in omega arith) }
    ]

-- from a node in `out` on, the whole path is in `out`
out_on : (t : Tree) → IsTree t → (n j : ℕ) → is_out t.out j ≡ true → (k : ℕ) → 0 < has_bit k (climb t.nodes n j)
    → OutFrom t j k
out_on t s zero j here k h = elim (first_or k j [] h)
    [ inl same ↦ out_here t j k here same | inr none ↦ absurd (omega arith) ]
out_on t s (suc n) j here k h = out_climb t s (climb t.nodes n) j k (parent t.nodes j) refl here
    (λ p e m. out_on t s n p (out_up t j p s here e) k m) h

-- where the path from j enters `out` at f, the node k is on the right side of f
record Split (t : Tree) (j f k : ℕ) : Type 0 where
  high : j ≤ f
  side : is_out t.out k ≡ nat_le f k

split_out : (t : Tree) → IsTree t → (n j f k : ℕ) → is_out t.out j ≡ true → f ≡ j → 0 < has_bit k (climb t.nodes n j)
    → Split t j f k
split_out t s n j f k here e h =
    let o = out_on t s n j here k h in
    let up = o.high in
    record { high = omega arith; side = o.out ∙ sym (le-leb f k (omega arith)) }

split_below : (t : Tree) (j f k : ℕ) → is_out t.out j ≡ false → j < f → k ≡ j → Split t j f k
split_below t j f k off low e = record
    { high = omega arith; side = ap (λ (i : ℕ). is_out t.out i) e ∙ off ∙ sym (lt-leb f k (omega arith)) }

none_found : (b : Bool) (j f : ℕ) → b ≡ false → cond b (Some j) None ≡ Some f → ⊥
none_found true j f x y = absurd cc
none_found false j f x y = absurd cc

-- at a node that isn't in `out` the path goes on at its parent
split_climb : (t : Tree) → IsTree t → (up : ℕ → List ℕ) (j f k : ℕ) (o : Option ℕ) → parent t.nodes j ≡ o
    → is_out t.out j ≡ false
    → ((p m : ℕ) → o ≡ Some p → find (λ i. is_out t.out i) (up p) ≡ Some f → 0 < has_bit m (up p) → Split t p f m)
    → ((p : ℕ) → 0 < has_bit p (up p))
    → find (λ i. is_out t.out i) (climb_on up j o) ≡ Some f → 0 < has_bit k (climb_on up j o) → Split t j f k
split_climb t s up j f k None e off r first found h = absurd (none_found (is_out t.out j) j f off found)
split_climb t s up j f k (Some p) e off r first found h =
    let later = goes_on (is_out t.out j) off found in
    let u = parent_above t.nodes j p (rising_of t s) e in
    let low = u.0 in
    let top = r p p refl later (first p) in
    let high = top.high in
    elim (first_or k j (up p) h) [
      | inl same ↦ split_below t j f k off (omega arith) same
      | inr behind ↦ let q = r p k refl later behind in record { high = omega arith; side = q.side }
    ]
  where
    goes_on : (b : Bool) → b ≡ false → cond b (Some j) (find (λ i. is_out t.out i) (up p)) ≡ Some f
        → find (λ i. is_out t.out i) (up p) ≡ Some f
    goes_on true x y = absurd cc
    goes_on false x y = y

found_first : (p : ℕ → Bool) (j f : ℕ) (l : List ℕ) → p j ≡ true → find p (j ∷ l) ≡ Some f → f ≡ j
found_first p j f l here h = step (p j) here h
  where
    step : (b : Bool) → b ≡ true → cond b (Some j) (find p l) ≡ Some f → f ≡ j
    step true x y = (let e : j ≡ f = cc in sym e)
    step false x y = absurd cc

climb_first : (nodes : List Node) (n j : ℕ) → 0 < has_bit j (climb nodes n j)
climb_first nodes zero j = omega (arith, has_here j j [] refl)
climb_first nodes (suc n) j = first_on (climb nodes n) j (parent nodes j)
  where
    first_on : (up : ℕ → List ℕ) (j : ℕ) (o : Option ℕ) → 0 < has_bit j (climb_on up j o)
    first_on up j None = omega (arith, has_here j j [] refl)
    first_on up j (Some p) = omega (arith, has_here j j (up p) refl)

climb_out : (t : Tree) (n j f : ℕ) → is_out t.out j ≡ true → find (λ i. is_out t.out i) (climb t.nodes n j) ≡ Some f → f
    ≡ j
climb_out t zero j f here h = found_first (λ i. is_out t.out i) j f [] here h
climb_out t (suc n) j f here h = on (climb t.nodes n) (parent t.nodes j) h
  where
    on : (up : ℕ → List ℕ) (o : Option ℕ) → find (λ i. is_out t.out i) (climb_on up j o) ≡ Some f → f ≡ j
    on up None k = found_first (λ i. is_out t.out i) j f [] here k
    on up (Some p) k = found_first (λ i. is_out t.out i) j f (up p) here k

split_on : (t : Tree) → IsTree t → (n j f k : ℕ) → find (λ i. is_out t.out i) (climb t.nodes n j) ≡ Some f
    → 0 < has_bit k (climb t.nodes n j) → Split t j f k
split_on t s zero j f k found h =
    elim (cases_Bool (is_out t.out j)) [
      | inl here ↦ split_out t s zero j f k here (climb_out t zero j f here found) h
      | inr off ↦ absurd (none_found (is_out t.out j) j f off found)
    ]
split_on t s (suc n) j f k found h =
    elim (cases_Bool (is_out t.out j)) [
      | inl here ↦ split_out t s (suc n) j f k here (climb_out t (suc n) j f here found) h
      | inr off ↦ split_climb t s (climb t.nodes n) j f k (parent t.nodes j) refl off
          (λ p m e a b. split_on t s n p f m a b) (λ p. climb_first t.nodes n p) found h
    ]

-- the first node in `out` splits the path
pub frontier_splits : (t : Tree) (j f : ℕ) → IsTree t → IsFrontier t j f → SplitsPath t j f
frontier_splits t j f s h k on =
    (split_on t s (length t.nodes) j f k h (from_true (member k (path_of t.nodes j)) on)).side

-- the same for the node at which the walk stops
pub walk_splits : (u t : Tree) (j f : ℕ) (b : Bool) → u ≡ t → IsTree u → f < length t.nodes → b
    ≡ slice_index_or u.out f b → b ≡ true
    → find (λ k. is_out t.out k) (path_of t.nodes j) ≡ find (λ k. is_out t.out k) (path_of t.nodes f) → SplitsPath t j f
walk_splits u t j f b same s within read out up =
    let tree = subst IsTree same s in
    let here : b ≡ slice_index_or t.out f b = read ∙ ap (λ (t : Tree). slice_index_or t.out f b) same in
    let is : b ≡ is_out t.out f = get_or_read t.out f b (let m = tree.marked in omega arith) here false in
    frontier_splits t j f tree (up ∙ frontier_here t f tree (sym is ∙ out))
