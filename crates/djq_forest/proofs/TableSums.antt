-- Sums over the entries of a table are sums over the slots of its knot.
use Rattle.std.specs.Prelude.{◌≡◌, ℕ, suc, ◌+◌, Bool, true, false, cond, ◌&&◌}
use Rattle.std.specs.Prelude.{List, [], ◌∷◌, length, slice_index_or, Option, Some, None, is_some}
use Rattle.std.proofs.Common.{refl, sym, ◌∙◌, ap, ap₂, arith}
use Rattle.djq_hypergraph.specs.Hypergraph.{one}
use Rattle.djq_tree.specs.declared.node.Node.{Node}
use Rattle.djq_tree.specs.Tree.{Tree, node_at}
use Rattle.djq_forest.specs.Tuple.{same_tuple, projection}
use Rattle.djq_forest.specs.Forest.{Forest, nth_knot, slot_at, tuple_cells, entry_tuple, has_entry}
use Rattle.djq_forest.specs.Reducts.{TableEntry, support_sum, tuple_count, group_count}
use Rattle.djq_forest.specs.Fold.{Fold, knot_of, needs_of}
use Rattle.djq_forest.specs.Fold.{meets_needs, supports_at, entries_from, node_entries}
use Rattle.djq_forest.proofs.Sums.{over, over_same, over_front}

pub summed : (TableEntry → ℕ) → List TableEntry → ℕ
summed h [] = 0
summed h (e ∷ es) = h e + summed h es

pub supports_sum : (es : List TableEntry) (w : List ℕ) → support_sum es w ≡ summed (λ e. cond (same_tuple e.tuple w) e.supports 0) es
unfolding support_sum summed
supports_sum [] w = refl
supports_sum (e ∷ es) w = ap (λ (n : ℕ). cond (same_tuple e.tuple w) e.supports 0 + n) (supports_sum es w)

pub count_sum : (es : List TableEntry) (w : List ℕ) → tuple_count es w ≡ summed (λ e. one (same_tuple e.tuple w)) es
unfolding tuple_count summed
count_sum [] w = refl
count_sum (e ∷ es) w = ap (λ (n : ℕ). one (same_tuple e.tuple w) + n) (count_sum es w)

pub group_sum : (key : List ℕ) (es : List TableEntry) (w : List ℕ) → group_count key es w
    ≡ summed (λ e. one (same_tuple (projection key e.tuple) w)) es
unfolding group_count summed
group_sum key [] w = refl
group_sum key (e ∷ es) w = ap (λ (n : ℕ). one (same_tuple (projection key e.tuple) w) + n) (group_sum key es w)

-- what slot z adds to a sum, where this lies in it
abbrev pub weight : (TableEntry → ℕ) → Forest → Node → List ℕ → ℕ → Option (List ℕ) → ℕ
weight h f n ns z None = 0
weight h f n ns z (Some u) = cond (meets_needs f ns z) (h (record { slot = z; tuple = u; supports = supports_at f n ns z })) 0

pub summed_if : (h : TableEntry → ℕ) (b : Bool) (e : TableEntry) (es : List TableEntry) → summed h (cond b (e ∷ es) es)
    ≡ cond b (h e) 0 + summed h es
unfolding summed
summed_if h true e es = refl
summed_if h false e es = omega arith

pub entries_sum : (h : TableEntry → ℕ) (f : Forest) (n : Node) (ns : List ℕ) (x : ℕ) (us : List (Option (List ℕ)))
    → summed h (entries_from f n ns x us) ≡ over (λ i. weight h f n ns (x + i) (slice_index_or us i None)) (length us)
unfolding summed
entries_sum h f n ns x [] = refl
entries_sum h f n ns x (None ∷ us) =
    let rest = entries_sum h f n ns (suc x) us in
    let moved = over_same (λ i. weight h f n ns (suc x + i) (slice_index_or us i None))
    (λ i. weight h f n ns (x + suc i) (slice_index_or us i None)) (length us)
    (λ i l. ap (λ (z : ℕ). weight h f n ns z (slice_index_or us i None)) (omega arith)) in
    let front = over_front (λ i. weight h f n ns (x + i) (slice_index_or (None ∷ us) i None)) (length us) in
    omega (arith, rest, moved, front)
entries_sum h f n ns x (Some u ∷ us) =
    let e : TableEntry = record { slot = x; tuple = u; supports = supports_at f n ns x } in
    summed_if h (meets_needs f ns x) e (entries_from f n ns (suc x) us)
    ∙ ap₂ (λ (a b : ℕ). a + b) (ap (λ (z : ℕ). weight h f n ns z (Some u)) (omega arith))
    (entries_sum h f n ns (suc x) us
    ∙ over_same (λ i. weight h f n ns (suc x + i) (slice_index_or us i None))
    (λ i. weight h f n ns (x + suc i) (slice_index_or us i None)) (length us)
    (λ i l. ap (λ (z : ℕ). weight h f n ns z (slice_index_or us i None)) (omega arith)))
    ∙ sym (over_front (λ i. weight h f n ns (x + i) (slice_index_or (Some u ∷ us) i None)) (length us))

-- how many slots the knot k has
abbrev pub slots_of : Forest → ℕ → ℕ
slots_of f k = length (nth_knot f.knots k).tuples

pub table_sum : (h : TableEntry → ℕ) (t : Tree) (f : Forest) (o : Fold) (k : ℕ) → summed h (node_entries t f o k)
    ≡ over (λ i. weight h f (node_at t.nodes k) (needs_of o k) i (slot_at f.knots (knot_of o k) i)) (slots_of f (knot_of o k))
table_sum h t f o k =
    entries_sum h f (node_at t.nodes k) (needs_of o k) 0 (nth_knot f.knots (knot_of o k)).tuples
    ∙ over_same (λ i. weight h f (node_at t.nodes k) (needs_of o k) (0 + i) (slot_at f.knots (knot_of o k) i))
    (λ i. weight h f (node_at t.nodes k) (needs_of o k) i (slot_at f.knots (knot_of o k) i)) (slots_of f (knot_of o k))
    (λ i l. ap (λ (z : ℕ). weight h f (node_at t.nodes k) (needs_of o k) z (slot_at f.knots (knot_of o k) i)) (omega arith))

-- whether the entry in slot x of the knot k meets_needs these needs, and its tuple the test
abbrev pub hit : Forest → ℕ → List ℕ → (List ℕ → Bool) → ℕ → Bool
hit f k ns test x = has_entry f.knots k x && (meets_needs f ns x && test (entry_tuple f.knots k x))

-- how many do
abbrev pub standing : Forest → ℕ → List ℕ → (List ℕ → Bool) → ℕ
standing f k ns test = over (λ x. one (hit f k ns test x)) (slots_of f k)

pub one_both : (a b : Bool) → cond a (one b) 0 ≡ one (a && b)
one_both true b = refl
one_both false b = refl

pub weight_hit : (test : List ℕ → Bool) (f : Forest) (n : Node) (ns : List ℕ) (z : ℕ) (v : Option (List ℕ))
    → weight (λ e. one (test e.tuple)) f n ns z v ≡ one (is_some v && (meets_needs f ns z && test (tuple_cells v)))
weight_hit test f n ns z None = refl
weight_hit test f n ns z (Some u) = one_both (meets_needs f ns z) (test u)

pub tested_sum : (test : List ℕ → Bool) (t : Tree) (f : Forest) (o : Fold) (k : ℕ)
    → summed (λ e. one (test e.tuple)) (node_entries t f o k) ≡ standing f (knot_of o k) (needs_of o k) test
tested_sum test t f o k =
    table_sum (λ e. one (test e.tuple)) t f o k
    ∙ over_same _ (λ x. one (hit f (knot_of o k) (needs_of o k) test x)) (slots_of f (knot_of o k))
    (λ i l. weight_hit test f (node_at t.nodes k) (needs_of o k) i (slot_at f.knots (knot_of o k) i))

pub count_is : (t : Tree) (f : Forest) (o : Fold) (k : ℕ) (w : List ℕ)
    → tuple_count (node_entries t f o k) w ≡ standing f (knot_of o k) (needs_of o k) (λ u. same_tuple u w)
count_is t f o k w = count_sum (node_entries t f o k) w ∙ tested_sum (λ u. same_tuple u w) t f o k

pub group_is : (key : List ℕ) (t : Tree) (f : Forest) (o : Fold) (k : ℕ) (w : List ℕ)
    → group_count key (node_entries t f o k) w ≡ standing f (knot_of o k) (needs_of o k) (λ u. same_tuple (projection key u) w)
group_is key t f o k w = group_sum key (node_entries t f o k) w ∙ tested_sum (λ u. same_tuple (projection key u) w) t f o k

pub one_weight : (a b : Bool) (m : ℕ) → m ≡ 1 → cond a (cond b m 0) 0 ≡ cond a (one b) 0
one_weight true true m h = h
one_weight true false m h = refl
one_weight false b m h = refl

pub one_at : (f : Forest) (m : Node) (ns : List ℕ) (w : List ℕ) (i : ℕ) (v : Option (List ℕ)) → supports_at f m ns i ≡ 1
    → weight (λ e. cond (same_tuple e.tuple w) e.supports 0) f m ns i v ≡ weight (λ e. one (same_tuple e.tuple w)) f m ns i v
one_at f m ns w i None h = refl
one_at f m ns w i (Some u) h = one_weight (meets_needs f ns i) (same_tuple u w) (supports_at f m ns i) h

-- a node whose tuples have one support each
pub one_support : (t : Tree) (f : Forest) (o : Fold) (k : ℕ) (n : Node) (w : List ℕ) → node_at t.nodes k ≡ n
    → ((x : ℕ) → supports_at f n (needs_of o k) x ≡ 1) → support_sum (node_entries t f o k) w ≡ tuple_count (node_entries t f o k) w
one_support t f o k n w is ones =
    let K = knot_of o k in
    let ns = needs_of o k in
    supports_sum (node_entries t f o k) w ∙ table_sum (λ e. cond (same_tuple e.tuple w) e.supports 0) t f o k
    ∙ over_same _ _ (slots_of f K) (λ i l. one_at f (node_at t.nodes k) ns w i (slot_at f.knots K i)
    (ap (λ (m : Node). supports_at f m ns i) is ∙ ones i))
    ∙ sym (table_sum (λ e. one (same_tuple e.tuple w)) t f o k) ∙ sym (count_sum (node_entries t f o k) w)
