-- How much a refused update counts, by rooms, and over equal meets.
use Rattle.std.proofs.Common.{◌≡◌, Bool, ℕ, zero, suc, ◌+◌, ◌*◌, ◌<◌, ◌≤◌, List, ◌∷◌, ◌++◌, length, take, drop, refl}
use Rattle.std.proofs.Common.{ap, subst, sym, ◌∙◌, arith, inl, inr, mul-le-mul_right, ◌≢◌, true, [], ◌-◌}
use Rattle.std.proofs.lemmas.Bool.{cases_eq, cases_lt, cases_Bool, ne_eqb, eqb-true, false≢true}
use Rattle.std.specs.Prelude.{◌==◌}
use Rattle.djq_index.specs.Tuple.{same, pick, one_if}
use Rattle.djq_index.specs.Entries.{Entry, supports_of, count_of, group_of, group_size}
use Rattle.djq_index.specs.Changes.{InsertedAs}
use Rattle.djq_index.specs.Table.{Table, AreWide}
use Rattle.djq_index.proofs.Tuples.{same_cases, one_le, one_other, is_same, one_same, one_true, cnt_cons, length_grp}
use Rattle.djq_index.proofs.Tuples.{cnt_supp, there, supp_none}
use Rattle.djq_index.proofs.Groups.{inserted_length}
use Rattle.djq_tree.specs.declared.node.Node.TheVariants.{Trim, Meet, Leaf}
use Rattle.djq_tree.specs.declared.node.Node.{Node}
use Rattle.djq_tree.specs.Tree.{Tree, IsTree, node_at, has_child}
use Rattle.djq_tree.specs.Flat.{HasEqualMeets}
use Rattle.djq_tree.specs.Labels.{label_at}
use Rattle.djq_tree.proofs.Nodes.{not_trims_of}
use Rattle.djq_tree.proofs.Paths.{child_within, key_of_guard}
use Rattle.djq_reduct.specs.Tables.{entries_at, key_at, table_at, width_at}
use Rattle.djq_reduct.specs.Reducts.{IsReducts, IsFamily, AreReduced, IsReductOf}
use Rattle.djq_reduct.specs.Columns.{columns}
use Rattle.djq_reduct.specs.Marks.{path_at, on_path, IsOff}
use Rattle.djq_reduct.proofs.Assignments.{entries_past, meet_law, trim_law, simple_of, pick_itself}
use Rattle.djq_reduct.proofs.Paths.{path_on, path_off, path_zero}
use Rattle.djq_propagate.specs.Sizes.{size, AreAtMost}
use Rattle.djq_propagate.specs.Updates.{HasAtMost, paths}
use Rattle.djq_propagate.specs.Walks.{ChangedOneTable, ChangedOnlyAt, IsParentOf, IsGrown}
use Rattle.djq_propagate.proofs.Families.{once, apart_of, tuples_same, now_family, same_keys, guard_has, side_has}
use Rattle.djq_propagate.proofs.Families.{ready_up, agree_from, lower_of}
use Rattle.djq_propagate.proofs.PathMarks.{group_once, group_has, take_le, cut_new, off_same}
use Rattle.djq_propagate.proofs.Gains.{law_of, same_up, meet_high, side_absent}
use Rattle.djq_propagate.proofs.Costs.{length_even, length_less, product_some, trim_less, meet_less, node_sized, part}
use Rattle.djq_propagate.proofs.Costs.{whole_size, both_kinds, sized, holds}
use Rattle.djq_propagate.proofs.Updates.{both}
use Rattle.djq_propagate.proofs.Marks.{times_turn, other_off, second_some, or_right}
use Rattle.djq_propagate.proofs.Walks.{trim_same}
use Rattle.djq_propagate.proofs.Touches.{cut_length, take_zero}

-- ---- How much a refused update counts: for each table at most nine times what it has room for.

-- the same supports are the same size
same_part : (ts us : List Table) → ((i : ℕ) → length (entries_at us i) ≡ length (entries_at ts i)) → (k : ℕ) → part us k
    ≡ part ts k
unfolding part
same_part ts us h zero = refl
same_part ts us h (suc k) = omega (arith, same_part ts us h k, h k)

pub same_size : (t : Tree) (ts us : List Table) → IsFamily t ts → IsFamily t us
    → ((i : ℕ) (v : List ℕ) → supports_of (entries_at us i) v ≡ supports_of (entries_at ts i) v) → size us ≡ size ts
same_size t ts us f g h =
    let lengths : (i : ℕ) → length (entries_at us i)
    ≡ length (entries_at ts i) =
    (λ (i : ℕ). length_even (entries_at us i) (entries_at ts i) (tuples_same t ts us f g i (h i))) in
    whole_size us ∙ ap (λ (k : ℕ). part us k) (g.long ∙ sym f.long) ∙ same_part ts us lengths (length ts)
    ∙ sym (whole_size ts)

-- where there is room for a tuple in one table, there is in all together
next_row : (k n : ℕ) → suc k * n ≡ k * n + n
next_row k n = omega arith

most_part : (ts : List Table) (n : ℕ) → AreAtMost ts n → (k : ℕ) → part ts k ≤ k * n
unfolding part
most_part ts n h zero = omega arith
most_part ts n h (suc k) = omega (arith, most_part ts n h k, h.each k, next_row k n)

room_part : (ts : List Table) (n j : ℕ) → AreAtMost ts n → length (entries_at ts j) < n → (k : ℕ) → j < k
    → part ts k + 1 ≤ k * n
unfolding part
room_part ts n j h room zero less = absurd (omega arith)
room_part ts n j h room (suc k) less =
    elim (cases_eq k j) [
      | inl here ↦ (let r : length (entries_at ts k) < n = subst (λ (i : ℕ). length (entries_at ts i) < n) (sym here)
          room in omega (arith, most_part ts n h k, r, next_row k n))
      | inr apart ↦ omega (arith, room_part ts n j h room k (omega arith), h.each k, next_row k n)
    ]

pub room_size : (t : Tree) (ts : List Table) (n j : ℕ) → IsFamily t ts → j < length t.nodes → AreAtMost ts n
    → length (entries_at ts j) < n → size ts + 1 ≤ n * length t.nodes
room_size t ts n j f within h room =
    let long = f.long in
    let r = room_part ts n j h room (length ts) (omega arith) in
    let e : length ts * n ≡ length t.nodes * n = ap (λ (k : ℕ). k * n) long in
    omega (arith, whole_size ts, times_turn (length t.nodes) n)

-- a tuple comes to a table with room
pub most_more : {m : Bool} (old new : List Table) (n j : ℕ) (u : List ℕ) → ChangedOneTable old new j
    → InsertedAs m (key_at old j) (entries_at old j) (entries_at new j) u → AreAtMost old n
    → length (entries_at old j) < n → AreAtMost new n
most_more {m} old new n j u c i h room = record {
  each = λ k. elim (cases_eq k j) [
    | inl here ↦ subst (λ (x : ℕ). length (entries_at new x) ≤ n) (sym here)
        (omega (arith, inserted_length (key_at old j) (entries_at old j) (entries_at new j) u i))
    | inr apart ↦ omega (arith, ap (λ (es : List Entry). length es) (c.others k apart), h.each k)
  ];
}

-- then there is room above: at a trim, at a guard's meet
pub trim_fits : {m : Bool} (t : Tree) (was now : List Table) (j k n : ℕ) (u : List ℕ) → ChangedOnlyAt t was now j
    → InsertedAs m (key_at was j) (entries_at was j) (entries_at now j) u → IsParentOf t k (Trim j) j
    → length (entries_at now j) ≤ n → length (entries_at now k) < n
trim_fits {m} t was now j k n u b i x h =
    omega (
      arith,
      ap (λ (es : List Entry). length es) (same_up t was now j k (Trim j) b x),
      trim_less t was j k b.ready.family (law_of t was now j k (Trim j) b x),
      inserted_length (key_at was j) (entries_at was j) (entries_at now j) u i,
      h,
    )

pub guard_fits : {m : Bool} (t : Tree) (was now : List Table) (j s k n : ℕ) (u : List ℕ) → ChangedOnlyAt t was now j
    → InsertedAs m (key_at was j) (entries_at was j) (entries_at now j) u → IsParentOf t k (Meet j s) j
    → length (entries_at now j) ≤ n → length (entries_at now k) < n
guard_fits {m} t was now j s k n u b i x h =
    omega (
      arith,
      ap (λ (es : List Entry). length es) (same_up t was now j k (Meet j s) b x),
      meet_less t was j s k b.ready.family (law_of t was now j k (Meet j s) b x),
      inserted_length (key_at was j) (entries_at was j) (entries_at now j) u i,
      h,
    )

-- tables are no longer than those below them
over : (t : Tree) (ts : List Table) (n from : ℕ) → IsFamily t ts → AreReduced t ts (from + 1) → t.leaves ≤ from
    → ((i : ℕ) → i ≤ from → length (entries_at ts i) ≤ n) → (m k : ℕ) → k < m → length (entries_at ts k) ≤ n
over t ts n from f r high low zero k less = absurd (omega arith)
over t ts n from f r high low (suc m) k less =
    elim (cases_lt from k) [
      | inl above ↦ elim (cases_lt k (length t.nodes)) [
        | inl within ↦ node_sized t ts n k (node_at t.nodes k) f refl (r.at k (omega arith) within)
            (λ j leaf. low j (omega arith)) within (λ i under. over t ts n from f r high low m i (omega arith))
        | inr past ↦ (let l = f.long in omega
            (arith, ap (λ (es : List Entry). length es) (entries_past ts k (omega arith))))
      ]
      | inr rest ↦ low k (omega arith)
    ]

-- at a side's meet, for the next one of the guard's group
pub next_fits : {m : Bool} (t : Tree) (was now mid : List Table) (g j k i : ℕ) (u : List ℕ) (e : Entry)
    → ChangedOnlyAt t was now j → InsertedAs m (key_at was j) (entries_at was j) (entries_at now j) u
    → IsParentOf t k (Meet g j) j
    → IsGrown t now mid k (take i (group_of (key_at now g) (entries_at now g) u)) → group_of (key_at now g)
    (entries_at now g) u
    ≡ take i (group_of (key_at now g) (entries_at now g) u) ++ e ∷ drop (i + 1) (group_of (key_at now g)
    (entries_at now g) u)
    → length (entries_at mid k) + 1 ≤ length (entries_at now g)
next_fits {m} t was now mid g j k i u e b ins x grown cut = let l = length_less (e ∷ entries_at mid k)
    (entries_at now g) within in omega arith
  where
    guards : entries_at now g ≡ entries_at was g
    guards = b.changed.others g (b.ready.family.is_tree.meet k g j x.node).apart

    from_was : (v : List ℕ) → 0 < supports_of (entries_at now k) v → 0 < count_of (entries_at now g) v
    from_was v some =
        let up : supports_of (entries_at now k) v
        ≡ supports_of (entries_at was k) v = ap (λ (es : List Entry). supports_of es v)
        (same_up t was now j k (Meet g j) b x) in
        let law = meet_law (Meet g j) g j was k refl (law_of t was now j k (Meet g j) b x) v in
        let p = product_some (count_of (entries_at was g) v) (count_of (entries_at was j) (pick (key_at was g) v))
        (omega arith)
        in
        omega (arith, ap (λ (es : List Entry). count_of es v) guards)

    old_ones : (v : List ℕ) → 0 < count_of (entries_at mid k) v → 0 < count_of (entries_at now g) v
    old_ones v some =
        let s = cnt_supp (entries_at mid k) v (grown.family.supported k) some in
        let c = grown.came v in
        elim (cases_lt 0 (supports_of (entries_at now k) v)) [
          | inl before ↦ from_was v before
          | inr none ↦ (let part = take_le (group_of (key_at now g) (entries_at now g) u) i v in
              (group_has (key_at now g) (entries_at now g) u v (omega arith)).0)
        ]

    within : (v : List ℕ) → count_of (e ∷ entries_at mid k) v ≤ count_of (entries_at now g) v
    within v =
        let split = cnt_cons e (entries_at mid k) v in
        let most = once t mid grown.family k v in
        elim (same_cases e.tuple v) [
          | inl here ↦
              let c = cut_new (group_of (key_at now g) (entries_at now g) u) i e
              (λ w. group_once (key_at now g) (entries_at now g) u w (apart_of t now (now_family t was now j b) g))
              cut in
              let second = c.1 in
              let has : 0 < count_of (entries_at now g) e.tuple =
              (group_has (key_at now g) (entries_at now g) u e.tuple (omega arith)).0 in
              let there : 0 < count_of (entries_at now g) v = subst (λ (w : List ℕ). 0 < count_of (entries_at now g)
              w) here has
              in
              let none : count_of (entries_at mid k) v
              ≡ 0 = subst (λ (w : List ℕ). count_of (entries_at mid k) w ≡ 0) here
              (side_absent t was now mid g j k i u e b ins x grown cut) in
              omega (arith, one_le (same e.tuple v))
          | inr other ↦
              let zero_one = one_other e.tuple v other in
              elim (cases_lt 0 (count_of (entries_at mid k) v)) [
                | inl some ↦ (let there = old_ones v some in omega arith)
                | inr none ↦ omega arith
              ]
        ]

pub side_fits : {m : Bool} (t : Tree) (was now mid : List Table) (g j k i n : ℕ) (u : List ℕ) (e : Entry)
    → ChangedOnlyAt t was now j → InsertedAs m (key_at was j) (entries_at was j) (entries_at now j) u
    → IsParentOf t k (Meet g j) j
    → IsGrown t now mid k (take i (group_of (key_at now g) (entries_at now g) u)) → group_of (key_at now g)
    (entries_at now g) u
    ≡ take i (group_of (key_at now g) (entries_at now g) u) ++ e ∷ drop (i + 1) (group_of (key_at now g)
    (entries_at now g) u)
    → AreAtMost now n → (length (entries_at mid k) < n) × AreAtMost mid n
side_fits {m} t was now mid g j k i n u e b ins x grown cut h =
    let here = next_fits t was now mid g j k i u e b ins x grown cut in
    let most = h.each g in
    let low : (y : ℕ) → y ≤ k → length (entries_at mid y) ≤ n = (λ (y : ℕ) (less : y ≤ k). elim (cases_eq y k) [
      | inl same_one ↦ subst (λ (z : ℕ). length (entries_at mid z) ≤ n) (sym same_one) (omega arith)
      | inr apart ↦ omega (arith, ap (λ (es : List Entry). length es) (grown.low y (omega arith)), h.each y)
    ]) in (
      omega arith,
      record {
        each = λ y. over t mid n k grown.family grown.reduced
            (meet_high t k g j b.ready.family.is_tree x.node) low (suc y) y (omega arith);
      },
    )

-- what a refusal counts, where some tuples of a group had come
pub side_bounded : (t : Tree) (now mid after last : List Table) (b x y z w : ℕ) → IsFamily t now → IsFamily t mid
    → IsFamily t after → IsFamily t last
    → ((i : ℕ) (v : List ℕ) → supports_of (entries_at after i) v ≡ supports_of (entries_at mid i) v)
    → ((i : ℕ) (v : List ℕ) → supports_of (entries_at last i) v ≡ supports_of (entries_at now i) v)
    → y + 4 * size now ≤ x + 1 + 4 * size mid → z + 9 * size mid ≤ y + 9 * b
    → w + 5 * size last ≤ z + 1 + 5 * size after → w + 9 * size now ≤ x + 7 + 9 * b
side_bounded t now mid after last b x y z w f g h k stays back first second third =
    let p = same_size t mid after g h stays in
    let q = same_size t now last f k back in
    omega arith

-- and what that is for an update, by the sizes of leaves
pub few_nodes : (t : Tree) → IsTree t → length t.nodes ≤ 2 * paths t
few_nodes t s = omega (arith, both_kinds t.nodes, not_trims_of t s)

pub spread : (P n : ℕ) → 2 * P * n ≡ 2 * (P * n)
spread P n = omega arith

pub put_bounded : (t : Tree) (old : List Table) (a n x z : ℕ) → IsReducts (both t old) → HasAtMost (both t old) n
    → length (entries_at old a) < n
    → ((m : ℕ) → AreAtMost old m → length (entries_at old a) < m → z + 9 * size old ≤ x + 9 * (m * length t.nodes))
    → z ≤ x + 18 * (paths t * n)
put_bounded t old a n x z r few room h =
    let all = sized t old n r few in
    let first = h n (record { each = all }) room in
    let m = mul-le-mul_right n (few_nodes t r.family.is_tree) in
    omega (arith, times_turn (length t.nodes) n, spread (paths t) n)

-- ---- Over equal meets the reducts of one tree differ at each node by a tuple at most, where their leaves do at one.

-- ---- a guard's key has its whole tuple

wide_tuple : (width : ℕ) (es : List Entry) (v : List ℕ) → AreWide width es → 0 < count_of es v → length v ≡ width
unfolding AreWide count_of
wide_tuple width [] v h some = absurd (omega arith)
wide_tuple width (e ∷ es) v h some =
    elim (same_cases e.tuple v) [
      | inl here ↦ ap (λ (u : List ℕ). length u) (sym here) ∙ h.0
      | inr other ↦ wide_tuple width es v h.1 (omega (arith, one_other e.tuple v other))
    ]

tuple_width : (t : Tree) (ts : List Table) (j : ℕ) (v : List ℕ) → IsFamily t ts → j < length t.nodes
    → 0 < count_of (entries_at ts j) v → length v ≡ length (label_at t.labels j)
unfolding entries_at width_at
tuple_width t ts j v f within some = wide_tuple (table_at ts j).width (table_at ts j).entries v (f.sound j).wide some
    ∙ (f.keyed j within).width

pub whole_key : (t : Tree) (ts : List Table) (k g d : ℕ) (v : List ℕ) → HasEqualMeets t → IsFamily t ts
    → node_at t.nodes k ≡ Meet g d → k < length t.nodes → 0 < count_of (entries_at ts g) v → pick (key_at ts g) v ≡ v
whole_key t ts k g d v meets f e within some =
    let low = (f.is_tree.meet k g d e).guard_lower in
    let here : g < length t.nodes = omega arith in
    let l = label_at t.labels g in
    ap (λ (ks : List ℕ). pick ks v)
    ((f.keyed g here).key ∙ ap (columns l) (key_of_guard t k g d f.is_tree e ∙ meets.equal k g d e))
    ∙ pick_itself l v (simple_of l (f.is_tree.sets g).rising) (tuple_width t ts g v f here some)

many_whole : (ks : List ℕ) (es : List Entry) (u : List ℕ) → ((v : List ℕ) → 0 < count_of es v → pick ks v ≡ v)
    → group_size ks es u
    ≡ count_of es u
unfolding group_size count_of
many_whole ks [] u h = refl
many_whole ks (e ∷ es) u h =
    let here : pick ks e.tuple ≡ e.tuple = h e.tuple (omega (arith, one_same e.tuple)) in
    omega (arith, ap (λ (w : List ℕ). one_if (same w u)) here, many_whole ks es u (λ v some. h v (omega arith)))

-- so its groups have one tuple
pub group_single : (t : Tree) (ts : List Table) (k g d : ℕ) (u : List ℕ) → HasEqualMeets t → IsFamily t ts
    → node_at t.nodes k ≡ Meet g d → k < length t.nodes → group_size (key_at ts g) (entries_at ts g) u ≤ 1
group_single t ts k g d u meets f e within = omega (
  arith,
  many_whole (key_at ts g) (entries_at ts g) u (λ v some. whole_key t ts k g d v meets f e within some),
  once
      t ts f g u,
)

-- ---- one tuple more

-- what fs has and es lacks is one tuple at most
pub record OneMore (es fs : List Entry) : Type 0 where
  pub tuple : List ℕ
  pub only : (v : List ℕ) → 0 < count_of fs v → count_of es v ≡ 0 → v ≡ tuple

none_more : (es fs : List Entry) → ((v : List ℕ) → count_of fs v ≡ count_of es v) → OneMore es fs
none_more es fs h = record { tuple = []; only = λ v some none. absurd (let e = h v in omega arith) }

pub one_longer : (es fs : List Entry) → OneMore es fs → ((v : List ℕ) → count_of fs v ≤ 1) → length fs ≤ length es + 1
one_longer es [] o most = omega arith
one_longer es (f ∷ fs) o most =
    let extra : Entry = record { at = f.at; tuple = o.tuple; supports = f.supports; marked = f.marked } in
    let l = length_less (f ∷ fs) (extra ∷ es)
    (λ v. let c = cnt_cons extra es v in let m = most v in
    elim (cases_lt 0 (count_of es v)) [
      | inl before ↦ omega arith
      | inr none ↦ elim (cases_lt 0 (count_of (f ∷ fs) v)) [
        | inr absent ↦ omega arith
        | inl some ↦ let e = one_true (same o.tuple v) (is_same o.tuple v (sym (o.only v some (omega arith)))) in omega
            arith
      ]
    ]) in
    omega arith

-- a tuple is in its own group
pub in_group : (ks : List ℕ) (es : List Entry) (u : List ℕ) → count_of es u ≤ group_size ks es (pick ks u)
unfolding count_of group_size
in_group ks [] u = omega arith
in_group ks (e ∷ es) u =
    let r = in_group ks es u in
    elim (same_cases e.tuple u) [
      | inl here ↦ omega (
        arith,
        one_le (same e.tuple u),
        one_true (same (pick ks e.tuple) (pick ks u))
            (is_same (pick ks e.tuple) (pick ks u) (ap (pick ks) here)),
      )
      | inr other ↦ omega (arith, one_other e.tuple u other)
    ]

left_zero : (a b : ℕ) → a * b ≡ 0 → 0 < b → a ≡ 0
left_zero zero b h some = refl
left_zero (suc a) b h some = absurd (omega arith)

right_zero : (a b : ℕ) → a * b ≡ 0 → 0 < a → b ≡ 0
right_zero a zero h some = refl
right_zero zero (suc b) h some = absurd (omega arith)
right_zero (suc a) (suc b) h some = absurd (omega arith)

module _ (t : Tree) (ts us : List Table) (a : ℕ) (meets : HasEqualMeets t) (r : IsReducts (both t ts))
    (s : IsReducts (both t us))
    (others : (j : ℕ) (v : List ℕ) → j < t.leaves → j ≢ a → count_of (entries_at us j) v ≡ count_of (entries_at ts j) v)
    (more : OneMore (entries_at ts a) (entries_at us a)) where
  off_even : (i : ℕ) → IsOff t.nodes a i → (v : List ℕ) → count_of (entries_at us i) v ≡ count_of (entries_at ts i) v
  off_even i off v = tuples_same t ts us r.family s.family i
      (off_same t ts us a r.family s.family r.reduced s.reduced others (suc i) i (omega arith) off) v

  -- a node's other child is off the path
  child_even : (n : Node) (j k c : ℕ) → node_at t.nodes k ≡ n → j ≡ path_at t.nodes a k → has_child n c ≡ true
      → (c ≡ j → ⊥) → (v : List ℕ) → count_of (entries_at us c) v ≡ count_of (entries_at ts c) v
  child_even n j k c e at child apart =
      off_even c (other_off t a k c r.family.is_tree (ap (λ (m : Node). has_child m c) e ∙ child)
      (λ (q : c ≡ path_at t.nodes a k). apart (q ∙ sym at)))

  trim_more : (c k : ℕ) → node_at t.nodes k ≡ Trim c → IsReductOf (Trim c) ts k → IsReductOf (Trim c) us k
      → OneMore (entries_at ts c) (entries_at us c) → OneMore (entries_at ts k) (entries_at us k)
  trim_more c k e old new one_if = record {
    tuple = pick (key_at ts c) one_if.tuple;
    only = λ v some none.
        let ks = key_at ts c in
        let now = trim_law (Trim c) c us k refl new v in
        let before = trim_law (Trim c) c ts k refl old v in
        let came = cnt_supp (entries_at us k) v (s.family.supported k) some in
        let lacked = supp_none (entries_at ts k) v none in
        let here : 0 < group_size ks (entries_at us c) v = subst (λ (q : List ℕ). 0 < group_size q (entries_at us c) v)
        (same_keys t ts us r.family s.family c) (omega arith) in
        let h = holds ks (entries_at us c) v here in
        let u = h.entry.tuple in
        let has = there (entries_at us c) h.front h.entry h.back u h.is refl in
        let grouped : count_of (entries_at ts c) u ≤ group_size ks (entries_at ts c) v = subst
        (λ (w : List ℕ). count_of (entries_at ts c) u ≤ group_size ks (entries_at ts c) w) h.key
        (in_group ks (entries_at ts c) u) in
        sym h.key ∙ ap (pick ks) (one_if.only u has (omega arith));
  }

  guard_more : (g d k : ℕ) → node_at t.nodes k ≡ Meet g d → IsReductOf (Meet g d) ts k → IsReductOf (Meet g d) us k
      → ((v : List ℕ) → count_of (entries_at us d) v ≡ count_of (entries_at ts d) v) → OneMore (entries_at ts g)
      (entries_at us g)
      → OneMore (entries_at ts k) (entries_at us k)
  guard_more g d k e old new even one_if = record {
    tuple = one_if.tuple;
    only = λ v some none.
        let now = meet_law (Meet g d) g d us k refl new v in
        let before = meet_law (Meet g d) g d ts k refl old v in
        let came = cnt_supp (entries_at us k) v (s.family.supported k) some in
        let lacked = supp_none (entries_at ts k) v none in
        let guards = product_some (count_of (entries_at us g) v) (count_of (entries_at us d) (pick (key_at us g) v))
        (omega arith)
        in
        let sides : 0 < count_of (entries_at us d) (pick (key_at ts g) v) = subst
        (λ (q : List ℕ). 0 < count_of (entries_at us d) (pick q v)) (same_keys t ts us r.family s.family g)
        (second_some (count_of (entries_at us g) v) (count_of (entries_at us d) (pick (key_at us g) v)) (omega arith))
        in
        one_if.only v guards
        (left_zero (count_of (entries_at ts g) v) (count_of (entries_at ts d) (pick (key_at ts g) v))
        (omega arith) (omega (arith, even (pick (key_at ts g) v))));
  }

  side_more : (g d k : ℕ) → node_at t.nodes k ≡ Meet g d → k < length t.nodes → IsReductOf (Meet g d) ts k
      → IsReductOf (Meet g d) us k → ((v : List ℕ) → count_of (entries_at us g) v ≡ count_of (entries_at ts g) v)
      → OneMore (entries_at ts d) (entries_at us d) → OneMore (entries_at ts k) (entries_at us k)
  side_more g d k e within old new even one_if = record {
    tuple = one_if.tuple;
    only = λ v some none.
        let now = meet_law (Meet g d) g d us k refl new v in
        let before = meet_law (Meet g d) g d ts k refl old v in
        let came = cnt_supp (entries_at us k) v (s.family.supported k) some in
        let lacked = supp_none (entries_at ts k) v none in
        let guards : 0 < count_of (entries_at ts g) v = omega (
          arith,
          even v,
          product_some (count_of (entries_at us g) v) (count_of (entries_at us d) (pick (key_at us g) v))
              (omega arith),
        ) in
        let whole = whole_key t ts k g d v meets r.family e within guards in
        let sides : 0 < count_of (entries_at us d) (pick (key_at ts g) v) = subst
        (λ (q : List ℕ). 0 < count_of (entries_at us d) (pick q v)) (same_keys t ts us r.family s.family g)
        (second_some (count_of (entries_at us g) v) (count_of (entries_at us d) (pick (key_at us g) v)) (omega arith))
        in
        let fresh = right_zero (count_of (entries_at ts g) v) (count_of (entries_at ts d) (pick (key_at ts g) v))
        (omega arith)
        guards in
        sym whole ∙ one_if.only (pick (key_at ts g) v) sides fresh;
  }

  node_more : (n : Node) (j k : ℕ) → node_at t.nodes k ≡ n → k < length t.nodes → j ≡ path_at t.nodes a k
      → has_child n j ≡ true → IsReductOf n ts k → IsReductOf n us k → OneMore (entries_at ts j) (entries_at us j)
      → OneMore (entries_at ts k) (entries_at us k)
  node_more (Leaf b) j k e within at child old new one_if = absurd (false≢true child)
  node_more (Trim c) j k e within at child old new one_if = trim_more c k e old new
      (subst (λ (i : ℕ). OneMore (entries_at ts i) (entries_at us i)) (sym (trim_same c j child)) one_if)
  node_more (Meet g d) j k e within at child old new one_if =
      elim (cases_eq g j) [
        | inl here ↦
            guard_more g d k e old new
            (child_even (Meet g d) j k d e at (side_has g d)
            (λ (q : d ≡ j). (r.family.is_tree.meet k g d e).apart (here ∙ sym q)))
            (subst (λ (i : ℕ). OneMore (entries_at ts i) (entries_at us i)) (sym here) one_if)
        | inr other ↦
            let same_side : d ≡ j = eqb-true d j (or_right (g == j) (d == j) (ne_eqb g j other) child) in
            side_more g d k e within old new (child_even (Meet g d) j k g e at (guard_has g d) other)
            (subst (λ (i : ℕ). OneMore (entries_at ts i) (entries_at us i)) (sym same_side) one_if)
      ]

  path_more : (k : ℕ) → OneMore (entries_at ts (path_at t.nodes a k)) (entries_at us (path_at t.nodes a k))
  path_more zero = subst (λ (i : ℕ). OneMore (entries_at ts i) (entries_at us i)) (sym (path_zero t.nodes a)) more
  path_more (suc k) =
      elim (cases_Bool (has_child (node_at t.nodes k) (path_at t.nodes a k))) [
        | inr none ↦ subst (λ (i : ℕ). OneMore (entries_at ts i) (entries_at us i)) (sym (path_off t.nodes a k none))
            (path_more k)
        | inl child ↦
            let within = child_within t.nodes k (path_at t.nodes a k) child in
            subst (λ (i : ℕ). OneMore (entries_at ts i) (entries_at us i)) (sym (path_on t.nodes a k child))
            (node_more (node_at t.nodes k) (path_at t.nodes a k) k refl within refl child
            (r.reduced.at k (omega arith) within) (s.reduced.at k (omega arith) within) (path_more k))
      ]

  pub one_more : (i : ℕ) → OneMore (entries_at ts i) (entries_at us i)
  unfolding on_path
  one_more i =
      elim (cases_eq i a) [
        | inl here ↦ subst (λ (k : ℕ). OneMore (entries_at ts k) (entries_at us k)) (sym here) more
        | inr apart ↦ elim (cases_Bool (on_path t.nodes a i)) [
          | inl on ↦ subst (λ (k : ℕ). OneMore (entries_at ts k) (entries_at us k)) (path_on t.nodes a i on)
              (path_more (suc i))
          | inr none ↦ none_more (entries_at ts i) (entries_at us i) (off_even i (apart, none))
        ]
      ]

  -- so no table is longer by more
  pub more_length : (i : ℕ) → length (entries_at us i) ≤ length (entries_at ts i) + 1
  more_length i = one_longer (entries_at ts i) (entries_at us i) (one_more i) (λ v. once t us s.family i v)

-- ---- How much a refused update counts over equal meets: five at most for each node from its own on.

-- where no tuple of a group has come to its meet, the tables are as large as before
none_size : (t : Tree) (was now mid : List Table) (g j k i : ℕ) (u : List ℕ) → ChangedOnlyAt t was now j
    → IsParentOf t k (Meet g j) j → IsGrown t now mid k (take i (group_of (key_at now g) (entries_at now g) u)) → i ≡ 0
    → size mid ≡ size now
none_size t was now mid g j k i u b x grown start =
    same_size t now mid f grown.family
    (λ y v. agree_from t now mid (k + 1) f grown.family high (ready_up t was now j k (Meet g j) b x).reduced
    grown.reduced agree (suc y) y (omega arith) v)
  where
    f : IsFamily t now
    f = now_family t was now j b

    high : t.leaves ≤ k + 1
    high = let h = meet_high t k g j b.ready.family.is_tree x.node in omega arith

    agree : (y : ℕ) → y < k + 1 → (v : List ℕ) → supports_of (entries_at mid y) v ≡ supports_of (entries_at now y) v
    agree y less v =
        elim (cases_eq y k) [
          | inl here ↦
              let none : count_of (take i (group_of (key_at now g) (entries_at now g) u)) v
              ≡ 0 = subst (λ (n : ℕ). count_of (take n (group_of (key_at now g) (entries_at now g) u)) v ≡ 0)
              (sym start)
              (take_zero (group_of (key_at now g) (entries_at now g) u) v) in
              let came = grown.came v in
              subst (λ (z : ℕ). supports_of (entries_at mid z) v ≡ supports_of (entries_at now z) v) (sym here)
              (omega arith)
          | inr apart ↦ ap (λ (es : List Entry). supports_of es v) (grown.low y (omega arith))
        ]

-- at a side the group has one tuple, so that none had come
pub side_flat : (t : Tree) (was now mid after last : List Table) (g j k i x y z w : ℕ) (u : List ℕ) (e : Entry)
    → HasEqualMeets t → ChangedOnlyAt t was now j → IsParentOf t k (Meet g j) j
    → IsGrown t now mid k (take i (group_of (key_at now g) (entries_at now g) u)) → group_of (key_at now g)
    (entries_at now g) u
    ≡ take i (group_of (key_at now g) (entries_at now g) u) ++ e ∷ drop (i + 1) (group_of (key_at now g)
    (entries_at now g) u)
    → IsFamily t after → IsFamily t last
    → ((q : ℕ) (v : List ℕ) → supports_of (entries_at after q) v ≡ supports_of (entries_at mid q) v)
    → ((q : ℕ) (v : List ℕ) → supports_of (entries_at last q) v ≡ supports_of (entries_at now q) v)
    → y + 4 * size now ≤ x + 1 + 4 * size mid → z ≤ y + 5 * (length t.nodes - k)
    → w + 5 * size last ≤ z + 1 + 5 * size after → w + 2 ≤ x + 5 * (length t.nodes - j)
side_flat t was now mid after last g j k i x y z w u e meets b under grown cut f h stays back first second third =
    let family = now_family t was now j b in
    let long = cut_length (group_of (key_at now g) (entries_at now g) u) i e cut in
    let single = group_single t now k g j u meets family under.node under.within in
    let start : i ≡ 0 = omega (arith, length_grp (key_at now g) (entries_at now g) u) in
    let p = none_size t was now mid g j k i u b under grown start in
    let q = same_size t mid after grown.family f stays in
    let r = same_size t now last family h back in
    let low = lower_of t k (Meet g j) j b.ready.family.is_tree under in
    let within = under.within in
    omega arith
