-- How much an update counts, by the sizes of leaves.
use Rattle.std.proofs.Common.{◌≡◌, ℕ, zero, suc, ◌+◌, ◌*◌, ◌<◌, ◌≤◌, List, length, arith, mul-le-mul_right, ◌≢◌, Bool}
use Rattle.std.proofs.Common.{true, false, cond, [], ◌∷◌, ◌++◌, take, refl, ap, subst, sym, ◌∙◌, inl, inr, add-one}
use Rattle.std.proofs.Common.{mul-le-mul_left}
use Rattle.std.specs.Prelude.{slice_index_or, nat_lt, not, count_by}
use Rattle.std.specs.List.{sum_by}
use Rattle.std.proofs.lemmas.Bool.{cases_eq, cases_lt, cases_Bool, lt-ltb, ltb-true}
use Rattle.std.proofs.lemmas.List.{take_more}
use Rattle.std.proofs.lemmas.List.Sums.{sum_by-append, sum_by-cons}
use Rattle.std.proofs.Math.Seq.{take-length}
use Rattle.djq_index.specs.Tuple.{same, pick, one_if}
use Rattle.djq_index.specs.Entries.{Entry, count_of, group_size}
use Rattle.djq_index.specs.Table.{Table, TuplesDiffer}
use Rattle.djq_index.proofs.Tuples.{same_cases, is_same, one_true, one_false, one_other, one_same, one_le, many_middle}
use Rattle.djq_index.proofs.Tuples.{cnt_cons, cnt_length, cnt_split, cnt_supp}
use Rattle.djq_index.proofs.Groups.{many_even, many_sub, inserted_length, length_middle}
use Rattle.djq_tree.specs.declared.node.Node.{Node}
use Rattle.djq_tree.specs.declared.node.Node.TheVariants.{Leaf, Trim, Meet}
use Rattle.djq_tree.specs.Tree.{Tree, IsTree, node_at}
use Rattle.djq_tree.specs.Counts.{IsSmall, trims, others, is_trim}
use Rattle.djq_tree.proofs.Nodes.{not_trims_of}
use Rattle.djq_reduct.specs.Tables.{no_table, table_at, entries_at, key_at}
use Rattle.djq_reduct.specs.Reducts.{IsReducts, IsReductOf, IsFamily}
use Rattle.djq_reduct.specs.Marks.{on_path, IsOff}
use Rattle.djq_reduct.proofs.Assignments.{entries_past, trim_law, meet_law}
use Rattle.djq_propagate.specs.Updates.{paths, steps, HasAtMost, HasTaken, HasGained, HasLost}
use Rattle.djq_propagate.specs.Bounds.{HasVariables, AddUp}
use Rattle.djq_propagate.specs.Sizes.{size}
use Rattle.djq_propagate.specs.Walks.{InsertedUpwards}
use Rattle.djq_propagate.specs.Touches.{IsTouched, IsTouchedUp}
use Rattle.djq_propagate.specs.Batches.{HaveCome, HaveGone}
use Rattle.djq_propagate.proofs.Families.{once, apart_of, tuples_same}
use Rattle.djq_propagate.proofs.PathMarks.{on_high, off_same}
use Rattle.djq_propagate.proofs.Updates.{both, lived_come}

-- ---- How the counts of the calls of an update add up.

once_each : (p n : ℕ) → 0 < n → p ≤ p * n
once_each p zero some = absurd (omega arith)
once_each p (suc n) some = omega arith

pub adds_up : (t : Tree) → IsSmall t → (V : List ℕ) (n : ℕ) → HasVariables t V → 0 < n → AddUp t (length V) n
adds_up t small V n all some =
    let few = small.all_trims V all in
    let leaves = small.not_trims in
    let path : 0 < paths t = omega (arith, leaves) in
    let each = once_each (paths t) n some in
    let over = mul-le-mul_right n few_paths in
    record {
      inserted = λ x. omega (arith, spread (paths t) n, path, each, over);
      removed = λ x. omega (arith, spread (paths t) n, path, each, over);
      undone = λ x. omega (arith, spread (paths t) n, path, each, over);
      refused = λ x. omega (arith, over);
      added = λ x. omega (arith, over);
      taken = λ x. omega (arith, over);
    }
  where
    few_paths : paths t ≤ t.leaves + length V
    few_paths = let few = small.all_trims V all in omega arith

    spread : (p m : ℕ) → p * (1 + m) ≡ p + p * m
    spread p m = omega arith

-- ---- How much an update counts, by the sizes of leaves.

-- a list is as long as its only group by no column
same_nil : same [] [] ≡ true
same_nil = is_same [] [] refl

pub length_many : (es : List Entry) → length es ≡ group_size [] es []
unfolding group_size pick
length_many [] = refl
length_many (e ∷ es) = omega (arith, length_many es, one_true (same [] []) same_nil)

pub length_even : (es fs : List Entry) → ((v : List ℕ) → count_of es v ≡ count_of fs v) → length es ≡ length fs
length_even es fs h = length_many es ∙ many_even [] es fs h [] ∙ sym (length_many fs)

pub length_less : (es fs : List Entry) → ((v : List ℕ) → count_of es v ≤ count_of fs v) → length es ≤ length fs
length_less es fs h = omega (arith, length_many es, length_many fs, many_sub [] es fs h [])

-- a projection has no more tuples
pub record Holds (ks : List ℕ) (fs : List Entry) (w : List ℕ) : Type 0 where
  pub front : List Entry
  pub back : List Entry
  pub entry : Entry
  pub is : fs ≡ front ++ entry ∷ back
  pub key : pick ks entry.tuple ≡ w

pub holds : (ks : List ℕ) (fs : List Entry) (w : List ℕ) → 0 < group_size ks fs w → Holds ks fs w
unfolding group_size
holds ks [] w h = absurd (omega arith)
holds ks (f ∷ fs) w h =
    elim (same_cases (pick ks f.tuple) w) [
      | inl here ↦ record { front = []; back = fs; entry = f; is = refl; key = here }
      | inr other ↦ (let s = holds ks fs w (omega (arith, one_other (pick ks f.tuple) w other)) in record {
        front = f ∷ s.front;
        back = s.back;
        entry = s.entry;
        is = ap (λ (xs : List Entry). f ∷ xs) s.is;
        key = s.key;
      })
    ]

apart_first : (e : Entry) (es : List Entry) → TuplesDiffer (e ∷ es) → (count_of es e.tuple ≡ 0) × TuplesDiffer es
unfolding TuplesDiffer
apart_first e es h = h

pub keys_length : (ks : List ℕ) (es fs : List Entry) → TuplesDiffer es → ((v : List ℕ) → 0 < count_of es v
    → 0 < group_size ks fs v)
    → length es ≤ length fs
keys_length ks [] fs h all = omega arith
keys_length ks (e ∷ es) fs h all =
    let a = apart_first e es h in
    let s = holds ks fs e.tuple (all e.tuple (omega (arith, cnt_cons e es e.tuple, one_same e.tuple))) in
    let rest : (v : List ℕ) → 0 < count_of es v
    → 0 < group_size ks (s.front ++ s.back) v = (λ (v : List ℕ) (some : 0 < count_of es v). elim
    (same_cases e.tuple v) [
      | inl here ↦ absurd (let none : count_of es v ≡ 0 = subst (λ (w : List ℕ). count_of es w ≡ 0) here a.0 in omega
          arith)
      | inr other ↦
          (let apart : one_if (same (pick ks s.entry.tuple) v) ≡ 0 = ap (λ (w : List ℕ). one_if (same w v)) s.key
          ∙ one_other e.tuple v other in
          omega (
            arith,
            all v (omega (arith, cnt_cons e es v)),
            ap (λ (xs : List Entry). group_size ks xs v) s.is,
            many_middle
                ks s.front s.entry s.back v,
          ))
    ]) in
    omega (
      arith,
      keys_length ks es (s.front ++ s.back) a.1 rest,
      ap (λ (xs : List Entry). length xs) s.is,
      length_middle s.front s.entry s.back,
    )

-- so no table is longer than the longest leaf
pub product_some : (a b : ℕ) → 0 < a * b → 0 < a
product_some zero b h = absurd (omega arith)
product_some (suc a) b h = omega arith

pub trim_less : (t : Tree) (ts : List Table) (c k : ℕ) → IsFamily t ts → IsReductOf (Trim c) ts k
    → length (entries_at ts k) ≤ length (entries_at ts c)
trim_less t ts c k f h = keys_length (key_at ts c) (entries_at ts k) (entries_at ts c) (apart_of t ts f k)
    (λ v some. let s = cnt_supp (entries_at ts k) v (f.supported k) some in omega
    (arith, trim_law (Trim c) c ts k refl h v))

pub meet_less : (t : Tree) (ts : List Table) (g d k : ℕ) → IsFamily t ts → IsReductOf (Meet g d) ts k
    → length (entries_at ts k) ≤ length (entries_at ts g)
meet_less t ts g d k f h =
    length_less (entries_at ts k) (entries_at ts g) (λ v. elim (cases_lt 0 (count_of (entries_at ts k) v)) [
      | inl some ↦ (let s = cnt_supp (entries_at ts k) v (f.supported k) some in
          let p = product_some (count_of (entries_at ts g) v) (count_of (entries_at ts d) (pick (key_at ts g) v))
          (let l = meet_law (Meet g d) g d ts k refl h v in omega arith) in
          omega (arith, once t ts f k v))
      | inr none ↦ omega arith
    ])

pub node_sized : (t : Tree) (ts : List Table) (n k : ℕ) (m : Node) → IsFamily t ts → node_at t.nodes k ≡ m
    → IsReductOf m ts k → ((j : ℕ) → j < t.leaves → length (entries_at ts j) ≤ n) → k < length t.nodes
    → ((i : ℕ) → i < k → length (entries_at ts i) ≤ n) → length (entries_at ts k) ≤ n
node_sized t ts n k (Leaf a) f e h leaves within below = leaves k (f.is_tree.inner k a within e)
node_sized t ts n k (Trim c) f e h leaves within below =
    let low = (f.is_tree.trim k c e).lower in
    omega (arith, below c low, trim_less t ts c k f h)
node_sized t ts n k (Meet g d) f e h leaves within below =
    let low = (f.is_tree.meet k g d e).guard_lower in
    omega (arith, below g low, meet_less t ts g d k f h)

sized_below : (t : Tree) (ts : List Table) (n : ℕ) → IsReducts (both t ts)
    → ((j : ℕ) → j < t.leaves → length (entries_at ts j) ≤ n) → (m k : ℕ) → k < m → length (entries_at ts k) ≤ n
sized_below t ts n r leaves zero k less = absurd (omega arith)
sized_below t ts n r leaves (suc m) k less =
    elim (cases_lt k (length t.nodes)) [
      | inl within ↦ node_sized t ts n k (node_at t.nodes k) r.family refl (r.reduced.at k (omega arith) within) leaves
          within (λ i low. sized_below t ts n r leaves m i (omega arith))
      | inr past ↦ (let l = r.family.long in omega
          (arith, ap (λ (es : List Entry). length es) (entries_past ts k (omega arith))))
    ]

pub sized : (t : Tree) (ts : List Table) (n : ℕ) → IsReducts (both t ts) → HasAtMost (both t ts) n → (k : ℕ)
    → length (entries_at ts k) ≤ n
sized t ts n r h k = sized_below t ts n r h.each (suc k) k (omega arith)

-- the size of the first k tables
unfoldable pub part : List Table → ℕ → ℕ
part ts zero = 0
part ts (suc k) = part ts k + length (entries_at ts k)

part_size : (ts : List Table) (k : ℕ) → k ≤ length ts → part ts k ≡ size (take k ts)
unfolding part size entries_at table_at
part_size ts zero h = refl
part_size ts (suc k) h =
    let more : take (k + 1) ts
    ≡ take k ts ++ slice_index_or ts k no_table ∷ [] = take_more ts k no_table (omega arith) in
    let next : take (suc k) ts ≡ take (k + 1) ts = ap (λ (x : ℕ). take x ts) (sym (add-one k)) in
    let split = sum_by-append (λ (u : Table). length u.entries) (take k ts) (slice_index_or ts k no_table ∷ []) in
    let last : sum_by (λ (u : Table). length u.entries) (slice_index_or ts k no_table ∷ [])
    ≡ length (slice_index_or ts k no_table).entries + 0 = sum_by-cons (λ (u : Table). length u.entries)
    (slice_index_or ts k no_table) [] in
    omega (
      arith,
      part_size ts k (omega arith),
      ap (λ (xs : List Table). sum_by (λ (u : Table). length u.entries) xs)
          (next ∙ more),
    )

pub whole_size : (ts : List Table) → size ts ≡ part ts (length ts)
whole_size ts = sym (part_size ts (length ts) (omega arith) ∙ ap size (take-length ts))

seen_here : (a k : ℕ) → k ≡ a → (one_if (nat_lt a (suc k)) ≡ 1) × (one_if (nat_lt a k) ≡ 0)
seen_here a k e = (
  one_true (nat_lt a (suc k)) (lt-ltb a (suc k) (omega arith)),
  one_false (nat_lt a k)
      (not_less a k (omega arith)),
)
  where
    not_less : (x y : ℕ) → y ≤ x → nat_lt x y ≡ false
    not_less x y h = elim (cases_Bool (nat_lt x y))
        [ inl less ↦ absurd (let l = ltb-true x y less in omega arith) | inr no_less ↦ no_less ]

seen_more : (a k : ℕ) → one_if (nat_lt a k) ≤ one_if (nat_lt a (suc k))
seen_more a k = elim (cases_Bool (nat_lt a k)) [
  | inl less ↦ (let l = ltb-true a k less in omega
      (arith, one_true (nat_lt a (suc k)) (lt-ltb a (suc k) (omega arith)), one_le (nat_lt a k)))
  | inr no_less ↦ omega
      (arith, one_false (nat_lt a k) no_less)
]

times_more : (x y n : ℕ) → x + 1 ≤ y → x * n + n ≤ y * n
times_more x y n h = omega (arith, mul-le-mul_right n h, spread x n)
  where
    spread : (p q : ℕ) → (p + 1) * q ≡ p * q + q
    spread p q = omega arith

times_same : (x y n : ℕ) → x ≤ y → x * n ≤ y * n
times_same x y n h = mul-le-mul_right n h

pub step_count : (nodes : List Node) (a k : ℕ) → steps nodes a (suc k) ≡ steps nodes a k + one_if (on_path nodes a k)
unfolding steps
step_count nodes a k = refl

-- only the tables of the path grow
grow_part : (nodes : List Node) (a : ℕ) (ts us : List Table) (n : ℕ)
    → ((i : ℕ) → IsOff nodes a i → length (entries_at us i) ≡ length (entries_at ts i))
    → ((i : ℕ) → length (entries_at us i) ≤ length (entries_at ts i) + n) → (k : ℕ)
    → part us k ≤ part ts k + (one_if (nat_lt a k) + steps nodes a k) * n
unfolding part
grow_part nodes a ts us n off all zero = omega arith
grow_part nodes a ts us n off all (suc k) =
    let before = grow_part nodes a ts us n off all k in
    let here = all k in
    let count = step_count nodes a k in
    let more = seen_more a k in
    elim (cases_eq k a) [
      | inl same_one ↦ (let s = seen_here a k same_one in
          let t = times_more (one_if (nat_lt a k) + steps nodes a k)
          (one_if (nat_lt a (suc k)) + steps nodes a (suc k)) n
          (let x = s.0 in let y = s.1 in omega arith) in omega arith)
      | inr apart ↦ elim (cases_Bool (on_path nodes a k)) [
        | inl on ↦ (let o = one_true (on_path nodes a k) on in
            let t = times_more (one_if (nat_lt a k) + steps nodes a k)
            (one_if (nat_lt a (suc k)) + steps nodes a (suc k)) n
            (omega arith) in omega arith)
        | inr none ↦ (let e = off k (apart, none) in
            let t = times_same (one_if (nat_lt a k) + steps nodes a k)
            (one_if (nat_lt a (suc k)) + steps nodes a (suc k)) n
            (omega arith) in omega arith)
      ]
    ]

pub grown_size : (nodes : List Node) (a : ℕ) (ts us : List Table) (n : ℕ) → length us ≡ length ts
    → ((i : ℕ) → IsOff nodes a i → length (entries_at us i) ≡ length (entries_at ts i))
    → ((i : ℕ) → length (entries_at us i) ≤ length (entries_at ts i) + n)
    → size us ≤ size ts + (1 + steps nodes a (length ts)) * n
grown_size nodes a ts us n long off all =
    let g = grow_part nodes a ts us n off all (length ts) in
    let t = times_same (one_if (nat_lt a (length ts)) + steps nodes a (length ts)) (1 + steps nodes a (length ts)) n
    (let o = one_le (nat_lt a (length ts)) in omega arith) in
    omega (arith, whole_size us, whole_size ts, ap (λ (k : ℕ). part us k) long)

-- a path is short
steps_low : (t : Tree) (a k : ℕ) → IsTree t → k ≤ t.leaves → steps t.nodes a k ≡ 0
unfolding steps
steps_low t a zero s h = refl
steps_low t a (suc k) s h = omega (arith, steps_low t a k s (omega arith), one_false (on_path t.nodes a k) none)
  where
    none : on_path t.nodes a k ≡ false
    none = elim (cases_Bool (on_path t.nodes a k))
        [ inl on ↦ absurd (let high = on_high t a k s on in omega arith) | inr off ↦ off ]

steps_high : (t : Tree) (a k : ℕ) → IsTree t → t.leaves ≤ k → steps t.nodes a k + t.leaves ≤ k
unfolding steps
steps_high t a zero s h = omega arith
steps_high t a (suc k) s h =
    elim (cases_lt k t.leaves) [
      | inl low ↦ omega (arith, steps_low t a (suc k) s (omega arith), step_count t.nodes a k)
      | inr high ↦ omega (arith, steps_high t a k s high, one_le (on_path t.nodes a k))
    ]

cond_kinds : (b : Bool) → cond b 1 0 + cond (not b) 1 0 ≡ 1
cond_kinds true = refl
cond_kinds false = refl

kinds : (p : Node → Bool) (nodes : List Node) → count_by p nodes + count_by (λ m. not (p m)) nodes ≡ length nodes
kinds p [] = refl
kinds p (m ∷ nodes) = omega (
  arith,
  sum_by-cons (λ x. cond (p x) 1 0) m nodes,
  sum_by-cons (λ x. cond (not (p x)) 1 0) m nodes,
  cond_kinds
      (p m),
  kinds p nodes,
)

pub both_kinds : (nodes : List Node) → trims nodes + others nodes ≡ length nodes
both_kinds nodes = kinds is_trim nodes

pub path_short : (t : Tree) (a : ℕ) → IsTree t → steps t.nodes a (length t.nodes) + 1 ≤ paths t
path_short t a s =
    let f = s.fits in
    omega (arith, steps_high t a (length t.nodes) s f, both_kinds t.nodes, not_trims_of t s)

spread_one : (S n : ℕ) → (S + 1) * n ≡ S * n + n
spread_one S n = omega arith

spread_two : (S n : ℕ) → (1 + S) * n ≡ S * n + n
spread_two S n = omega arith

spread_three : (S n : ℕ) → S * (1 + 5 * n) ≡ S + 5 * (S * n)
spread_three S n = omega arith

-- what the calls count
count_put : (S P n a b c so sm : ℕ) → S + 1 ≤ P → 1 ≤ n → b + 4 * so ≤ a + 4 * sm → sm ≤ so + (1 + S) * n
    → c ≤ b + S * (1 + 5 * n) → c ≤ a + 10 * (P * n)
count_put S P n a b c so sm short some first grows second =
    let m = mul-le-mul_right n short in
    let o = mul-le-mul_left S some in
    let e : (S + 1) * n ≡ S * n + n = spread_one S n in
    let f : (1 + S) * n ≡ S * n + n = spread_two S n in
    let g : S * (1 + 5 * n) ≡ S + 5 * (S * n) = spread_three S n in
    let h : S * 1 ≡ S = omega arith in
    omega arith

pub count_mark : (S P n a b c : ℕ) → S + 1 ≤ P → 1 ≤ n → b ≤ a + 2 → c ≤ b + S * (1 + 5 * n) → c ≤ a + 6 * (P * n)
count_mark S P n a b c short some first second =
    let m = mul-le-mul_right n short in
    let o = mul-le-mul_left S some in
    let e : (S + 1) * n ≡ S * n + n = spread_one S n in
    let g : S * (1 + 5 * n) ≡ S + 5 * (S * n) = spread_three S n in
    let h : S * 1 ≡ S = omega arith in
    omega arith

count_take : (S P n a b c so sm : ℕ) → S + 1 ≤ P → b + 5 * sm ≤ a + 1 + 5 * so → so ≤ sm + (1 + S) * n
    → c ≤ b + (1 + S) * (1 + n) → c ≤ a + 1 + 5 * (P * n) + P * (1 + n)
count_take S P n a b c so sm short first grows second =
    let m = mul-le-mul_right n short in
    let k = mul-le-mul_right (1 + n) short in
    let e : (S + 1) * n ≡ S * n + n = spread_one S n in
    let f : (1 + S) * n ≡ S * n + n = spread_two S n in
    let g : (1 + S) * (1 + n) ≡ (S + 1) * (1 + n) = ap (λ (x : ℕ). x * (1 + n)) (omega arith) in
    omega arith

-- the lengths off the path
lengths_off : (t : Tree) (ts us : List Table) (a : ℕ) → IsReducts (both t ts) → IsReducts (both t us)
    → ((j : ℕ) (v : List ℕ) → j < t.leaves → j ≢ a → count_of (entries_at us j) v ≡ count_of (entries_at ts j) v)
    → (i : ℕ)
    → IsOff t.nodes a i → length (entries_at us i) ≡ length (entries_at ts i)
lengths_off t ts us a r s leaves i off =
    length_even (entries_at us i) (entries_at ts i)
    (tuples_same t ts us r.family s.family i
    (off_same t ts us a r.family s.family r.reduced s.reduced leaves (suc i) i (omega arith) off))

-- the tables of two families of one tree that differ in the leaf a alone, each by n tuples at most
pub path_size : (t : Tree) (ts us : List Table) (a n : ℕ) → IsReducts (both t ts) → IsReducts (both t us)
    → ((j : ℕ) (v : List ℕ) → j < t.leaves → j ≢ a → count_of (entries_at us j) v ≡ count_of (entries_at ts j) v)
    → ((i : ℕ) → length (entries_at us i) ≤ length (entries_at ts i) + n)
    → size us ≤ size ts + (1 + steps t.nodes a (length t.nodes)) * n
path_size t ts us a n r s leaves grows =
    let long = r.family.long in
    let longer = s.family.long in
    subst (λ (k : ℕ). size us ≤ size ts + (1 + steps t.nodes a k) * n) long
    (grown_size t.nodes a ts us n (longer ∙ sym long) (lengths_off t ts us a r s leaves) grows)

-- what comes and goes without marks
count_grown : (S P n c x y so sm : ℕ) → S + 1 ≤ P → y + c * so ≤ x + c * sm → sm ≤ so + (1 + S) * n
    → y ≤ x + c * (P * n)
count_grown S P n c x y so sm short first grows =
    let m = mul-le-mul_right n short in
    let f : (1 + S) * n ≡ (S + 1) * n = ap (λ (k : ℕ). k * n) (omega arith) in
    let l : c * sm ≤ c * (so + P * n) = mul-le-mul_left c (omega arith) in
    let e : c * (so + P * n) ≡ c * so + c * (P * n) = spread_sum c so (P * n) in
    omega arith
  where
    spread_sum : (p q r : ℕ) → p * (q + r) ≡ p * q + p * r
    spread_sum p q r = omega arith

pub add_by : (t : Tree) (old new : List Table) (a : ℕ) (u : List ℕ) (n x y : ℕ) → IsReducts (both t old)
    → HasGained (both t old) (both t new) a u → ((i : ℕ) → length (entries_at new i) ≤ length (entries_at old i) + n)
    → y + 1 + 4 * size old ≤ x + 4 * size new → y ≤ x + 4 * (paths t * n)
add_by t old new a u n x y r g grows first =
    count_grown (steps t.nodes a (length t.nodes)) (paths t) n 4 x y (size old) (size new)
    (path_short t a r.family.is_tree) (omega arith)
    (path_size t old new a n r g.sound g.others grows)

pub drop_by : (t : Tree) (old new : List Table) (a : ℕ) (u : List ℕ) (n x y : ℕ) → IsReducts (both t old)
    → HasLost (both t old) (both t new) a u → ((i : ℕ) → length (entries_at old i) ≤ length (entries_at new i) + n)
    → y + 1 + 5 * size new ≤ x + 5 * size old → y ≤ x + 5 * (paths t * n)
drop_by t old new a u n x y r l grows first =
    count_grown (steps t.nodes a (length t.nodes)) (paths t) n 5 x y (size new) (size old)
    (path_short t a r.family.is_tree) (omega arith)
    (path_size t new old a n l.sound r (λ j v low apart. sym (l.others j v low apart)) grows)

-- many of them
pub come_by : (t : Tree) (old new : List Table) (a : ℕ) (us : List (List ℕ)) (n x y : ℕ) → IsReducts (both t old)
    → HaveCome t old new a us → ((i : ℕ) → length (entries_at new i) ≤ length (entries_at old i) + n)
    → y + 4 * size old ≤ x + 4 * size new → y ≤ x + 4 * (paths t * n)
come_by t old new a us n x y r c grows first =
    count_grown (steps t.nodes a (length t.nodes)) (paths t) n 4 x y (size old) (size new)
    (path_short t a r.family.is_tree) first
    (path_size t old new a n r c.sound c.others grows)

pub gone_by : (t : Tree) (old new : List Table) (a : ℕ) (us : List (List ℕ)) (n x y : ℕ) → IsReducts (both t old)
    → HaveGone t old new a us → ((i : ℕ) → length (entries_at old i) ≤ length (entries_at new i) + n)
    → y + 5 * size new ≤ x + 5 * size old → y ≤ x + 5 * (paths t * n)
gone_by t old new a us n x y r g grows first =
    count_grown (steps t.nodes a (length t.nodes)) (paths t) n 5 x y (size new) (size old)
    (path_short t a r.family.is_tree) first
    (path_size t new old a n g.sound r (λ j v low apart. sym (g.others j v low apart)) grows)

-- where no table has gained more than n tuples, and a step marks for so many
pub put_all_by : (t : Tree) (old mid : List Table) (a : ℕ) (us : List (List ℕ)) (n x y z : ℕ) → IsReducts (both t old)
    → HaveCome t old mid a us → 1 ≤ n → ((i : ℕ) → length (entries_at mid i) ≤ length (entries_at old i) + n)
    → y + 4 * size old ≤ x + 4 * size mid → z ≤ y + steps t.nodes a (length t.nodes) * (1 + 5 * n)
    → z ≤ x + 10 * (paths t * n)
put_all_by t old mid a us n x y z r c some grows first second =
    count_put (steps t.nodes a (length t.nodes)) (paths t) n x y z (size old) (size mid)
    (path_short t a r.family.is_tree) some first
    (path_size t old mid a n r c.sound c.others grows) second

pub put_all_counted : (t : Tree) (old mid new : List Table) (a : ℕ) (us : List (List ℕ)) (n x y z : ℕ)
    → IsReducts (both t old) → HaveCome t old mid a us → IsTouchedUp t mid new a → IsReducts (both t new) → 1 ≤ n
    → HasAtMost (both t new) n
    → y + 4 * size old ≤ x + 4 * size mid
    → ((m : ℕ) → ((i : ℕ) → length (entries_at mid i) ≤ m) → z ≤ y + steps t.nodes a (length t.nodes) * (1 + 5 * m))
    → z ≤ x + 10 * (paths t * n)
put_all_counted t old mid new a us n x y z r c up s some few first second =
    let all : (i : ℕ) → length (entries_at mid i) ≤ n =
    (λ (i : ℕ). let e = up.long i in omega (arith, sized t new n s few i)) in
    put_all_by t old mid a us n x y z r c some (λ i. let b = all i in omega arith) first (second n all)

-- of one tuple
pub put_by : (t : Tree) (old mid : List Table) (a : ℕ) (u : List ℕ) (n x y z : ℕ) → IsReducts (both t old)
    → a < t.leaves → InsertedUpwards t old mid a u → 1 ≤ n
    → ((i : ℕ) → length (entries_at mid i) ≤ length (entries_at old i) + n)
    → y + 1 + 4 * size old ≤ x + 4 * size mid → z ≤ y + steps t.nodes a (length t.nodes) * (1 + 5 * n)
    → z ≤ x + 10 * (paths t * n)
put_by t old mid a u n x y z r h l some grows first second = put_all_by t old mid a (u ∷ []) n x y z r
    (lived_come t old mid a u r h l) some grows (omega arith) second

pub put_counted : (t : Tree) (old mid new : List Table) (a : ℕ) (u : List ℕ) (n x y z : ℕ) → IsReducts (both t old)
    → a < t.leaves → InsertedUpwards t old mid a u → IsTouchedUp t mid new a → IsReducts (both t new)
    → HasAtMost (both t new) n
    → y + 1 + 4 * size old ≤ x + 4 * size mid
    → ((m : ℕ) → ((i : ℕ) → length (entries_at mid i) ≤ m) → z ≤ y + steps t.nodes a (length t.nodes) * (1 + 5 * m))
    → z ≤ x + 10 * (paths t * n)
put_counted t old mid new a u n x y z r h l up s few first second =
    let came = inserted_length (key_at old a) (entries_at old a) (entries_at mid a) u l.gains in
    put_all_counted t old mid new a (u ∷ []) n x y z r (lived_come t old mid a u r h l) up s
    (let e = up.long a in omega (arith, sized t new n s few a)) few (omega arith) second

pub mark_counted : (t : Tree) (old mid : List Table) (a : ℕ) (u : List ℕ) (f : List ℕ → ℕ) (n x y z : ℕ)
    → IsReducts (both t old) → 0 < count_of (entries_at old a) u → IsTouched t old mid a f → HasAtMost (both t old) n
    → y ≤ x + 2
    → ((m : ℕ) → ((i : ℕ) → length (entries_at mid i) ≤ m) → z ≤ y + steps t.nodes a (length t.nodes) * (1 + 5 * m))
    → z ≤ x + 6 * (paths t * n)
mark_counted t old mid a u f n x y z r there w few first second =
    let all : (i : ℕ) → length (entries_at mid i) ≤ n = (λ (i : ℕ). elim (cases_eq i a) [
      | inl here ↦ subst (λ (k : ℕ). length (entries_at mid k) ≤ n) (sym here)
          (let e = w.long in omega (arith, sized t old n r few a))
      | inr apart ↦ omega (arith, ap (λ (es : List Entry). length es) (w.others i apart), sized t old n r few i)
    ]) in
    count_mark (steps t.nodes a (length t.nodes)) (paths t) n x y z (path_short t a r.family.is_tree)
    (omega (arith, sized t old n r few a, cnt_length (entries_at old a) u)) first (second n all)

pub keep_by : (t : Tree) (a n x z : ℕ) → IsTree t → z ≤ x + (1 + steps t.nodes a (length t.nodes)) * (1 + n)
    → z ≤ x + paths t * (1 + n)
keep_by t a n x z is_tree first =
    let k : (1 + steps t.nodes a (length t.nodes)) * (1 + n) ≤ paths t * (1 + n) = mul-le-mul_right (1 + n)
    (let p = path_short t a is_tree in omega arith) in
    omega arith

pub keep_counted : (t : Tree) (old : List Table) (a n x z : ℕ) → IsReducts (both t old) → HasAtMost (both t old) n
    → ((m : ℕ) → ((i : ℕ) → length (entries_at old i) ≤ m) → z ≤ x + (1 + steps t.nodes a (length t.nodes)) * (1 + m))
    → z ≤ x + paths t * (1 + n)
keep_counted t old a n x z r few first = keep_by t a n x z r.family.is_tree (first n (sized t old n r few))

-- where no table has lost more than n tuples, and a node has no more marks
pub take_by : (t : Tree) (old mid : List Table) (a n x y z : ℕ) → IsReducts (both t old)
    → HasTaken (both t old) (both t mid) a → ((i : ℕ) → length (entries_at old i) ≤ length (entries_at mid i) + n)
    → y + 5 * size mid ≤ x + 1 + 5 * size old
    → z ≤ y + (1 + steps t.nodes a (length t.nodes)) * (1 + n) → z ≤ x + 1 + 5 * (paths t * n) + paths t * (1 + n)
take_by t old mid a n x y z r w grows first second =
    count_take (steps t.nodes a (length t.nodes)) (paths t) n x y z (size old) (size mid)
    (path_short t a r.family.is_tree) first
    (path_size t mid old a n w.sound r (λ j v low apart. sym (w.without.others j v low apart)) grows) second

turn : (a b : ℕ) → a * b ≡ b * a
turn a b = omega arith

-- where it has lost no more than the marked tuples of the leaf brought
pub take_flat : (t : Tree) (old mid : List Table) (a n m x y z : ℕ) → IsTree t → m ≤ n
    → size old ≤ size mid + m * (1 + steps t.nodes a (length t.nodes)) → y + 5 * size mid ≤ x + 1 + 5 * size old
    → z ≤ y + (1 + steps t.nodes a (length t.nodes)) * (1 + n) → z ≤ x + 1 + 5 * (paths t * n) + paths t * (1 + n)
take_flat t old mid a n m x y z is_tree few grows first second =
    count_take (steps t.nodes a (length t.nodes)) (paths t) n x y z (size old) (size mid)
    (path_short t a is_tree) first
    (let k = mul-le-mul_right (1 + steps t.nodes a (length t.nodes)) few in
    let e = turn n (1 + steps t.nodes a (length t.nodes)) in
    omega arith) second

-- what the walk above marked tuples counts
pub above_by : (t : Tree) (a n x z : ℕ) → IsTree t → z ≤ x + steps t.nodes a (length t.nodes) * (1 + 5 * n)
    → z ≤ x + paths t * (1 + 5 * n)
above_by t a n x z is_tree first =
    let k : steps t.nodes a (length t.nodes) * (1 + 5 * n) ≤ paths t * (1 + 5 * n) = mul-le-mul_right (1 + 5 * n)
    (let p = path_short t a is_tree in omega arith) in
    omega arith

pub take_counted : (t : Tree) (old mid : List Table) (a n x y z : ℕ) → IsReducts (both t old)
    → HasTaken (both t old) (both t mid) a → HasAtMost (both t old) n → y + 5 * size mid ≤ x + 1 + 5 * size old
    → ((m : ℕ) → ((i : ℕ) → length (entries_at mid i) ≤ m) → z ≤ y + (1 + steps t.nodes a (length t.nodes)) * (1 + m))
    → z ≤ x + 1 + 5 * (paths t * n) + paths t * (1 + n)
take_counted t old mid a n x y z r w few first second =
    let less : HasAtMost (both t mid) n = record {
      each = λ j low. omega (
        arith,
        few.each j low,
        length_less (entries_at mid j) (entries_at old j) (λ v. elim (cases_eq j a) [
          | inl here ↦ subst (λ (k : ℕ). count_of (entries_at mid k) v ≤ count_of (entries_at old k) v) (sym here)
              (omega (arith, w.without.leaf v, cnt_split (entries_at old a) v))
          | inr apart ↦ omega (arith, w.without.others j v low apart)
        ]),
      );
    } in
    take_by t old mid a n x y z r w (λ i. let b = sized t old n r few i in omega arith) first
    (second n (sized t mid n w.sound less))
