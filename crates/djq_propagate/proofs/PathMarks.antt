-- The path from a leaf, and marks while tuples come and go along it.
use Rattle.std.proofs.Common.{◌≡◌, ◌≢◌, ℕ, zero, suc, ◌+◌, ◌*◌, ◌<◌, ◌≤◌, Bool, true, false, cond, List, length, refl}
use Rattle.std.proofs.Common.{ap, ap₂, subst, sym, ◌∙◌, arith, inl, inr, ◌⊎◌, add-one, [], ◌∷◌, ◌++◌, take, drop, None}
use Rattle.std.proofs.lemmas.Bool.{cases_eq, cases_lt, cases_Bool, false≢true}
use Rattle.std.proofs.lemmas.List.{take-append-drop}
use Rattle.std.proofs.Math.ListN.{drop_of_length-le}
use Rattle.djq_index.specs.Tuple.{one_if, pick, same}
use Rattle.djq_index.specs.Entries.{Entry, supports_of, count_of, group_size, marks, unmarked, plain, group_of, head_at}
use Rattle.djq_index.specs.Table.{Table, TuplesDiffer}
use Rattle.djq_index.specs.Changes.{InsertedAs, Removed, Supported}
use Rattle.djq_index.proofs.Groups.{many_even, cnt_grp, unmarked_supp, unmarked_marks, length_unmarked, marks_middle}
use Rattle.djq_index.proofs.Groups.{plain_middle, plain-append, marks-append, plain_no, marks_yes, inserted_plain}
use Rattle.djq_index.proofs.Groups.{supported_cnt, inserted_supp, removed_supp}
use Rattle.djq_index.proofs.Tuples.{cnt_split, cnt_middle, cnt_cons, many_length, length_grp, count_of-append, one_same}
use Rattle.djq_index.proofs.Tuples.{is_same, same_cases, one_other, one_true, cnt_once, supp_none}
use Rattle.djq_tree.specs.declared.node.Node.{Node}
use Rattle.djq_tree.specs.declared.node.Node.TheVariants.{Leaf, Trim, Meet}
use Rattle.djq_tree.specs.Tree.{Tree, IsTree, node_at, has_child}
use Rattle.djq_tree.proofs.Paths.{rising_of, trim_child, guard_child, side_child, child_within}
use Rattle.djq_reduct.specs.Tables.{entries_at, key_at}
use Rattle.djq_reduct.specs.Reducts.{IsReductOf, IsFamily, AreReduced}
use Rattle.djq_reduct.specs.Marks.{path_at, on_path, IsOff, IsBare}
use Rattle.djq_reduct.proofs.Assignments.{entries_past}
use Rattle.djq_reduct.proofs.Paths.{reaches, free_below, off_below}
use Rattle.djq_propagate.specs.Walks.{ChangedOneTable, CameAs, Fewer, unlike, Ready, InsertedUpwards, RemovedUpwards}
use Rattle.djq_propagate.specs.Walks.{CoversAll, IsGrown, IsEmptied}
use Rattle.djq_propagate.specs.Touches.{IsTouched, IsTouchedUp}
use Rattle.djq_propagate.specs.Updates.{HasCleared, steps}
use Rattle.djq_propagate.proofs.Families.{same_keys, tuples_same, once, apart_of, below_up}

-- ---- The path from a leaf, and what isn't on it.

pub on_at : (nodes : List Node) (a k j : ℕ) → j ≡ path_at nodes a k → on_path nodes a k ≡ has_child (node_at nodes k) j
unfolding on_path
on_at nodes a k j e = ap (λ (x : ℕ). has_child (node_at nodes k) x) (sym e)

pub path_next : (nodes : List Node) (a k j r : ℕ) → j ≡ path_at nodes a k → r ≡ cond (has_child (node_at nodes k) j) k j
    → r ≡ path_at nodes a (k + 1)
unfolding path_at
path_next nodes a k j r e h = rw add-one (h ∙ ap (λ (x : ℕ). cond (has_child (node_at nodes k) x) k x) e)

-- a node with a child isn't a leaf
pub inner_high : (t : Tree) (k j : ℕ) → IsTree t → has_child (node_at t.nodes k) j ≡ true → t.leaves ≤ k
inner_high t k j s h =
    elim (cases_lt k t.leaves) [
      | inl low ↦ absurd (false≢true (ap (λ (n : Node). has_child n j) (sym (s.leaf k low)) ∙ h))
      | inr high ↦ high
    ]

pub on_high : (t : Tree) (a k : ℕ) → IsTree t → on_path t.nodes a k ≡ true → t.leaves ≤ k
unfolding on_path
on_high t a k s h = inner_high t k (path_at t.nodes a k) s h

pub on_within : (t : Tree) (a k : ℕ) → on_path t.nodes a k ≡ true → k < length t.nodes
unfolding on_path
on_within t a k h = child_within t.nodes k (path_at t.nodes a k) h

pub child_on : (t : Tree) (a k i : ℕ) → IsTree t → has_child (node_at t.nodes k) i ≡ true
    → (i ≡ a) ⊎ (on_path t.nodes a i ≡ true) → path_at t.nodes a k ≡ i
child_on t a k i s child on = reaches t.nodes a i k (rising_of t s k i child) on
    (free_below t i k k s child (omega arith))

-- off the path nothing follows from a leaf's tuples
off_node : (t : Tree) (ts us : List Table) (a k : ℕ) (n : Node) → IsFamily t ts → IsFamily t us → node_at t.nodes k ≡ n
    → k < length t.nodes → IsOff t.nodes a k
    → ((j : ℕ) (v : List ℕ) → j < t.leaves → j ≢ a → count_of (entries_at us j) v ≡ count_of (entries_at ts j) v)
    → IsReductOf n ts k → IsReductOf n us k
    → ((i : ℕ) → i < k → IsOff t.nodes a i → (v : List ℕ) → count_of (entries_at us i) v ≡ count_of (entries_at ts i) v)
    → (v : List ℕ) → supports_of (entries_at us k) v ≡ supports_of (entries_at ts k) v
unfolding IsReductOf
off_node t ts us a k (Leaf b) f g e within off leaves hs hu below v = hu v
    ∙ leaves k v (f.is_tree.inner k b within e) off.0 ∙ sym (hs v)
off_node t ts us a k (Trim c) f g e within off leaves hs hu below v =
    let child = trim_child t.nodes k c e in
    hu v ∙ ap (λ (ks : List ℕ). group_size ks (entries_at us c) v) (same_keys t ts us f g c)
    ∙ many_even (key_at ts c) (entries_at us c) (entries_at ts c)
    (below c (rising_of t f.is_tree k c child) (off_below t a k c f.is_tree child off.1)) v ∙ sym (hs v)
off_node t ts us a k (Meet x y) f g e within off leaves hs hu below v =
    let first = guard_child t.nodes k x y e in
    let second = side_child t.nodes k x y e in
    hu v
    ∙ ap₂ (λ (m n : ℕ). m * n) (below x (rising_of t f.is_tree k x first) (off_below t a k x f.is_tree first off.1) v)
    (ap (λ (ks : List ℕ). count_of (entries_at us y) (pick ks v)) (same_keys t ts us f g x)
    ∙ below y (rising_of t f.is_tree k y second) (off_below t a k y f.is_tree second off.1) (pick (key_at ts x) v))
    ∙ sym (hs v)

pub off_same : (t : Tree) (ts us : List Table) (a : ℕ) → IsFamily t ts → IsFamily t us → AreReduced t ts 0
    → AreReduced t us 0 →
    ((j : ℕ) (v : List ℕ) → j < t.leaves → j ≢ a → count_of (entries_at us j) v ≡ count_of (entries_at ts j) v)
    → (n k : ℕ) → k < n → IsOff t.nodes a k → (v : List ℕ) → supports_of (entries_at us k) v ≡ supports_of
    (entries_at ts k) v
off_same t ts us a f g rs ru leaves zero k less off v = absurd (omega arith)
off_same t ts us a f g rs ru leaves (suc n) k less off v =
    elim (cases_lt k (length t.nodes)) [
      | inl within ↦
          off_node t ts us a k (node_at t.nodes k) f g refl within off leaves (rs.at k (omega arith) within)
          (ru.at k (omega arith) within)
          (λ i low other. tuples_same t ts us f g i (off_same t ts us a f g rs ru leaves n i (omega arith) other)) v
      | inr past ↦ (let a1 = f.long in let b1 = g.long in ap (λ (es : List Entry). supports_of es v)
          (entries_past us k (omega arith) ∙ sym (entries_past ts k (omega arith))))
    ]

-- a walk along the path
pub up_none : (t : Tree) (ts : List Table) (a : ℕ) → IsFamily t ts → IsTouchedUp t ts ts a
up_none t ts a f = record
    { family = f; supports = λ i v. refl; long = λ i. refl; leaves = λ i h. refl; off = λ i h. refl }

up_same : (t : Tree) (old mid new : List Table) (a : ℕ) → IsTouchedUp t old mid a → new ≡ mid → IsTouchedUp t old new a
up_same t old mid new a x e = subst (λ (ts : List Table). IsTouchedUp t old ts a) (sym e) x

up_touched : (t : Tree) (old mid new : List Table) (a k : ℕ) (f : List ℕ → ℕ) → IsTouchedUp t old mid a
    → on_path t.nodes a k ≡ true → IsTouched t mid new k f → IsTouchedUp t old new a
up_touched t old mid new a k f x on y = record {
  family = y.family;
  supports = λ i v. elim (cases_eq i k) [
    | inl here ↦ subst (λ (z : ℕ). supports_of (entries_at new z) v ≡ supports_of (entries_at old z) v) (sym here)
        (y.supports v ∙ x.supports k v)
    | inr apart ↦ ap (λ (es : List Entry). supports_of es v) (y.others i apart) ∙ x.supports i v
  ];
  long = λ i. elim (cases_eq i k) [
    | inl here ↦ subst (λ (z : ℕ). length (entries_at new z) ≡ length (entries_at old z)) (sym here) (y.long ∙ x.long k)
    | inr apart ↦ ap (λ (es : List Entry). length es) (y.others i apart) ∙ x.long i
  ];
  leaves = λ i low. let high = on_high t a k x.family.is_tree on in y.others i (omega arith) ∙ x.leaves i low;
  off = λ i h. y.others i (λ (e : i ≡ k). absurd (false≢true (sym h.1 ∙ ap (λ (z : ℕ). on_path t.nodes a z) e ∙ on)))
      ∙ x.off i h;
}

pub up_more : (t : Tree) (old mid new : List Table) (a k j second : ℕ) (removal : Bool) (f h : List ℕ → ℕ)
    → IsTouchedUp t old mid a → j ≡ path_at t.nodes a k
    → (has_child (node_at t.nodes k) j ≡ true → second ≤ k → IsTouched t mid new k f)
    → (has_child (node_at t.nodes k) j ≡ true → k < second → removal ≡ true → IsTouched t mid new k h)
    → (k < second → removal ≡ false → new ≡ mid) → (has_child (node_at t.nodes k) j ≡ false → new ≡ mid)
    → IsTouchedUp t old new a
up_more t old mid new a k j second removal f h x at above below idle apart =
    elim (cases_Bool (has_child (node_at t.nodes k) j)) [
      | inl child ↦ (
          let on : on_path t.nodes a k ≡ true = on_at t.nodes a k j at ∙ child in
          elim (cases_lt k second) [
            | inl low ↦ elim (cases_Bool removal) [
              | inl going ↦ up_touched t old mid new a k h x on (below child low going)
              | inr coming ↦ up_same t old mid new a x (idle low coming)
            ]
            | inr high ↦ up_touched t old mid new a k f x on (above child high)
          ])
      | inr none ↦ up_same t old mid new a x (apart none)
    ]

-- how far it has come
pub steps_none : (nodes : List Node) (a : ℕ) → steps nodes a 0 ≡ 0
unfolding steps
steps_none nodes a = refl

pub steps_more : (nodes : List Node) (a k j : ℕ) → j ≡ path_at nodes a k → steps nodes a (k + 1)
    ≡ steps nodes a k + one_if (has_child (node_at nodes k) j)
unfolding steps
steps_more nodes a k j e = rw add-one (ap (λ (b : Bool). steps nodes a k + one_if b) (on_at nodes a k j e))

pub steps_count : (x y z m c d e : ℕ) → x ≡ y + z → c ≤ d + y * m → e ≤ c + z * m → e ≤ d + x * m
steps_count x y z m c d e h k l = let s : x * m
    ≡ (y + z) * m = ap (λ (n : ℕ). n * m) h in let r = spread y z m in omega arith
  where
    spread : (p q r : ℕ) → (p + q) * r ≡ p * r + q * r
    spread p q r = omega arith

no_marks : (es : List Entry) (v : List ℕ) → count_of (marks (unmarked es)) v ≡ 0
unfolding count_of
no_marks es v = ap (λ (xs : List Entry). count_of xs v) (unmarked_marks es)

-- marks are cleared
pub cleared_leaf : (t : Tree) (old new : List Table) (a : ℕ) → IsFamily t old → ChangedOneTable old new a
    → entries_at new a
    ≡ unmarked (entries_at old a) → HasCleared t old new a 0
cleared_leaf t old new a f c e = record {
  family = c.family t f;
  supports = λ i v. elim (cases_eq i a) [
    | inl here ↦ subst (λ (z : ℕ). supports_of (entries_at new z) v ≡ supports_of (entries_at old z) v) (sym here)
        (ap (λ (es : List Entry). supports_of es v) e ∙ unmarked_supp (entries_at old a) v)
    | inr apart ↦ ap (λ (es : List Entry). supports_of es v) (c.others i apart)
  ];
  long = λ i. elim (cases_eq i a) [
    | inl here ↦ subst (λ (z : ℕ). length (entries_at new z) ≡ length (entries_at old z)) (sym here)
        (ap (λ (es : List Entry). length es) e ∙ length_unmarked (entries_at old a))
    | inr apart ↦ ap (λ (es : List Entry). length es) (c.others i apart)
  ];
  off = λ i h. c.others i h.0;
  leaf = λ v. ap (λ (es : List Entry). count_of (marks es) v) e ∙ no_marks (entries_at old a) v;
  path = λ i low on v. absurd (omega arith);
}

pub cleared_more : (t : Tree) (old mid new : List Table) (a k j : ℕ) → a < t.leaves → HasCleared t old mid a k → j
    ≡ path_at t.nodes a k → (has_child (node_at t.nodes k) j ≡ true → entries_at new k ≡ unmarked (entries_at mid k))
    → (has_child (node_at t.nodes k) j ≡ true → ChangedOneTable mid new k)
    → (has_child (node_at t.nodes k) j ≡ false → new ≡ mid) → HasCleared t old new a (k + 1)
cleared_more t old mid new a k j leaf x at clear change apart =
    elim (cases_Bool (has_child (node_at t.nodes k) j)) [
      | inl child ↦ (
          let on : on_path t.nodes a k ≡ true = on_at t.nodes a k j at ∙ child in
          let c = change child in
          let e = clear child in
          let high = on_high t a k x.family.is_tree on in
          record {
            family = c.family t x.family;
            supports = λ i v. elim (cases_eq i k) [
              | inl here ↦ subst (λ (z : ℕ). supports_of (entries_at new z) v ≡ supports_of (entries_at old z) v)
                  (sym here)
                  (ap (λ (es : List Entry). supports_of es v) e ∙ unmarked_supp (entries_at mid k) v ∙ x.supports k v)
              | inr other ↦ ap (λ (es : List Entry). supports_of es v) (c.others i other) ∙ x.supports i v
            ];
            long = λ i. elim (cases_eq i k) [
              | inl here ↦ subst (λ (z : ℕ). length (entries_at new z) ≡ length (entries_at old z)) (sym here)
                  (ap (λ (es : List Entry). length es) e ∙ length_unmarked (entries_at mid k) ∙ x.long k)
              | inr other ↦ ap (λ (es : List Entry). length es) (c.others i other) ∙ x.long i
            ];
            off = λ i h. c.others i
                (λ (z : i ≡ k). absurd (false≢true (sym h.1 ∙ ap (λ (y : ℕ). on_path t.nodes a y) z ∙ on))) ∙ x.off i h;
            leaf = λ v. ap (λ (es : List Entry). count_of (marks es) v) (c.others a (omega arith)) ∙ x.leaf v;
            path = λ i low on_i v. elim (cases_eq i k) [
              | inl here ↦ subst (λ (z : ℕ). count_of (marks (entries_at new z)) v ≡ 0) (sym here)
                  (ap (λ (es : List Entry). count_of (marks es) v) e ∙ no_marks (entries_at mid k) v)
              | inr other ↦ ap (λ (es : List Entry). count_of (marks es) v) (c.others i other)
                  ∙ x.path i (omega arith) on_i v
            ];
          })
      | inr none ↦ (
          let off : on_path t.nodes a k ≡ false = on_at t.nodes a k j at ∙ none in
          subst (λ (ts : List Table). HasCleared t old ts a (k + 1)) (sym (apart none)) (record {
            family = x.family;
            supports = x.supports;
            long = x.long;
            off = x.off;
            leaf = x.leaf;
            path = λ i low on_i v. elim (cases_eq i k) [
              | inl here ↦ absurd (false≢true (sym off ∙ ap (λ (y : ℕ). on_path t.nodes a y) (sym here) ∙ on_i))
              | inr other ↦ x.path i (omega arith) on_i v
            ];
          }))
    ]

-- ---- Marks while tuples come and go.

pub plain_refl : {m : Bool} (ts : List Table) → CameAs m ts ts
plain_refl {m} ts = record { same = λ i v. refl }

pub plain_trans : {m : Bool} (ts us xs : List Table) → CameAs m ts us → CameAs m us xs → CameAs m ts xs
plain_trans {m} ts us xs a b = record { same = λ i v. b.same i v ∙ a.same i v }

pub fewer_refl : (ts : List Table) → Fewer ts ts
fewer_refl ts = record { unmarked = λ i v. omega arith; marked = λ i v. omega arith }

pub fewer_trans : (ts us xs : List Table) → Fewer ts us → Fewer us xs → Fewer ts xs
fewer_trans ts us xs a b = record {
  unmarked = λ i v. omega (arith, a.unmarked i v, b.unmarked i v);
  marked = λ i v. omega
      (arith, a.marked i v, b.marked i v);
}

-- at each node: what holds at k, and what holds of all that stay
each : (P : List Entry → List Entry → Type 0) (old new : List Table) (k : ℕ) → ChangedOneTable old new k
    → P (entries_at old k) (entries_at new k) → ((es : List Entry) → P es es) → (i : ℕ)
    → P (entries_at old i) (entries_at new i)
each P old new k c here stay i =
    elim (cases_eq i k) [
      | inl e ↦ subst (λ (j : ℕ). P (entries_at old j) (entries_at new j)) (sym e) here
      | inr apart ↦ subst (λ (es : List Entry). P (entries_at old i) es) (sym (c.others i apart))
          (stay (entries_at old i))
    ]

inserted_unlike : (m : Bool) (key : List ℕ) (old new : List Entry) (u : List ℕ) → InsertedAs m key old new u
    → unlike m new ≡ unlike m old
inserted_unlike true key old new u i = inserted_plain key old new u i
inserted_unlike false key old new u i = ap marks i.is ∙ marks_middle i.front i.entry i.back i.marked
    ∙ sym (ap marks i.was)

pub inserted_same : {m : Bool} (old new : List Table) (k : ℕ) (u : List ℕ) → ChangedOneTable old new k
    → InsertedAs m (key_at old k) (entries_at old k) (entries_at new k) u → CameAs m old new
inserted_same {m} old new k u c i = record {
  same = each (λ ds es. (v : List ℕ) → count_of (unlike m es) v ≡ count_of (unlike m ds) v) old new k c
      (λ v. ap (λ (es : List Entry). count_of es v)
      (inserted_unlike m (key_at old k) (entries_at old k) (entries_at new k) u i)) (λ es v. refl);
}

-- more supports or fewer
plain_alike : (xs : List Entry) (d e : Entry) (ys : List Entry) (v : List ℕ) → d.tuple ≡ e.tuple → d.marked ≡ e.marked
    → count_of (plain (xs ++ e ∷ ys)) v ≡ count_of (plain (xs ++ d ∷ ys)) v
plain_alike xs d e ys v t m =
    elim (cases_Bool d.marked) [
      | inl marked ↦ ap (λ (es : List Entry). count_of es v)
          (plain_middle xs e ys (sym m ∙ marked) ∙ sym (plain_middle xs d ys marked))
      | inr other ↦
          ap (λ (es : List Entry). count_of es v)
          (plain-append xs (e ∷ ys) ∙ ap (λ (es : List Entry). plain xs ++ es) (plain_no e ys (sym m ∙ other)))
          ∙ cnt_middle (plain xs) e (plain ys) v
          ∙ ap (λ (w : List ℕ). one_if (same w v) + count_of (plain xs ++ plain ys) v) (sym t)
          ∙ sym (ap (λ (es : List Entry). count_of es v)
          (plain-append xs (d ∷ ys) ∙ ap (λ (es : List Entry). plain xs ++ es) (plain_no d ys other))
          ∙ cnt_middle (plain xs) d (plain ys) v)
    ]

pub supported_plain : (old new : List Entry) (u : List ℕ) (from to : ℕ) → Supported old new u from to → (v : List ℕ)
    → count_of (plain new) v ≡ count_of (plain old) v
supported_plain old new u from to s v =
    ap (λ (es : List Entry). count_of (plain es) v) s.is
    ∙ plain_alike s.front s.before s.after s.back v (s.tuple ∙ sym s.same_tuple) (sym s.same_mark)
    ∙ ap (λ (es : List Entry). count_of (plain es) v) (sym s.was)

pub supported_marks : (old new : List Entry) (u : List ℕ) (from to : ℕ) → Supported old new u from to → (v : List ℕ)
    → count_of (marks new) v ≡ count_of (marks old) v
supported_marks old new u from to s v =
    omega (
      arith,
      supported_plain old new u from to s v,
      supported_cnt old new u from to s v,
      cnt_split old v,
      cnt_split
          new v,
    )

supported_unlike : (m : Bool) (old new : List Entry) (u : List ℕ) (from to : ℕ) → Supported old new u from to
    → (v : List ℕ) → count_of (unlike m new) v ≡ count_of (unlike m old) v
supported_unlike true old new u from to s v = supported_plain old new u from to s v
supported_unlike false old new u from to s v = supported_marks old new u from to s v

pub raised_same : {m : Bool} (old new : List Table) (k : ℕ) (u : List ℕ) (from to : ℕ) → ChangedOneTable old new k
    → Supported (entries_at old k) (entries_at new k) u from to → CameAs m old new
raised_same {m} old new k u from to c s = record {
  same = each (λ ds es. (v : List ℕ) → count_of (unlike m es) v ≡ count_of (unlike m ds) v) old new k c
      (supported_unlike m (entries_at old k) (entries_at new k) u from to s) (λ es v. refl);
}

pub lowered_fewer : (old new : List Table) (k : ℕ) (u : List ℕ) (from to : ℕ) → ChangedOneTable old new k
    → Supported (entries_at old k) (entries_at new k) u from to → Fewer old new
lowered_fewer old new k u from to c s = record {
  unmarked = each (λ ds es. (v : List ℕ) → count_of (plain es) v ≤ count_of (plain ds) v) old new k c
      (λ v. omega (arith, supported_plain (entries_at old k) (entries_at new k) u from to s v)) (λ es v. omega arith);
  marked = each (λ ds es. (v : List ℕ) → count_of (marks es) v ≤ count_of (marks ds) v) old new k c
      (λ v. omega (arith, supported_marks (entries_at old k) (entries_at new k) u from to s v)) (λ es v. omega arith);
}

plain_less : (xs : List Entry) (e : Entry) (ys : List Entry) (v : List ℕ)
    → count_of (plain (xs ++ ys)) v ≤ count_of (plain (xs ++ e ∷ ys)) v
plain_less xs e ys v =
    elim (cases_Bool e.marked) [
      | inl marked ↦ rw (plain_middle xs e ys marked) (omega arith)
      | inr other ↦ rw (plain-append, plain-append, plain_no e ys other)
          (omega (arith, cnt_middle (plain xs) e (plain ys) v))
    ]

marks_less : (xs : List Entry) (e : Entry) (ys : List Entry) (v : List ℕ)
    → count_of (marks (xs ++ ys)) v ≤ count_of (marks (xs ++ e ∷ ys)) v
marks_less xs e ys v =
    elim (cases_Bool e.marked) [
      | inl marked ↦ rw (marks-append, marks-append, marks_yes e ys marked)
          (omega (arith, cnt_middle (marks xs) e (marks ys) v))
      | inr other ↦ rw (marks_middle xs e ys other) (omega arith)
    ]

pub removed_plain : (old new : List Entry) (u : List ℕ) → Removed old new u → (v : List ℕ)
    → count_of (plain new) v ≤ count_of (plain old) v
removed_plain old new u r v = rw (r.was, r.is) (plain_less r.front r.entry r.back v)

pub removed_marks : (old new : List Entry) (u : List ℕ) → Removed old new u → (v : List ℕ)
    → count_of (marks new) v ≤ count_of (marks old) v
removed_marks old new u r v = rw (r.was, r.is) (marks_less r.front r.entry r.back v)

pub removed_fewer : (old new : List Table) (k : ℕ) (u : List ℕ) → ChangedOneTable old new k
    → Removed (entries_at old k) (entries_at new k) u → Fewer old new
removed_fewer old new k u c r = record {
  unmarked = each (λ ds es. (v : List ℕ) → count_of (plain es) v ≤ count_of (plain ds) v) old new k c
      (removed_plain (entries_at old k) (entries_at new k) u r) (λ es v. omega arith);
  marked = each (λ ds es. (v : List ℕ) → count_of (marks es) v ≤ count_of (marks ds) v) old new k c
      (removed_marks (entries_at old k) (entries_at new k) u r) (λ es v. omega arith);
}

-- what came in between is gone again, so the marks are the same
back_as : (m : Bool) (t : Tree) (ts us xs : List Table) → IsFamily t ts → IsFamily t us → IsFamily t xs → CameAs m ts us
    → Fewer us xs → ((i : ℕ) (v : List ℕ) → supports_of (entries_at xs i) v ≡ supports_of (entries_at ts i) v)
    → CameAs m ts xs
back_as true t ts us xs f g h a b s = record {
  same = λ i v.
      omega (
        arith,
        a.same i v,
        b.unmarked i v,
        b.marked i v,
        tuples_same t ts xs f h i (s i) v,
        once t us g i v,
        cnt_split (entries_at ts i) v,
        cnt_split (entries_at us i) v,
        cnt_split (entries_at xs i) v,
      );
}
back_as false t ts us xs f g h a b s = record {
  same = λ i v.
      omega (
        arith,
        a.same i v,
        b.unmarked i v,
        b.marked i v,
        tuples_same t ts xs f h i (s i) v,
        once t us g i v,
        cnt_split (entries_at ts i) v,
        cnt_split (entries_at us i) v,
        cnt_split (entries_at xs i) v,
      );
}

pub back_same : {m : Bool} (t : Tree) (ts us xs : List Table) → IsFamily t ts → IsFamily t us → IsFamily t xs
    → CameAs m ts us → Fewer us xs → ((i : ℕ) (v : List ℕ) → supports_of (entries_at xs i) v ≡ supports_of
    (entries_at ts i) v)
    → CameAs m ts xs
back_same {m} t ts us xs f g h a b s = back_as m t ts us xs f g h a b s

-- where nothing is marked, and what comes is not, nothing is
no_entries : (es : List Entry) → ((v : List ℕ) → count_of es v ≡ 0) → es ≡ []
no_entries [] h = refl
no_entries (e ∷ es) h = absurd (omega (arith, h e.tuple, cnt_cons e es e.tuple, one_same e.tuple))

pub bare_at : (ts : List Table) (k : ℕ) → IsBare ts → marks (entries_at ts k) ≡ []
bare_at ts k b = no_entries (marks (entries_at ts k)) (b.none k)

pub still_bare : (m : Bool) (old new : List Table) → CameAs m old new → (m ≡ false → IsBare old) → m ≡ false
    → IsBare new
still_bare true old new c h e = absurd (false≢true (sym e))
still_bare false old new c h e = record { none = λ i v. c.same i v ∙ (h refl).none i v }

pub fewer_bare : (old new : List Table) → Fewer old new → IsBare old → IsBare new
fewer_bare old new f b = record { none = λ i v. omega (arith, f.marked i v, b.none i v) }

-- ---- A group of a guard's tuples comes to its meet, or goes from it, one tuple after another.

-- a group's tuples
pub group_once : (ks : List ℕ) (es : List Entry) (w v : List ℕ) → TuplesDiffer es → count_of (group_of ks es w) v ≤ 1
group_once ks es w v h =
    elim (same_cases (pick ks v) w) [
      | inl here ↦ (let e = one_true (same (pick ks v) w) (is_same (pick ks v) w here) in rw (cnt_grp ks es w v, e)
          (omega (arith, cnt_once es v h)))
      | inr other ↦ (let e = one_other (pick ks v) w other in rw (cnt_grp ks es w v, e) (omega arith))
    ]

pub group_has : (ks : List ℕ) (es : List Entry) (w v : List ℕ) → 0 < count_of (group_of ks es w) v → (0 < count_of es v)
    × (pick ks v ≡ w)
group_has ks es w v h =
    elim (same_cases (pick ks v) w) [
      | inl here ↦ (let e = one_true (same (pick ks v) w) (is_same (pick ks v) w here) in let k : count_of
          (group_of ks es w) v
          ≡ count_of es v * 1 = rw (← e) (cnt_grp ks es w v) in (omega arith, here))
      | inr other ↦ (let e = one_other (pick ks v) w other in let k : count_of (group_of ks es w) v
          ≡ count_of es v * 0 = rw (← e) (cnt_grp ks es w v) in absurd (omega arith))
    ]

-- first parts of a list
pub take_le : (g : List Entry) (i : ℕ) (v : List ℕ) → count_of (take i g) v ≤ count_of g v
take_le g i v = omega
    (arith, count_of-append (take i g) (drop i g) v, ap (λ (es : List Entry). count_of es v) (take-append-drop i g))

pub take_all : (g : List Entry) (i : ℕ) (v : List ℕ) → drop i g ≡ [] → count_of (take i g) v ≡ count_of g v
unfolding count_of
take_all g i v h =
    let none : count_of (drop i g) v ≡ 0 = ap (λ (es : List Entry). count_of es v) h in
    omega (
      arith,
      count_of-append (take i g) (drop i g) v,
      ap (λ (es : List Entry). count_of es v)
          (take-append-drop i g),
    )

nothing : (v : List ℕ) → count_of [] v ≡ 0
unfolding count_of
nothing v = refl

pub take_grows : (g : List Entry) (i n : ℕ) (v : List ℕ) → i ≤ n → count_of (take i g) v ≤ count_of (take n g) v
take_grows [] i n v h = omega (arith, take_le [] i v, nothing v)
take_grows (e ∷ g) zero n v h = omega (arith, nothing v)
take_grows (e ∷ g) (suc i) zero v h = absurd (omega arith)
take_grows (e ∷ g) (suc i) (suc n) v h = omega
    (arith, cnt_cons e (take i g) v, cnt_cons e (take n g) v, take_grows g i n v (omega arith))

pub head_none : (es : List Entry) → head_at es ≡ None → es ≡ []
unfolding head_at
head_none [] h = refl
head_none (e ∷ es) h = absurd cc

pub drop_group : (ks : List ℕ) (es : List Entry) (w : List ℕ) (n : ℕ) → n ≡ length es → drop n (group_of ks es w) ≡ []
drop_group ks es w n h = drop_of_length-le (group_of ks es w) (omega (arith, length_grp ks es w, many_length ks es w))

-- the next one of the list
pub cut_cnt : (g : List Entry) (i : ℕ) (e : Entry) (v : List ℕ) → g ≡ take i g ++ e ∷ drop (i + 1) g
    → (count_of g v ≡ count_of (take i g) v + one_if (same e.tuple v) + count_of (drop (i + 1) g) v)
    × (count_of (take (i + 1) g) v ≡ count_of (take i g) v + one_if (same e.tuple v))
cut_cnt g i e v h =
    let whole : count_of g v ≡ count_of (take i g) v + one_if (same e.tuple v) + count_of (drop (i + 1) g) v = omega (
      arith,
      ap (λ (es : List Entry). count_of es v) h,
      count_of-append (take i g) (e ∷ drop (i + 1) g) v,
      cnt_cons e
          (drop (i + 1) g) v,
    ) in (
      whole,
      omega (
        arith,
        ap (λ (es : List Entry). count_of es v) (take-append-drop (i + 1) g),
        count_of-append (take (i + 1) g)
            (drop (i + 1) g) v,
      ),
    )

-- where each stands once, those before it are others
pub cut_new : (g : List Entry) (i : ℕ) (e : Entry) → ((v : List ℕ) → count_of g v ≤ 1) → g ≡ take i g ++ e ∷ drop
    (i + 1) g
    → (count_of (take i g) e.tuple ≡ 0) × (count_of g e.tuple ≡ 1) × (count_of (take (i + 1) g) e.tuple ≡ 1)
cut_new g i e once_each h =
    let c = cut_cnt g i e e.tuple h in
    let first = c.0 in
    let second = c.1 in
    let one_here = one_same e.tuple in
    let most = once_each e.tuple in
    (omega arith, omega arith, omega arith)

pub present : (es : List Entry) (u : List ℕ) → 0 < supports_of es u → 0 < count_of es u
present es u h = elim (cases_lt 0 (count_of es u))
    [ inl some ↦ some | inr none ↦ absurd (omega (arith, supp_none es u (omega arith))) ]

-- none came yet
pub grown_none : (t : Tree) (ts : List Table) (k : ℕ) (g : List Entry) → Ready t ts k → IsGrown t ts ts k (take 0 g)
grown_none t ts k g r = record
    { family = r.family; low = λ i h. refl; came = λ v. omega (arith, none g v); reduced = r.reduced }
  where
    none : (h : List Entry) (v : List ℕ) → count_of (take 0 h) v ≡ 0
    none [] v = nothing v
    none (x ∷ xs) v = nothing v

pub grown_ready : (t : Tree) (old mid : List Table) (k : ℕ) (es : List Entry) → k < length t.nodes
    → IsGrown t old mid k es → Ready t mid k
grown_ready t old mid k es within g = record { family = g.family; within = within; reduced = g.reduced }

-- one more came
pub grown_more : (t : Tree) (old mid new : List Table) (k : ℕ) (g : List Entry) (i : ℕ) (e : Entry)
    → IsGrown t old mid k (take i g) → InsertedUpwards t mid new k e.tuple → g ≡ take i g ++ e ∷ drop (i + 1) g
    → IsGrown t old new k (take (i + 1) g)
grown_more t old mid new k g i e was l cut = record {
  family = l.family;
  low = λ j less. l.below j (below_up t k j was.family.is_tree less) ∙ was.low j less;
  came = λ v. omega (
    arith,
    inserted_supp (key_at mid k) (entries_at mid k) (entries_at new k) e.tuple l.gains v,
    was.came v,
    (cut_cnt g i e v cut).1,
  );
  reduced = l.reduced;
}

-- none went yet
pub emptied_none : (t : Tree) (ts : List Table) (k : ℕ) (g : List Entry) → Ready t ts k → IsEmptied t ts ts k (take 0 g)
emptied_none t ts k g r = record
    { family = r.family; low = λ i h. refl; lost = λ v. omega (arith, none g v); reduced = r.reduced }
  where
    none : (h : List Entry) (v : List ℕ) → count_of (take 0 h) v ≡ 0
    none [] v = nothing v
    none (x ∷ xs) v = nothing v

pub emptied_ready : (t : Tree) (old mid : List Table) (k : ℕ) (es : List Entry) → k < length t.nodes
    → IsEmptied t old mid k es → Ready t mid k
emptied_ready t old mid k es within g = record { family = g.family; within = within; reduced = g.reduced }

-- the next one is still there
pub still_there : (t : Tree) (old mid : List Table) (k : ℕ) (g : List Entry) (i n : ℕ) (e : Entry)
    → IsEmptied t old mid k (take i g) → CoversAll (entries_at old k) (take n g) → i < n
    → ((v : List ℕ) → count_of g v ≤ 1) → g
    ≡ take i g ++ e ∷ drop (i + 1) g → supports_of (entries_at mid k) e.tuple ≡ 1
still_there t old mid k g i n e m full less once_each cut =
    let c = cut_new g i e once_each cut in
    let first = c.0 in
    let third = c.2 in
    omega (arith, m.lost e.tuple, full.each e.tuple (omega (arith, take_grows g (i + 1) n e.tuple (omega arith))))

pub cond_one : (b : Bool) (n : ℕ) → n ≡ 1 → cond b n 0 ≡ one_if b
unfolding one_if
cond_one true n h = h
cond_one false n h = refl

-- one more went
pub emptied_more : (t : Tree) (old mid new : List Table) (k : ℕ) (g : List Entry) (i : ℕ) (e : Entry)
    → IsEmptied t old mid k (take i g) → RemovedUpwards t mid new k e.tuple → supports_of (entries_at mid k) e.tuple
    ≡ 1 → g
    ≡ take i g ++ e ∷ drop (i + 1) g → IsEmptied t old new k (take (i + 1) g)
emptied_more t old mid new k g i e was d has cut = record {
  family = d.family;
  low = λ j less. d.below j (below_up t k j was.family.is_tree less) ∙ was.low j less;
  lost = λ v.
      omega (
        arith,
        removed_supp (entries_at mid k) (entries_at new k) e.tuple d.loses (apart_of t mid was.family k) v,
        cond_one (same e.tuple v) (supports_of (entries_at mid k) e.tuple) has,
        was.lost v,
        (cut_cnt g i e v cut).1,
      );
  reduced = d.reduced;
}

-- all of a list that ends early
pub emptied_all : (t : Tree) (old new : List Table) (k : ℕ) (g : List Entry) (i n : ℕ)
    → IsEmptied t old new k (take i g) → i ≤ n → drop i g ≡ [] → IsEmptied t old new k (take n g)
emptied_all t old new k g i n m less ends = record {
  family = m.family;
  low = m.low;
  lost = λ v. omega (arith, m.lost v, take_all g i v ends, take_grows g i n v less, take_le g n v);
  reduced = m.reduced;
}
