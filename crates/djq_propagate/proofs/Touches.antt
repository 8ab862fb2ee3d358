-- Touches, one after another.
use Rattle.std.proofs.Common.{◌≡◌, ℕ, ◌+◌, ◌*◌, ◌<◌, ◌≤◌, Bool, true, false, cond, List, [], ◌∷◌, ◌++◌, length, take}
use Rattle.std.proofs.Common.{drop, Some, None, refl, ap, ap₂, subst, sym, ◌∙◌, arith, inl, inr, length-append}
use Rattle.std.specs.Prelude.{◌==◌}
use Rattle.std.proofs.lemmas.Bool.{cases_eq, cases_lt, cases_Bool, eq-eqb, ne_eqb}
use Rattle.std.proofs.lemmas.List.{take-append-drop, length-take, append-nil}
use Rattle.std.proofs.Math.ListN.{drop_of_length-le}
use Rattle.djq_index.specs.declared.place.Place.{Place}
use Rattle.djq_index.specs.Tuple.{same, pick, one_if}
use Rattle.djq_index.specs.Entries.{Entry, count_of, group_size, group_of, marks, plain, is_marked, head_at}
use Rattle.djq_index.specs.Changes.{Touched}
use Rattle.djq_index.specs.Table.{Table, IsAt, TuplesDiffer, AreLast}
use Rattle.djq_index.proofs.Tuples.{same_is, same_refl, same_cases, same_sym, one_other, one_true, true_from_one}
use Rattle.djq_index.proofs.Tuples.{one_false, length_grp, cnt_cons, group_size-append, many_cons, cnt_split}
use Rattle.djq_index.proofs.Tuples.{many_split, there}
use Rattle.djq_index.proofs.Groups.{cnt_grp, touched_supp, touched_length, touched_marks, whole_group, part_group}
use Rattle.djq_index.proofs.Groups.{marked_cnt, is_marked_here, is_marked_else, WalkCut}
use Rattle.djq_index.proofs.ClearedMarks.{length_marks}
use Rattle.djq_tree.specs.declared.node.Node.{Node}
use Rattle.djq_tree.specs.declared.node.Node.TheVariants.{Leaf, Trim, Meet}
use Rattle.djq_tree.specs.Tree.{Tree, IsTree, node_at, has_child}
use Rattle.djq_tree.proofs.Paths.{rising_of}
use Rattle.djq_reduct.specs.Tables.{entries_at, key_at}
use Rattle.djq_reduct.specs.Reducts.{IsFamily}
use Rattle.djq_propagate.specs.Walks.{ChangedOneTable, IsParentOf}
use Rattle.djq_propagate.specs.Touches.{IsTouched, IsStepUp, is_marked_by, reach_one, reach, cost_one, cost}
use Rattle.djq_propagate.proofs.Families.{once, apart_of, tuples_same, guard_has}
use Rattle.djq_propagate.proofs.PathMarks.{cut_cnt, head_none}
use Rattle.djq_propagate.proofs.Walks.{mark_at, group_at, group_split, trim_same}

-- nothing is touched
pub touched_none : (t : Tree) (ts : List Table) (k : ℕ) (f : List ℕ → ℕ) → IsFamily t ts
    → ((v : List ℕ) → 0 < count_of (entries_at ts k) v → 0 < f v → 0 < count_of (marks (entries_at ts k)) v)
    → IsTouched t ts ts k f
touched_none t ts k f family all = record {
  family = family;
  others = λ i h. refl;
  supports = λ v. refl;
  long = refl;
  keeps = λ v. omega arith;
  comes = all;
  only = λ v h. omega arith;
}

-- one tuple is
pub touched_one : (t : Tree) (old new : List Table) (k : ℕ) (u : List ℕ) → IsFamily t old → ChangedOneTable old new k
    → Touched (key_at old k) (entries_at old k) (entries_at new k) u → IsTouched t old new k (λ v. one_if (same u v))
touched_one t old new k u f c x = record {
  family = c.family t f;
  others = c.others;
  supports = touched_supp (key_at old k) (entries_at old k) (entries_at new k) u x;
  long = touched_length (key_at old k) (entries_at old k) (entries_at new k) u x;
  keeps = λ v. omega (arith, touched_marks (key_at old k) (entries_at old k) (entries_at new k) u x v);
  comes = λ v there some. omega (arith, touched_marks (key_at old k) (entries_at old k) (entries_at new k) u x v);
  only = λ v some. omega (arith, touched_marks (key_at old k) (entries_at old k) (entries_at new k) u x v);
}

-- it is absent, or marked
pub one_absent : (es : List Entry) (u v : List ℕ) → count_of es u ≡ 0 → 0 < count_of es v → 0 < one_if (same u v)
    → 0 < count_of (marks es) v
one_absent es u v none some here =
    let e : u ≡ v = same_is u v (true_from_one (same u v) here) in
    let k : count_of es v ≡ 0 = subst (λ (w : List ℕ). count_of es w ≡ 0) e none in
    absurd (omega arith)

pub one_marked : (es : List Entry) (u v : List ℕ) → TuplesDiffer es → is_marked es u ≡ true → 0 < count_of es v
    → 0 < one_if (same u v) → 0 < count_of (marks es) v
one_marked es u v h m some here =
    let e : u ≡ v = same_is u v (true_from_one (same u v) here) in
    let k : is_marked es v ≡ true = subst (λ (w : List ℕ). is_marked es w ≡ true) e m in
    omega (arith, marked_cnt es v h, one_true (is_marked es v) k)

-- the same by another count
pub touched_as : (t : Tree) (old new : List Table) (k : ℕ) (f h : List ℕ → ℕ) → IsTouched t old new k f
    → ((v : List ℕ) → h v ≡ f v) → IsTouched t old new k h
touched_as t old new k f h x same_count = record {
  family = x.family;
  others = x.others;
  supports = x.supports;
  long = x.long;
  keeps = x.keeps;
  comes = λ v there some. x.comes v there (omega (arith, same_count v));
  only = λ v some. omega (arith, x.only v some, same_count v);
}

-- a tuple with so many supports is there
tuples_touched : (t : Tree) (old new : List Table) (k : ℕ) (f : List ℕ → ℕ) → IsFamily t old → IsTouched t old new k f
    → (v : List ℕ) → count_of (entries_at new k) v ≡ count_of (entries_at old k) v
tuples_touched t old new k f family x v = tuples_same t old new family x.family k x.supports v

-- and more
pub touched_more : (t : Tree) (a b c : List Table) (k : ℕ) (f g h : List ℕ → ℕ) → IsFamily t a → IsTouched t a b k f
    → IsTouched t b c k g → ((v : List ℕ) → h v ≡ f v + g v) → IsTouched t a c k h
touched_more t a b c k f g h family x y sum = record {
  family = y.family;
  others = λ i apart. y.others i apart ∙ x.others i apart;
  supports = λ v. y.supports v ∙ x.supports v;
  long = y.long ∙ x.long;
  keeps = λ v. omega (arith, x.keeps v, y.keeps v);
  comes = comes;
  only = only;
}
  where
    comes : (v : List ℕ) → 0 < count_of (entries_at a k) v → 0 < h v → 0 < count_of (marks (entries_at c k)) v
    comes v there some =
        elim (cases_lt 0 (f v)) [
          | inl first ↦ omega (arith, x.comes v there first, y.keeps v)
          | inr none ↦ y.comes v (omega (arith, tuples_touched t a b k f family x v)) (omega (arith, sum v))
        ]

    only : (v : List ℕ) → 0 < count_of (marks (entries_at c k)) v → 0 < count_of (marks (entries_at a k)) v + h v
    only v some =
        let later = y.only v some in
        elim (cases_lt 0 (count_of (marks (entries_at b k)) v)) [
          | inl before ↦ omega (arith, x.only v before, sum v)
          | inr none ↦ omega (arith, sum v)
        ]

-- whether a trim's tuple is to be marked
last_of : (t : Tree) (ts : List Table) (k : ℕ) → IsFamily t ts → AreLast (key_at ts k) (entries_at ts k)
unfolding key_at entries_at
last_of t ts k f = (f.sound k).last

pub gate_open : (n : ℕ) → is_marked_by false n ≡ true
unfolding is_marked_by
gate_open n = refl

pub gate_test : (n : ℕ) → is_marked_by true n ≡ (n == 0)
unfolding is_marked_by
gate_test n = refl

empty_many : (ks : List ℕ) (w : List ℕ) (es : List Entry) → group_size ks (plain es) w ≤ group_size ks es w
empty_many ks w es = omega (arith, many_split ks es w)

pub gate_none : (ks : List ℕ) (es : List Entry) (w : List ℕ) → head_at (group_of ks es w) ≡ None → true
    ≡ is_marked_by true (group_size ks (plain es) w)
gate_none ks es w h =
    let e : length (group_of ks es w) ≡ 0 = ap (λ (xs : List Entry). length xs) (head_none (group_of ks es w) h) in
    sym (gate_test (group_size ks (plain es) w)
    ∙ eq-eqb (group_size ks (plain es) w) 0 (omega (arith, length_grp ks es w, empty_many ks w es)))

first_of_group : (g : List Entry) (p : Place) → head_at g ≡ Some p → (e : Entry) × (rest : List Entry) × (g ≡ e ∷ rest)
    × (e.at ≡ p)
unfolding head_at
first_of_group [] p h = absurd cc
first_of_group (e ∷ g) p h = (e, g, refl, cc)

marked_middle : (xs : List Entry) (e : Entry) (ys : List Entry) → TuplesDiffer (xs ++ e ∷ ys)
    → is_marked (xs ++ e ∷ ys) e.tuple ≡ e.marked
unfolding TuplesDiffer
marked_middle [] e ys h = is_marked_here e ys e.tuple (same_refl e.tuple)
marked_middle (x ∷ xs) e ys h =
    elim (same_cases x.tuple e.tuple) [
      | inl here ↦ absurd (let none : count_of (xs ++ e ∷ ys) e.tuple
          ≡ 0 = subst (λ (w : List ℕ). count_of (xs ++ e ∷ ys) w ≡ 0) here h.0 in omega
          (arith, there (xs ++ e ∷ ys) xs e ys e.tuple refl refl))
      | inr other ↦ is_marked_else x (xs ++ e ∷ ys) e.tuple other ∙ marked_middle xs e ys h.1
    ]

-- where the first of the group lies, and whether it is marked
pub record IsFirst (ks : List ℕ) (es : List Entry) (w : List ℕ) (p : Place) : Type 0 where
  pub entry : Entry
  pub rest : List Entry
  pub is : group_of ks es w ≡ entry ∷ rest
  pub is_at : IsAt es p entry.tuple

pub first_is : (ks : List ℕ) (es : List Entry) (w : List ℕ) (p : Place) → head_at (group_of ks es w) ≡ Some p
    → IsFirst ks es w p
first_is ks es w p h =
    let c = first_of_group (group_of ks es w) p h in
    record {
      entry = c.0;
      rest = c.1;
      is = c.2;
      is_at = subst (λ (q : Place). IsAt es q c.0.tuple) c.3
          (group_at ks es w [] c.0 c.1 c.2);
    }

entry_mark : (ks : List ℕ) (es : List Entry) (w : List ℕ) (e : Entry) (rest : List Entry) → TuplesDiffer es
    → group_of ks es w
    ≡ e ∷ rest → is_marked es e.tuple ≡ e.marked
entry_mark ks es w e rest h is =
    let s = group_split ks es w e rest is in
    subst (λ (xs : List Entry). is_marked xs e.tuple ≡ e.marked) (sym s.2)
    (marked_middle s.0 e s.1 (subst TuplesDiffer s.2 h))

pub gate_first : (t : Tree) (ts : List Table) (k : ℕ) (w : List ℕ) (p : Place) (b : Bool)
    (x : IsFirst (key_at ts k) (entries_at ts k) w p) → IsFamily t ts → b ≡ is_marked (entries_at ts k) x.entry.tuple
    → b ≡ is_marked_by true (group_size (key_at ts k) (plain (entries_at ts k)) w)
gate_first t ts k w p b x f e =
    let m = e ∙ entry_mark (key_at ts k) (entries_at ts k) w x.entry x.rest (apart_of t ts f k) x.is in
    elim (cases_Bool x.entry.marked) [
      | inl marked ↦ (let none = whole_group (key_at ts k) (entries_at ts k) w x.entry x.rest (last_of t ts k f) x.is
          marked in
          m ∙ marked ∙ sym (gate_test (group_size (key_at ts k) (plain (entries_at ts k)) w)
          ∙ eq-eqb (group_size (key_at ts k) (plain (entries_at ts k)) w) 0 none))
      | inr other ↦ (let some = part_group (key_at ts k) (entries_at ts k) w x.entry x.rest x.is other in
          m ∙ other ∙ sym (gate_test (group_size (key_at ts k) (plain (entries_at ts k)) w)
          ∙ ne_eqb (group_size (key_at ts k) (plain (entries_at ts k)) w) 0
          (λ (z : group_size (key_at ts k) (plain (entries_at ts k)) w ≡ 0). absurd (omega arith))))
    ]

-- a trim
pub reach_yes : (j : ℕ) (ts : List Table) (u v w : List ℕ) (going b : Bool) → w ≡ pick (key_at ts j) u → b
    ≡ is_marked_by going (group_size (key_at ts j) (plain (entries_at ts j)) w) → b ≡ true
    → reach_one (Trim j) going j ts u v
    ≡ one_if (same w v)
unfolding reach_one
reach_yes j ts u v w going b e g yes_gate =
    elim (same_cases w v) [
      | inl here ↦ (
          let open_gate : one_if (is_marked_by going (group_size (key_at ts j) (plain (entries_at ts j)) v))
          ≡ 1 = one_true (is_marked_by going (group_size (key_at ts j) (plain (entries_at ts j)) v))
          (ap (λ (x : List ℕ). is_marked_by going (group_size (key_at ts j) (plain (entries_at ts j)) x)) (sym here)
          ∙ sym g
          ∙ yes_gate) in
          let k : one_if (same (pick (key_at ts j) u) v) * one_if
          (is_marked_by going (group_size (key_at ts j) (plain (entries_at ts j)) v))
          ≡ one_if (same (pick (key_at ts j) u) v) * 1 = ap (λ (n : ℕ). one_if (same (pick (key_at ts j) u) v) * n)
          open_gate in
          omega (arith, ap (λ (x : List ℕ). one_if (same x v)) e))
      | inr other ↦ (
          let none : one_if (same (pick (key_at ts j) u) v) ≡ 0 = ap (λ (x : List ℕ). one_if (same x v)) (sym e)
          ∙ one_other w v other in
          let k : one_if (same (pick (key_at ts j) u) v) * one_if
          (is_marked_by going (group_size (key_at ts j) (plain (entries_at ts j)) v))
          ≡ 0 * one_if (is_marked_by going (group_size (key_at ts j) (plain (entries_at ts j)) v)) = ap
          (λ (n : ℕ). n * one_if (is_marked_by going (group_size (key_at ts j) (plain (entries_at ts j)) v))) none in
          omega (arith, one_other w v other))
    ]

pub reach_no : (j : ℕ) (ts : List Table) (u v w : List ℕ) (going b : Bool) → w ≡ pick (key_at ts j) u → b
    ≡ is_marked_by going (group_size (key_at ts j) (plain (entries_at ts j)) w) → b ≡ false
    → reach_one (Trim j) going j ts u v ≡ 0
unfolding reach_one
reach_no j ts u v w going b e g no_gate =
    elim (same_cases w v) [
      | inl here ↦ (
          let shut : one_if (is_marked_by going (group_size (key_at ts j) (plain (entries_at ts j)) v))
          ≡ 0 = one_false (is_marked_by going (group_size (key_at ts j) (plain (entries_at ts j)) v))
          (ap (λ (x : List ℕ). is_marked_by going (group_size (key_at ts j) (plain (entries_at ts j)) x)) (sym here)
          ∙ sym g
          ∙ no_gate) in
          let k : one_if (same (pick (key_at ts j) u) v) * one_if
          (is_marked_by going (group_size (key_at ts j) (plain (entries_at ts j)) v))
          ≡ one_if (same (pick (key_at ts j) u) v) * 0 = ap (λ (n : ℕ). one_if (same (pick (key_at ts j) u) v) * n) shut
          in
          omega arith)
      | inr other ↦ (
          let none : one_if (same (pick (key_at ts j) u) v) ≡ 0 = ap (λ (x : List ℕ). one_if (same x v)) (sym e)
          ∙ one_other w v other in
          let k : one_if (same (pick (key_at ts j) u) v) * one_if
          (is_marked_by going (group_size (key_at ts j) (plain (entries_at ts j)) v))
          ≡ 0 * one_if (is_marked_by going (group_size (key_at ts j) (plain (entries_at ts j)) v)) = ap
          (λ (n : ℕ). n * one_if (is_marked_by going (group_size (key_at ts j) (plain (entries_at ts j)) v))) none in
          omega arith)
    ]

-- by the kind of the node
pub reach_leaf : (n : Node) (a : ℕ) (going : Bool) (j : ℕ) (ts : List Table) (u v : List ℕ) → n ≡ Leaf a
    → reach_one n going j ts u v ≡ 0
unfolding reach_one
reach_leaf n a going j ts u v e = rw e refl

pub reach_trim : (n : Node) (c : ℕ) (going : Bool) (j : ℕ) (ts : List Table) (u v : List ℕ) → n ≡ Trim c
    → reach_one n going j ts u v ≡ reach_one (Trim c) going j ts u v
reach_trim n c going j ts u v e = ap (λ (m : Node). reach_one m going j ts u v) e

pub reach_guard : (n : Node) (g s : ℕ) (going : Bool) (j : ℕ) (ts : List Table) (u v : List ℕ) → n ≡ Meet g s → g ≡ j
    → reach_one n going j ts u v ≡ one_if (same u v)
unfolding reach_one
reach_guard n g s going j ts u v e here = rw (e, eq-eqb g j here) refl

pub reach_side : (n : Node) (g s : ℕ) (going : Bool) (j : ℕ) (ts : List Table) (u v : List ℕ) → n ≡ Meet g s
    → (g ≡ j → ⊥) → reach_one n going j ts u v ≡ count_of (group_of (key_at ts g) (entries_at ts g) u) v
unfolding reach_one
reach_side n g s going j ts u v e other = rw (e, ne_eqb g j other) refl

pub cost_trim : (n : Node) (c j : ℕ) (ts : List Table) (u : List ℕ) → n ≡ Trim c → cost_one n j ts u ≡ 3
unfolding cost_one
cost_trim n c j ts u e = rw e refl

pub cost_guard : (n : Node) (g s j : ℕ) (ts : List Table) (u : List ℕ) → n ≡ Meet g s → g ≡ j → cost_one n j ts u ≡ 2
unfolding cost_one
cost_guard n g s j ts u e here = rw (e, eq-eqb g j here) refl

pub cost_side : (n : Node) (g s j : ℕ) (ts : List Table) (u : List ℕ) → n ≡ Meet g s → (g ≡ j → ⊥) → cost_one n j ts u
    ≡ 1 + 3 * group_size (key_at ts g) (entries_at ts g) u
unfolding cost_one
cost_side n g s j ts u e other = rw (e, ne_eqb g j other) refl

-- reach and cost read the child's tables alone, which stand still
pub reach_still : (n : Node) (going : Bool) (j : ℕ) (ts us : List Table) (u v : List ℕ)
    → ((c : ℕ) → key_at us c ≡ key_at ts c) → ((c : ℕ) → has_child n c ≡ true → entries_at us c ≡ entries_at ts c)
    → reach_one n going j us u v ≡ reach_one n going j ts u v
unfolding reach_one
reach_still (Leaf a) going j ts us u v keys kids = refl
reach_still (Trim c) going j ts us u v keys kids = ap₂
    (λ (ks : List ℕ) (es : List Entry). one_if (same (pick ks u) v) * one_if
    (is_marked_by going (group_size ks (plain es) v))) (keys c)
    (kids c (eq-eqb c c refl))
reach_still (Meet g s) going j ts us u v keys kids = ap₂
    (λ (ks : List ℕ) (es : List Entry). cond (g == j) (one_if (same u v)) (count_of (group_of ks es u) v)) (keys g)
    (kids g (guard_has g s))

pub cost_still : (n : Node) (j : ℕ) (ts us : List Table) (u : List ℕ) → ((c : ℕ) → key_at us c ≡ key_at ts c)
    → ((c : ℕ) → has_child n c ≡ true → entries_at us c ≡ entries_at ts c) → cost_one n j us u ≡ cost_one n j ts u
unfolding cost_one
cost_still (Leaf a) j ts us u keys kids = refl
cost_still (Trim c) j ts us u keys kids = refl
cost_still (Meet g s) j ts us u keys kids = ap₂
    (λ (ks : List ℕ) (es : List Entry). cond (g == j) 2 (1 + 3 * group_size ks es u)) (keys g) (kids g (guard_has g s))

-- one marked tuple more
cut_many : (ks : List ℕ) (g : List Entry) (i : ℕ) (e : Entry) (w : List ℕ) → g ≡ take i g ++ e ∷ drop (i + 1) g
    → group_size ks (take (i + 1) g) w ≡ group_size ks (take i g) w + one_if (same (pick ks e.tuple) w)
cut_many ks g i e w h =
    omega (
      arith,
      ap (λ (es : List Entry). group_size ks es w) h,
      group_size-append ks (take i g) (e ∷ drop (i + 1) g) w,
      many_cons
          ks e (drop (i + 1) g) w,
      ap (λ (es : List Entry). group_size ks es w) (take-append-drop (i + 1) g),
      group_size-append ks
          (take (i + 1) g) (drop (i + 1) g) w,
    )

spread : (a b c : ℕ) → (a + b) * c ≡ a * c + b * c
spread a b c = omega arith

spread_left : (a b c : ℕ) → a * (b + c) ≡ a * b + a * c
spread_left a b c = omega arith

cond_sum : (b : Bool) (x y z p q r : ℕ) → x ≡ y + z → p ≡ q + r → cond b x p ≡ cond b y q + cond b z r
cond_sum true x y z p q r h k = h
cond_sum false x y z p q r h k = k

pub reach_more : (n : Node) (going : Bool) (j : ℕ) (ts : List Table) (g : List Entry) (i : ℕ) (e : Entry) (v : List ℕ)
    → g ≡ take i g ++ e ∷ drop (i + 1) g → reach n going j ts (take (i + 1) g) v
    ≡ reach n going j ts (take i g) v + reach_one n going j ts e.tuple v
unfolding reach reach_one
reach_more (Leaf a) going j ts g i e v h = refl
reach_more (Trim c) going j ts g i e v h =
    ap (λ (x : ℕ). x * one_if (is_marked_by going (group_size (key_at ts c) (plain (entries_at ts c)) v)))
    (cut_many (key_at ts c) g i e v h)
    ∙ spread (group_size (key_at ts c) (take i g) v) (one_if (same (pick (key_at ts c) e.tuple) v))
    (one_if (is_marked_by going (group_size (key_at ts c) (plain (entries_at ts c)) v)))
reach_more (Meet c s) going j ts g i e v h =
    cond_sum (c == j) (count_of (take (i + 1) g) v) (count_of (take i g) v) (one_if (same e.tuple v))
    (count_of (entries_at ts c) v * count_of (take (i + 1) g) (pick (key_at ts c) v))
    (count_of (entries_at ts c) v * count_of (take i g) (pick (key_at ts c) v))
    (count_of (group_of (key_at ts c) (entries_at ts c) e.tuple) v)
    (cut_cnt g i e v h).1
    (ap (λ (x : ℕ). count_of (entries_at ts c) v * x) (cut_cnt g i e (pick (key_at ts c) v) h).1
    ∙ spread_left (count_of (entries_at ts c) v) (count_of (take i g) (pick (key_at ts c) v))
    (one_if (same e.tuple (pick (key_at ts c) v)))
    ∙ ap (λ (x : ℕ). count_of (entries_at ts c) v * count_of (take i g) (pick (key_at ts c) v) + x)
    (ap (λ (q : Bool). count_of (entries_at ts c) v * one_if q) (same_sym e.tuple (pick (key_at ts c) v))
    ∙ sym (cnt_grp (key_at ts c) (entries_at ts c) e.tuple v)))

pub reach_nothing : (n : Node) (going : Bool) (j : ℕ) (ts : List Table) (v : List ℕ) → reach n going j ts [] v ≡ 0
unfolding reach group_size count_of
reach_nothing (Leaf a) going j ts v = refl
reach_nothing (Trim c) going j ts v = omega arith
reach_nothing (Meet g s) going j ts v = none (g == j) (count_of (entries_at ts g) v)
  where
    none : (b : Bool) (m : ℕ) → cond b 0 (m * 0) ≡ 0
    none true m = refl
    none false m = omega arith

cost-append : (n : Node) (j : ℕ) (ts : List Table) (xs ys : List Entry) → cost n j ts (xs ++ ys)
    ≡ cost n j ts xs + cost n j ts ys
unfolding cost
cost-append n j ts [] ys = omega arith
cost-append n j ts (e ∷ xs) ys = omega (arith, cost-append n j ts xs ys)

cost_cons : (n : Node) (j : ℕ) (ts : List Table) (e : Entry) (es : List Entry) → cost n j ts (e ∷ es)
    ≡ 1 + cost_one n j ts e.tuple + cost n j ts es
unfolding cost
cost_cons n j ts e es = refl

pub cost_none : (n : Node) (j : ℕ) (ts : List Table) → cost n j ts [] ≡ 0
unfolding cost
cost_none n j ts = refl

pub cost_more : (n : Node) (j : ℕ) (ts : List Table) (g : List Entry) (i : ℕ) (e : Entry) → g
    ≡ take i g ++ e ∷ drop (i + 1) g → cost n j ts (take (i + 1) g)
    ≡ cost n j ts (take i g) + 1 + cost_one n j ts e.tuple
cost_more n j ts g i e h =
    omega (
      arith,
      ap (λ (es : List Entry). cost n j ts es) h,
      cost-append n j ts (take i g) (e ∷ drop (i + 1) g),
      cost_cons n j ts e (drop (i + 1) g),
      ap (λ (es : List Entry). cost n j ts es) (take-append-drop (i + 1) g),
      cost-append n j ts (take (i + 1) g) (drop (i + 1) g),
    )

pub cost_le : (n : Node) (j : ℕ) (ts : List Table) (g : List Entry) (i : ℕ) → cost n j ts (take i g) ≤ cost n j ts g
cost_le n j ts g i = omega
    (arith, ap (λ (es : List Entry). cost n j ts es) (take-append-drop i g), cost-append n j ts (take i g) (drop i g))

-- first parts of lists
pub take_zero : (g : List Entry) (v : List ℕ) → count_of (take 0 g) v ≡ 0
unfolding count_of
take_zero [] v = refl
take_zero (x ∷ g) v = refl

pub take_whole : (g : List Entry) (i : ℕ) → drop i g ≡ [] → take i g ≡ g
take_whole g i h = sym (append-nil (take i g)) ∙ ap (λ (es : List Entry). take i g ++ es) (sym h) ∙ take-append-drop i g

pub cut_length : (g : List Entry) (i : ℕ) (e : Entry) → g ≡ take i g ++ e ∷ drop (i + 1) g → i + 1 ≤ length g
cut_length g i e h =
    omega (arith, ap (λ (es : List Entry). length es) h, length-append (take i g) (e ∷ drop (i + 1) g), length-take i g)

pub cut_mark : (es : List Entry) (i : ℕ) (p : Place) (k : WalkCut (marks es) i p) → IsAt es p k.entry.tuple
cut_mark es i p k = subst (λ (q : Place). IsAt es q k.entry.tuple) k.at
    (mark_at es (take i (marks es)) k.entry (drop (i + 1) (marks es)) k.is)

-- a step is under its node
pub step_trim : (t : Tree) (j k c : ℕ) (n : Node) → has_child (node_at t.nodes k) j ≡ true → k < length t.nodes → n
    ≡ node_at t.nodes k → n ≡ Trim c → IsParentOf t k (Trim j) j
step_trim t j k c n child within here e =
    let at : node_at t.nodes k ≡ Trim c = sym here ∙ e in
    let h : has_child (Trim c) j ≡ true = subst (λ (m : Node). has_child m j ≡ true) at child in
    let same_one = trim_same c j h in
    record {
      within = within;
      node = at
          ∙ ap (λ (x : ℕ). Trim x) same_one;
      child = subst (λ (x : ℕ). has_child (Trim x) j ≡ true) same_one h;
    }

pub step_lower : (t : Tree) (ts : List Table) (j k : ℕ) → IsStepUp t ts j k → j < k
step_lower t ts j k s = rising_of t s.family.is_tree k j s.child

pub guard_lower : (t : Tree) (k g d : ℕ) (n : Node) → IsTree t → n ≡ node_at t.nodes k → n ≡ Meet g d → g < k
guard_lower t k g d n s here e = (s.meet k g d (sym here ∙ e)).guard_lower

-- the children's tables stand still while their parent's tuples are touched
pub kids_still : (t : Tree) (ts us : List Table) (k : ℕ) (f : List ℕ → ℕ) → IsTree t → IsTouched t ts us k f → (c : ℕ)
    → has_child (node_at t.nodes k) c ≡ true → entries_at us c ≡ entries_at ts c
kids_still t ts us k f s x c child = let low = rising_of t s k c child in x.others c
    (λ (e : c ≡ k). absurd (omega arith))

unmarked_nil : marks [] ≡ []
unfolding marks
unmarked_nil = refl

cnt_zero : (v : List ℕ) → count_of [] v ≡ 0
unfolding count_of
cnt_zero v = refl

unfoldable pub groups : List ℕ → List Entry → List Entry → ℕ
groups ks gs [] = 0
groups ks gs (e ∷ es) = group_size ks gs e.tuple + groups ks gs es

groups_none : (ks : List ℕ) (es : List Entry) → groups ks [] es ≡ 0
unfolding groups group_size
groups_none ks [] = refl
groups_none ks (e ∷ es) = omega (arith, groups_none ks es)

groups_first : (ks : List ℕ) (x : Entry) (gs es : List Entry) → groups ks (x ∷ gs) es
    ≡ count_of es (pick ks x.tuple) + groups ks gs es
unfolding groups
groups_first ks x gs [] = omega (arith, cnt_zero (pick ks x.tuple))
groups_first ks x gs (e ∷ es) =
    omega (
      arith,
      groups_first ks x gs es,
      many_cons ks x gs e.tuple,
      cnt_cons e es (pick ks x.tuple),
      ap one_if
          (same_sym (pick ks x.tuple) e.tuple),
    )

groups_le : (ks : List ℕ) (gs es : List Entry) → ((v : List ℕ) → count_of es v ≤ 1) → groups ks gs es ≤ length gs
groups_le ks [] es h = omega (arith, groups_none ks es)
groups_le ks (x ∷ gs) es h = omega (arith, groups_first ks x gs es, h (pick ks x.tuple), groups_le ks gs es h)

pub cost_side_all : (g s j : ℕ) (ts : List Table) (es : List Entry) → (g ≡ j → ⊥) → cost (Meet g s) j ts es
    ≡ 2 * length es + 3 * groups (key_at ts g) (entries_at ts g) es
unfolding cost groups
cost_side_all g s j ts [] other = refl
cost_side_all g s j ts (e ∷ es) other = omega
    (arith, cost_side (Meet g s) g s j ts e.tuple refl other, cost_side_all g s j ts es other)

pub cost_guard_all : (g s j : ℕ) (ts : List Table) (es : List Entry) → g ≡ j → cost (Meet g s) j ts es ≡ 3 * length es
unfolding cost
cost_guard_all g s j ts [] here = refl
cost_guard_all g s j ts (e ∷ es) here = omega
    (arith, cost_guard (Meet g s) g s j ts e.tuple refl here, cost_guard_all g s j ts es here)

pub cost_trim_all : (c j : ℕ) (ts : List Table) (es : List Entry) → cost (Trim c) j ts es ≡ 4 * length es
unfolding cost
cost_trim_all c j ts [] = refl
cost_trim_all c j ts (e ∷ es) = omega (arith, cost_trim (Trim c) c j ts e.tuple refl, cost_trim_all c j ts es)

pub cost_leaf_all : (a j : ℕ) (ts : List Table) (es : List Entry) → cost (Leaf a) j ts es ≡ length es
unfolding cost cost_one
cost_leaf_all a j ts [] = refl
cost_leaf_all a j ts (e ∷ es) = omega (arith, cost_leaf_all a j ts es)

pub cost_bound : (t : Tree) (ts : List Table) (n : Node) (j m : ℕ) → IsFamily t ts
    → ((i : ℕ) → length (entries_at ts i) ≤ m) → cost n j ts (marks (entries_at ts j)) ≤ 5 * m
cost_bound t ts (Leaf a) j m f h = omega
    (arith, cost_leaf_all a j ts (marks (entries_at ts j)), length_marks (entries_at ts j), h j)
cost_bound t ts (Trim c) j m f h = omega
    (arith, cost_trim_all c j ts (marks (entries_at ts j)), length_marks (entries_at ts j), h j)
cost_bound t ts (Meet g s) j m f h =
    elim (cases_eq g j) [
      | inl here ↦ omega (
        arith,
        cost_guard_all g s j ts (marks (entries_at ts j)) here,
        length_marks (entries_at ts j),
        h j,
      )
      | inr other ↦
          omega (
            arith,
            cost_side_all g s j ts (marks (entries_at ts j)) other,
            length_marks (entries_at ts j),
            h j,
            h g,
            groups_le (key_at ts g) (entries_at ts g) (marks (entries_at ts j))
                (λ v. omega (arith, once t ts f j v, cnt_split (entries_at ts j) v)),
          )
    ]

pub drop_marks : (es : List Entry) (n : ℕ) → n ≡ length es → drop n (marks es) ≡ []
drop_marks es n h = drop_of_length-le (marks es) (omega (arith, length_marks es))
