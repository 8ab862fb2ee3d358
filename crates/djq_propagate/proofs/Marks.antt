-- The marks that an update leaves along its path.
use Rattle.std.proofs.Common.{◌≡◌, ◌≢◌, ℕ, zero, suc, ◌+◌, ◌*◌, ◌<◌, ◌≤◌, Bool, true, false, cond, List, length, refl}
use Rattle.std.proofs.Common.{ap, ap₂, subst, sym, ◌∙◌, arith, inl, inr}
use Rattle.std.specs.Prelude.{◌==◌, ◌||◌}
use Rattle.std.proofs.lemmas.Bool.{cases_eq, cases_lt, cases_Bool, false≢true, eq-eqb, ne_eqb, eqb-true}
use Rattle.djq_index.specs.Tuple.{pick, one_if}
use Rattle.djq_index.specs.Entries.{Entry, supports_of, count_of, group_size, marks, plain}
use Rattle.djq_index.specs.Table.{Table}
use Rattle.djq_index.proofs.Tuples.{one_true, one_false, cnt_split, many_split, cnt_supp, supp_none}
use Rattle.djq_index.proofs.Groups.{many_sub, many_even}
use Rattle.djq_tree.specs.declared.node.Node.{Node}
use Rattle.djq_tree.specs.declared.node.Node.TheVariants.{Leaf, Trim, Meet}
use Rattle.djq_tree.specs.Tree.{Tree, IsTree, node_at, has_child}
use Rattle.djq_tree.proofs.Paths.{rising_of}
use Rattle.djq_reduct.specs.Tables.{entries_at, key_at}
use Rattle.djq_reduct.specs.Reducts.{IsReductOf, IsFamily, IsReducts}
use Rattle.djq_reduct.specs.Marks.{path_at, on_path, IsOff, IsBare, agreeing, AgreeAt, ArePlainAt}
use Rattle.djq_reduct.proofs.Assignments.{trim_law, meet_law}
use Rattle.djq_propagate.specs.Walks.{CameAs}
use Rattle.djq_propagate.specs.Touches.{IsTouched, IsTouchedUp, is_marked_by, reach, IsCovered, CanWalk, IsWalked}
use Rattle.djq_propagate.proofs.Families.{once, same_keys, tuples_same, reduced_same, trim_has, guard_has, side_has}
use Rattle.djq_propagate.proofs.PathMarks.{present, child_on, on_at, on_within, off_same, inner_high}
use Rattle.djq_propagate.proofs.Touches.{gate_open, gate_test}

first_some : (a b : ℕ) → 0 < a * b → 0 < a
first_some zero b h = absurd (omega arith)
first_some (suc a) b h = omega arith

pub second_some : (a b : ℕ) → 0 < a * b → 0 < b
second_some a zero h = absurd (omega arith)
second_some a (suc b) h = omega arith

both_some : (a b : ℕ) → 0 < a → 0 < b → 0 < a * b
both_some zero b h k = absurd (omega arith)
both_some (suc a) zero h k = absurd (omega arith)
both_some (suc a) (suc b) h k = omega arith

-- what is reached agrees
pub reach_agrees : (n : Node) (going : Bool) (j : ℕ) (ts : List Table) (es : List Entry) (w : List ℕ)
    → 0 < reach n going j ts es w → 0 < agreeing n j ts es w
unfolding reach agreeing
reach_agrees (Leaf a) going j ts es w h = h
reach_agrees (Trim c) going j ts es w h = first_some (group_size (key_at ts c) es w)
    (one_if (is_marked_by going (group_size (key_at ts c) (plain (entries_at ts c)) w))) h
reach_agrees (Meet g s) going j ts es w h = by_side (g == j) (count_of es w) (count_of (entries_at ts g) w)
    (count_of es (pick (key_at ts g) w)) h
  where
    by_side : (b : Bool) (x y z : ℕ) → 0 < cond b x (y * z) → 0 < cond b x z
    by_side true x y z h = h
    by_side false x y z h = second_some y z h

-- and what agrees is reached, where the guard has it
agree_reaches : (n : Node) (j : ℕ) (ts : List Table) (es : List Entry) (w : List ℕ)
    → ((g s : ℕ) → n ≡ Meet g s → 0 < count_of (entries_at ts g) w) → 0 < agreeing n j ts es w
    → 0 < reach n false j ts es w
unfolding reach agreeing
agree_reaches (Leaf a) j ts es w guards h = h
agree_reaches (Trim c) j ts es w guards h =
    both_some (group_size (key_at ts c) es w) (one_if (is_marked_by false (group_size (key_at ts c)
    (plain (entries_at ts c)) w))) h
    (omega (
      arith,
      one_true (is_marked_by false (group_size (key_at ts c) (plain (entries_at ts c)) w))
          (gate_open (group_size (key_at ts c) (plain (entries_at ts c)) w)),
    ))
agree_reaches (Meet g s) j ts es w guards h = by_side (g == j) (count_of es w) (count_of (entries_at ts g) w)
    (count_of es (pick (key_at ts g) w)) (guards g s refl) h
  where
    by_side : (b : Bool) (x y z : ℕ) → 0 < y → 0 < cond b x z → 0 < cond b x (y * z)
    by_side true x y z some h = h
    by_side false x y z some h = both_some y z some h

-- agreement reads keys and the child's entries alone
agreeing_still : (n : Node) (j : ℕ) (ts us : List Table) (es : List Entry) (w : List ℕ)
    → ((c : ℕ) → key_at us c ≡ key_at ts c) → agreeing n j us es w ≡ agreeing n j ts es w
unfolding agreeing
agreeing_still (Leaf a) j ts us es w keys = refl
agreeing_still (Trim c) j ts us es w keys = ap (λ (ks : List ℕ). group_size ks es w) (keys c)
agreeing_still (Meet g s) j ts us es w keys = ap (λ (ks : List ℕ). cond (g == j) (count_of es w)
    (count_of es (pick ks w)))
    (keys g)

agreeing_less : (n : Node) (j : ℕ) (ts : List Table) (es fs : List Entry) (w : List ℕ)
    → ((v : List ℕ) → count_of es v ≤ count_of fs v) → 0 < agreeing n j ts es w → 0 < agreeing n j ts fs w
unfolding agreeing
agreeing_less (Leaf a) j ts es fs w h some = some
agreeing_less (Trim c) j ts es fs w h some = omega (arith, many_sub (key_at ts c) es fs h w)
agreeing_less (Meet g s) j ts es fs w h some = by_side (g == j) (count_of es w) (count_of es (pick (key_at ts g) w))
    (count_of fs w)
    (count_of fs (pick (key_at ts g) w)) (h w) (h (pick (key_at ts g) w)) some
  where
    by_side : (b : Bool) (x y p q : ℕ) → x ≤ p → y ≤ q → 0 < cond b x y → 0 < cond b p q
    by_side true x y p q a c k = omega arith
    by_side false x y p q a c k = omega arith

pub guard_some : (n : Node) (ts : List Table) (k : ℕ) (w : List ℕ) → IsReductOf n ts k
    → 0 < supports_of (entries_at ts k) w
    → (g s : ℕ) → n ≡ Meet g s → 0 < count_of (entries_at ts g) w
guard_some n ts k w law some g s e = first_some (count_of (entries_at ts g) w) (count_of (entries_at ts s)
    (pick (key_at ts g) w))
    (let l = meet_law n g s ts k e law w in omega arith)

-- a step above the frontier
pub agree_step : (t : Tree) (ts us : List Table) (n : Node) (j k : ℕ) → IsFamily t ts → j < k → IsReductOf n ts k
    → IsCovered n ts j k → IsTouched t ts us k (λ v. reach n false j ts (marks (entries_at ts j)) v) → AgreeAt n us j k
agree_step t ts us n j k f low law cover x = record {
  up = λ w some.
      subst (λ (m : ℕ). 0 < m) (sym (still w))
      (elim (cases_lt 0 (count_of (marks (entries_at ts k)) w)) [
        | inl before ↦ cover.each w before
        | inr none ↦ reach_agrees n false j ts (marks (entries_at ts j)) w (let o = x.only w some in omega arith)
      ]);
  down = λ w there some.
      let was : 0 < count_of (entries_at ts k) w = omega (arith, tuples_same t ts us f x.family k x.supports w) in
      x.comes w was (agree_reaches n j ts (marks (entries_at ts j)) w
      (guard_some n ts k w law (cnt_supp (entries_at ts k) w (f.supported k) was))
      (subst (λ (m : ℕ). 0 < m) (still w) some));
}
  where
    still : (w : List ℕ) → agreeing n j us (marks (entries_at us j)) w ≡ agreeing n j ts (marks (entries_at ts j)) w
    still w = ap (λ (es : List Entry). agreeing n j us (marks es) w) (x.others j (λ (e : j ≡ k). absurd (omega arith)))
        ∙ agreeing_still n j ts us (marks (entries_at ts j)) w (same_keys t ts us f x.family)

-- a step up to the frontier
pub times_turn : (a b : ℕ) → a * b ≡ b * a
times_turn a b = omega arith

pub or_right : (a b : Bool) → a ≡ false → (a || b) ≡ true → b ≡ true
or_right false b e h = h
or_right true b e h = absurd (false≢true (sym e))

meet_numbers : (K M P G Pg Mg S : ℕ) → K ≡ P + M → K ≤ 1 → G ≡ Pg + Mg → G ≤ 1 → S ≤ 1 → (0 < K → 0 < G * S)
    → (0 < G * S → 0 < K) → (0 < K → 0 < Mg → 0 < M) → (0 < M → 0 < Mg) → P ≡ Pg * S
meet_numbers K M P G Pg Mg zero k k1 g g1 s1 up down comes only =
    elim (cases_lt 0 K) [ inl some ↦ absurd (let h = up some in omega arith) | inr none ↦ omega arith ]
meet_numbers K M P G Pg Mg (suc s) k k1 g g1 s1 up down comes only =
    let z : s ≡ 0 = omega arith in
    let e : G * suc s ≡ G * 1 = ap (λ (x : ℕ). G * suc x) z in
    let d : Pg * suc s ≡ Pg * 1 = ap (λ (x : ℕ). Pg * suc x) z in
    elim (cases_lt 0 K) [
      | inl some ↦ (let h = up some in elim (cases_lt 0 Mg) [
        | inl marked ↦ (let m = comes some marked in omega arith)
        | inr none ↦ elim (cases_lt 0 M) [ inl m ↦ absurd (let o = only m in omega arith) | inr no_mark ↦ omega arith ]
      ])
      | inr none ↦ elim (cases_lt 0 G)
          [ inl g_some ↦ absurd (let h = down (omega arith) in omega arith) | inr no_g ↦ omega arith ]
    ]

gate_shut : (n : ℕ) → 0 < n → is_marked_by true n ≡ false
gate_shut n h = gate_test n ∙ ne_eqb n 0 (λ (e : n ≡ 0). absurd (omega arith))

gate_zero : (n : ℕ) → n ≡ 0 → is_marked_by true n ≡ true
gate_zero n h = gate_test n ∙ eq-eqb n 0 h

trim_step : (t : Tree) (ts us : List Table) (c k : ℕ) → IsFamily t ts → c < k → IsReductOf (Trim c) ts k
    → ((v : List ℕ) → count_of (marks (entries_at ts k)) v ≡ 0)
    → IsTouched t ts us k (λ v. reach (Trim c) true c ts (marks (entries_at ts c)) v) → ArePlainAt (Trim c) us k
unfolding ArePlainAt reach
trim_step t ts us c k f low law none x w =
    let keys = same_keys t ts us f x.family c in
    let kid : entries_at us c ≡ entries_at ts c = x.others c (λ (e : c ≡ k). absurd (omega arith)) in
    let pm = group_size (key_at ts c) (plain (entries_at ts c)) w in
    let mm = group_size (key_at ts c) (marks (entries_at ts c)) w in
    let moved : group_size (key_at us c) (plain (entries_at us c)) w
    ≡ group_size (key_at ts c) (plain (entries_at ts c)) w = ap₂ (λ (ks : List ℕ) (es : List Entry). group_size ks
    (plain es) w)
    keys kid in
    let l : supports_of (entries_at ts k) w ≡ group_size (key_at ts c) (entries_at ts c) w = trim_law (Trim c) c ts k
    refl law w in
    let sum = many_split (key_at ts c) (entries_at ts c) w in
    let same_k = tuples_same t ts us f x.family k x.supports w in
    let parts = cnt_split (entries_at us k) w in
    let most = once t us x.family k w in
    let before = none w in (
      (λ some. elim (cases_lt 0 (group_size (key_at ts c) (plain (entries_at ts c)) w)) [
        | inl good ↦ omega arith
        | inr bad ↦ absurd (
            let there : 0 < count_of (entries_at ts k) w = omega arith in
            let s = cnt_supp (entries_at ts k) w (f.supported k) there in
            let g = one_true (is_marked_by true (group_size (key_at ts c) (plain (entries_at ts c)) w))
            (gate_zero (group_size (key_at ts c) (plain (entries_at ts c)) w) (omega arith)) in
            let m = x.comes w there
            (both_some (group_size (key_at ts c) (marks (entries_at ts c)) w)
            (one_if (is_marked_by true (group_size (key_at ts c) (plain (entries_at ts c)) w))) (omega arith)
            (omega arith)) in
            omega arith)
      ]),
      (λ some.
          let p : 0 < group_size (key_at ts c) (plain (entries_at ts c)) w = omega arith in
          let there = present (entries_at ts k) w (omega arith) in
          elim (cases_lt 0 (count_of (marks (entries_at us k)) w)) [
            | inl marked ↦ absurd (
                let o = x.only w marked in
                let r : 0 < group_size (key_at ts c) (marks (entries_at ts c)) w * one_if
                (is_marked_by true (group_size (key_at ts c) (plain (entries_at ts c)) w)) = omega arith in
                let g = second_some (group_size (key_at ts c) (marks (entries_at ts c)) w)
                (one_if (is_marked_by true (group_size (key_at ts c) (plain (entries_at ts c)) w))) r in
                let z = one_false (is_marked_by true (group_size (key_at ts c) (plain (entries_at ts c)) w))
                (gate_shut (group_size (key_at ts c) (plain (entries_at ts c)) w) p) in
                omega arith)
            | inr no_mark ↦ omega arith
          ]),
    )

guard_step : (t : Tree) (ts us : List Table) (g s k : ℕ) → IsFamily t ts → g < k → s < k → IsReductOf (Meet g s) ts k
    → ((v : List ℕ) → count_of (marks (entries_at ts k)) v ≡ 0) → ((v : List ℕ) → count_of (marks (entries_at ts s)) v
    ≡ 0)
    → IsTouched t ts us k (λ v. reach (Meet g s) true g ts (marks (entries_at ts g)) v) → ArePlainAt (Meet g s) us k
unfolding ArePlainAt reach
guard_step t ts us g s k f low_g low_s law none_k none_s x w =
    let guards : entries_at us g ≡ entries_at ts g = x.others g (λ (e : g ≡ k). absurd (omega arith)) in
    let sides : entries_at us s ≡ entries_at ts s = x.others s (λ (e : s ≡ k). absurd (omega arith)) in
    let keys = same_keys t ts us f x.family g in
    let first : count_of (plain (entries_at us g)) w
    ≡ count_of (plain (entries_at ts g)) w = ap (λ (es : List Entry). count_of (plain es) w) guards in
    let second : count_of (plain (entries_at us s)) (pick (key_at us g) w) ≡ count_of (entries_at ts s)
    (pick (key_at ts g) w) =
    ap₂ (λ (es : List Entry) (ks : List ℕ). count_of (plain es) (pick ks w)) sides keys
    ∙ omega (arith, cnt_split (entries_at ts s) (pick (key_at ts g) w), none_s (pick (key_at ts g) w)) in
    let r : (v : List ℕ) → cond (g == g) (count_of (marks (entries_at ts g)) v)
    (count_of (entries_at ts g) v * count_of (marks (entries_at ts g)) (pick (key_at ts g) v))
    ≡ count_of (marks (entries_at ts g)) v =
    (λ (v : List ℕ). ap (λ (b : Bool). cond b (count_of (marks (entries_at ts g)) v)
    (count_of (entries_at ts g) v * count_of (marks (entries_at ts g)) (pick (key_at ts g) v))) (eq-eqb g g refl)) in
    let l = meet_law (Meet g s) g s ts k refl law w in
    let same_k = tuples_same t ts us f x.family k x.supports w in
    meet_numbers (count_of (entries_at us k) w) (count_of (marks (entries_at us k)) w)
    (count_of (plain (entries_at us k)) w)
    (count_of (entries_at ts g) w) (count_of (plain (entries_at ts g)) w) (count_of (marks (entries_at ts g)) w)
    (count_of (entries_at ts s) (pick (key_at ts g) w))
    (cnt_split (entries_at us k) w) (once t us x.family k w) (cnt_split (entries_at ts g) w) (once t ts f g w)
    (once t ts f s (pick (key_at ts g) w))
    (λ some. let p = cnt_supp (entries_at ts k) w (f.supported k) (omega arith) in omega arith)
    (λ some. let p = present (entries_at ts k) w (omega arith) in omega arith)
    (λ some marked. x.comes w (omega arith) (omega (arith, r w)))
    (λ marked. omega (arith, x.only w marked, none_k w, r w))
    ∙ sym (ap₂ (λ (a b : ℕ). a * b) first second)

side_step : (t : Tree) (ts us : List Table) (g s k : ℕ) → IsFamily t ts → g < k → s < k → g ≢ s
    → IsReductOf (Meet g s) ts k → ((v : List ℕ) → count_of (marks (entries_at ts k)) v ≡ 0)
    → ((v : List ℕ) → count_of (marks (entries_at ts g)) v ≡ 0)
    → IsTouched t ts us k (λ v. reach (Meet g s) true s ts (marks (entries_at ts s)) v) → ArePlainAt (Meet g s) us k
unfolding ArePlainAt reach
side_step t ts us g s k f low_g low_s apart law none_k none_g x w =
    let guards : entries_at us g ≡ entries_at ts g = x.others g (λ (e : g ≡ k). absurd (omega arith)) in
    let sides : entries_at us s ≡ entries_at ts s = x.others s (λ (e : s ≡ k). absurd (omega arith)) in
    let keys = same_keys t ts us f x.family g in
    let first : count_of (plain (entries_at us g)) w
    ≡ count_of (entries_at ts g) w = ap (λ (es : List Entry). count_of (plain es) w) guards
    ∙ omega (arith, cnt_split (entries_at ts g) w, none_g w) in
    let second : count_of (plain (entries_at us s)) (pick (key_at us g) w)
    ≡ count_of (plain (entries_at ts s)) (pick (key_at ts g) w) = ap₂
    (λ (es : List Entry) (ks : List ℕ). count_of (plain es) (pick ks w)) sides keys in
    let r : (v : List ℕ) → cond (g == s) (count_of (marks (entries_at ts s)) v)
    (count_of (entries_at ts g) v * count_of (marks (entries_at ts s)) (pick (key_at ts g) v))
    ≡ count_of (entries_at ts g) v * count_of (marks (entries_at ts s)) (pick (key_at ts g) v) =
    (λ (v : List ℕ). ap (λ (b : Bool). cond b (count_of (marks (entries_at ts s)) v)
    (count_of (entries_at ts g) v * count_of (marks (entries_at ts s)) (pick (key_at ts g) v))) (ne_eqb g s apart)) in
    let l = meet_law (Meet g s) g s ts k refl law w in
    let same_k = tuples_same t ts us f x.family k x.supports w in
    let turn = times_turn (count_of (entries_at ts g) w) (count_of (entries_at ts s) (pick (key_at ts g) w)) in
    let turn_plain = times_turn (count_of (plain (entries_at ts s)) (pick (key_at ts g) w))
    (count_of (entries_at ts g) w) in
    meet_numbers (count_of (entries_at us k) w) (count_of (marks (entries_at us k)) w)
    (count_of (plain (entries_at us k)) w)
    (count_of (entries_at ts s) (pick (key_at ts g) w)) (count_of (plain (entries_at ts s)) (pick (key_at ts g) w))
    (count_of (marks (entries_at ts s)) (pick (key_at ts g) w)) (count_of (entries_at ts g) w)
    (cnt_split (entries_at us k) w) (once t us x.family k w) (cnt_split (entries_at ts s) (pick (key_at ts g) w))
    (once t ts f s (pick (key_at ts g) w)) (once t ts f g w)
    (λ some. let p = cnt_supp (entries_at ts k) w (f.supported k) (omega arith) in omega arith)
    (λ some. let p = present (entries_at ts k) w (omega arith) in omega arith)
    (λ some marked.
    let p = cnt_supp (entries_at ts k) w (f.supported k) (omega arith) in
    let q = both_some (count_of (entries_at ts g) w) (count_of (marks (entries_at ts s)) (pick (key_at ts g) w))
    (first_some (count_of (entries_at ts g) w) (count_of (entries_at ts s) (pick (key_at ts g) w)) (omega arith))
    marked in
    x.comes w (omega arith) (omega (arith, r w)))
    (λ marked. second_some (count_of (entries_at ts g) w) (count_of (marks (entries_at ts s)) (pick (key_at ts g) w))
    (omega (arith, x.only w marked, none_k w, r w)))
    ∙ turn_plain ∙ sym (ap₂ (λ (a b : ℕ). a * b) first second)

pub plain_step : (t : Tree) (ts us : List Table) (n : Node) (j k : ℕ) → IsFamily t ts → node_at t.nodes k ≡ n
    → has_child n j ≡ true → IsReductOf n ts k → ((v : List ℕ) → count_of (marks (entries_at ts k)) v ≡ 0)
    → ((c : ℕ) → has_child n c ≡ true → c ≢ j → (v : List ℕ) → count_of (marks (entries_at ts c)) v ≡ 0)
    → IsTouched t ts us k (λ v. reach n true j ts (marks (entries_at ts j)) v) → ArePlainAt n us k
plain_step t ts us (Leaf a) j k f e child law none others x = absurd (false≢true child)
plain_step t ts us (Trim c) j k f e child law none others x =
    let same_one : c ≡ j = eqb-true c j child in
    trim_step t ts us c k f (f.is_tree.trim k c e).lower law none
    (subst (λ (i : ℕ). IsTouched t ts us k (λ v. reach (Trim c) true i ts (marks (entries_at ts i)) v))
    (sym same_one) x)
plain_step t ts us (Meet g s) j k f e child law none others x =
    let m = f.is_tree.meet k g s e in
    elim (cases_eq g j) [
      | inl here ↦ guard_step t ts us g s k f m.guard_lower m.side_lower law none
          (others s (side_has g s) (λ (z : s ≡ j). m.apart (here ∙ sym z)))
          (subst (λ (i : ℕ). IsTouched t ts us k (λ v. reach (Meet g s) true i ts (marks (entries_at ts i)) v))
          (sym here) x)
      | inr apart ↦ (let at_side : s ≡ j = eqb-true s j (or_right (g == j) (s == j) (ne_eqb g j apart) child) in
          side_step t ts us g s k f m.guard_lower m.side_lower m.apart law none (others g (guard_has g s) apart)
          (subst (λ (i : ℕ). IsTouched t ts us k (λ v. reach (Meet g s) true i ts (marks (entries_at ts i)) v))
          (sym at_side) x))
    ]

-- what stays
plain_stays : (n : Node) (ts us : List Table) (k : ℕ) → ((i : ℕ) → i ≤ k → entries_at us i ≡ entries_at ts i)
    → ((i : ℕ) → key_at us i ≡ key_at ts i) → ((c : ℕ) → has_child n c ≡ true → c < k) → ArePlainAt n ts k
    → ArePlainAt n us k
unfolding ArePlainAt
plain_stays (Leaf a) ts us k same_below keys low h = λ w. omega arith
plain_stays (Trim c) ts us k same_below keys low h = λ w.
    let kid = same_below c (let l = low c (trim_has c) in omega arith) in
    let own = same_below k (omega arith) in
    subst (λ (es : List Entry). (0 < count_of (plain es) w → 0 < group_size (key_at us c) (plain (entries_at us c)) w)
    × (0 < group_size (key_at us c) (plain (entries_at us c)) w → 0 < count_of (plain es) w)) (sym own)
    (subst (λ (m : ℕ). (0 < count_of (plain (entries_at ts k)) w → 0 < m)
    × (0 < m → 0 < count_of (plain (entries_at ts k)) w))
    (sym (ap₂ (λ (ks : List ℕ) (es : List Entry). group_size ks (plain es) w) (keys c) kid)) (h w))
plain_stays (Meet g s) ts us k same_below keys low h = λ w.
    let first = same_below g (let l = low g (guard_has g s) in omega arith) in
    let second = same_below s (let l = low s (side_has g s) in omega arith) in
    ap (λ (es : List Entry). count_of (plain es) w) (same_below k (omega arith)) ∙ h w
    ∙ sym (ap₂ (λ (a b : ℕ). a * b) (ap (λ (es : List Entry). count_of (plain es) w) first)
    (ap₂ (λ (es : List Entry) (ks : List ℕ). count_of (plain es) (pick ks w)) second (keys g)))

agree_stays : (n : Node) (ts us : List Table) (j k : ℕ) → j ≤ k → ((i : ℕ) → i ≤ k → entries_at us i ≡ entries_at ts i)
    → ((i : ℕ) → key_at us i ≡ key_at ts i) → AgreeAt n ts j k → AgreeAt n us j k
agree_stays n ts us j k low same_below keys h = record {
  up = λ w some. subst (λ (m : ℕ). 0 < m) (sym (still w))
      (h.up w (subst (λ (es : List Entry). 0 < count_of (marks es) w) own some));
  down = λ w there some. subst (λ (es : List Entry). 0 < count_of (marks es) w) (sym own)
      (h.down w (subst (λ (es : List Entry). 0 < count_of es w) own there) (subst (λ (m : ℕ). 0 < m) (still w) some));
}
  where
    own : entries_at us k ≡ entries_at ts k
    own = same_below k (omega arith)

    still : (w : List ℕ) → agreeing n j us (marks (entries_at us j)) w ≡ agreeing n j ts (marks (entries_at ts j)) w
    still w = ap (λ (es : List Entry). agreeing n j us (marks es) w) (same_below j low)
        ∙ agreeing_still n j ts us (marks (entries_at ts j)) w keys

-- a walk
pub walk_none : (t : Tree) (ts : List Table) (a : ℕ) (removal : Bool) → IsWalked t ts ts a removal 0
walk_none t ts a removal = record {
  later = λ i h. refl;
  keeps = λ i v. omega arith;
  skipped = λ e i h. refl;
  low = λ i less. absurd (omega arith);
  high = λ i less. absurd (omega arith);
}

walk_skip : (t : Tree) (old mid new : List Table) (a k : ℕ) (removal : Bool) → IsWalked t old mid a removal k
    → (k < t.second_stage → removal ≡ true → on_path t.nodes a k ≡ true → ⊥)
    → (t.second_stage ≤ k → on_path t.nodes a k ≡ true → ⊥) → new ≡ mid → IsWalked t old new a removal (k + 1)
walk_skip t old mid new a k removal x no_low no_high e = subst
    (λ (ts : List Table). IsWalked t old ts a removal (k + 1)) (sym e) (record {
      later = λ i h. x.later i (omega arith);
      keeps = x.keeps;
      skipped = x.skipped;
      low = λ i less second going on. elim (cases_eq i k) [
        | inl here ↦ absurd (no_low (omega arith) going (subst (λ (z : ℕ). on_path t.nodes a z ≡ true) here on))
        | inr apart ↦ x.low i (omega arith) second going on
      ];
      high = λ i less second on. elim (cases_eq i k) [
        | inl here ↦ absurd (no_high (omega arith) (subst (λ (z : ℕ). on_path t.nodes a z ≡ true) here on))
        | inr apart ↦ x.high i (omega arith) second on
      ];
    })

path_lower : (t : Tree) (a i : ℕ) → IsTree t → on_path t.nodes a i ≡ true → path_at t.nodes a i < i
unfolding on_path
path_lower t a i s on = rising_of t s i (path_at t.nodes a i) on

walk_touch : (t : Tree) (old mid new : List Table) (a k : ℕ) (removal : Bool) (f : List ℕ → ℕ) → IsFamily t mid
    → IsWalked t old mid a removal k → IsTouched t mid new k f → (removal ≡ false → t.second_stage ≤ k)
    → (k < t.second_stage → ArePlainAt (node_at t.nodes k) new k)
    → (t.second_stage ≤ k → AgreeAt (node_at t.nodes k) new (path_at t.nodes a k) k)
    → IsWalked t old new a removal (k + 1)
walk_touch t old mid new a k removal f family x y late plain_k agree_k = record {
  later = λ i h. y.others i (omega arith) ∙ x.later i (omega arith);
  keeps = λ i v. elim (cases_eq i k) [
    | inl here ↦ subst (λ (z : ℕ). count_of (marks (entries_at old z)) v ≤ count_of (marks (entries_at new z)) v)
        (sym here)
        (omega (arith, x.keeps k v, y.keeps v))
    | inr apart ↦ omega (arith, x.keeps i v, ap (λ (es : List Entry). count_of (marks es) v) (y.others i apart))
  ];
  skipped = λ e i h. let l = late e in y.others i (omega arith) ∙ x.skipped e i h;
  low = λ i less second going on. elim (cases_eq i k) [
    | inl here ↦ subst (λ (z : ℕ). ArePlainAt (node_at t.nodes z) new z) (sym here) (plain_k (omega arith))
    | inr apart ↦
        plain_stays (node_at t.nodes i) mid new i (λ z low. y.others z (omega arith))
        (same_keys t mid new family y.family) (rising_of t family.is_tree i) (x.low i (omega arith) second going on)
  ];
  high = λ i less second on. elim (cases_eq i k) [
    | inl here ↦ subst (λ (z : ℕ). AgreeAt (node_at t.nodes z) new (path_at t.nodes a z) z) (sym here)
        (agree_k (omega arith))
    | inr apart ↦
        (let p = path_lower t a i family.is_tree on in
        agree_stays (node_at t.nodes i) mid new (path_at t.nodes a i) i (omega arith)
        (λ z low. y.others z (omega arith)) (same_keys t mid new family y.family)
        (x.high i (omega arith) second on))
  ];
}

pub other_off : (t : Tree) (a k i : ℕ) → IsTree t → has_child (node_at t.nodes k) i ≡ true
    → (i ≡ path_at t.nodes a k → ⊥) → IsOff t.nodes a i
other_off t a k i s child apart = ((λ e. apart (sym (child_on t a k i s child (inl e)))), off_i)
  where
    off_i : on_path t.nodes a i ≡ false
    off_i = elim (cases_Bool (on_path t.nodes a i))
        [ inl on ↦ absurd (apart (sym (child_on t a k i s child (inr on)))) | inr none ↦ none ]

-- the marks at the nodes to come
pub bare_mid : (t : Tree) (old mid : List Table) (a k i : ℕ) (removal : Bool) → IsWalked t old mid a removal k
    → CanWalk t old a removal → i ≢ a → removal ≡ true → k ≤ i → (v : List ℕ) → count_of (marks (entries_at mid i)) v
    ≡ 0
bare_mid t old mid a k i removal x can other going later v = ap (λ (es : List Entry). count_of (marks es) v)
    (x.later i later) ∙ can.bare going i other v

pub covered_mid : (t : Tree) (old mid : List Table) (a k j : ℕ) (removal : Bool) → IsFamily t old
    → IsTouchedUp t old mid a → IsWalked t old mid a removal k → CanWalk t old a removal → j ≡ path_at t.nodes a k
    → has_child (node_at t.nodes k) j ≡ true → t.second_stage ≤ k → IsCovered (node_at t.nodes k) mid j k
covered_mid t old mid a k j removal f up x can at child high = record {
  each = λ w some.
      let on : on_path t.nodes a k ≡ true = on_at t.nodes a k j at ∙ child in
      let before : 0 < count_of (marks (entries_at old k)) w = subst (λ (es : List Entry). 0 < count_of (marks es) w)
      (x.later k (omega arith)) some in
      let agrees : 0 < agreeing (node_at t.nodes k) j old (marks (entries_at old j)) w = subst
      (λ (i : ℕ). 0 < agreeing (node_at t.nodes k) i old (marks (entries_at old i)) w) (sym at)
      ((can.covered k high on).each w before) in
      subst (λ (m : ℕ). 0 < m)
      (sym (agreeing_still (node_at t.nodes k) j old mid (marks (entries_at mid j)) w
      (same_keys t old mid f up.family)))
      (agreeing_less (node_at t.nodes k) j old (marks (entries_at old j)) (marks (entries_at mid j)) w (x.keeps j)
      agrees);
}

pub walk_more : (t : Tree) (old mid new : List Table) (a k j : ℕ) (removal : Bool) → IsFamily t old → a < t.leaves
    → CanWalk t old a removal → k < length t.nodes → IsTouchedUp t old mid a → IsWalked t old mid a removal k → j
    ≡ path_at t.nodes a k
    → (has_child (node_at t.nodes k) j ≡ true → t.second_stage ≤ k
    → IsTouched t mid new k (λ v. reach (node_at t.nodes k) false j mid (marks (entries_at mid j)) v))
    → (has_child (node_at t.nodes k) j ≡ true → k < t.second_stage → removal ≡ true
    → IsTouched t mid new k (λ v. reach (node_at t.nodes k) true j mid (marks (entries_at mid j)) v))
    → (k < t.second_stage → removal ≡ false → new ≡ mid) → (has_child (node_at t.nodes k) j ≡ false → new ≡ mid)
    → IsWalked t old new a removal (k + 1)
walk_more t old mid new a k j removal f leaf can within up x at above below idle apart =
    elim (cases_Bool (has_child (node_at t.nodes k) j)) [
      | inr none ↦ (let off : on_path t.nodes a k ≡ false = on_at t.nodes a k j at ∙ none in
          walk_skip t old mid new a k removal x (λ low going on. false≢true (sym off ∙ on))
          (λ high on. false≢true (sym off ∙ on)) (apart none))
      | inl child ↦ elim (cases_lt k t.second_stage) [
        | inl low ↦ elim (cases_Bool removal) [
          | inr coming ↦ walk_skip t old mid new a k removal x (λ l going on. false≢true (sym coming ∙ going))
              (λ high on. absurd (omega arith)) (idle low coming)
          | inl going ↦
              walk_touch t old mid new a k removal
              (λ v. reach (node_at t.nodes k) true j mid (marks (entries_at mid j)) v) up.family x
              (below child low going) (λ (e : removal ≡ false). absurd (false≢true (sym e ∙ going)))
              (λ l. plain_step t mid new (node_at t.nodes k) j k up.family refl child law
              (bare_mid t old mid a k k removal x can (high_a child) going (omega arith))
              (λ c other other_apart. bare_off c (other_off t a k c f.is_tree other (λ e. other_apart (e ∙ sym at)))
              going) (below child low going))
              (λ high. absurd (omega arith))
        ]
        | inr high ↦
            walk_touch t old mid new a k removal
            (λ v. reach (node_at t.nodes k) false j mid (marks (entries_at mid j)) v) up.family x (above child high)
            (λ (e : removal ≡ false). high)
            (λ low. absurd (omega arith))
            (λ h. subst (λ (i : ℕ). AgreeAt (node_at t.nodes k) new i k) at
            (agree_step t mid new (node_at t.nodes k) j k up.family (rising_of t f.is_tree k j child) law
            (covered_mid t old mid a k j removal f up x can at child high) (above child high)))
      ]
    ]
  where
    law : IsReductOf (node_at t.nodes k) mid k
    law = (reduced_same t old mid 0 f up.family up.supports can.reduced).at k (omega arith) within

    high_a : has_child (node_at t.nodes k) j ≡ true → k ≢ a
    high_a child e = let h = inner_high t k j f.is_tree child in absurd (omega arith)

    bare_off : (i : ℕ) → IsOff t.nodes a i → removal ≡ true → (v : List ℕ) → count_of (marks (entries_at mid i)) v ≡ 0
    bare_off i off going v = ap (λ (es : List Entry). count_of (marks es) v) (up.off i off) ∙ can.bare going i off.0 v

-- what came agrees with what came
pub new_supp : (t : Tree) (old new : List Table) (k : ℕ) → IsReducts (record { tree = t; tables = old })
    → IsReducts (record { tree = t; tables = new }) → IsBare old → CameAs true old new → (w : List ℕ)
    → 0 < count_of (marks (entries_at new k)) w → supports_of (entries_at old k) w ≡ 0
new_supp t old new k r s bare p w some =
    supp_none (entries_at old k) w
    (omega (
      arith,
      once t new s.family k w,
      cnt_split (entries_at new k) w,
      p.same k w,
      cnt_split (entries_at old k)
          w,
      bare.none k w,
    ))

new_node : (t : Tree) (old new : List Table) (a j k : ℕ) (n : Node) → IsReducts (record { tree = t; tables = old })
    → IsReducts (record { tree = t; tables = new }) → IsBare old → CameAs true old new
    → ((i : ℕ) (v : List ℕ) → i < t.leaves → i ≢ a → count_of (entries_at new i) v ≡ count_of (entries_at old i) v)
    → node_at t.nodes k ≡ n → k < length t.nodes → j ≡ path_at t.nodes a k → has_child n j ≡ true → IsReductOf n old k
    → IsReductOf n new k → (w : List ℕ) → 0 < count_of (marks (entries_at new k)) w
    → 0 < agreeing n j new (marks (entries_at new j)) w
unfolding agreeing
new_node t old new a j k (Leaf b) r s bare p leaves e within at child ho hn w some = absurd (false≢true child)
new_node t old new a j k (Trim c) r s bare p leaves e within at child ho hn w some =
    let same_one : c ≡ j = eqb-true c j child in
    let came : supports_of (entries_at old k) w ≡ 0 = new_supp t old new k r s bare p w some in
    let there = cnt_supp (entries_at new k) w (s.family.supported k) (omega (arith, cnt_split (entries_at new k) w)) in
    let lo = trim_law (Trim c) c old k refl ho w in
    let ln = trim_law (Trim c) c new k refl hn w in
    let keys = same_keys t old new r.family s.family c in
    let plain_less : group_size (key_at new c) (plain (entries_at new c)) w ≤ group_size (key_at old c)
    (entries_at old c) w =
    subst (λ (ks : List ℕ). group_size ks (plain (entries_at new c)) w ≤ group_size (key_at old c) (entries_at old c)
    w) (sym keys)
    (many_sub (key_at old c) (plain (entries_at new c)) (entries_at old c)
    (λ v. omega (arith, p.same c v, cnt_split (entries_at old c) v)) w) in
    subst (λ (i : ℕ). 0 < group_size (key_at new c) (marks (entries_at new i)) w) same_one
    (omega (arith, many_split (key_at new c) (entries_at new c) w))
new_node t old new a j k (Meet g d) r s bare p leaves e within at child ho hn w some =
    let came : supports_of (entries_at old k) w ≡ 0 = new_supp t old new k r s bare p w some in
    let there = cnt_supp (entries_at new k) w (s.family.supported k) (omega (arith, cnt_split (entries_at new k) w)) in
    let lo = meet_law (Meet g d) g d old k refl ho w in
    let ln = meet_law (Meet g d) g d new k refl hn w in
    let keys = same_keys t old new r.family s.family g in
    let first = first_some (count_of (entries_at new g) w) (count_of (entries_at new d) (pick (key_at new g) w))
    (omega arith) in
    let second = second_some (count_of (entries_at new g) w) (count_of (entries_at new d) (pick (key_at new g) w))
    (omega arith)
    in
    elim (cases_eq g j) [
      | inl here ↦ (
          let side_off = off_cnt d (λ q. (r.family.is_tree.meet k g d e).apart (here ∙ at ∙ sym q)) (side_has g d)
          (pick (key_at new g) w) in
          let side_old : 0 < count_of (entries_at old d) (pick (key_at old g) w) = subst
          (λ (ks : List ℕ). 0 < count_of (entries_at old d) (pick ks w)) keys (omega arith) in
          let none = elim (cases_lt 0 (count_of (entries_at old g) w)) as (λ q. count_of (entries_at old g) w ≡ 0) [
            | inl x ↦ absurd (let b = both_some (count_of (entries_at old g) w)
                (count_of (entries_at old d) (pick (key_at old g) w)) x side_old in omega arith)
            | inr z ↦ omega arith
          ] in
          let marked : 0 < count_of (marks (entries_at new g)) w = omega
          (arith, cnt_split (entries_at new g) w, p.same g w, cnt_split (entries_at old g) w) in
          subst (λ (b : Bool). 0 < cond b (count_of (marks (entries_at new j)) w)
          (count_of (marks (entries_at new j)) (pick (key_at new g) w))) (sym (eq-eqb g j here))
          (subst (λ (i : ℕ). 0 < count_of (marks (entries_at new i)) w) here marked))
      | inr other ↦ (
          let side_one : d ≡ j = eqb-true d j (or_right (g == j) (d == j) (ne_eqb g j other) child) in
          let guard_off = off_cnt g (λ q. other (q ∙ sym at)) (guard_has g d) w in
          let guard_old : 0 < count_of (entries_at old g) w = omega arith in
          let none_old : count_of (entries_at old d) (pick (key_at old g) w)
          ≡ 0 = elim (cases_lt 0 (count_of (entries_at old d) (pick (key_at old g) w))) [
            | inl x ↦ absurd (let b = both_some (count_of (entries_at old g) w)
                (count_of (entries_at old d) (pick (key_at old g) w)) guard_old x in omega arith)
            | inr z ↦ omega arith
          ] in
          let none : count_of (entries_at old d) (pick (key_at new g) w)
          ≡ 0 = subst (λ (ks : List ℕ). count_of (entries_at old d) (pick ks w) ≡ 0) (sym keys) none_old in
          let marked : 0 < count_of (marks (entries_at new d)) (pick (key_at new g) w) = omega (
            arith,
            cnt_split (entries_at new d) (pick (key_at new g) w),
            p.same d (pick (key_at new g) w),
            cnt_split
                (entries_at old d) (pick (key_at new g) w),
          ) in
          subst (λ (b : Bool). 0 < cond b (count_of (marks (entries_at new j)) w)
          (count_of (marks (entries_at new j)) (pick (key_at new g) w))) (sym (ne_eqb g j other))
          (subst (λ (i : ℕ). 0 < count_of (marks (entries_at new i)) (pick (key_at new g) w)) side_one marked))
    ]
  where
    off_cnt : (c : ℕ) → (c ≡ path_at t.nodes a k → ⊥) → has_child (Meet g d) c ≡ true → (v : List ℕ)
        → count_of (entries_at new c) v ≡ count_of (entries_at old c) v
    off_cnt c apart kid v =
        let has : has_child (node_at t.nodes k) c ≡ true = subst (λ (m : Node). has_child m c ≡ true) (sym e) kid in
        tuples_same t old new r.family s.family c
        (off_same t old new a r.family s.family r.reduced s.reduced leaves (suc c) c (omega arith)
        (other_off t a k c r.family.is_tree has apart)) v

pub covered_new : (t : Tree) (old new : List Table) (a k : ℕ) → IsReducts (record { tree = t; tables = old })
    → IsReducts (record { tree = t; tables = new }) → IsBare old → CameAs true old new
    → ((i : ℕ) (v : List ℕ) → i < t.leaves → i ≢ a → count_of (entries_at new i) v ≡ count_of (entries_at old i) v)
    → on_path t.nodes a k ≡ true → IsCovered (node_at t.nodes k) new (path_at t.nodes a k) k
covered_new t old new a k r s bare p leaves on =
    let within = on_within t a k on in
    record {
      each = new_node t old new a (path_at t.nodes a k) k (node_at t.nodes k) r s bare p leaves refl within refl
          (sym (on_at t.nodes a k (path_at t.nodes a k) refl) ∙ on) (r.reduced.at k (omega arith) within)
          (s.reduced.at k (omega arith) within);
    }

-- what was there is unmarked
pub plain_new : (t : Tree) (old new : List Table) (k : ℕ) (n : Node) → IsFamily t old → IsFamily t new
    → IsReductOf n old k →
    ((i : ℕ) → i ≤ k → (v : List ℕ) → count_of (plain (entries_at new i)) v ≡ count_of (entries_at old i) v)
    → ((c : ℕ) → has_child n c ≡ true → c < k) → ArePlainAt n new k
unfolding ArePlainAt
plain_new t old new k (Leaf a) f g law same_plain low = λ w. omega arith
plain_new t old new k (Trim c) f g law same_plain low = λ w.
    let l = trim_law (Trim c) c old k refl law w in
    let below = low c (trim_has c) in
    let m : group_size (key_at new c) (plain (entries_at new c)) w
    ≡ group_size (key_at old c) (entries_at old c) w = ap (λ (ks : List ℕ). group_size ks (plain (entries_at new c)) w)
    (same_keys t old new f g c)
    ∙ many_even (key_at old c) (plain (entries_at new c)) (entries_at old c) (same_plain c (omega arith)) w in
    let own = same_plain k (omega arith) w in (
      (λ some. let s = cnt_supp (entries_at old k) w (f.supported k) (omega arith) in omega arith),
      (λ some. let s = present (entries_at old k) w (omega arith) in omega arith),
    )
plain_new t old new k (Meet x y) f g law same_plain low = λ w.
    let l = meet_law (Meet x y) x y old k refl law w in
    let low_x = low x (guard_has x y) in
    let low_y = low y (side_has x y) in
    let own = same_plain k (omega arith) w in
    let first = same_plain x (omega arith) w in
    let second : count_of (plain (entries_at new y)) (pick (key_at new x) w)
    ≡ count_of (entries_at old y) (pick (key_at old x) w) = ap
    (λ (ks : List ℕ). count_of (plain (entries_at new y)) (pick ks w)) (same_keys t old new f g x)
    ∙ same_plain y (omega arith) (pick (key_at old x) w) in
    own
    ∙ meet_numbers (count_of (entries_at old k) w) 0 (count_of (entries_at old k) w) (count_of (entries_at old x) w)
    (count_of (entries_at old x) w) 0 (count_of (entries_at old y) (pick (key_at old x) w)) (omega arith)
    (once t old f k w)
    (omega arith) (once t old f x w) (once t old f y (pick (key_at old x) w))
    (λ some. let s = cnt_supp (entries_at old k) w (f.supported k) some in omega arith)
    (λ some. present (entries_at old k) w (omega arith)) (λ some marked. marked) (λ marked. marked)
    ∙ sym (ap₂ (λ (m n : ℕ). m * n) first second)
