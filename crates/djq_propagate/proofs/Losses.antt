-- A node has lost a tuple: what its parent loses.
use Rattle.std.proofs.Common.{◌≡◌, ◌≢◌, ℕ, ◌+◌, ◌-◌, ◌*◌, ◌<◌, ◌≤◌, Bool, true, false, cond, List, [], take, drop, refl}
use Rattle.std.proofs.Common.{ap, ap₂, subst, sym, ◌∙◌, arith, inl, inr}
use Rattle.djq_index.specs.Tuple.{same, pick, one_if}
use Rattle.djq_index.specs.Entries.{Entry, supports_of, count_of, group_size, group_of}
use Rattle.djq_index.specs.Changes.{Removed, Supported}
use Rattle.djq_index.specs.Table.{Table}
use Rattle.djq_index.proofs.Tuples.{is_same, same_cases, same_sym, one_same, one_other, one_true, supp_none}
use Rattle.djq_index.proofs.Groups.{cnt_grp, removed_cnt, removed_supp, removed_many, supported_cnt, supported_supp}
use Rattle.djq_tree.specs.declared.node.Node.TheVariants.{Trim, Meet}
use Rattle.djq_tree.specs.Tree.{Tree, IsTree, IsMeet}
use Rattle.djq_reduct.specs.Tables.{entries_at, key_at}
use Rattle.djq_reduct.specs.Reducts.{IsReductOf, IsFamily}
use Rattle.djq_reduct.proofs.Assignments.{trim_law, meet_law}
use Rattle.djq_propagate.specs.Walks.{ChangedOneTable, RemovedUpwards, ChangedOnlyAt, ReducedAbove, IsParentOf}
use Rattle.djq_propagate.specs.Walks.{IsEmptied, CoversAll}
use Rattle.djq_propagate.proofs.Families.{once, apart_of, same_keys, lower_of, now_family, above_same, righted, idle}
use Rattle.djq_propagate.proofs.Families.{below_up}
use Rattle.djq_propagate.proofs.PathMarks.{group_has, take_le, take_all, cond_one}
use Rattle.djq_propagate.proofs.Gains.{law_of, same_up, keys_now, side_stays}

-- a tuple that went was there once
pub was_there : (t : Tree) (was now : List Table) (j : ℕ) (u : List ℕ) → ChangedOnlyAt t was now j
    → Removed (entries_at was j) (entries_at now j) u → count_of (entries_at was j) u ≡ 1
was_there t was now j u b r = omega
    (arith, removed_cnt (entries_at was j) (entries_at now j) u r u, one_same u, once t was b.ready.family j u)

trim_equation : (t : Tree) (was now new : List Table) (j k : ℕ) (u w : List ℕ) → ChangedOnlyAt t was now j
    → IsParentOf t k (Trim j) j → IsFamily t new → entries_at new j ≡ entries_at now j
    → Removed (entries_at was j) (entries_at now j) u → w ≡ pick (key_at now j) u
    → ((v : List ℕ) → supports_of (entries_at now k) v ≡ supports_of (entries_at new k) v + one_if (same w v))
    → IsReductOf (Trim j) new k
unfolding IsReductOf
trim_equation t was now new j k u w b x f stay r e loss v =
    let keys : key_at new j ≡ key_at was j = same_keys t was new b.ready.family f j in
    let law = trim_law (Trim j) j was k refl (law_of t was now j k (Trim j) b x) v in
    let less = removed_many (entries_at was j) (entries_at now j) u r (key_at was j) v in
    let here : one_if (same w v)
    ≡ one_if (same (pick (key_at was j) u) v) = ap (λ (y : List ℕ). one_if (same y v))
    (e ∙ ap (λ (ks : List ℕ). pick ks u) (keys_now t was now j b j)) in
    let right : group_size (key_at new j) (entries_at new j) v
    ≡ group_size (key_at was j) (entries_at now j) v = ap₂ (λ (ks : List ℕ) (es : List Entry). group_size ks es v)
    keys stay in
    let up : supports_of (entries_at now k) v
    ≡ supports_of (entries_at was k) v = ap (λ (es : List Entry). supports_of es v) (same_up t was now j k (Trim j) b
    x) in
    omega (arith, loss v)

-- a trim has the projection
pub trim_some : (t : Tree) (was now : List Table) (j k : ℕ) (u w : List ℕ) → ChangedOnlyAt t was now j
    → Removed (entries_at was j) (entries_at now j) u → IsParentOf t k (Trim j) j → w ≡ pick (key_at now j) u
    → 0 < supports_of (entries_at now k) w
trim_some t was now j k u w b r x e =
    let law = trim_law (Trim j) j was k refl (law_of t was now j k (Trim j) b x) w in
    let less = removed_many (entries_at was j) (entries_at now j) u r (key_at was j) w in
    let here : one_if (same (pick (key_at was j) u) w)
    ≡ 1 = one_true (same (pick (key_at was j) u) w)
    (is_same (pick (key_at was j) u) w (ap (λ (ks : List ℕ). pick ks u) (sym (keys_now t was now j b j)) ∙ sym e))
    in
    let up : supports_of (entries_at now k) w
    ≡ supports_of (entries_at was k) w = ap (λ (es : List Entry). supports_of es w) (same_up t was now j k (Trim j) b
    x) in
    omega arith

step_down : (b : Bool) (n : ℕ) → 0 < n → cond b n 0 ≡ cond b (n - 1) 0 + one_if b
unfolding one_if
step_down true n h = omega arith
step_down false n h = refl

-- it keeps other supports
pub trim_lowered : (t : Tree) (was now new : List Table) (j k : ℕ) (u w : List ℕ) → ChangedOnlyAt t was now j
    → Removed (entries_at was j) (entries_at now j) u → IsParentOf t k (Trim j) j → ChangedOneTable now new k
    → Supported (entries_at now k) (entries_at new k) w (supports_of (entries_at now k) w)
    (supports_of (entries_at now k) w - 1) → w
    ≡ pick (key_at now j) u → ReducedAbove t now new j
trim_lowered t was now new j k u w b r x c s e =
    let low = lower_of t k (Trim j) j b.ready.family.is_tree x in
    let f = c.family t (now_family t was now j b) in
    righted t was now new j k (Trim j) b x f (λ y less. c.others y (omega arith))
    (trim_equation t was now new j k u w b x f (c.others j (omega arith)) r e
    (λ v. omega (
      arith,
      supported_supp (entries_at now k) (entries_at new k) w (supports_of (entries_at now k) w)
          (supports_of (entries_at now k) w - 1) s v,
      step_down (same w v) (supports_of (entries_at now k) w)
          (trim_some t was now j k u w b r x e),
    )))
    (above_same t was now new j k (Trim j) b x c
    (supported_cnt (entries_at now k) (entries_at new k) w (supports_of (entries_at now k) w)
    (supports_of (entries_at now k) w - 1) s))

died_low : (t : Tree) (now new : List Table) (k : ℕ) (w : List ℕ) → IsTree t → RemovedUpwards t now new k w → (i : ℕ)
    → i < k
    → entries_at new i ≡ entries_at now i
died_low t now new k w s d i less = d.below i (below_up t k i s less)

-- it was the last one
pub trim_died : (t : Tree) (was now new : List Table) (j k : ℕ) (u w : List ℕ) → ChangedOnlyAt t was now j
    → Removed (entries_at was j) (entries_at now j) u → IsParentOf t k (Trim j) j → RemovedUpwards t now new k w → w
    ≡ pick (key_at now j) u
    → supports_of (entries_at now k) w ≤ 1 → ReducedAbove t now new j
trim_died t was now new j k u w b r x d e last =
    let s = b.ready.family.is_tree in
    let low = lower_of t k (Trim j) j s x in
    let some = trim_some t was now j k u w b r x e in
    righted t was now new j k (Trim j) b x d.family (died_low t now new k w s d)
    (trim_equation t was now new j k u w b x d.family (died_low t now new k w s d j low) r e
    (λ v. omega (
      arith,
      removed_supp (entries_at now k) (entries_at new k) w d.loses
          (apart_of t now (now_family t was now j b) k) v,
      cond_one (same w v) (supports_of (entries_at now k) w)
          (omega arith),
    )))
    d.reduced

-- it can't be missing
pub trim_missing : (t : Tree) (was now : List Table) (j k : ℕ) (u w : List ℕ) → ChangedOnlyAt t was now j
    → Removed (entries_at was j) (entries_at now j) u → IsParentOf t k (Trim j) j → w ≡ pick (key_at now j) u
    → count_of (entries_at now k) w ≡ 0 → ⊥
trim_missing t was now j k u w b r x e none =
    let some = trim_some t was now j k u w b r x e in
    omega (arith, supp_none (entries_at now k) w none)

guard_supp : (t : Tree) (was now : List Table) (j s k : ℕ) (u : List ℕ) → ChangedOnlyAt t was now j
    → Removed (entries_at was j) (entries_at now j) u → IsParentOf t k (Meet j s) j → supports_of (entries_at now k) u
    ≡ count_of (entries_at was s) (pick (key_at was j) u)
guard_supp t was now j s k u b r x =
    let law : supports_of (entries_at was k) u
    ≡ count_of (entries_at was j) u * count_of (entries_at was s) (pick (key_at was j) u) = meet_law (Meet j s) j s
    was k refl
    (law_of t was now j k (Meet j s) b x) u in
    let unit : count_of (entries_at was j) u * count_of (entries_at was s) (pick (key_at was j) u)
    ≡ 1 * count_of (entries_at was s) (pick (key_at was j) u) = ap
    (λ (n : ℕ). n * count_of (entries_at was s) (pick (key_at was j) u)) (was_there t was now j u b r) in
    ap (λ (es : List Entry). supports_of es u) (same_up t was now j k (Meet j s) b x) ∙ omega arith

times_cond : (u v : List ℕ) (f : List ℕ → ℕ) → one_if (same u v) * f v ≡ cond (same u v) (f u) 0
times_cond u v f =
    elim (same_cases u v) [
      | inl here ↦ (let e = is_same u v here in let k : one_if (same u v)
          ≡ 1 = one_true (same u v) e in rw (k, e) (omega (arith, ap f here)))
      | inr other ↦ (let k = one_other u v other in rw (k, other) (omega arith))
    ]

guard_equation : (t : Tree) (was now new : List Table) (j s k : ℕ) (u : List ℕ) → ChangedOnlyAt t was now j
    → IsParentOf t k (Meet j s) j → IsFamily t new → entries_at new j ≡ entries_at now j → entries_at new s
    ≡ entries_at now s
    → Removed (entries_at was j) (entries_at now j) u
    → ((v : List ℕ) → supports_of (entries_at now k) v
    ≡ supports_of (entries_at new k) v + cond (same u v) (supports_of (entries_at now k) u) 0)
    → IsReductOf (Meet j s) new k
unfolding IsReductOf
guard_equation t was now new j s k u b x f stay side r loss v =
    let keys : key_at new j ≡ key_at was j = same_keys t was new b.ready.family f j in
    let law = meet_law (Meet j s) j s was k refl (law_of t was now j k (Meet j s) b x) v in
    let less = removed_cnt (entries_at was j) (entries_at now j) u r v in
    let sides : entries_at new s ≡ entries_at was s = side ∙ side_stays t was now j s k b x in
    let times = times_cond u v (λ w. count_of (entries_at was s) (pick (key_at was j) w)) in
    let part : cond (same u v) (supports_of (entries_at now k) u) 0
    ≡ cond (same u v) (count_of (entries_at was s) (pick (key_at was j) u)) 0 = ap (λ (n : ℕ). cond (same u v) n 0)
    (guard_supp t was now j s k u b r x) in
    let first : count_of (entries_at new j) v ≡ count_of (entries_at now j) v = ap (λ (es : List Entry). count_of es
    v) stay in
    let second : count_of (entries_at new s) (pick (key_at new j) v)
    ≡ count_of (entries_at was s) (pick (key_at was j) v) = ap₂ (λ (es : List Entry) (ks : List ℕ). count_of es
    (pick ks v))
    sides keys in
    let both : count_of (entries_at new j) v * count_of (entries_at new s) (pick (key_at new j) v)
    ≡ count_of (entries_at now j) v * count_of (entries_at was s) (pick (key_at was j) v) = ap₂ (λ (a c : ℕ). a * c)
    first
    second in
    let old : count_of (entries_at was j) v * count_of (entries_at was s) (pick (key_at was j) v)
    ≡ (count_of (entries_at now j) v + one_if (same u v)) * count_of (entries_at was s) (pick (key_at was j) v) = ap
    (λ (n : ℕ). n * count_of (entries_at was s) (pick (key_at was j) v)) less in
    let spread = distributes (count_of (entries_at now j) v) (one_if (same u v))
    (count_of (entries_at was s) (pick (key_at was j) v)) in
    let up : supports_of (entries_at now k) v
    ≡ supports_of (entries_at was k) v = ap (λ (es : List Entry). supports_of es v) (same_up t was now j k (Meet j s)
    b x) in
    omega (arith, loss v)
  where
    distributes : (a b c : ℕ) → (a + b) * c ≡ a * c + b * c
    distributes a b c = omega arith

-- the meet has it
pub guard_died : (t : Tree) (was now new : List Table) (j s k : ℕ) (u : List ℕ) → ChangedOnlyAt t was now j
    → Removed (entries_at was j) (entries_at now j) u → IsParentOf t k (Meet j s) j → RemovedUpwards t now new k u
    → ReducedAbove t now new j
guard_died t was now new j s k u b r x d =
    let tree = b.ready.family.is_tree in
    let m = tree.meet k j s x.node in
    let low = died_low t now new k u tree d in
    righted t was now new j k (Meet j s) b x d.family low
    (guard_equation t was now new j s k u b x d.family (low j m.guard_lower) (low s m.side_lower) r
    (removed_supp (entries_at now k) (entries_at new k) u d.loses (apart_of t now (now_family t was now j b) k)))
    d.reduced

cond_none : (b : Bool) (n : ℕ) → n ≡ 0 → cond b n 0 ≡ 0
cond_none true n h = h
cond_none false n h = refl

-- it doesn't
pub guard_idle : (t : Tree) (was now : List Table) (j s k : ℕ) (u : List ℕ) → ChangedOnlyAt t was now j
    → Removed (entries_at was j) (entries_at now j) u → IsParentOf t k (Meet j s) j → count_of (entries_at now k) u ≡ 0
    → ReducedAbove t now now j
guard_idle t was now j s k u b r x none =
    idle t was now j k (Meet j s) b x
    (guard_equation t was now now j s k u b x (now_family t was now j b) refl refl r
    (λ v. omega (arith, cond_none (same u v) (supports_of (entries_at now k) u) (supp_none (entries_at now k) u none))))

-- at a side: the whole group is there, with one support each
pub side_full : (t : Tree) (was now : List Table) (g j k n : ℕ) (u : List ℕ) → ChangedOnlyAt t was now j
    → Removed (entries_at was j) (entries_at now j) u → IsParentOf t k (Meet g j) j
    → CoversAll (entries_at now k) (take n (group_of (key_at now g) (entries_at now g) u))
side_full t was now g j k n u b r x = record {
  each = λ v some.
      let m = b.ready.family.is_tree.meet k g j x.node in
      let apart : g ≢ j = m.apart in
      let part = take_le (group_of (key_at now g) (entries_at now g) u) n v in
      let has = group_has (key_at now g) (entries_at now g) u v (omega arith) in
      let in_guard = has.0 in
      let law : supports_of (entries_at was k) v
      ≡ count_of (entries_at was g) v * count_of (entries_at was j) (pick (key_at was g) v) = meet_law (Meet g j) g j
      was k
      refl (law_of t was now j k (Meet g j) b x) v in
      let first : count_of (entries_at was g) v ≡ 1 = ap (λ (es : List Entry). count_of es v)
      (sym (b.changed.others g apart))
      ∙ omega (arith, once t now (now_family t was now j b) g v) in
      let second : count_of (entries_at was j) (pick (key_at was g) v)
      ≡ 1 = ap (λ (w : List ℕ). count_of (entries_at was j) w)
      (ap (λ (ks : List ℕ). pick ks v) (sym (keys_now t was now j b g)) ∙ has.1) ∙ was_there t was now j u b r in
      let both : count_of (entries_at was g) v * count_of (entries_at was j) (pick (key_at was g) v)
      ≡ 1 * 1 = ap₂ (λ (a c : ℕ). a * c) first second in
      let up : supports_of (entries_at now k) v
      ≡ supports_of (entries_at was k) v = ap (λ (es : List Entry). supports_of es v)
      (same_up t was now j k (Meet g j) b x) in
      omega arith;
}

-- the whole group went
pub side_righted : (t : Tree) (was now new : List Table) (g j k n : ℕ) (u : List ℕ) → ChangedOnlyAt t was now j
    → Removed (entries_at was j) (entries_at now j) u → IsParentOf t k (Meet g j) j
    → IsEmptied t now new k (take n (group_of (key_at now g) (entries_at now g) u))
    → drop n (group_of (key_at now g) (entries_at now g) u) ≡ [] → ReducedAbove t now new j
unfolding IsReductOf
side_righted t was now new g j k n u b r x gone ends = righted t was now new j k (Meet g j) b x gone.family gone.low
    equation gone.reduced
  where
    m : IsMeet t.labels k g j
    m = b.ready.family.is_tree.meet k g j x.node

    spread : (a c d : ℕ) → a * (c + d) ≡ a * c + a * d
    spread a c d = omega arith

    equation : IsReductOf (Meet g j) new k
    equation v =
        let low : g < k = m.guard_lower in
        let low_side : j < k = m.side_lower in
        let apart : g ≢ j = m.apart in
        let law : supports_of (entries_at was k) v
        ≡ count_of (entries_at was g) v * count_of (entries_at was j) (pick (key_at was g) v) = meet_law (Meet g j) g
        j was k
        refl (law_of t was now j k (Meet g j) b x) v in
        let keys : key_at new g ≡ key_at was g = same_keys t was new b.ready.family gone.family g in
        let guards : entries_at now g ≡ entries_at was g = b.changed.others g apart in
        let first : count_of (entries_at new g) v
        ≡ count_of (entries_at was g) v = ap (λ (es : List Entry). count_of es v) (gone.low g low ∙ guards) in
        let second : count_of (entries_at new j) (pick (key_at new g) v)
        ≡ count_of (entries_at now j) (pick (key_at was g) v) = ap₂
        (λ (es : List Entry) (ks : List ℕ). count_of es (pick ks v)) (gone.low j low_side) keys in
        let less : count_of (entries_at was j) (pick (key_at was g) v)
        ≡ count_of (entries_at now j) (pick (key_at was g) v) + one_if (same u (pick (key_at was g) v)) = removed_cnt
        (entries_at was j) (entries_at now j) u r (pick (key_at was g) v) in
        let both : count_of (entries_at new g) v * count_of (entries_at new j) (pick (key_at new g) v)
        ≡ count_of (entries_at was g) v * count_of (entries_at now j) (pick (key_at was g) v) = ap₂
        (λ (a c : ℕ). a * c) first
        second in
        let old : count_of (entries_at was g) v * count_of (entries_at was j) (pick (key_at was g) v)
        ≡ count_of (entries_at was g) v *
        (count_of (entries_at now j) (pick (key_at was g) v) + one_if (same u (pick (key_at was g) v))) = ap
        (λ (c : ℕ). count_of (entries_at was g) v * c) less in
        let sum = spread (count_of (entries_at was g) v) (count_of (entries_at now j) (pick (key_at was g) v))
        (one_if (same u (pick (key_at was g) v))) in
        let group : count_of (group_of (key_at now g) (entries_at now g) u) v
        ≡ count_of (entries_at was g) v * one_if (same u (pick (key_at was g) v)) =
        cnt_grp (key_at now g) (entries_at now g) u v
        ∙ ap₂ (λ (es : List Entry) (ks : List ℕ). count_of es v * one_if (same (pick ks v) u)) guards
        (keys_now t was now j b g)
        ∙ ap (λ (q : Bool). count_of (entries_at was g) v * one_if q) (same_sym (pick (key_at was g) v) u) in
        let up : supports_of (entries_at now k) v
        ≡ supports_of (entries_at was k) v = ap (λ (es : List Entry). supports_of es v)
        (same_up t was now j k (Meet g j) b x) in
        omega (arith, gone.lost v, take_all (group_of (key_at now g) (entries_at now g) u) n v ends)

-- the node has lost it, and those above are right
pub died_here : (t : Tree) (old mid new : List Table) (j : ℕ) (u : List ℕ) → ChangedOneTable old mid j
    → Removed (entries_at old j) (entries_at mid j) u → ReducedAbove t mid new j → RemovedUpwards t old new j u
died_here t old mid new j u c r x = record {
  family = x.family;
  loses = subst (λ (es : List Entry). Removed (entries_at old j) es u) (sym x.at) r;
  below = λ y h. x.below y h ∙ c.others y h.0;
  reduced = x.reduced;
}
