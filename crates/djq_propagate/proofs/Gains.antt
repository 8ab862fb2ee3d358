-- A node has gained a tuple: what its parent gains.
use Rattle.std.proofs.Common.{◌≡◌, ◌≢◌, ℕ, suc, ◌+◌, ◌*◌, ◌<◌, ◌≤◌, Bool, List, [], ◌∷◌, ◌++◌, length, take, drop, refl}
use Rattle.std.proofs.Common.{ap, ap₂, subst, sym, ◌∙◌, arith, inl, inr}
use Rattle.std.proofs.lemmas.Bool.{cases_eq, cases_lt}
use Rattle.std.proofs.lemmas.List.{length-map}
use Rattle.std.specs.Prelude.{slice_index}
use Rattle.djq_index.specs.declared.place.Place.{Place}
use Rattle.djq_index.specs.Tuple.{same, pick, one_if}
use Rattle.djq_index.specs.Entries.{Entry, supports_of, count_of, group_size, group_of}
use Rattle.djq_index.specs.Changes.{InsertedAs, Removed, Supported}
use Rattle.djq_index.specs.Table.{Table, IsAt}
use Rattle.djq_index.proofs.Tuples.{same_cases, same_sym, one_same, one_other, many_length, cnt_none, supp_none, there}
use Rattle.djq_index.proofs.Groups.{cnt_grp, inserted_cnt, inserted_supp, inserted_many, inserted_length, supported_cnt}
use Rattle.djq_index.proofs.Groups.{raised_supp, removed_supp}
use Rattle.djq_tree.specs.declared.node.Node.{Node}
use Rattle.djq_tree.specs.declared.node.Node.TheVariants.{Leaf, Trim, Meet}
use Rattle.djq_tree.specs.Tree.{Tree, IsTree, IsMeet, node_at}
use Rattle.djq_tree.specs.Labels.{label_at}
use Rattle.djq_tree.specs.Keys.{key_of}
use Rattle.djq_tree.proofs.Paths.{key_of_trim, key_of_guard}
use Rattle.djq_reduct.specs.Columns.{column, columns}
use Rattle.djq_reduct.specs.Tables.{entries_at, key_at, width_at}
use Rattle.djq_reduct.specs.Reducts.{IsReductOf, IsFamily}
use Rattle.djq_reduct.proofs.Assignments.{trim_law, meet_law}
use Rattle.djq_propagate.specs.Walks.{ChangedOneTable, Ready, InsertedUpwards, Refused, ChangedOnlyAt, ReducedAbove}
use Rattle.djq_propagate.specs.Walks.{UnchangedAbove, IsParentOf, IsGrown, IsEmptied, CoversAll}
use Rattle.djq_propagate.proofs.PathMarks.{group_once, group_has, take_le, take_all, cut_new, cond_one}
use Rattle.djq_propagate.proofs.Families.{once, apart_of, same_keys, child_of, lower_of, now_family, ready_up}
use Rattle.djq_propagate.proofs.Families.{above_same, righted, idle, below_up, reduced_same, agree_from}

-- the equation of a parent, before its child changed
pub law_of : (t : Tree) (was now : List Table) (j k : ℕ) (n : Node) → ChangedOnlyAt t was now j → IsParentOf t k n j
    → IsReductOf n was k
law_of t was now j k n b u =
    let low = lower_of t k n j b.ready.family.is_tree u in
    subst (λ (m : Node). IsReductOf m was k) u.node (b.ready.reduced.at k (omega arith) u.within)

pub same_up : (t : Tree) (was now : List Table) (j k : ℕ) (n : Node) → ChangedOnlyAt t was now j → IsParentOf t k n j
    → entries_at now k ≡ entries_at was k
same_up t was now j k n b u = let low = lower_of t k n j b.ready.family.is_tree u in b.changed.others k (omega arith)

pub keys_now : (t : Tree) (was now : List Table) (j : ℕ) → ChangedOnlyAt t was now j → (k : ℕ)
    → key_at now k ≡ key_at was k
keys_now t was now j b k = same_keys t was now b.ready.family (now_family t was now j b) k

-- widths of labels and keys
pub width_narrow : (t : Tree) (ts : List Table) (k : ℕ) → IsFamily t ts → k < length t.nodes → width_at ts k ≤ 16
width_narrow t ts k f h = let a = (f.keyed k h).width in let b = f.narrow.labels k in omega arith

columns_length : (l ks : List ℕ) → length (columns l ks) ≡ length ks
unfolding columns
columns_length l ks = length-map ks (λ x. column l x)

key_length : (t : Tree) (ts : List Table) (k : ℕ) → IsFamily t ts → k < length t.nodes → length (key_at ts k)
    ≡ length (key_of t k)
key_length t ts k f h = ap (λ (ks : List ℕ). length ks) (f.keyed k h).key
    ∙ columns_length (label_at t.labels k) (key_of t k)

pick_length : (ks u : List ℕ) → length (pick ks u) ≡ length ks
unfolding pick
pick_length ks u = length-map ks (λ c. slice_index u c)

-- under a trim
pub trim_key : (t : Tree) (ts : List Table) (j k : ℕ) → IsFamily t ts → j < length t.nodes → IsParentOf t k (Trim j) j
    → length (key_at ts j) ≡ length (label_at t.labels k)
trim_key t ts j k f h u = key_length t ts j f h ∙ ap (λ (l : List ℕ). length l) (key_of_trim t k j f.is_tree u.node)

pub trim_few : (t : Tree) (ts : List Table) (j k : ℕ) → IsFamily t ts → j < length t.nodes → IsParentOf t k (Trim j) j
    → length (key_at ts j) ≤ 16
trim_few t ts j k f h u = let n = f.narrow.labels k in omega (arith, trim_key t ts j k f h u)

pub trim_wide : (t : Tree) (ts : List Table) (j k : ℕ) (v w : List ℕ) → IsFamily t ts → j < length t.nodes
    → IsParentOf t k (Trim j) j → w ≡ pick (key_at ts j) v → length w ≡ width_at ts k
trim_wide t ts j k v w f h u e = ap (λ (x : List ℕ). length x) e ∙ pick_length (key_at ts j) v ∙ trim_key t ts j k f h u
    ∙ sym (f.keyed k u.within).width

trim_equation : {m : Bool} (t : Tree) (was now new : List Table) (j k : ℕ) (u w : List ℕ) → ChangedOnlyAt t was now j
    → IsParentOf t k (Trim j) j → IsFamily t new → entries_at new j ≡ entries_at now j
    → InsertedAs m (key_at was j) (entries_at was j) (entries_at now j) u → w ≡ pick (key_at now j) u
    → ((v : List ℕ) → supports_of (entries_at new k) v ≡ supports_of (entries_at now k) v + one_if (same w v))
    → IsReductOf (Trim j) new k
unfolding IsReductOf
trim_equation {m} t was now new j k u w b x f stay i e gain v =
    let keys : key_at new j ≡ key_at was j = same_keys t was new b.ready.family f j in
    let law = trim_law (Trim j) j was k refl (law_of t was now j k (Trim j) b x) v in
    let more = inserted_many (key_at was j) (entries_at was j) (entries_at now j) u i (key_at was j) v in
    let here : one_if (same w v)
    ≡ one_if (same (pick (key_at was j) u) v) = ap (λ (y : List ℕ). one_if (same y v))
    (e ∙ ap (λ (ks : List ℕ). pick ks u) (keys_now t was now j b j)) in
    let right : group_size (key_at new j) (entries_at new j) v
    ≡ group_size (key_at was j) (entries_at now j) v = ap₂ (λ (ks : List ℕ) (es : List Entry). group_size ks es v)
    keys stay in
    let up : supports_of (entries_at now k) v
    ≡ supports_of (entries_at was k) v = ap (λ (es : List Entry). supports_of es v) (same_up t was now j k (Trim j) b
    x) in
    omega (arith, gain v)

-- the projection was there
pub trim_raised : {m : Bool} (t : Tree) (was now new : List Table) (j k : ℕ) (u w : List ℕ) → ChangedOnlyAt t was now j
    → InsertedAs m (key_at was j) (entries_at was j) (entries_at now j) u → IsParentOf t k (Trim j) j
    → ChangedOneTable now new k
    → Supported (entries_at now k) (entries_at new k) w (supports_of (entries_at now k) w)
    (supports_of (entries_at now k) w + 1) → w
    ≡ pick (key_at now j) u → ReducedAbove t now new j
trim_raised {m} t was now new j k u w b i x c s e =
    let low = lower_of t k (Trim j) j b.ready.family.is_tree x in
    let f = c.family t (now_family t was now j b) in
    righted t was now new j k (Trim j) b x f (λ y less. c.others y (omega arith))
    (trim_equation t was now new j k u w b x f (c.others j (omega arith)) i e
    (raised_supp (entries_at now k) (entries_at new k) w (supports_of (entries_at now k) w) s))
    (above_same t was now new j k (Trim j) b x c
    (supported_cnt (entries_at now k) (entries_at new k) w (supports_of (entries_at now k) w)
    (supports_of (entries_at now k) w + 1) s))

lived_low : (t : Tree) (now new : List Table) (k : ℕ) (w : List ℕ) → IsTree t → InsertedUpwards t now new k w
    → (i : ℕ) → i < k
    → entries_at new i ≡ entries_at now i
lived_low t now new k w s l i less = l.below i (below_up t k i s less)

-- it came
pub trim_lived : {m : Bool} (t : Tree) (was now new : List Table) (j k : ℕ) (u w : List ℕ) → ChangedOnlyAt t was now j
    → InsertedAs m (key_at was j) (entries_at was j) (entries_at now j) u → IsParentOf t k (Trim j) j
    → InsertedUpwards t now new k w
    → w ≡ pick (key_at now j) u → ReducedAbove t now new j
trim_lived {m} t was now new j k u w b i x l e =
    let s = b.ready.family.is_tree in
    let low = lower_of t k (Trim j) j s x in
    righted t was now new j k (Trim j) b x l.family (lived_low t now new k w s l)
    (trim_equation t was now new j k u w b x l.family (lived_low t now new k w s l j low) i e
    (inserted_supp (key_at now k) (entries_at now k) (entries_at new k) w l.gains))
    l.reduced

-- a trim's tuple has no more supports than there is room for
pub trim_room : {m : Bool} (t : Tree) (was now : List Table) (j k : ℕ) (u w : List ℕ) → ChangedOnlyAt t was now j
    → InsertedAs m (key_at was j) (entries_at was j) (entries_at now j) u → IsParentOf t k (Trim j) j
    → length (entries_at now j) ≤ 4294967295 → supports_of (entries_at now k) w < 4294967295
trim_room {m} t was now j k u w b i x small =
    omega (
      arith,
      ap (λ (es : List Entry). supports_of es w) (same_up t was now j k (Trim j) b x),
      trim_law (Trim j) j was k refl (law_of t was now j k (Trim j) b x) w,
      many_length (key_at was j) (entries_at was j) w,
      inserted_length (key_at was j) (entries_at was j) (entries_at now j) u i,
    )

-- a tuple that came wasn't there
pub was_absent : {m : Bool} (t : Tree) (was now : List Table) (j : ℕ) (u : List ℕ) → ChangedOnlyAt t was now j
    → InsertedAs m (key_at was j) (entries_at was j) (entries_at now j) u → count_of (entries_at was j) u ≡ 0
was_absent {m} t was now j u b i =
    omega (
      arith,
      inserted_cnt (key_at was j) (entries_at was j) (entries_at now j) u i u,
      one_same u,
      once t now
          (now_family t was now j b) j u,
    )

-- at a guard
pub guard_few : (t : Tree) (ts : List Table) (j s k : ℕ) → IsFamily t ts → j < length t.nodes
    → IsParentOf t k (Meet j s) j
    → length (key_at ts j) ≤ 16
guard_few t ts j s k f h u = let n = f.narrow.labels s in omega
    (arith, key_length t ts j f h, ap (λ (l : List ℕ). length l) (key_of_guard t k j s f.is_tree u.node))

pub guard_wide : (t : Tree) (ts : List Table) (j s k : ℕ) → IsFamily t ts → j < length t.nodes
    → IsParentOf t k (Meet j s) j → width_at ts k ≡ width_at ts j
guard_wide t ts j s k f h u = (f.keyed k u.within).width
    ∙ ap (λ (l : List ℕ). length l) (f.is_tree.meet k j s u.node).guard ∙ sym (f.keyed j h).width

pub guard_absent : {m : Bool} (t : Tree) (was now : List Table) (j s k : ℕ) (u : List ℕ) → ChangedOnlyAt t was now j
    → InsertedAs m (key_at was j) (entries_at was j) (entries_at now j) u → IsParentOf t k (Meet j s) j
    → count_of (entries_at now k) u ≡ 0
guard_absent {m} t was now j s k u b i x =
    let law : supports_of (entries_at was k) u
    ≡ count_of (entries_at was j) u * count_of (entries_at was s) (pick (key_at was j) u) = meet_law (Meet j s) j s
    was k refl
    (law_of t was now j k (Meet j s) b x) u in
    let none : count_of (entries_at was j) u * count_of (entries_at was s) (pick (key_at was j) u)
    ≡ 0 * count_of (entries_at was s) (pick (key_at was j) u) = ap
    (λ (n : ℕ). n * count_of (entries_at was s) (pick (key_at was j) u)) (was_absent t was now j u b i) in
    let zero_supp : supports_of (entries_at was k) u ≡ 0 = omega arith in
    ap (λ (es : List Entry). count_of es u) (same_up t was now j k (Meet j s) b x)
    ∙ cnt_none (entries_at was k) u (b.ready.family.supported k) zero_supp

pub side_stays : (t : Tree) (was now : List Table) (j s k : ℕ) → ChangedOnlyAt t was now j → IsParentOf t k (Meet j s) j
    → entries_at now s ≡ entries_at was s
side_stays t was now j s k b x = let m = b.ready.family.is_tree.meet k j s x.node in let apart = m.apart in
    b.changed.others s (omega arith)

times_one : (u v : List ℕ) (f : List ℕ → ℕ) (n : ℕ) → f u ≡ n → one_if (same u v) * f v ≡ one_if (same u v) * n
times_one u v f n h =
    elim (same_cases u v) [
      | inl here ↦ ap (λ (m : ℕ). one_if (same u v) * m) (ap f (sym here) ∙ h)
      | inr other ↦ (let e = one_other u v other in rw e (omega arith))
    ]

guard_equation : {m : Bool} (t : Tree) (was now new : List Table) (j s k : ℕ) (u : List ℕ) (n : ℕ)
    → ChangedOnlyAt t was now j
    → IsParentOf t k (Meet j s) j → IsFamily t new → entries_at new j ≡ entries_at now j → entries_at new s
    ≡ entries_at now s
    → InsertedAs m (key_at was j) (entries_at was j) (entries_at now j) u
    → count_of (entries_at now s) (pick (key_at now j) u) ≡ n
    → ((v : List ℕ) → supports_of (entries_at new k) v ≡ supports_of (entries_at now k) v + one_if (same u v) * n)
    → IsReductOf (Meet j s) new k
unfolding IsReductOf
guard_equation {m} t was now new j s k u n b x f stay side i has gain v =
    let keys : key_at new j ≡ key_at was j = same_keys t was new b.ready.family f j in
    let law = meet_law (Meet j s) j s was k refl (law_of t was now j k (Meet j s) b x) v in
    let more = inserted_cnt (key_at was j) (entries_at was j) (entries_at now j) u i v in
    let sides : entries_at new s ≡ entries_at was s = side ∙ side_stays t was now j s k b x in
    let part : count_of (entries_at was s) (pick (key_at was j) u)
    ≡ n = ap₂ (λ (es : List Entry) (ks : List ℕ). count_of es (pick ks u)) (sym (side_stays t was now j s k b x))
    (sym (keys_now t was now j b j)) ∙ has in
    let times = times_one u v (λ w. count_of (entries_at was s) (pick (key_at was j) w)) n part in
    let first : count_of (entries_at new j) v
    ≡ count_of (entries_at was j) v + one_if (same u v) = ap (λ (es : List Entry). count_of es v) stay ∙ more in
    let second : count_of (entries_at new s) (pick (key_at new j) v)
    ≡ count_of (entries_at was s) (pick (key_at was j) v) = ap₂ (λ (es : List Entry) (ks : List ℕ). count_of es
    (pick ks v))
    sides keys in
    let both : count_of (entries_at new j) v * count_of (entries_at new s) (pick (key_at new j) v)
    ≡ (count_of (entries_at was j) v + one_if (same u v)) * count_of (entries_at was s) (pick (key_at was j) v) = ap₂
    (λ (a c : ℕ). a * c) first second in
    let spread = distributes (count_of (entries_at was j) v) (one_if (same u v))
    (count_of (entries_at was s) (pick (key_at was j) v)) in
    let up : supports_of (entries_at now k) v
    ≡ supports_of (entries_at was k) v = ap (λ (es : List Entry). supports_of es v) (same_up t was now j k (Meet j s)
    b x) in
    omega (arith, gain v)
  where
    distributes : (a b c : ℕ) → (a + b) * c ≡ a * c + b * c
    distributes a b c = omega arith

-- the side has the projection
pub guard_lived : {m : Bool} (t : Tree) (was now new : List Table) (j s k : ℕ) (u : List ℕ) (p : Place)
    → ChangedOnlyAt t was now j → InsertedAs m (key_at was j) (entries_at was j) (entries_at now j) u
    → IsParentOf t k (Meet j s) j
    → InsertedUpwards t now new k u
    → IsAt (entries_at now s) p (pick (key_at now j) u) → ReducedAbove t now new j
guard_lived {m} t was now new j s k u p b i x l a =
    let tree = b.ready.family.is_tree in
    let m = tree.meet k j s x.node in
    let low = lived_low t now new k u tree l in
    let here : count_of (entries_at now s) (pick (key_at now j) u)
    ≡ 1 = omega (
      arith,
      there (entries_at now s) a.front a.entry a.back (pick (key_at now j) u) a.is a.tuple,
      once t
          now (now_family t was now j b) s (pick (key_at now j) u),
    ) in
    righted t was now new j k (Meet j s) b x l.family low
    (guard_equation t was now new j s k u 1 b x l.family (low j m.guard_lower) (low s m.side_lower) i here
    (λ v. omega (arith, inserted_supp (key_at now k) (entries_at now k) (entries_at new k) u l.gains v)))
    l.reduced

-- it doesn't
pub guard_idle : {m : Bool} (t : Tree) (was now : List Table) (j s k : ℕ) (u : List ℕ) → ChangedOnlyAt t was now j
    → InsertedAs m (key_at was j) (entries_at was j) (entries_at now j) u → IsParentOf t k (Meet j s) j
    → count_of (entries_at now s) (pick (key_at now j) u) ≡ 0 → ReducedAbove t now now j
guard_idle {m} t was now j s k u b i x none =
    idle t was now j k (Meet j s) b x
    (guard_equation t was now now j s k u 0 b x (now_family t was now j b) refl refl i none (λ v. omega arith))

-- a meet has no number of a leaf
pub meet_high : (t : Tree) (k g s : ℕ) → IsTree t → node_at t.nodes k ≡ Meet g s → t.leaves ≤ k
meet_high t k g s h e =
    elim (cases_lt k t.leaves) [
      | inl low ↦ absurd (differ (sym (h.leaf k low) ∙ e))
      | inr high ↦ high
    ]
  where
    differ : Leaf k ≡ Meet g s → ⊥
    differ x = cc

-- at a side: none of the group that comes was there
pub side_none : {m : Bool} (t : Tree) (was now : List Table) (g j k : ℕ) (u v : List ℕ) → ChangedOnlyAt t was now j
    → InsertedAs m (key_at was j) (entries_at was j) (entries_at now j) u → IsParentOf t k (Meet g j) j
    → pick (key_at now g) v ≡ u → supports_of (entries_at now k) v ≡ 0
side_none {m} t was now g j k u v b i x here =
    let law : supports_of (entries_at was k) v
    ≡ count_of (entries_at was g) v * count_of (entries_at was j) (pick (key_at was g) v) = meet_law (Meet g j) g j
    was k refl
    (law_of t was now j k (Meet g j) b x) v in
    let part : count_of (entries_at was j) (pick (key_at was g) v)
    ≡ 0 = ap (λ (w : List ℕ). count_of (entries_at was j) w)
    (ap (λ (ks : List ℕ). pick ks v) (sym (keys_now t was now j b g)) ∙ here) ∙ was_absent t was now j u b i in
    let none : count_of (entries_at was g) v * count_of (entries_at was j) (pick (key_at was g) v)
    ≡ count_of (entries_at was g) v * 0 = ap (λ (n : ℕ). count_of (entries_at was g) v * n) part in
    ap (λ (es : List Entry). supports_of es v) (same_up t was now j k (Meet g j) b x) ∙ omega arith

pub side_absent : {m : Bool} (t : Tree) (was now mid : List Table) (g j k i : ℕ) (u : List ℕ) (e : Entry)
    → ChangedOnlyAt t was now j → InsertedAs m (key_at was j) (entries_at was j) (entries_at now j) u
    → IsParentOf t k (Meet g j) j
    → IsGrown t now mid k (take i (group_of (key_at now g) (entries_at now g) u)) → group_of (key_at now g)
    (entries_at now g) u
    ≡ take i (group_of (key_at now g) (entries_at now g) u) ++ e ∷ drop (i + 1) (group_of (key_at now g)
    (entries_at now g) u)
    → count_of (entries_at mid k) e.tuple ≡ 0
side_absent {m} t was now mid g j k i u e b ins x grown cut =
    let all = group_of (key_at now g) (entries_at now g) u in
    let c = cut_new all i e
    (λ v. group_once (key_at now g) (entries_at now g) u v (apart_of t now (now_family t was now j b) g)) cut in
    let first = c.0 in
    let second = c.1 in
    let has = group_has (key_at now g) (entries_at now g) u e.tuple (omega arith) in
    cnt_none (entries_at mid k) e.tuple (grown.family.supported k)
    (omega (arith, grown.came e.tuple, side_none t was now g j k u e.tuple b ins x has.1))

-- the whole group came
pub side_righted : {mark : Bool} (t : Tree) (was now new : List Table) (g j k i : ℕ) (u : List ℕ)
    → ChangedOnlyAt t was now j
    → InsertedAs mark (key_at was j) (entries_at was j) (entries_at now j) u → IsParentOf t k (Meet g j) j
    → IsGrown t now new k (take i (group_of (key_at now g) (entries_at now g) u))
    → drop i (group_of (key_at now g) (entries_at now g) u) ≡ [] → ReducedAbove t now new j
unfolding IsReductOf
side_righted {mark} t was now new g j k i u b ins x grown ends = righted t was now new j k (Meet g j) b x grown.family
    grown.low equation grown.reduced
  where
    m : IsMeet t.labels k g j
    m = b.ready.family.is_tree.meet k g j x.node

    spread : (a c d : ℕ) → a * (c + d) ≡ a * c + a * d
    spread a c d = omega arith

    equation : IsReductOf (Meet g j) new k
    equation v =
        let low : g < k = m.guard_lower in
        let low_side : j < k = m.side_lower in
        let apart : g ≢ j = m.apart in
        let law : supports_of (entries_at was k) v
        ≡ count_of (entries_at was g) v * count_of (entries_at was j) (pick (key_at was g) v) = meet_law (Meet g j) g
        j was k
        refl (law_of t was now j k (Meet g j) b x) v in
        let keys : key_at new g ≡ key_at was g = same_keys t was new b.ready.family grown.family g in
        let guards : entries_at now g ≡ entries_at was g = b.changed.others g apart in
        let first : count_of (entries_at new g) v
        ≡ count_of (entries_at was g) v = ap (λ (es : List Entry). count_of es v) (grown.low g low ∙ guards) in
        let second : count_of (entries_at new j) (pick (key_at new g) v)
        ≡ count_of (entries_at was j) (pick (key_at was g) v) + one_if (same u (pick (key_at was g) v)) =
        ap₂ (λ (es : List Entry) (ks : List ℕ). count_of es (pick ks v)) (grown.low j low_side) keys
        ∙ inserted_cnt (key_at was j) (entries_at was j) (entries_at now j) u ins (pick (key_at was g) v) in
        let both : count_of (entries_at new g) v * count_of (entries_at new j) (pick (key_at new g) v)
        ≡ count_of (entries_at was g) v *
        (count_of (entries_at was j) (pick (key_at was g) v) + one_if (same u (pick (key_at was g) v))) = ap₂
        (λ (a c : ℕ). a * c) first second in
        let sum = spread (count_of (entries_at was g) v) (count_of (entries_at was j) (pick (key_at was g) v))
        (one_if (same u (pick (key_at was g) v))) in
        let group : count_of (group_of (key_at now g) (entries_at now g) u) v
        ≡ count_of (entries_at was g) v * one_if (same u (pick (key_at was g) v)) =
        cnt_grp (key_at now g) (entries_at now g) u v
        ∙ ap₂ (λ (es : List Entry) (ks : List ℕ). count_of es v * one_if (same (pick ks v) u)) guards
        (keys_now t was now j b g)
        ∙ ap (λ (q : Bool). count_of (entries_at was g) v * one_if q) (same_sym (pick (key_at was g) v) u) in
        let up : supports_of (entries_at now k) v
        ≡ supports_of (entries_at was k) v = ap (λ (es : List Entry). supports_of es v)
        (same_up t was now j k (Meet g j) b x) in
        omega (arith, grown.came v, take_all (group_of (key_at now g) (entries_at now g) u) i v ends)

-- a refusal above, and what came before it
pub side_full : {m : Bool} (t : Tree) (was now mid after : List Table) (g j k i : ℕ) (u : List ℕ)
    → ChangedOnlyAt t was now j
    → InsertedAs m (key_at was j) (entries_at was j) (entries_at now j) u → IsParentOf t k (Meet g j) j
    → IsGrown t now mid k (take i (group_of (key_at now g) (entries_at now g) u)) → Refused t mid after k
    → CoversAll (entries_at after k) (take i (group_of (key_at now g) (entries_at now g) u))
side_full {m} t was now mid after g j k i u b ins x grown r = record {
  each = λ v some.
      let all = group_of (key_at now g) (entries_at now g) u in
      let most = group_once (key_at now g) (entries_at now g) u v (apart_of t now (now_family t was now j b) g) in
      let part = take_le all i v in
      let has = group_has (key_at now g) (entries_at now g) u v (omega arith) in
      omega (arith, r.supports k v, grown.came v, side_none t was now g j k u v b ins x has.1);
}

pub refused_ready : (t : Tree) (old mid after : List Table) (k : ℕ) (es : List Entry) → k < length t.nodes
    → IsGrown t old mid k es → Refused t mid after k → Ready t after k
refused_ready t old mid after k es within grown r = record {
  family = r.family;
  within = within;
  reduced = reduced_same t mid after (k + 1) grown.family r.family r.supports
      grown.reduced;
}

-- the group at work is the same
pub same_group : (t : Tree) (now mid after : List Table) (g k i : ℕ) (u : List ℕ) (es : List Entry) → IsTree t
    → IsFamily t now → g < k → IsGrown t now mid k es → Refused t mid after k
    → take i (group_of (key_at after g) (entries_at after g) u) ≡ take i (group_of (key_at now g) (entries_at now g) u)
same_group t now mid after g k i u es s f low grown r =
    ap₂ (λ (ks : List ℕ) (ds : List Entry). take i (group_of ks ds u)) (same_keys t now after f r.family g)
    (r.below g (below_up t k g s low) ∙ grown.low g low)

pub side_stayed : (t : Tree) (was now mid after new : List Table) (g j k i : ℕ) (u : List ℕ) → ChangedOnlyAt t was now j
    → IsParentOf t k (Meet g j) j
    → IsGrown t now mid k (take i (group_of (key_at now g) (entries_at now g) u)) → Refused t mid after k
    → IsEmptied t after new k (take i (group_of (key_at after g) (entries_at after g) u)) → UnchangedAbove t now new j
side_stayed t was now mid after new g j k i u b x grown r e = record {
  family = e.family;
  at = low j m.side_lower;
  supports = λ y v. agree_from t now new (k + 1) f e.family high (ready_up t was now j k (Meet g j) b x).reduced
      e.reduced agree (suc y) y (omega arith) v;
  below = λ y h. low y (h.1 k (child_of t k (Meet g j) j x));
}
  where
    s : IsTree t
    s = b.ready.family.is_tree

    m : IsMeet t.labels k g j
    m = s.meet k g j x.node

    f : IsFamily t now
    f = now_family t was now j b

    high : t.leaves ≤ k + 1
    high = let h = meet_high t k g j s x.node in omega arith

    low : (y : ℕ) → y < k → entries_at new y ≡ entries_at now y
    low y less = e.low y less ∙ r.below y (below_up t k y s less) ∙ grown.low y less

    here : (v : List ℕ) → supports_of (entries_at new k) v ≡ supports_of (entries_at now k) v
    here v =
        let group = ap (λ (es : List Entry). count_of es v)
        (same_group t now mid after g k i u (take i (group_of (key_at now g) (entries_at now g) u)) s f m.guard_lower
        grown r) in
        omega (arith, e.lost v, r.supports k v, grown.came v)

    agree : (y : ℕ) → y < k + 1 → (v : List ℕ) → supports_of (entries_at new y) v ≡ supports_of (entries_at now y) v
    agree y less v =
        elim (cases_eq y k) [
          | inl same_one ↦ subst (λ (z : ℕ). supports_of (entries_at new z) v ≡ supports_of (entries_at now z) v)
              (sym same_one)
              (here v)
          | inr apart ↦ ap (λ (es : List Entry). supports_of es v) (low y (omega arith))
        ]

-- the table of the node itself, once its tuple is taken back
pub refused_here : {m : Bool} (t : Tree) (old mid after new : List Table) (j : ℕ) (u : List ℕ) → Ready t old j
    → count_of (entries_at old j) u ≡ 0 → ChangedOneTable old mid j
    → InsertedAs m (key_at old j) (entries_at old j) (entries_at mid j) u
    → UnchangedAbove t mid after j → ChangedOneTable after new j → Removed (entries_at after j) (entries_at new j) u
    → Refused t old new j
refused_here {m} t old mid after new j u r absent c i s d x = record {
  family = d.family t s.family;
  supports = supports;
  below = λ y h. d.others y h.0 ∙ s.below y h ∙ c.others y h.0;
}
  where
    here : (v : List ℕ) → supports_of (entries_at new j) v ≡ supports_of (entries_at old j) v
    here v =
        let was : supports_of (entries_at after j) v ≡ supports_of (entries_at mid j) v = ap
        (λ (es : List Entry). supports_of es v) s.at in
        let at_u : supports_of (entries_at after j) u ≡ 1 = ap (λ (es : List Entry). supports_of es u) s.at
        ∙ omega (
          arith,
          inserted_supp (key_at old j) (entries_at old j) (entries_at mid j) u i u,
          one_same u,
          supp_none (entries_at old j) u absent,
        ) in
        omega (
          arith,
          removed_supp (entries_at after j) (entries_at new j) u x (apart_of t after s.family j) v,
          cond_one
              (same u v) (supports_of (entries_at after j) u) at_u,
          inserted_supp (key_at old j) (entries_at old j)
              (entries_at mid j) u i v,
        )

    supports : (y : ℕ) (v : List ℕ) → supports_of (entries_at new y) v ≡ supports_of (entries_at old y) v
    supports y v =
        elim (cases_eq y j) [
          | inl same_one ↦ subst (λ (z : ℕ). supports_of (entries_at new z) v ≡ supports_of (entries_at old z) v)
              (sym same_one)
              (here v)
          | inr apart ↦ ap (λ (es : List Entry). supports_of es v) (d.others y apart) ∙ s.supports y v
              ∙ ap (λ (es : List Entry). supports_of es v) (c.others y apart)
        ]

-- the node has gained it, and those above are right
pub lived_here : {m : Bool} (t : Tree) (old mid new : List Table) (j : ℕ) (u : List ℕ) → ChangedOneTable old mid j
    → InsertedAs m (key_at old j) (entries_at old j) (entries_at mid j) u → ReducedAbove t mid new j
    → InsertedUpwards t old new j u
lived_here {m} t old mid new j u c i r = record {
  family = r.family;
  mark = m;
  gains = subst (λ (es : List Entry). InsertedAs m (key_at old j) (entries_at old j) es u) (sym r.at) i;
  below = λ y h. r.below y h ∙ c.others y h.0;
  reduced = r.reduced;
}
