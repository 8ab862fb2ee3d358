-- The tree's invariant through the planner's steps, stage by stage.
use Rattle.std.proofs.Common.{◌≡◌, ℕ, zero, suc, ◌+◌, ◌<◌, ◌≤◌, true, false, not, List, [], ◌∷◌, ◌++◌, length, map}
use Rattle.std.proofs.Common.{take, ◌-◌, min, refl, ap, subst, sym, ◌∙◌, arith, inl, inr, ◌≢◌, Bool, cond, filter}
use Rattle.std.specs.Prelude.{◌==◌, remove, slice_index}
use Rattle.std.proofs.lemmas.List.{length_push, length-map, get_or-map, map_push, take_more, take_all, get_or_past}
use Rattle.std.proofs.lemmas.List.{get_or_push, get_or_append_left}
use Rattle.std.proofs.Math.Numerals.{add-one}
use Rattle.std.proofs.lemmas.Bool.{cases_lt, cases_eq, eq-eqb, ne_eqb, false≢true, lt-leb}
use Rattle.std.specs.List.{list_any}
use Rattle.djq_hypergraph.specs.Hypergraph.{member, difference, degree, edge_at}
use Rattle.djq_hypergraph.specs.Variables.{IsVariableSet, AreVariableSets}
use Rattle.djq_hypergraph.proofs.Sets.{has_bit, Sub, from_true, has_difference, has_here, subset_says, has_other}
use Rattle.djq_hypergraph.proofs.Sets.{one_true}
use Rattle.djq_hypergraph.proofs.Labels.{numbers, times, Bag, labels, total, total_same, difference_set, no_variables}
use Rattle.djq_tree.specs.declared.node.Node.TheVariants as node
use Rattle.djq_tree.specs.declared.choice.Choice.{Choice}
use Rattle.djq_tree.specs.declared.choice.Choice.TheVariants.{Trim, Meet, Stuck}
use Rattle.djq_tree.specs.Tree.{node_at, has_child}
use Rattle.djq_tree.specs.Choosing.{removable, choose}
use Rattle.djq_tree.specs.Growing.{Growth, start, grown, grow, without_both, leaf_nodes, numbers_below, current_after}
use Rattle.djq_tree.specs.Growing.{marks_below}
use Rattle.djq_plan.specs.Stages.{Steps}
use Rattle.djq_plan.proofs.Choices.{bag_remove, bag_push, bag_both, times_push, total_in, map_remove, map_both}
use Rattle.djq_plan.proofs.Choices.{map_agree, Trims, Meets, Says, choose_says, removed_says, removed_elsewhere}
use Rattle.djq_plan.proofs.Choices.{after_trim, after_meet, grown_current}
use Rattle.djq_plan.proofs.GrowthInvariant.{Sound, weight, trim_adds, meet_adds, added, label_old, label_new}
use Rattle.djq_plan.proofs.ReductionSteps.{filter_most}

-- ---- The tree's invariant through the planner's steps.

pub record Grown (m : ℕ) (s : Growth) : Type 0 where
  pub sound : Sound m s.nodes s.labels s.numbers
  pub paired : s.current ≡ map (edge_at s.labels) s.numbers

-- ---- the current labels and numbers

pub degree_weight : (x : ℕ) (labels : List (List ℕ)) (ns : List ℕ) → degree x (map (edge_at labels) ns)
    ≡ weight x labels ns
degree_weight x labels [] = refl
degree_weight x labels (j ∷ ns) = ap (λ n. has_bit x (edge_at labels j) + n) (degree_weight x labels ns)

pub current_weight : (m x : ℕ) (s : Growth) → Grown m s → degree x s.current ≡ weight x s.labels s.numbers
current_weight m x s g = ap (degree x) g.paired ∙ degree_weight x s.labels s.numbers

pub same_length : (m : ℕ) (s : Growth) → Grown m s → length s.current ≡ length s.numbers
same_length m s g = ap (λ (l : List (List ℕ)). length l) g.paired ∙ length-map s.numbers (edge_at s.labels)

pub current_at : (m : ℕ) (s : Growth) (i : ℕ) → Grown m s → i < length s.current → edge_at s.current i
    ≡ edge_at s.labels (slice_index s.numbers i)
current_at m s i g low =
    ap (λ (l : List (List ℕ)). edge_at l i) g.paired
    ∙ get_or-map (edge_at s.labels) s.numbers i 0 [] (let e = same_length m s g in omega arith)

-- the new node's label comes last
paired_push : (labels : List (List ℕ)) (l : List ℕ) (R : List ℕ) (n : ℕ) → length labels ≡ n
    → ((j : ℕ) → 0 < times numbers j R → j < n) → map (edge_at labels) R ++ l ∷ []
    ≡ map (edge_at (labels ++ l ∷ [])) (R ++ n ∷ [])
paired_push labels l R n e low =
    let a = map_agree (edge_at labels) (edge_at (labels ++ l ∷ [])) R
    (λ j h. sym (label_old labels l j (let k = low j h in omega arith))) in
    let b = map_push (edge_at (labels ++ l ∷ [])) R n in
    let c : edge_at (labels ++ l ∷ []) n ≡ l = label_new labels l n (sym e) in
    rw (a, b, c) refl

-- ---- a trim

pub first_of : (l : List ℕ) → not (length l == 0) ≡ true → (x : ℕ) × (0 < has_bit x l)
first_of [] h = absurd cc
first_of (x ∷ l) h = (x, omega (arith, has_here x x l refl))

module _ (m : ℕ) (keep : List ℕ) (s : Growth) (i : ℕ) (X : List ℕ) (g : Grown m s) (t : Trims keep s.current i X) where
  abbrev c : ℕ
  c = slice_index s.numbers i

  abbrev l : List ℕ
  l = difference (edge_at s.current i) X

  abbrev R : List ℕ
  R = remove s.numbers i

  in_numbers : i < length s.numbers
  in_numbers = let e = same_length m s g in let w = t.within in omega arith

  label_is : edge_at s.current i ≡ edge_at s.labels c
  label_is = current_at m s i g t.within

  was : Bag numbers s.numbers (c ∷ R)
  was = bag_remove numbers 0 s.numbers i in_numbers

  is : Bag numbers (R ++ length s.nodes ∷ []) (length s.nodes ∷ R)
  is = bag_push numbers (length s.nodes) R

  has_l : (x : ℕ) → has_bit x l ≡ min (has_bit x (edge_at s.labels c)) (1 - has_bit x X)
  has_l x = has_difference x (edge_at s.current i) X ∙ ap (λ (k : List ℕ). min (has_bit x k) (1 - has_bit x X)) label_is

  inside : Sub l (edge_at s.labels c)
  inside x = omega (arith, has_l x)

  rest_weight : (x : ℕ) → degree x (remove s.current i) ≡ weight x s.labels R
  rest_weight x =
      ap (λ (k : List (List ℕ)). degree x (remove k i)) g.paired
      ∙ ap (degree x) (map_remove (edge_at s.labels) s.numbers i) ∙ degree_weight x s.labels R

  alone : (x : ℕ) → 0 < has_bit x (edge_at s.labels c) → has_bit x l ≡ 0 → weight x s.labels R ≡ 0
  alone x h none =
      let k : has_bit x X ≡ has_bit x (removable keep s.current i) = ap (has_bit x) t.are in
      let q = has_l x in
      let r = removed_says keep s.current i x (omega arith) in
      sym (rest_weight x) ∙ removed_elsewhere keep s.current i x t.within r

  one_gone : (x : ℕ) × (0 < has_bit x (edge_at s.labels c)) × (has_bit x l ≡ 0)
  one_gone =
      let f = first_of (removable keep s.current i) t.some in
      let r = removed_says keep s.current i f.0 f.1 in
      let h = r.here in
      let k : has_bit f.0 X ≡ has_bit f.0 (removable keep s.current i) = ap (has_bit f.0) t.are in
      let e : has_bit f.0 (edge_at s.current i) ≡ has_bit f.0 (edge_at s.labels c) = ap (has_bit f.0) label_is in
      let q = has_l f.0 in
      let p = f.1 in
      (f.0, omega arith, omega arith)

  trim_sound : Sound m (s.nodes ++ node.Trim c ∷ []) (s.labels ++ l ∷ []) (R ++ length s.nodes ∷ [])
  trim_sound =
      added m s.nodes s.labels s.numbers (node.Trim c) l (R ++ length s.nodes ∷ []) g.sound
      (trim_adds s.nodes s.labels s.numbers R (R ++ length s.nodes ∷ []) c l m one_gone.0 g.sound was is inside alone
      one_gone.1 one_gone.2)

  trim_low : (j : ℕ) → 0 < times numbers j R → j < length s.nodes
  trim_low j h = g.sound.small j (let w = was j in omega arith)

  trim_paired : remove s.current i ++ l ∷ [] ≡ map (edge_at (s.labels ++ l ∷ [])) (R ++ length s.nodes ∷ [])
  trim_paired =
      ap (λ (k : List (List ℕ)). remove k i ++ l ∷ []) g.paired
      ∙ ap (λ (k : List (List ℕ)). k ++ l ∷ []) (map_remove (edge_at s.labels) s.numbers i)
      ∙ paired_push s.labels l R (length s.nodes) g.sound.labelled trim_low

  pub trim_grown : Grown m (grown s (Trim i X))
  trim_grown = record { sound = trim_sound; paired = trim_paired }

-- ---- a meet

module _ (m : ℕ) (s : Growth) (i d : ℕ) (g : Grown m s) (t : Meets s.current i d) where
  abbrev G : ℕ
  G = slice_index s.numbers i

  abbrev D : ℕ
  D = slice_index s.numbers d

  abbrev W : List ℕ
  W = without_both s.numbers i d

  meet_guard : edge_at s.current i ≡ edge_at s.labels G
  meet_guard = current_at m s i g t.guard

  meet_side : edge_at s.current d ≡ edge_at s.labels D
  meet_side = current_at m s d g t.side

  meet_was : Bag numbers s.numbers (G ∷ D ∷ W)
  meet_was = bag_both numbers 0 s.numbers i d t.apart (let e = same_length m s g in let w = t.guard in omega arith)
      (let e = same_length m s g in let w = t.side in omega arith)

  meet_now : Bag numbers (W ++ length s.nodes ∷ []) (length s.nodes ∷ W)
  meet_now = bag_push numbers (length s.nodes) W

  meet_inside : Sub (edge_at s.labels D) (edge_at s.labels G)
  meet_inside x =
      let h = subset_says (edge_at s.current d) (edge_at s.current i) t.inside x in
      let e : has_bit x (edge_at s.current d) ≡ has_bit x (edge_at s.labels D) = ap (has_bit x) meet_side in
      let f : has_bit x (edge_at s.current i) ≡ has_bit x (edge_at s.labels G) = ap (has_bit x) meet_guard in
      omega arith

  meet_sound : Sound m (s.nodes ++ node.Meet G D ∷ []) (s.labels ++ edge_at s.labels G ∷ []) (W ++ length s.nodes ∷ [])
  meet_sound =
      added m s.nodes s.labels s.numbers (node.Meet G D) (edge_at s.labels G) (W ++ length s.nodes ∷ []) g.sound
      (meet_adds s.nodes s.labels s.numbers W (W ++ length s.nodes ∷ []) G D m g.sound meet_was meet_now meet_inside)

  meet_low : (j : ℕ) → 0 < times numbers j W → j < length s.nodes
  meet_low j h = g.sound.small j (let w = meet_was j in omega arith)

  meet_paired : without_both s.current i d ++ edge_at s.current i ∷ []
      ≡ map (edge_at (s.labels ++ edge_at s.current i ∷ [])) (W ++ length s.nodes ∷ [])
  meet_paired =
      ap (λ (k : List (List ℕ)). without_both k i d ++ edge_at s.current i ∷ []) g.paired
      ∙ ap (λ (k : List (List ℕ)). k ++ edge_at s.current i ∷ []) (map_both (edge_at s.labels) s.numbers i d)
      ∙ paired_push s.labels (edge_at s.current i) W (length s.nodes) g.sound.labelled meet_low

  pub meet_grown : Grown m (grown s (Meet i d))
  meet_grown = record {
    sound = subst (λ (k : List ℕ). Sound m (s.nodes ++ node.Meet G D ∷ []) (s.labels ++ k ∷ [])
        (W ++ length s.nodes ∷ [])) (sym meet_guard) meet_sound;
    paired = meet_paired;
  }

pub step_grown : (m : ℕ) (keep : List ℕ) (s : Growth) (c : Choice) → Grown m s → Says keep s.current c
    → Grown m (grown s c)
step_grown m keep s (Trim i X) g t = trim_grown m keep s i X g t
step_grown m keep s (Meet i d) g t = meet_grown m s i d g t
step_grown m keep s Stuck g t = g

pub grow_grown : (m : ℕ) (keep : List ℕ) (n : ℕ) (s : Growth) → Grown m s → Grown m (grow keep n s)
unfolding grow
grow_grown m keep zero s g = g
grow_grown m keep (suc n) s g = step_grown m keep (grow keep n s) (choose keep (grow keep n s).current)
    (grow_grown m keep n s g) (choose_says keep (grow keep n s).current)

-- ---- the start

pub length_leaves : (m : ℕ) → length (leaf_nodes m) ≡ m
length_leaves zero = refl
length_leaves (suc m) = omega (arith, length_push (leaf_nodes m) (node.Leaf m), length_leaves m)

leaves_at : (m j : ℕ) → j < m → node_at (leaf_nodes m) j ≡ node.Leaf j
leaves_at zero j h = absurd (omega arith)
leaves_at (suc m) j h =
    elim (cases_eq m j) [
      | inl e ↦ get_or_push (leaf_nodes m) (node.Leaf m) (node.Leaf 0) j (length_leaves m ∙ e)
          ∙ ap (λ (z : ℕ). node.Leaf z) e
      | inr apart ↦ get_or_append_left (leaf_nodes m) (node.Leaf m ∷ []) (node.Leaf 0) j
          (let l = length_leaves m in omega arith) ∙ leaves_at m j (omega arith)
    ]

leaves_past : (m j : ℕ) → m ≤ j → node_at (leaf_nodes m) j ≡ node.Leaf 0
leaves_past m j h = get_or_past (leaf_nodes m) j (node.Leaf 0) (let l = length_leaves m in omega arith)

childless : (m k j : ℕ) → has_child (node_at (leaf_nodes m) k) j ≡ false
childless m k j =
    elim (cases_lt k m) [
      | inl low ↦ rw (leaves_at m k low) refl
      | inr high ↦ rw (leaves_past m k high) refl
    ]

pub some_leaf : (m k : ℕ) → (a : ℕ) × (node_at (leaf_nodes m) k ≡ node.Leaf a)
some_leaf m k = elim (cases_lt k m) [ inl low ↦ (k, leaves_at m k low) | inr high ↦ (0, leaves_past m k high) ]

times_above : (m j : ℕ) → m ≤ j → times numbers j (numbers_below m) ≡ 0
times_above zero j h = refl
times_above (suc m) j h = rw (times_push numbers j m (numbers_below m), ne_eqb j m (λ e. absurd (omega arith)))
    (let r = times_above m j (omega arith) in omega arith)

times_below : (m j : ℕ) → j < m → times numbers j (numbers_below m) ≡ 1
times_below zero j h = absurd (omega arith)
times_below (suc m) j h =
    elim (cases_eq j m) [
      | inl e ↦ rw (times_push numbers j m (numbers_below m), eq-eqb j m e)
          (let r = times_above m j (omega arith) in omega arith)
      | inr apart ↦ rw (times_push numbers j m (numbers_below m), ne_eqb j m apart)
          (let r = times_below m j (omega arith) in omega arith)
    ]

paired_below : (H : List (List ℕ)) (n : ℕ) → n ≤ length H → map (edge_at H) (numbers_below n) ≡ take n H
paired_below H zero h = refl
paired_below H (suc n) h =
    map_push (edge_at H) (numbers_below n) n
    ∙ ap (λ (k : List (List ℕ)). k ++ edge_at H n ∷ []) (paired_below H n (omega arith))
    ∙ sym (take_more H n [] (omega arith)) ∙ ap (λ (k : ℕ). take k H) (add-one n)

pub start_low : (H : List (List ℕ)) (x j : ℕ) → member x (edge_at H j) ≡ true → j < length H
start_low H x j h =
    elim (cases_lt j (length H)) [
      | inl low ↦ low
      | inr high ↦ absurd (false≢true (ap (λ (k : List ℕ). member x k) (sym (get_or_past H j [] high)) ∙ h))
    ]

pub start_grown : (H : List (List ℕ)) → Grown (length H) (start H)
start_grown H = record {
  sound = record {
    labelled = sym (length_leaves (length H));
    fits = (let l = length_leaves (length H) in omega arith);
    leaf = λ j h. leaves_at (length H) j h;
    inner = λ j a low e. (let l = length_leaves (length H) in omega arith);
    trim = λ k c e. absurd (let l = some_leaf (length H) k in let q : node.Leaf l.0 ≡ node.Trim c = sym l.1 ∙ e in cc);
    meet = λ k g d e. absurd
        (let l = some_leaf (length H) k in let q : node.Leaf l.0 ≡ node.Meet g d = sym l.1 ∙ e in cc);
    once = λ j. elim (cases_lt j (length H)) [
      | inl low ↦ let t = times_below (length H) j low in omega arith
      | inr high ↦ let t = times_above (length H) j
          high in omega arith
    ];
    small = λ j h. elim (cases_lt j (length H)) [
      | inl low ↦ let l = length_leaves (length H) in omega arith
      | inr high ↦ absurd
          (let t = times_above (length H) j high in omega arith)
    ];
    free = λ j k h. childless (length H) k j;
    closed = λ j low none. absurd
        (let t = times_below (length H) j (let l = length_leaves (length H) in omega arith) in omega arith);
    one_parent = λ j k i h q. absurd (false≢true (sym (childless (length H) k j) ∙ h));
    live = λ x j w t. (let b = times_below (length H) j (start_low H x j t.has) in omega arith);
    dead = λ x j k w t u.
        let b = times_below (length H) j (start_low H x j t.has) in
        let i = total_in numbers (λ k. has_bit x (edge_at H k)) j (numbers_below (length H)) (omega arith) in
        let h = from_true (member x (edge_at H j)) t.has in
        absurd (omega arith);
  };
  paired = sym (paired_below H (length H) (omega arith) ∙ take_all (length H) H (omega arith));
}

-- ---- The labels of a growing tree are sets of variables.

sets_push : (L : List (List ℕ)) (l : List ℕ) → AreVariableSets L → IsVariableSet l → AreVariableSets (L ++ l ∷ [])
sets_push L l sets set p =
    elim (cases_lt p (length L)) [
      | inl old ↦ subst IsVariableSet (sym (label_old L l p old)) (sets p)
      | inr high ↦
          elim (cases_eq p (length L)) [
            | inl new ↦ subst IsVariableSet (sym (label_new L l p new)) set
            | inr past ↦ subst IsVariableSet
                (sym (get_or_past (L ++ l ∷ []) p [] (let q = length_push L l in omega arith))) no_variables
          ]
    ]

current_set : (m : ℕ) (s : Growth) (i : ℕ) → Grown m s → AreVariableSets s.labels → i < length s.current
    → IsVariableSet (edge_at s.current i)
current_set m s i g sets low = subst IsVariableSet (sym (current_at m s i g low)) (sets (slice_index s.numbers i))

sets_step : (m : ℕ) (keep : List ℕ) (s : Growth) (c : Choice) → Grown m s → Says keep s.current c
    → AreVariableSets s.labels → AreVariableSets (grown s c).labels
sets_step m keep s (Trim i X) g t sets = sets_push s.labels (difference (edge_at s.current i) X) sets
    (difference_set (edge_at s.current i) X (current_set m s i g sets t.within))
sets_step m keep s (Meet a b) g t sets = sets_push s.labels (edge_at s.current a) sets
    (current_set m s a g sets t.guard)
sets_step m keep s Stuck g t sets = sets

pub sets_grow : (m : ℕ) (keep : List ℕ) (n : ℕ) (s : Growth) → Grown m s → AreVariableSets s.labels
    → AreVariableSets (grow keep n s).labels
unfolding grow
sets_grow m keep zero s g sets = sets
sets_grow m keep (suc n) s g sets =
    let t = grow keep n s in
    sets_step m keep t (choose keep t.current) (grow_grown m keep n s g) (choose_says keep t.current)
    (sets_grow m keep n s g sets)

-- ---- A stage, step by step.

-- ---- places that the rule names

pub trim_place : (keep : List ℕ) (L M : List (List ℕ)) (i : ℕ) (X : List ℕ) → L ≡ M → Trim i X ≡ choose keep L
    → i < length M
trim_place keep L M i X same e =
    let t : Trims keep L i X = subst (Says keep L) (sym e) (choose_says keep L) in
    let w = t.within in
    let l = ap (λ (k : List (List ℕ)). length k) same in
    omega arith

pub meet_places : (keep : List ℕ) (L M : List (List ℕ)) (g s : ℕ) → L ≡ M → Meet g s ≡ choose keep L → (g < length M)
    × (s < length M) × (g ≢ s)
meet_places keep L M g s same e =
    let t : Meets L g s = subst (Says keep L) (sym e) (choose_says keep L) in
    let a = t.guard in let b = t.side in
    let l = ap (λ (k : List (List ℕ)). length k) same in
    (omega arith, omega arith, t.apart)

-- ---- the size falls

-- how many nodes are current and how many variables their labels have
abbrev pub size : List (List ℕ) → ℕ
size L = total (λ l. length l + 1) L

filter_less : (p : ℕ → Bool) (x : ℕ) (l : List ℕ) → p x ≡ false → 0 < has_bit x l → length (filter p l) < length l
filter_less p x [] no_pass h = absurd (omega arith)
filter_less p x (y ∷ l) no_pass h =
    elim (cases_eq x y) [
      | inl e ↦ let fails : p y ≡ false = ap p (sym e) ∙ no_pass in rw fails (let k = filter_most p l in omega arith)
      | inr apart ↦ step (p y) (filter_less p x l no_pass (omega (arith, has_other x y l apart)))
    ]
  where
    step : (b : Bool) → length (filter p l) < length l → length (cond b (y ∷ filter p l) (filter p l)) < suc (length l)
    step true k = omega arith
    step false k = omega arith

size_same : (L M : List (List ℕ)) → ((a : List ℕ) → times labels a L ≡ times labels a M) → size L ≡ size M
size_same L M h = total_same labels (λ l. length l + 1) L M h

choice_falls : (keep : List ℕ) (L : List (List ℕ)) (c : Choice) → Says keep L c → c ≢ Stuck
    → size (current_after L c) < size L
choice_falls keep L (Trim i X) t moves =
    let a = size_same (difference (edge_at L i) X ∷ remove L i) (current_after L (Trim i X)) (after_trim L i X) in
    let b = size_same L (edge_at L i ∷ remove L i) (bag_remove labels [] L i t.within) in
    let f = first_of (removable keep L i) t.some in
    let r = removed_says keep L i f.0 f.1 in
    let k : has_bit f.0 X ≡ has_bit f.0 (removable keep L i) = ap (has_bit f.0) t.are in
    let p = f.1 in
    let in_X : member f.0 X ≡ true = one_true (member f.0 X) (omega arith) in
    let h = r.here in
    let less = filter_less (λ x. not (member x X)) f.0 (edge_at L i) (ap not in_X) (omega arith) in
    omega arith
choice_falls keep L (Meet g s) t moves =
    let a = size_same (edge_at L g ∷ without_both L g s) (current_after L (Meet g s)) (after_meet L g s) in
    let b = size_same L (edge_at L g ∷ edge_at L s ∷ without_both L g s)
    (bag_both labels [] L g s t.apart t.guard t.side) in
    omega arith
choice_falls keep L Stuck t moves = absurd (moves refl)

pub size_falls : (keep : List ℕ) (s t : Growth) → Steps keep s t true → size t.current < size s.current
size_falls keep s t h =
    let e : size t.current
    ≡ size (current_after s.current (choose keep s.current)) = ap (λ (u : Growth). size u.current) h.0
    ∙ ap size (grown_current s (choose keep s.current)) in
    let f = choice_falls keep s.current (choose keep s.current) (choose_says keep s.current) h.1 in
    omega arith

-- ---- a stage on its way

pub record Ran (over : List (List ℕ) → Bool) (keep : List ℕ) (s t : Growth) : Type 0 where
  pub steps : ℕ
  pub leads : t ≡ grow keep steps s
  pub goes : (k : ℕ) → k < steps → over (grow keep k s).current ≡ false

pub ran_none : (over : List (List ℕ) → Bool) (keep : List ℕ) (s : Growth) → Ran over keep s s
unfolding grow
ran_none over keep s = record { steps = 0; leads = refl; goes = λ k low. absurd (omega arith) }

pub ran_more : (over : List (List ℕ) → Bool) (keep : List ℕ) (s t u : Growth) → Ran over keep s t → over t.current
    ≡ false → Steps keep t u true → Ran over keep s u
unfolding grow
ran_more over keep s t u r off h = record {
  steps = suc r.steps;
  leads = h.0 ∙ ap (λ (w : Growth). grown w (choose keep w.current)) r.leads;
  goes = λ k low. elim (cases_lt k r.steps) [
    | inl before ↦ r.goes k before
    | inr now ↦
        let e : k ≡ r.steps = omega arith in
        ap (λ (n : ℕ). over (grow keep n s).current) e ∙ ap (λ (w : Growth). over w.current) (sym r.leads) ∙ off
  ];
}

-- ---- numbers

pub length_below : (m : ℕ) → length (numbers_below m) ≡ m
length_below zero = refl
length_below (suc m) = omega (arith, length_push (numbers_below m) m, length_below m)

pub any_member : (x : ℕ) (ns : List ℕ) → list_any (λ y. y == x) ns ≡ member x ns
any_member x [] = refl
any_member x (y ∷ ns) =
    elim (cases_eq x y) [
      | inl e ↦ rw (eq-eqb x y e, eq-eqb y x (sym e)) refl
      | inr apart ↦ rw (ne_eqb x y apart, ne_eqb y x (λ e. apart (sym e))) (any_member x ns)
    ]

-- one turn of a stage's loop: its step was taken from t, which was seen as v, and its labels were read as D
pub turn : (over : List (List ℕ) → Bool) (keep kept : List ℕ) (s t v u : Growth) (D : List (List ℕ)) (b : Bool)
    → Ran over keep s t → v ≡ t → D ≡ v.current → false ≡ over D → kept ≡ keep → Steps kept t u b → b ≡ true
    → Ran over keep s u × (size u.current < size t.current)
turn over keep kept s t v u D b r same seen off kp h taken =
    let k : Steps keep t u true = subst (λ (z : Bool). Steps keep t u z) taken
    (subst (λ (z : List ℕ). Steps z t u b) kp h) in
    let off2 : over t.current ≡ false = ap (λ (z : Growth). over z.current) (sym same) ∙ ap over (sym seen) ∙ sym off in
    (ran_more over keep s t u r off2 k, size_falls keep t u k)

-- a node that begins a stage is marked where it is current
pub mark_more : (mid : Growth) (n : ℕ) (marks new : List Bool) (b : Bool) (ns : List ℕ) → n < length mid.nodes → ns
    ≡ mid.numbers → b ≡ list_any (λ y. y == n) ns → marks ≡ marks_below mid n → new ≡ marks ++ b ∷ [] → new
    ≡ marks_below mid (n + 1)
mark_more mid n marks new b ns low seen is before more =
    let c : b ≡ member n mid.numbers = is ∙ any_member n ns ∙ ap (λ (k : List ℕ). member n k) seen in
    rw (more, before, c, add-one n, lt-leb (length mid.nodes) n low) refl
