-- The grown tree: its head, what a query's tree is, and what the planner's answers rest on.
use Rattle.std.proofs.Common.{◌≡◌, ◌≢◌, ℕ, zero, suc, ◌+◌, ◌-◌, ◌<◌, ◌≤◌, true, false, ◌||◌, List, [], ◌∷◌, ◌++◌}
use Rattle.std.proofs.Common.{length, map, Option, Some, None, is_some, refl, ap, subst, sym, ◌∙◌, eqb, append_assoc}
use Rattle.std.proofs.Common.{append-nil, arith, inl, inr, Bool, ◌&&◌, take, ◌↔◌, replicate, add-zero, add-suc}
use Rattle.std.specs.Prelude.{◌==◌, nat_le, remove}
use Rattle.std.proofs.lemmas.List.{length_push, length-append, get_or_append_left, get_or_push, get_or_past}
use Rattle.std.proofs.lemmas.List.{nil_from_length, take_at, take_all, replicate_more}
use Rattle.std.proofs.lemmas.Bool.{cases_lt, cases_eq, eqb-true, false≢true, le-leb, lt-leb, and_parts}
use Rattle.std.proofs.Math.Numerals.{add-one}
use Rattle.djq_hypergraph.specs.Hypergraph.{member, edge_at, one, subset, difference, degree}
use Rattle.djq_hypergraph.specs.Variables.{IsVariableSet, AreVariableSets, AreCovered}
use Rattle.djq_hypergraph.specs.JoinTree.{IsFreeConnex, HasJoinTree, HasJoinTreeFrom}
use Rattle.djq_hypergraph.specs.Gyo.{IsRest}
use Rattle.djq_hypergraph.specs.Refusing.{IsNotConnex}
use Rattle.djq_hypergraph.proofs.Sets.{has_bit, one_true, one_false, Sub, one_le, from_true, has_difference}
use Rattle.djq_hypergraph.proofs.Sets.{subset_from}
use Rattle.djq_hypergraph.proofs.Labels.{numbers, times, labels, times_itself, total, degree_same, count_self}
use Rattle.djq_hypergraph.proofs.JoinTrees.{free_connex_from, rooted_of, rooted_at, join_tree_turned}
use Rattle.djq_hypergraph.proofs.LabelTrees.{Rooted}
use Rattle.djq_tree.specs.declared.node.Node.{Node}
use Rattle.djq_tree.specs.declared.node.Node.TheVariants as node
use Rattle.djq_tree.specs.declared.choice.Choice.{Choice}
use Rattle.djq_tree.specs.declared.choice.Choice.TheVariants.{Trim, Meet, Stuck}
use Rattle.djq_tree.specs.Tree.{IsTree, ShowsHead, node_at, is_out, has_child, parent, Tree, leaf_labels}
use Rattle.djq_tree.specs.Choosing.{choose}
use Rattle.djq_tree.specs.Growing.{Growth, grown, grow, is_root, marks_below, tree_of, are_within, start, IsTreeOf}
use Rattle.djq_tree.specs.Growing.{IsStage}
use Rattle.djq_tree.proofs.Paths.{lowest_none}
use Rattle.djq_tree.proofs.Nodes.{has_times, small_of}
use Rattle.djq_plan.specs.Plan.{IsPlan}
use Rattle.djq_plan.specs.Stages.{IsStuckAt, IsStageEnd, GrowsOut}
use Rattle.djq_plan.proofs.GrowthInvariant.{Parent, weight, rising, label_old, label_new}
use Rattle.djq_plan.proofs.GrowthSteps.{Grown, same_length, current_weight, grow_grown, start_grown, sets_grow}
use Rattle.djq_plan.proofs.Choices.{bag_remove, total_in, Says, choose_says, Sticks, within_all, run_back}
use Rattle.djq_plan.proofs.Choices.{within_rooted, root_rooted, run_to, first_stuck, second_stuck, degree_grow}
use Rattle.djq_plan.proofs.Choices.{kept_grow}

-- ---- Where the growth ends, there is a tree.

-- ---- later growth has the same nodes and more

pub record Extends (s t : Growth) : Type 0 where
  pub more : List Node
  pub nodes : t.nodes ≡ s.nodes ++ more
  pub more_labels : List (List ℕ)
  pub labels : t.labels ≡ s.labels ++ more_labels

pub extends_itself : (s : Growth) → Extends s s
extends_itself s = record
    { more = []; nodes = sym (append-nil s.nodes); more_labels = []; labels = sym (append-nil s.labels) }

extends_one : (s t : Growth) (n : Node) (l : List ℕ) (u : Growth) → Extends s t → u.nodes ≡ t.nodes ++ n ∷ [] → u.labels
    ≡ t.labels ++ l ∷ [] → Extends s u
extends_one s t n l u e p q = record {
  more = e.more ++ n ∷ [];
  nodes = p ∙ ap (λ (k : List Node). k ++ n ∷ []) e.nodes ∙ append_assoc s.nodes e.more (n ∷ []);
  more_labels = e.more_labels ++ l ∷ [];
  labels = q ∙ ap (λ (k : List (List ℕ)). k ++ l ∷ []) e.labels ∙ append_assoc s.labels e.more_labels (l ∷ []);
}

pub extends_step : (s t : Growth) (c : Choice) → Extends s t → Extends s (grown t c)
extends_step s t (Trim i X) e = extends_one s t _ _ (grown t (Trim i X)) e refl refl
extends_step s t (Meet g d) e = extends_one s t _ _ (grown t (Meet g d)) e refl refl
extends_step s t Stuck e = e

pub grow_extends : (keep : List ℕ) (n : ℕ) (s : Growth) → Extends s (grow keep n s)
unfolding grow
grow_extends keep zero s = extends_itself s
grow_extends keep (suc n) s = extends_step s (grow keep n s) (choose keep (grow keep n s).current)
    (grow_extends keep n s)

pub extends_node : (s t : Growth) (k : ℕ) → Extends s t → k < length s.nodes → node_at t.nodes k ≡ node_at s.nodes k
extends_node s t k e low = ap (λ (n : List Node). node_at n k) e.nodes
    ∙ get_or_append_left s.nodes e.more (node.Leaf 0) k low

pub extends_label : (s t : Growth) (k : ℕ) → Extends s t → k < length s.labels → edge_at t.labels k ≡ edge_at s.labels k
extends_label s t k e low = ap (λ (n : List (List ℕ)). edge_at n k) e.labels
    ∙ get_or_append_left s.labels e.more_labels [] k low

pub extends_length : (s t : Growth) → Extends s t → length s.nodes ≤ length t.nodes
extends_length s t e = let l = ap (λ (n : List Node). length n) e.nodes in omega (arith, length-append s.nodes e.more)

-- ---- membership

pub member_in : (j : ℕ) (ns : List ℕ) → 0 < times numbers j ns → member j ns ≡ true
member_in j ns h = one_true (member j ns) (let k = has_times j ns in omega arith)

pub member_out : (j : ℕ) (ns : List ℕ) → times numbers j ns ≡ 0 → member j ns ≡ false
member_out j ns h = one_false (member j ns) (let k = has_times j ns in omega arith)

-- ---- the marks

pub length_marks : (mid : Growth) (n : ℕ) → length (marks_below mid n) ≡ n
length_marks mid zero = refl
length_marks mid (suc n) = omega
    (arith, length_push (marks_below mid n) (nat_le (length mid.nodes) n || member n mid.numbers), length_marks mid n)

pub mark_at : (mid : Growth) (n j : ℕ) → j < n → is_out (marks_below mid n) j
    ≡ (nat_le (length mid.nodes) j || member j mid.numbers)
mark_at mid zero j h = absurd (omega arith)
mark_at mid (suc n) j h =
    elim (cases_eq n j) [
      | inl e ↦ get_or_push (marks_below mid n) (nat_le (length mid.nodes) n || member n mid.numbers) false j
          (length_marks mid n ∙ e) ∙ ap (λ (z : ℕ). nat_le (length mid.nodes) z || member z mid.numbers) e
      | inr apart ↦ get_or_append_left (marks_below mid n) ((nat_le (length mid.nodes) n || member n mid.numbers) ∷ [])
          false j (let l = length_marks mid n in omega arith) ∙ mark_at mid n j (omega arith)
    ]

pub mark_late : (mid : Growth) (n j : ℕ) → j < n → length mid.nodes ≤ j → is_out (marks_below mid n) j ≡ true
mark_late mid n j h late = mark_at mid n j h ∙ rw (le-leb (length mid.nodes) j late) refl

pub mark_early : (mid : Growth) (n j : ℕ) → j < n → j < length mid.nodes → is_out (marks_below mid n) j
    ≡ member j mid.numbers
mark_early mid n j h early = mark_at mid n j h ∙ rw (lt-leb (length mid.nodes) j early) refl

-- ---- the last node

-- the last node is current
pub last_current : (m : ℕ) (s : Growth) → Grown m s → 0 < length s.nodes
    → 0 < times numbers (length s.nodes - 1) s.numbers
last_current m s g some =
    elim (cases_lt 0 (times numbers (length s.nodes - 1) s.numbers)) [
      | inl h ↦ h
      | inr none ↦
          let p = g.sound.closed (length s.nodes - 1) (omega arith) (omega arith) in
          let up = rising m s.nodes s.labels s.numbers g.sound p.at (length s.nodes - 1) p.child in
          let b = p.below in
          absurd (omega arith)
    ]

-- the only node that is current where the second stage is over
record Alone (s : Growth) : Type 0 where
  r : ℕ
  only : s.numbers ≡ r ∷ []
  empty : edge_at s.labels r ≡ []

lone : (ns : List ℕ) → length ns ≡ 1 → (r : ℕ) × (ns ≡ r ∷ [])
lone [] h = absurd (omega arith)
lone (r ∷ []) h = (r, refl)
lone (r ∷ q ∷ ns) h = absurd (omega arith)

alone_at : (m : ℕ) (s : Growth) → Grown m s → is_root s.current ≡ true → Alone s
alone_at m s g over =
    let one_left : length s.current
    ≡ 1 = eqb-true (length s.current) 1 (and_parts (length s.current == 1) (length (edge_at s.current 0) == 0) over).0
    in
    let bare : edge_at s.current 0
    ≡ [] = nil_from_length (edge_at s.current 0)
    (eqb-true (length (edge_at s.current 0)) 0
    (and_parts (length s.current == 1) (length (edge_at s.current 0) == 0) over).1) in
    let l = lone s.numbers (let e = same_length m s g in omega arith) in
    let c : s.current ≡ edge_at s.labels l.0 ∷ [] = g.paired ∙ ap (map (edge_at s.labels)) l.1 in
    record { r = l.0; only = l.1; empty = sym (ap (λ (k : List (List ℕ)). edge_at k 0) c) ∙ bare }

-- ---- the tree

module _ (m : ℕ) (mid last : Growth) (some : 0 < m) (g : Grown m mid) (h : Grown m last) (ext : Extends mid last)
    (over : is_root last.current ≡ true) where
  abbrev N : ℕ
  N = length last.nodes

  abbrev M : ℕ
  M = length mid.nodes

  nodes_some : 0 < N
  nodes_some = let f = h.sound.fits in omega arith

  root_is : Alone last
  root_is = alone_at m last h over

  root_last : (root_is).r ≡ N - 1
  root_last =
      let l = last_current m last h nodes_some in
      let a = root_is in
      let e : times numbers (N - 1) last.numbers
      ≡ times numbers (N - 1) (a.r ∷ []) = ap (times numbers (N - 1)) a.only in
      sym (eqb-true (N - 1) a.r (one_true (eqb (N - 1) a.r) (omega arith)))

  root_empty : edge_at last.labels (N - 1) ≡ []
  root_empty = ap (edge_at last.labels) (sym root_last) ∙ (root_is).empty

  only_root : (j : ℕ) → j ≢ N - 1 → times numbers j last.numbers ≡ 0
  only_root j apart =
      let a = root_is in
      let e : times numbers j last.numbers ≡ times numbers j (a.r ∷ []) = ap (times numbers j) a.only in
      elim (cases_lt 0 (one (eqb j a.r))) [
        | inl is ↦ absurd (apart (eqb-true j a.r (one_true (eqb j a.r) is) ∙ root_last))
        | inr not_it ↦ omega arith
      ]

  no_weight : (x : ℕ) → weight x last.labels last.numbers ≡ 0
  no_weight x =
      let a = root_is in
      let e : weight x last.labels last.numbers ≡ weight x last.labels (a.r ∷ []) = ap (weight x last.labels) a.only in
      let f : has_bit x (edge_at last.labels a.r) ≡ has_bit x [] = ap (has_bit x) a.empty in
      omega arith

  some_parent : (nodes : List Node) (j : ℕ) → Parent nodes j → is_some (parent nodes j) ≡ true
  some_parent nodes j p = by_case (parent nodes j) refl
    where
      by_case : (o : Option ℕ) → o ≡ parent nodes j → is_some o ≡ true
      by_case (Some k) e = refl
      by_case None e =
          let b = p.below in
          absurd (false≢true (sym
          (lowest_none (λ k. has_child (node_at nodes k) j) 0 (length nodes) (sym e) p.at (omega arith)
          (omega arith)) ∙ p.child))

  tree_below : (j : ℕ) → j + 1 < N → is_some (parent last.nodes j) ≡ true
  tree_below j low = some_parent last.nodes j (h.sound.closed j (omega arith) (only_root j (λ e. absurd (omega arith))))

  child_in : (k j : ℕ) → has_child (node_at last.nodes k) j ≡ true → k < N
  child_in k j c =
      elim (cases_lt k N) [
        | inl low ↦ low
        | inr high ↦
            absurd (false≢true (ap (λ (n : Node). has_child n j) (sym (get_or_past last.nodes k (node.Leaf 0) high))
            ∙ c))
      ]

  tree_split : (k j : ℕ) → has_child (node_at last.nodes k) j ≡ true → is_out (marks_below mid N) j ≡ nat_le M k
  tree_split k j c =
      let low = child_in k j c in
      let up = rising m last.nodes last.labels last.numbers h.sound k j c in
      elim (cases_lt k M) [
        | inl early ↦
            let c2 : has_child (node_at mid.nodes k) j
            ≡ true = ap (λ (n : Node). has_child n j) (sym (extends_node mid last k ext early)) ∙ c in
            mark_early mid N j (omega arith) (omega arith) ∙ member_out j mid.numbers (not_in c2)
            ∙ sym (lt-leb M k early)
        | inr late ↦
            elim (cases_lt j M) [
              | inl early ↦ mark_early mid N j (omega arith) early ∙ member_in j mid.numbers (must_be early late)
                  ∙ sym (le-leb M k late)
              | inr later ↦ mark_late mid N j (omega arith) later ∙ sym (le-leb M k late)
            ]
      ]
    where
      not_in : has_child (node_at mid.nodes k) j ≡ true → times numbers j mid.numbers ≡ 0
      not_in c2 =
          elim (cases_lt 0 (times numbers j mid.numbers)) [
            | inl is ↦ absurd (false≢true (sym (g.sound.free j k is) ∙ c2))
            | inr none ↦ omega arith
          ]

      must_be : j < M → M ≤ k → 0 < times numbers j mid.numbers
      must_be early late =
          elim (cases_lt 0 (times numbers j mid.numbers)) [
            | inl is ↦ is
            | inr none ↦
                let p = g.sound.closed j early (omega arith) in
                let b = p.below in
                let same = h.sound.one_parent j p.at k
                (ap (λ (n : Node). has_child n j) (extends_node mid last p.at ext p.below) ∙ p.child) c in
                absurd (omega arith)
          ]

  tree_root_out : is_out (marks_below mid N) (N - 1) ≡ true
  tree_root_out =
      let s = nodes_some in
      let l = extends_length mid last ext in
      elim (cases_lt (N - 1) M) [
        | inl early ↦
            let e : M ≡ N = omega arith in
            let i = last_current m mid g (omega arith) in
            mark_early mid N (N - 1) (omega arith) early
            ∙ member_in (N - 1) mid.numbers (subst (λ (z : ℕ). 0 < times numbers (z - 1) mid.numbers) e i)
        | inr late ↦ mark_late mid N (N - 1) (omega arith) late
      ]

  pub tree_is : (F : List ℕ) → AreVariableSets last.labels → IsVariableSet F → ShowsHead F (tree_of m F mid last)
      → IsTree (tree_of m F mid last)
  tree_is F sets set shown = record {
    labelled = h.sound.labelled;
    marked = length_marks mid N;
    sets = sets;
    some = some;
    fits = h.sound.fits;
    leaf = h.sound.leaf;
    inner = h.sound.inner;
    trim = h.sound.trim;
    meet = h.sound.meet;
    below = tree_below;
    one_parent = h.sound.one_parent;
    root = root_empty;
    one_top = λ x j k t u. h.sound.dead x j k (no_weight x) t u;
    stages = (g.sound.fits, extends_length mid last ext);
    root_out = tree_root_out;
    out_split = tree_split;
    head_set = set;
    head = shown;
  }

-- ---- The head's variables in the grown tree.

-- a current label's variables are current
pub label_in : (L : List (List ℕ)) (i x : ℕ) → i < length L → has_bit x (edge_at L i) ≤ degree x L
label_in L i x low = let b = degree_same x L (edge_at L i ∷ remove L i) (bag_remove labels [] L i low) in omega arith

-- the labels from a number on lie in F
abbrev pub LateIn : List ℕ → ℕ → List (List ℕ) → Type 0
LateIn F M labels = (j : ℕ) → M ≤ j → j < length labels → Sub (edge_at labels j) F

late_push : (F : List ℕ) (M : ℕ) (labels : List (List ℕ)) (l : List ℕ) → LateIn F M labels → Sub l F
    → LateIn F M (labels ++ l ∷ [])
late_push F M labels l late sub j from low x =
    elim (cases_lt j (length labels)) [
      | inl old ↦
          let e : has_bit x (edge_at (labels ++ l ∷ []) j)
          ≡ has_bit x (edge_at labels j) = ap (has_bit x) (label_old labels l j old) in
          let s = late j from old x in omega arith
      | inr new ↦
          let k : j ≡ length labels = (let q = length_push labels l in omega arith) in
          let e : has_bit x (edge_at (labels ++ l ∷ []) j) ≡ has_bit x l = ap (has_bit x) (label_new labels l j k) in
          let s = sub x in omega arith
    ]

late_step : (F keep : List ℕ) (M : ℕ) (s : Growth) (c : Choice) → Says keep s.current c
    → ((x : ℕ) → 0 < degree x s.current → 0 < has_bit x F) → LateIn F M s.labels → LateIn F M (grown s c).labels
late_step F keep M s (Trim i X) t all late =
    late_push F M s.labels (difference (edge_at s.current i) X) late
    (λ x. let m = has_difference x (edge_at s.current i) X in let l = label_in s.current i x t.within in let o = one_le
    (member x (edge_at s.current i)) in
    in_F (has_bit x (difference (edge_at s.current i) X)) x (omega arith) (omega arith))
  where
    in_F : (n x : ℕ) → n ≤ 1 → n ≤ degree x s.current → n ≤ has_bit x F
    in_F zero x a b = omega arith
    in_F (suc n) x a b = let f = all x (omega arith) in omega arith
late_step F keep M s (Meet g d) t all late =
    late_push F M s.labels (edge_at s.current g) late
    (λ x. let l = label_in s.current g x t.guard in in_F (has_bit x (edge_at s.current g)) x
    (one_le (member x (edge_at s.current g))) l)
  where
    in_F : (n x : ℕ) → n ≤ 1 → n ≤ degree x s.current → n ≤ has_bit x F
    in_F zero x a b = omega arith
    in_F (suc n) x a b = let f = all x (omega arith) in omega arith
late_step F keep M s Stuck t all late = late

pub late_grow : (F keep : List ℕ) (M n : ℕ) (s : Growth) → ((x : ℕ) → 0 < degree x s.current → 0 < has_bit x F)
    → LateIn F M s.labels → LateIn F M (grow keep n s).labels
unfolding grow
late_grow F keep M zero s all late = late
late_grow F keep M (suc n) s all late =
    let t = grow keep n s in
    late_step F keep M t (choose keep t.current) (choose_says keep t.current)
    (λ x h. all x (let d = degree_grow keep n s x in omega arith)) (late_grow F keep M n s all late)

-- a variable of labels that lie in F is in F
pub within_has : (F : List ℕ) (L : List (List ℕ)) → are_within F L ≡ true → (x : ℕ) → 0 < degree x L → 0 < has_bit x F
within_has F [] h x d = absurd (omega arith)
within_has F (l ∷ L) h x d =
    elim (cases_lt 0 (has_bit x l)) [
      | inl here ↦ let s = within_all F (l ∷ L) h l (count_self l L) x in omega arith
      | inr other ↦ within_has F L (tail_within (subset l F) (are_within F L) h) x (omega arith)
    ]
  where
    tail_within : (a b : Bool) → (a && b) ≡ true → b ≡ true
    tail_within true b e = e
    tail_within false b e = absurd cc

total_some : (f : ℕ → ℕ) (ns : List ℕ) → 0 < total f ns → (j : ℕ) × (0 < times numbers j ns) × (0 < f j)
total_some f [] h = absurd (omega arith)
total_some f (y ∷ ns) h =
    elim (cases_lt 0 (f y)) [
      | inl here ↦ (y, omega (arith, times_itself numbers y), here)
      | inr other ↦ let r = total_some f ns (omega arith) in (r.0, (let k = r.1 in omega arith), r.2)
    ]

out_within : (marks : List Bool) (j : ℕ) → is_out marks j ≡ true → j < length marks
out_within marks j h =
    elim (cases_lt j (length marks)) [
      | inl low ↦ low
      | inr high ↦ absurd (false≢true (sym (get_or_past marks j false high) ∙ h))
    ]

module _ (m : ℕ) (F : List ℕ) (mid last : Growth) (g : Grown m mid) (h : Grown m last) (ext : Extends mid last)
    (over : are_within F mid.current ≡ true) (late : LateIn F (length mid.nodes) last.labels)
    (covers : (x : ℕ) → 0 < has_bit x F → 0 < degree x mid.current) where
  early_sub : (j : ℕ) → j < length mid.nodes → member j mid.numbers ≡ true → Sub (edge_at last.labels j) F
  early_sub j low is x =
      let e : has_bit x (edge_at last.labels j)
      ≡ has_bit x (edge_at mid.labels j) = ap (has_bit x)
      (extends_label mid last j ext (let k = g.sound.labelled in omega arith)) in
      let t = has_times j mid.numbers in
      let i = from_true (member j mid.numbers) is in
      let w = current_weight m x mid g in
      let q = total_in numbers (λ k. has_bit x (edge_at mid.labels k)) j mid.numbers (omega arith) in
      elim (cases_lt 0 (has_bit x (edge_at mid.labels j))) [
        | inl some ↦ let f = within_has F mid.current over x (omega arith) in omega
            (arith, one_le (member x (edge_at mid.labels j)))
        | inr none ↦ omega arith
      ]

  head_within : (j : ℕ) → is_out (marks_below mid (length last.nodes)) j ≡ true → subset (edge_at last.labels j) F
      ≡ true
  head_within j out =
      let low : j < length last.nodes =
      (let l = out_within (marks_below mid (length last.nodes)) j out in let k = length_marks mid
      (length last.nodes) in omega arith) in
      elim (cases_lt j (length mid.nodes)) [
        | inl early ↦ subset_from (edge_at last.labels j) F
            (early_sub j early (sym (mark_early mid (length last.nodes) j low early) ∙ out))
        | inr later ↦ subset_from (edge_at last.labels j) F (late j later (let k = h.sound.labelled in omega arith))
      ]

  head_covered : (x : ℕ) → member x F ≡ true → (j : ℕ) × (is_out (marks_below mid (length last.nodes)) j ≡ true)
      × (member x (edge_at last.labels j) ≡ true)
  head_covered x in_F =
      let d = covers x (from_true (member x F) in_F) in
      let w = current_weight m x mid g in
      let s = total_some (λ k. has_bit x (edge_at mid.labels k)) mid.numbers (omega arith) in
      let low = g.sound.small s.0 s.1 in
      let l = extends_length mid last ext in (
        s.0,
        mark_early mid (length last.nodes) s.0 (omega arith) low ∙ member_in s.0 mid.numbers s.1,
        ap (member x) (extends_label mid last s.0 ext (let k = g.sound.labelled in omega arith))
            ∙ one_true (member x (edge_at mid.labels s.0)) s.2,
      )

  pub head_shown : ShowsHead F (tree_of m F mid last)
  head_shown = record { within = head_within; covered = head_covered }

-- ---- What the tree of a query is.

-- what follows from how the tree was grown
record Planned (H : List (List ℕ)) (F : List ℕ) (t : Tree) : Type 0 where
  tree : IsTree t
  atoms : leaf_labels t ≡ H
  connex : IsFreeConnex H F
  head : ShowsHead F t

module _ (H : List (List ℕ)) (F : List ℕ) (n k : ℕ) (some : 0 < length H) (heads : AreCovered F H)
    (sets : AreVariableSets H) (set : IsVariableSet F) where
  abbrev mid : Growth
  mid = grow F n (start H)

  abbrev last : Growth
  last = grow [] k mid

  abbrev m : ℕ
  m = length H

  mid_grown : Grown m mid
  mid_grown = grow_grown m F n (start H) (start_grown H)

  last_grown : Grown m last
  last_grown = grow_grown m [] k mid mid_grown

  module _ (over : are_within F mid.current ≡ true) (ended : is_root last.current ≡ true) where
    atoms_planned : take m last.labels ≡ H
    atoms_planned =
        let e = grow_extends F n (start H) in
        let f = grow_extends [] k mid in
        let k : last.labels ≡ H ++ (e.more_labels ++ f.more_labels) = f.labels
        ∙ ap (λ (l : List (List ℕ)). l ++ f.more_labels) e.labels ∙ append_assoc H e.more_labels f.more_labels in
        ap (take m) k ∙ take_at H (e.more_labels ++ f.more_labels) m refl

    connex_planned : IsFreeConnex H F
    connex_planned =
        free_connex_from H F
        (run_back [] F n (start H) (λ x. omega arith)
        (run_back [] [] k mid (λ x. omega arith) (root_rooted last.current ended)))
        (run_back F F n (start H) (λ x. omega arith) (within_rooted F mid.current over))

    head_planned : ShowsHead F (tree_of m F mid last)
    head_planned =
        head_shown m F mid last mid_grown last_grown (grow_extends [] k mid) over
        (late_grow F [] (length mid.nodes) k mid (within_has F mid.current over)
        (λ j from low. absurd (let l = mid_grown.sound.labelled in omega arith)))
        (λ x in_F. kept_grow F n (start H) x in_F (heads x (one_true (member x F) in_F)))

    tree_planned : IsTree (tree_of m F mid last)
    tree_planned =
        tree_is m mid last some mid_grown last_grown (grow_extends [] k mid) ended F
        (sets_grow m [] k mid mid_grown (sets_grow m F n (start H) (start_grown H) sets)) set head_planned

    planned_here : Planned H F (tree_of m F mid last)
    planned_here = record {
      tree = tree_planned;
      atoms = atoms_planned;
      connex = connex_planned;
      head = head_planned;
    }

planned_at : (H : List (List ℕ)) (F : List ℕ) (a b : Growth) (n k : ℕ) → 0 < length H → AreCovered F H
    → AreVariableSets H → IsVariableSet F → a ≡ grow F n (start H) → b ≡ grow [] k a → are_within F a.current ≡ true
    → is_root b.current ≡ true → Planned H F (tree_of (length H) F a b)
planned_at H F a b n k some heads sets set e f over ended =
    let g : b ≡ grow [] k (grow F n (start H)) = f ∙ ap (grow [] k) e in
    let over2 = ap (λ (s : Growth). are_within F s.current) (sym e) ∙ over in
    let ended2 = ap (λ (s : Growth). is_root s.current) (sym g) ∙ ended in
    subst (λ (s : Growth). Planned H F (tree_of (length H) F s b)) (sym e)
    (subst (λ (s : Growth). Planned H F (tree_of (length H) F (grow F n (start H)) s)) (sym g)
    (planned_here H F n k some heads sets set over2 ended2))

-- the tree of a query is a plan of it, and the query is free-connex
pub planned : (H : List (List ℕ)) (F : List ℕ) (t : Tree) → 0 < length H → AreCovered F H → AreVariableSets H
    → IsVariableSet F → IsTreeOf H F t → IsPlan H F t × IsFreeConnex H F
planned H F t some heads sets set p =
    let q : Planned H F t =
    subst (λ (u : Tree). Planned H F u) (sym p.is)
    (planned_at H F p.mid p.last p.first.steps p.second.steps some heads sets set p.first.leads p.second.leads
    p.first.ends p.second.ends) in (
      record {
        named = p;
        tree = q.tree;
        atoms = q.atoms;
        head = ap (λ (u : Tree). u.head) p.is;
        shown = q.head;
        small =
            small_of t q.tree;
      },
      q.connex,
    )

-- ---- What the planner's answers rest on.

-- ---- stuck stages

sticks : (keep : List ℕ) (L : List (List ℕ)) → choose keep L ≡ Stuck → Sticks keep L
sticks keep L e = subst (Says keep L) e (choose_says keep L)

pub stuck_first : (H : List (List ℕ)) (F : List ℕ) (s t : Growth) (b : Bool) → s ≡ start H
    → IsStageEnd (are_within F) F s t b → b ≡ false → IsFreeConnex H F → ⊥
stuck_first H F s t b e stage no_end connex =
    let k : IsStuckAt (are_within F) F s t = subst (λ (z : Bool). IsStageEnd (are_within F) F s t z) no_end stage in
    let at : t ≡ grow F k.steps (start H) = k.leads ∙ ap (grow F k.steps) e in
    let from = connex.1 in
    let r : Rooted F H = rooted_at F H (from.0, from.1) in
    let q = run_to F F k.steps (start H) (λ x. omega arith) r in
    first_stuck F t.current (sticks F t.current k.stuck) k.goes_on
    (subst (λ (z : Growth). Rooted F z.current) (sym at) q)

some_times : (j : ℕ) (ns : List ℕ) → 0 < times numbers j ns → 0 < length ns
some_times j [] h = absurd (omega arith)
some_times j (y ∷ ns) h = omega arith

-- some node is always current
pub some_current : (m : ℕ) (s : Growth) → 0 < m → Grown m s → 0 < length s.current
some_current m s some g =
    let f = g.sound.fits in
    let l = last_current m s g (omega arith) in
    let n = some_times (length s.nodes - 1) s.numbers l in
    let e = same_length m s g in
    omega arith

pub stuck_second : (H : List (List ℕ)) (F : List ℕ) (s mid t : Growth) (b : Bool) → 0 < length H → s ≡ start H
    → IsStageEnd (are_within F) F s mid b → b ≡ true → IsStuckAt is_root [] mid t → IsFreeConnex H F → ⊥
stuck_second H F s mid t b some e stage ended k connex =
    let a : IsStage (are_within F) F s mid = subst (λ (z : Bool). IsStageEnd (are_within F) F s mid z) ended stage in
    let at_mid : mid ≡ grow F a.steps (start H) = a.leads ∙ ap (grow F a.steps) e in
    let at : t ≡ grow [] k.steps (grow F a.steps (start H)) = k.leads ∙ ap (grow [] k.steps) at_mid in
    let tree = connex.0 in
    let r : Rooted [] H = rooted_of H tree.0 tree.1 in
    let q = run_to [] F a.steps (start H) (λ x. omega arith) r in
    let p = run_to [] [] k.steps (grow F a.steps (start H)) (λ x. omega arith) q in
    let g = grow_grown (length H) [] k.steps (grow F a.steps (start H))
    (grow_grown (length H) F a.steps (start H) (start_grown H)) in
    let n = some_current (length H) (grow [] k.steps (grow F a.steps (start H))) some g in
    second_stuck t.current (subst (λ (z : Growth). 0 < length z.current) (sym at) n) (sticks [] t.current k.stuck)
    k.goes_on
    (subst (λ (z : Growth). Rooted [] z.current) (sym at) p)

-- ---- the marks

marks_add : (mid : Growth) (d : ℕ) → marks_below mid (length mid.nodes + d)
    ≡ marks_below mid (length mid.nodes) ++ replicate d true
marks_add mid zero = rw add-zero (sym (append-nil (marks_below mid (length mid.nodes))))
marks_add mid (suc d) =
    let late : nat_le (length mid.nodes) (length mid.nodes + d)
    ≡ true = le-leb (length mid.nodes) (length mid.nodes + d) (omega arith) in
    rw (add-suc (length mid.nodes) d, marks_add mid d, late)
    (append_assoc (marks_below mid (length mid.nodes)) (replicate d true) (true ∷ [])
    ∙ ap (λ (k : List Bool). marks_below mid (length mid.nodes) ++ k)
    (replicate_more d true ∙ ap (λ (n : ℕ). replicate n true) (add-one d)))

marks_filled : (mid : Growth) (N : ℕ) (old new : List Bool) (M : ℕ) → length mid.nodes ≤ N → old
    ≡ marks_below mid (length mid.nodes) → M ≡ length old → new ≡ take N old ++ replicate (N - M) true → new
    ≡ marks_below mid N
marks_filled mid N old new M enough is len filled =
    let l = ap (λ (k : List Bool). length k) is in
    let k = length_marks mid (length mid.nodes) in
    let t : take N old ≡ old = take_all N old (omega arith) in
    let d : N ≡ length mid.nodes + (N - M) = omega arith in
    filled ∙ ap (λ (z : List Bool). z ++ replicate (N - M) true) (t ∙ is) ∙ sym (marks_add mid (N - M))
    ∙ ap (marks_below mid) (sym d)

-- where the second stage comes to its end, the marks that were filled are those of `out`
pub grown_out : (mid last : Growth) (b : Bool) (old new : List Bool) (M N : ℕ) → IsStageEnd is_root [] mid last b → b
    ≡ true → old ≡ marks_below mid (length mid.nodes) → M ≡ length old → N ≡ length last.nodes
    → new ≡ take N old ++ replicate (N - M) true → GrowsOut mid last new
grown_out mid last b old new M N stage ended marks len count filled =
    let k : IsStage is_root [] mid last = subst (λ (z : Bool). IsStageEnd is_root [] mid last z) ended stage in
    let enough : length mid.nodes ≤ length last.nodes = subst (λ (z : Growth). length mid.nodes ≤ length z.nodes)
    (sym k.leads) (extends_length mid (grow [] k.steps mid) (grow_extends [] k.steps mid)) in
    record {
      ends = k;
      marks = marks_filled mid (length last.nodes) old new M enough marks len
          (subst (λ (z : ℕ). new ≡ take z old ++ replicate (z - M) true) count filled);
    }

-- ---- the plan

pub plan_of : (H : List (List ℕ)) (F : List ℕ) (s mid last : Growth) (b : Bool) (out : List Bool) (leaves second : ℕ)
    → 0 < length H → AreCovered F H → AreVariableSets H → IsVariableSet F
    → s ≡ start H → IsStageEnd (are_within F) F s mid b → b ≡ true → GrowsOut mid last out → leaves ≡ length H → second
    ≡ length mid.nodes
    → IsPlan H F (record {
      nodes = last.nodes;
      labels = last.labels;
      out = out;
      head = F;
      leaves = leaves;
      second_stage
          = second;
    }) × IsFreeConnex H F
plan_of H F s mid last b out leaves second some heads sets set e stage ended grows is_leaves is_second =
    let a : IsStage (are_within F) F s mid = subst (λ (z : Bool). IsStageEnd (are_within F) F s mid z) ended stage in
    let a2 : IsStage (are_within F) F (start H) mid = subst (λ (z : Growth). IsStage (are_within F) F z mid) e a in
    planned H F (record {
      nodes = last.nodes;
      labels = last.labels;
      out = out;
      head = F;
      leaves = leaves;
      second_stage =
          second;
    }) some heads sets set
    (record {
      mid = mid;
      first = a2;
      last = last;
      second = grows.ends;
      is = rw (grows.marks, is_leaves, is_second) refl;
    })

-- ---- the rests

pub rest_says : (H : List (List ℕ)) (F : List ℕ) (E R R' : List (List ℕ)) → (IsFreeConnex H F → ⊥) → R ≡ []
    → ((R ≡ []) ↔ HasJoinTree H) → E ≡ F ∷ H → ((R' ≡ []) ↔ HasJoinTree E) → (R' ≢ [] → IsRest E R')
    → IsNotConnex H F R'
rest_says H F E R R' not_connex none acyclic front acyclic2 rest =
    let tree = acyclic.0 none in
    let no_from : HasJoinTreeFrom F H → ⊥ = λ t. not_connex (tree, t) in
    let some : R' ≢ [] = λ bare. no_from (join_tree_turned F H (subst HasJoinTree front (acyclic2.0 bare))) in
    record { tree = tree; no_tree = no_from; rest = subst (λ (z : List (List ℕ)). IsRest z R') front (rest some) }

pub bare_rest : (R : List (List ℕ)) (b : Bool) → b ≡ (length R == 0) → b ≡ true → R ≡ []
bare_rest R b e t = nil_from_length R (eqb-true (length R) 0 (sym e ∙ t))
