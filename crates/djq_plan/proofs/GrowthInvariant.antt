-- The tree's invariant while it grows: what holds of the nodes made so far, of which some are current.
use Rattle.std.proofs.Common.{◌≡◌, ◌≢◌, ◌⊎◌, ℕ, ◌+◌, ◌<◌, ◌≤◌, Bool, true, false, ◌||◌, List, [], ◌∷◌, ◌++◌, length}
use Rattle.std.proofs.Common.{refl, ap, subst, sym, ◌∙◌, eqb, arith, inl, inr}
use Rattle.std.proofs.lemmas.List.{get_or_append_left, get_or_push, get_or_past, length_push}
use Rattle.std.proofs.lemmas.Bool.{cases_Bool, cases_lt, cases_eq, eqb-true, eq-eqb, ne_eqb, false≢true}
use Rattle.std.proofs.Math.Bool.{or-true}
use Rattle.djq_hypergraph.specs.Hypergraph.{member, subset, edge_at, one}
use Rattle.djq_hypergraph.proofs.Sets.{has_bit, Sub, one_le, from_true, from_false, subset_from, subset_says}
use Rattle.djq_hypergraph.proofs.Labels.{numbers, times, Bag, total, total_same}
use Rattle.djq_tree.specs.declared.node.Node.{Node}
use Rattle.djq_tree.specs.declared.node.Node.TheVariants.{Leaf, Trim, Meet}
use Rattle.djq_tree.specs.Tree.{node_at, has_child, IsTrim, IsMeet, IsTop}
use Rattle.djq_plan.proofs.Choices.{total_in, total_agree}

-- how many current nodes have the variable
abbrev pub weight : ℕ → List (List ℕ) → List ℕ → ℕ
weight x labels ns = total (λ j. has_bit x (edge_at labels j)) ns

-- a node that has j as a child
pub record Parent (nodes : List Node) (j : ℕ) : Type 0 where
  pub at : ℕ
  pub below : at < length nodes
  pub child : has_child (node_at nodes at) j ≡ true

-- the nodes, of which m are leaves, with their labels and the numbers of the current ones
pub record Sound (m : ℕ) (nodes : List Node) (labels : List (List ℕ)) (ns : List ℕ) : Type 0 where
  pub labelled : length labels ≡ length nodes
  pub fits : m ≤ length nodes
  pub leaf : (j : ℕ) → j < m → node_at nodes j ≡ Leaf j
  pub inner : (j a : ℕ) → j < length nodes → node_at nodes j ≡ Leaf a → j < m
  pub trim : (k c : ℕ) → node_at nodes k ≡ Trim c → IsTrim labels k c
  pub meet : (k g s : ℕ) → node_at nodes k ≡ Meet g s → IsMeet labels k g s
  pub once : (j : ℕ) → times numbers j ns ≤ 1
  pub small : (j : ℕ) → 0 < times numbers j ns → j < length nodes
  pub free : (j k : ℕ) → 0 < times numbers j ns → has_child (node_at nodes k) j ≡ false
  pub closed : (j : ℕ) → j < length nodes → times numbers j ns ≡ 0 → Parent nodes j
  pub one_parent : (j k l : ℕ) → has_child (node_at nodes k) j ≡ true → has_child (node_at nodes l) j ≡ true → k ≡ l
  pub live : (x j : ℕ) → 0 < weight x labels ns → IsTop nodes labels x j → 0 < times numbers j ns
  pub dead : (x j k : ℕ) → weight x labels ns ≡ 0 → IsTop nodes labels x j → IsTop nodes labels x k → j ≡ k

-- ---- one more node

-- what holds of each node, of the new one and of none
pub by_node : (nodes : List Node) (n : Node) (P : ℕ → Node → Type 0)
    → ((k : ℕ) → k < length nodes → P k (node_at nodes k)) → P (length nodes) n → ((k : ℕ) → P k (Leaf 0)) → (k : ℕ)
    → P k (node_at (nodes ++ n ∷ []) k)
by_node nodes n P old new none k =
    elim (cases_lt k (length nodes)) [
      | inl low ↦ rw (get_or_append_left nodes (n ∷ []) (Leaf 0) k low) (old k low)
      | inr high ↦
          elim (cases_eq (length nodes) k) [
            | inl e ↦ rw (get_or_push nodes n (Leaf 0) k e) (subst (λ (z : ℕ). P z n) e new)
            | inr apart ↦ rw (get_or_past (nodes ++ n ∷ []) k (Leaf 0) (let l = length_push nodes n in omega arith))
                (none k)
          ]
    ]

pub node_old : (nodes : List Node) (n : Node) (k : ℕ) → k < length nodes → node_at (nodes ++ n ∷ []) k ≡ node_at nodes k
node_old nodes n k low = get_or_append_left nodes (n ∷ []) (Leaf 0) k low

pub node_new : (nodes : List Node) (n : Node) → node_at (nodes ++ n ∷ []) (length nodes) ≡ n
node_new nodes n = get_or_push nodes n (Leaf 0) (length nodes) refl

pub label_old : (labels : List (List ℕ)) (l : List ℕ) (k : ℕ) → k < length labels → edge_at (labels ++ l ∷ []) k
    ≡ edge_at labels k
label_old labels l k low = get_or_append_left labels (l ∷ []) [] k low

pub label_new : (labels : List (List ℕ)) (l : List ℕ) (k : ℕ) → k ≡ length labels → edge_at (labels ++ l ∷ []) k ≡ l
label_new labels l k e = get_or_push labels l [] k (sym e)

-- children are lower
pub rising : (m : ℕ) (nodes : List Node) (labels : List (List ℕ)) (ns : List ℕ) → Sound m nodes labels ns → (k j : ℕ)
    → has_child (node_at nodes k) j ≡ true → j < k
rising m nodes labels ns s k j h = by_case (node_at nodes k) refl h
  where
    either : (a b : Bool) → (a || b) ≡ true → (a ≡ true) ⊎ (b ≡ true)
    either true b e = inl refl
    either false b e = inr e

    by_case : (n : Node) → node_at nodes k ≡ n → has_child n j ≡ true → j < k
    by_case (Leaf a) e c = absurd cc
    by_case (Trim d) e c = let t = s.trim k d e in let low = t.lower in let same = eqb-true d j c in omega arith
    by_case (Meet g d) e c =
        let t = s.meet k g d e in
        let low = t.guard_lower in let low2 = t.side_lower in
        elim (either (eqb g j) (eqb d j) c)
        [ inl x ↦ let same = eqb-true g j x in omega arith | inr x ↦ let same = eqb-true d j x in omega arith ]

-- a new node n with label l, whose children are current; ns' are the numbers that are current with it
pub record Adds (nodes : List Node) (labels : List (List ℕ)) (ns : List ℕ) (n : Node) (l : List ℕ) (ns' : List ℕ) : Type
    0 where
  pub children : (j : ℕ) → has_child n j ≡ true → 0 < times numbers j ns
  pub stays : (j : ℕ) → 0 < times numbers j ns → (has_child n j ≡ true) ⊎ (0 < times numbers j ns')
  pub comes : (j : ℕ) → 0 < times numbers j ns'
      → (j ≡ length nodes) ⊎ ((0 < times numbers j ns) × (has_child n j ≡ false))
  pub itself : 0 < times numbers (length nodes) ns'
  pub once : (j : ℕ) → times numbers j ns' ≤ 1
  pub no_leaf : (a : ℕ) → n ≡ Leaf a → ⊥
  pub trim : (c : ℕ) → n ≡ Trim c → IsTrim (labels ++ l ∷ []) (length nodes) c
  pub meet : (g s : ℕ) → n ≡ Meet g s → IsMeet (labels ++ l ∷ []) (length nodes) g s
  -- a child's variable that the new node lacks lies in no current label any more
  pub lost : (x j : ℕ) → has_child n j ≡ true → 0 < has_bit x (edge_at labels j) → has_bit x l ≡ 0
      → weight x (labels ++ l ∷ []) ns' ≡ 0
  -- a variable that is lost lay in one current label
  pub single : (x j k : ℕ) → weight x (labels ++ l ∷ []) ns' ≡ 0 → 0 < times numbers j ns → 0 < times numbers k ns
      → 0 < has_bit x (edge_at labels j) → 0 < has_bit x (edge_at labels k) → j ≡ k
  pub fewer : (x : ℕ) → weight x labels ns ≡ 0 → weight x (labels ++ l ∷ []) ns' ≡ 0

module _ (m : ℕ) (nodes : List Node) (labels : List (List ℕ)) (ns : List ℕ) (n : Node) (l : List ℕ) (ns' : List ℕ)
    (s : Sound m nodes labels ns) (a : Adds nodes labels ns n l ns') where
  abbrev nodes' : List Node
  nodes' = nodes ++ n ∷ []

  abbrev labels' : List (List ℕ)
  labels' = labels ++ l ∷ []

  longer : length nodes' ≡ length nodes + 1
  longer = length_push nodes n

  same_label : (k : ℕ) → k < length nodes → edge_at labels' k ≡ edge_at labels k
  same_label k low = label_old labels l k (let e = s.labelled in omega arith)

  new_label : edge_at labels' (length nodes) ≡ l
  new_label = label_new labels l (length nodes) (sym s.labelled)

  add_leaf : (j : ℕ) → j < m → node_at nodes' j ≡ Leaf j
  add_leaf j low = node_old nodes n j (let f = s.fits in omega arith) ∙ s.leaf j low

  add_inner : (j b : ℕ) → j < length nodes' → node_at nodes' j ≡ Leaf b → j < m
  add_inner j b low e =
      elim (cases_lt j (length nodes)) [
        | inl old ↦ s.inner j b old (sym (node_old nodes n j old) ∙ e)
        | inr new ↦
            let k : j ≡ length nodes = (let q = longer in omega arith) in
            absurd (a.no_leaf b (sym (node_new nodes n) ∙ ap (λ (z : ℕ). node_at nodes' z) (sym k) ∙ e))
      ]

  old_trim : (k c : ℕ) → k < length nodes → IsTrim labels k c → IsTrim labels' k c
  old_trim k c low t =
      let lc = t.lower in
      let ek = same_label k low in
      let ec = same_label c (omega arith) in
      record { lower = t.lower; within = rw (ek, ec) t.within; proper = rw (ek, ec) t.proper }

  add_trim : (k c : ℕ) → node_at nodes' k ≡ Trim c → IsTrim labels' k c
  add_trim k c =
      by_node nodes n (λ (k : ℕ) (o : Node). o ≡ Trim c → IsTrim labels' k c)
      (λ k low e. old_trim k c low (s.trim k c e)) (λ e. a.trim c e) (λ k e. absurd cc) k

  old_meet : (k g d : ℕ) → k < length nodes → IsMeet labels k g d → IsMeet labels' k g d
  old_meet k g d low t =
      let lg = t.guard_lower in let ld = t.side_lower in
      let ek = same_label k low in
      let eg = same_label g (omega arith) in
      let ed = same_label d (omega arith) in
      record {
        guard_lower = t.guard_lower;
        side_lower = t.side_lower;
        apart = t.apart;
        guard = rw (ek, eg) t.guard;
        side = rw (eg, ed) t.side;
      }

  add_meet : (k g d : ℕ) → node_at nodes' k ≡ Meet g d → IsMeet labels' k g d
  add_meet k g d =
      by_node nodes n (λ (k : ℕ) (o : Node). o ≡ Meet g d → IsMeet labels' k g d)
      (λ k low e. old_meet k g d low (s.meet k g d e)) (λ e. a.meet g d e) (λ k e. absurd cc) k

  add_small : (j : ℕ) → 0 < times numbers j ns' → j < length nodes'
  add_small j h = elim (a.comes j h)
      [ inl e ↦ let q = longer in omega arith | inr o ↦ let q = longer in let p = s.small j o.0 in omega arith ]

  add_free : (j k : ℕ) → 0 < times numbers j ns' → has_child (node_at nodes' k) j ≡ false
  add_free j k h =
      elim (a.comes j h) [
        | inl e ↦
            by_node nodes n (λ (k : ℕ) (o : Node). has_child o j ≡ false)
            (λ k low. elim (cases_Bool (has_child (node_at nodes k) j))
            [ inl child ↦ absurd (let r = rising m nodes labels ns s k j child in omega arith) | inr none ↦ none ])
            (elim (cases_Bool (has_child n j))
            [ inl child ↦ absurd (let r = s.small j (a.children j child) in omega arith) | inr none ↦ none ])
            (λ k. refl) k
        | inr o ↦ by_node nodes n (λ (k : ℕ) (p : Node). has_child p j ≡ false) (λ k low. s.free j k o.0) o.1
            (λ k. refl) k
      ]

  add_closed : (j : ℕ) → j < length nodes' → times numbers j ns' ≡ 0 → Parent nodes' j
  add_closed j low gone =
      elim (cases_lt 0 (times numbers j ns)) [
        | inl was ↦
            elim (a.stays j was) [
              | inl child ↦ record {
                at = length nodes;
                below = (let q = longer in omega arith);
                child = rw
                    (node_new nodes n) child;
              }
              | inr still ↦ absurd (omega arith)
            ]
        | inr wasnt ↦
            elim (cases_eq j (length nodes)) [
              | inl e ↦ absurd (let i = a.itself in let k : times numbers j ns'
                  ≡ times numbers (length nodes) ns' = ap (λ (z : ℕ). times numbers z ns') e in omega arith)
              | inr apart ↦
                  let p = s.closed j (let q = longer in omega arith) (omega arith) in
                  record {
                    at = p.at;
                    below = (let q = longer in let b = p.below in omega arith);
                    child = rw
                        (node_old nodes n p.at p.below) p.child;
                  }
            ]
      ]

  -- the new node is the only parent of its children
  new_parent : (j k : ℕ) → has_child n j ≡ true → has_child (node_at nodes' k) j ≡ true → k ≡ length nodes
  new_parent j k child =
      by_node nodes n (λ (k : ℕ) (o : Node). has_child o j ≡ true → k ≡ length nodes)
      (λ k low h. absurd (false≢true (sym (s.free j k (a.children j child)) ∙ h))) (λ h. refl) (λ k h. absurd cc) k

  add_one_parent : (j k i : ℕ) → has_child (node_at nodes' k) j ≡ true → has_child (node_at nodes' i) j ≡ true → k ≡ i
  add_one_parent j k i h g =
      elim (cases_Bool (has_child n j)) [
        | inl child ↦ new_parent j k child h ∙ sym (new_parent j i child g)
        | inr none ↦ s.one_parent j k i (older k h none) (older i g none)
      ]
    where
      older : (k : ℕ) → has_child (node_at nodes' k) j ≡ true → has_child n j ≡ false → has_child (node_at nodes k) j
          ≡ true
      older k =
          by_node nodes n (λ (k : ℕ) (o : Node). has_child o j ≡ true → has_child n j ≡ false
          → has_child (node_at nodes k) j ≡ true)
          (λ k low h none. h) (λ h none. absurd (false≢true (sym none ∙ h))) (λ k h none. absurd cc) k

  -- a top that isn't new was one before
  top_low : (x j : ℕ) → j ≢ length nodes → IsTop nodes' labels' x j → j < length nodes
  top_low x j apart t =
      elim (cases_lt j (length nodes)) [
        | inl low ↦ low
        | inr high ↦
            let past : edge_at labels' j
            ≡ [] = get_or_past labels' j [] (let q = length_push labels l in let e = s.labelled in omega arith) in
            absurd (false≢true (ap (λ (k : List ℕ). member x k) (sym past) ∙ t.has))
      ]

  child_low : (j k : ℕ) → has_child (node_at nodes k) j ≡ true → k < length nodes
  child_low j k h =
      elim (cases_lt k (length nodes)) [
        | inl low ↦ low
        | inr high ↦
            let past : node_at nodes k ≡ Leaf 0 = get_or_past nodes k (Leaf 0) high in
            absurd (false≢true (ap (λ (o : Node). has_child o j) (sym past) ∙ h))
      ]

  old_top : (x j : ℕ) → j ≢ length nodes → IsTop nodes' labels' x j → IsTop nodes labels x j
  old_top x j apart t =
      record {
        has = ap (member x) (sym (same_label j (top_low x j apart t))) ∙ t.has;
        ends = λ k h.
            let low = child_low j k h in
            ap (member x) (sym (same_label k low))
            ∙ t.ends k (ap (λ (o : Node). has_child o j) (node_old nodes n k low) ∙ h);
      }

  add_live : (x j : ℕ) → 0 < weight x labels' ns' → IsTop nodes' labels' x j → 0 < times numbers j ns'
  add_live x j w t =
      elim (cases_eq j (length nodes)) [
        | inl e ↦ let i = a.itself in let k : times numbers j ns'
            ≡ times numbers (length nodes) ns' = ap (λ (z : ℕ). times numbers z ns') e in omega arith
        | inr apart ↦
            let o = old_top x j apart t in
            let before : 0 < weight x labels ns = was_heavy w in
            elim (a.stays j (s.live x j before o)) [
              | inl child ↦
                  let gone : member x l ≡ false = ap (member x) (sym new_label)
                  ∙ t.ends (length nodes) (ap (λ (o : Node). has_child o j) (node_new nodes n) ∙ child) in
                  absurd (let z = a.lost x j child (from_true (member x (edge_at labels j)) o.has)
                  (from_false (member x l) gone) in omega arith)
              | inr still ↦ still
            ]
      ]
    where
      was_heavy : 0 < weight x labels' ns' → 0 < weight x labels ns
      was_heavy w = elim (cases_lt 0 (weight x labels ns))
          [ inl h ↦ h | inr none ↦ absurd (let z = a.fewer x (omega arith) in omega arith) ]

  not_new : (x j : ℕ) → weight x labels' ns' ≡ 0 → IsTop nodes' labels' x j → j ≢ length nodes
  not_new x j w t e =
      let i = total_in numbers (λ k. has_bit x (edge_at labels' k)) (length nodes) ns' a.itself in
      let k : has_bit x (edge_at labels' j)
      ≡ has_bit x (edge_at labels' (length nodes)) = ap (λ (z : ℕ). has_bit x (edge_at labels' z)) e in
      let h = from_true (member x (edge_at labels' j)) t.has in
      omega arith

  add_dead : (x j k : ℕ) → weight x labels' ns' ≡ 0 → IsTop nodes' labels' x j → IsTop nodes' labels' x k → j ≡ k
  add_dead x j k w t u =
      let p = old_top x j (not_new x j w t) t in
      let q = old_top x k (not_new x k w u) u in
      elim (cases_lt 0 (weight x labels ns)) [
        | inl was ↦
            a.single x j k w (s.live x j was p) (s.live x k was q)
            (from_true (member x (edge_at labels j)) p.has) (from_true (member x (edge_at labels k)) q.has)
        | inr none ↦ s.dead x j k (omega arith) p q
      ]

  pub added : Sound m nodes' labels' ns'
  added = record {
    labelled = (let q = longer in let r = length_push labels l in let e = s.labelled in omega arith);
    fits = (let q = longer in let f = s.fits in omega arith);
    leaf = add_leaf;
    inner = add_inner;
    trim = add_trim;
    meet = add_meet;
    once = a.once;
    small = add_small;
    free = add_free;
    closed = add_closed;
    one_parent = add_one_parent;
    live = add_live;
    dead = add_dead;
  }

-- ---- numbers

one_eq : (j c : ℕ) → j ≡ c → one (numbers.eq j c) ≡ 1
one_eq j c e = rw (eq-eqb j c e) refl

one_ne : (j c : ℕ) → j ≢ c → one (numbers.eq j c) ≡ 0
one_ne j c apart = rw (ne_eqb j c apart) refl

-- the weight with a new node
pub new_weight : (labels : List (List ℕ)) (l : List ℕ) (R ns' : List ℕ) (x : ℕ) → Bag numbers ns' (length labels ∷ R)
    → ((j : ℕ) → 0 < times numbers j R → j < length labels)
    → weight x (labels ++ l ∷ []) ns' ≡ has_bit x l + weight x labels R
new_weight labels l R ns' x is low =
    let t = total_same numbers (λ j. has_bit x (edge_at (labels ++ l ∷ []) j)) ns' (length labels ∷ R) is in
    let e : has_bit x (edge_at (labels ++ l ∷ []) (length labels))
    ≡ has_bit x l = ap (λ (k : List ℕ). has_bit x k) (label_new labels l (length labels) refl) in
    let r = total_agree (λ j. has_bit x (edge_at (labels ++ l ∷ []) j)) (λ j. has_bit x (edge_at labels j)) R
    (λ j h. ap (λ (k : List ℕ). has_bit x k) (label_old labels l j (low j h))) in
    omega arith

-- ---- a trim

module _ (nodes : List Node) (labels : List (List ℕ)) (ns R ns' : List ℕ) (c : ℕ) (l : List ℕ) (m x0 : ℕ)
    (s : Sound m nodes labels ns) (was : Bag numbers ns (c ∷ R)) (is : Bag numbers ns' (length nodes ∷ R))
    (inside : Sub l (edge_at labels c))
    (alone : (x : ℕ) → 0 < has_bit x (edge_at labels c) → has_bit x l ≡ 0 → weight x labels R ≡ 0)
    (some : 0 < has_bit x0 (edge_at labels c)) (gone : has_bit x0 l ≡ 0) where
  trim_in : 0 < times numbers c ns
  trim_in = let w = was c in let o = one_eq c c refl in omega arith

  trim_low : c < length nodes
  trim_low = s.small c trim_in

  trim_rest : (j : ℕ) → 0 < times numbers j R → j < length nodes
  trim_rest j h = s.small j (let w = was j in omega arith)

  trim_weight : (x : ℕ) → weight x (labels ++ l ∷ []) ns' ≡ has_bit x l + weight x labels R
  trim_weight x =
      new_weight labels l R ns' x
      (λ j. is j ∙ ap (λ (n : ℕ). one (numbers.eq j n) + times numbers j R) (sym s.labelled))
      (λ j h. let r = trim_rest j h in let e = s.labelled in omega arith)

  trim_before : (x : ℕ) → weight x labels ns ≡ has_bit x (edge_at labels c) + weight x labels R
  trim_before x = total_same numbers (λ j. has_bit x (edge_at labels j)) ns (c ∷ R) was

  trim_not_new : times numbers (length nodes) ns ≡ 0
  trim_not_new = elim (cases_lt 0 (times numbers (length nodes) ns))
      [ inl h ↦ absurd (let k = s.small (length nodes) h in omega arith) | inr none ↦ omega arith ]

  trim_apart : (j : ℕ) → 0 < times numbers j R → c ≢ j
  trim_apart j h e = let w = was j in let o = one_eq j c (sym e) in let q = s.once j in omega arith

  trim_is : IsTrim (labels ++ l ∷ []) (length nodes) c
  trim_is =
      let en = label_new labels l (length nodes) (sym s.labelled) in
      let ec = label_old labels l c (let e = s.labelled in let w = trim_low in omega arith) in
      record {
        lower = trim_low;
        within = rw (en, ec) (subset_from l (edge_at labels c) inside);
        proper = rw (en, ec) (elim (cases_Bool (subset (edge_at labels c) l))
            [ inl all ↦ absurd (let k = subset_says (edge_at labels c) l all x0 in omega arith) | inr none ↦ none ]);
      }

  pub trim_adds : Adds nodes labels ns (Trim c) l ns'
  trim_adds = record {
    children = λ j h. let e = eqb-true c j h in let t = trim_in in let k : times numbers c ns
        ≡ times numbers j ns = ap (λ (z : ℕ). times numbers z ns) e in omega arith;
    stays = λ j h. elim (cases_eq c j) [
      | inl e ↦ inl (eq-eqb c j e)
      | inr apart ↦ inr
          (let w = was j in let i = is j in let o = one_ne j c (λ e. apart (sym e)) in omega arith)
    ];
    comes = λ j h. elim (cases_eq j (length nodes)) [
      | inl e ↦ inl e
      | inr apart ↦
          let i = is j in let o = one_ne j (length nodes) apart in let w = was j in
          let r : 0 < times numbers j R = omega arith in
          inr (omega arith, ne_eqb c j (trim_apart j r))
    ];
    itself = (let i = is (length nodes) in let o = one_eq (length nodes) (length nodes) refl in omega arith);
    once = λ j. elim (cases_eq j (length nodes)) [
      | inl e ↦
          let i = is j in let w = was j in let n = trim_not_new in
          let k : times numbers j ns ≡ times numbers (length nodes) ns = ap (λ (z : ℕ). times numbers z ns) e in
          omega (arith, one_le (numbers.eq j (length nodes)))
      | inr apart ↦ let i = is j in let w = was j in let o = one_ne j (length nodes) apart in let q = s.once j in omega
          arith
    ];
    no_leaf = λ a e. absurd cc;
    trim = λ d e. (let k : c ≡ d = cc in subst (λ (z : ℕ). IsTrim (labels ++ l ∷ []) (length nodes) z) k trim_is);
    meet = λ g d e. absurd cc;
    lost = λ x j child had none.
        let e = eqb-true c j child in
        let k : has_bit x (edge_at labels c)
        ≡ has_bit x (edge_at labels j) = ap (λ (z : ℕ). has_bit x (edge_at labels z)) e in
        let a = alone x (omega arith) none in
        let w = trim_weight x in omega arith;
    single = λ x j k none in_j in_k has_j has_k. trim_single x j none in_j has_j
        ∙ sym (trim_single x k none in_k has_k);
    fewer = λ x none. let b = trim_before x in let w = trim_weight x in let i = inside x in omega arith;
  }
    where
      trim_single : (x j : ℕ) → weight x (labels ++ l ∷ []) ns' ≡ 0 → 0 < times numbers j ns
          → 0 < has_bit x (edge_at labels j) → j ≡ c
      trim_single x j none in_j has_j =
          elim (cases_eq j c) [
            | inl e ↦ e
            | inr apart ↦
                let w = was j in let o = one_ne j c apart in
                let t = total_in numbers (λ k. has_bit x (edge_at labels k)) j R (omega arith) in
                absurd (let q = trim_weight x in omega arith)
          ]

-- ---- a meet

module _ (nodes : List Node) (labels : List (List ℕ)) (ns R ns' : List ℕ) (g d m : ℕ) (s : Sound m nodes labels ns)
    (was : Bag numbers ns (g ∷ d ∷ R)) (is : Bag numbers ns' (length nodes ∷ R))
    (inside : Sub (edge_at labels d) (edge_at labels g)) where
  abbrev guard : List ℕ
  guard = edge_at labels g

  meet_g : 0 < times numbers g ns
  meet_g = let w = was g in let o = one_eq g g refl in omega arith

  meet_d : 0 < times numbers d ns
  meet_d = let w = was d in let o = one_eq d d refl in omega arith

  meet_apart : g ≢ d
  meet_apart e = let w = was g in let o = one_eq g g refl in let p = one_eq g d e in let q = s.once g in omega arith

  meet_rest : (j : ℕ) → 0 < times numbers j R → j < length nodes
  meet_rest j h = s.small j (let w = was j in omega arith)

  meet_weight : (x : ℕ) → weight x (labels ++ guard ∷ []) ns' ≡ has_bit x guard + weight x labels R
  meet_weight x =
      new_weight labels guard R ns' x
      (λ j. is j ∙ ap (λ (n : ℕ). one (numbers.eq j n) + times numbers j R) (sym s.labelled))
      (λ j h. let r = meet_rest j h in let e = s.labelled in omega arith)

  meet_before : (x : ℕ) → weight x labels ns ≡ has_bit x guard + (has_bit x (edge_at labels d) + weight x labels R)
  meet_before x = total_same numbers (λ j. has_bit x (edge_at labels j)) ns (g ∷ d ∷ R) was

  meet_not_new : times numbers (length nodes) ns ≡ 0
  meet_not_new = elim (cases_lt 0 (times numbers (length nodes) ns))
      [ inl h ↦ absurd (let k = s.small (length nodes) h in omega arith) | inr none ↦ omega arith ]

  meet_is : IsMeet (labels ++ guard ∷ []) (length nodes) g d
  meet_is =
      let e = s.labelled in
      let lg = s.small g meet_g in
      let ld = s.small d meet_d in
      let en = label_new labels guard (length nodes) (sym s.labelled) in
      let eg = label_old labels guard g (omega arith) in
      let ed = label_old labels guard d (omega arith) in
      record {
        guard_lower = lg;
        side_lower = ld;
        apart = meet_apart;
        guard = en
            ∙ sym eg;
        side = rw (ed, eg) (subset_from (edge_at labels d) guard inside);
      }

  either_child : (a b : Bool) → (a || b) ≡ true → (a ≡ true) ⊎ (b ≡ true)
  either_child true b e = inl refl
  either_child false b e = inr e

  no_child : (j : ℕ) → g ≢ j → d ≢ j → (eqb g j || eqb d j) ≡ false
  no_child j p q = rw (ne_eqb g j p, ne_eqb d j q) refl

  meet_children : (j : ℕ) → has_child (Meet g d) j ≡ true → (g ≡ j) ⊎ (d ≡ j)
  meet_children j h = elim (either_child (eqb g j) (eqb d j) h)
      [ inl x ↦ inl (eqb-true g j x) | inr x ↦ inr (eqb-true d j x) ]

  rest_apart : (j : ℕ) → 0 < times numbers j R → (g ≢ j) × (d ≢ j)
  rest_apart j h =
      let w = was j in let q = s.once j in
      (λ e. (let o = one_eq j g (sym e) in omega arith), λ e. (let o = one_eq j d (sym e) in omega arith))

  -- no current node has a variable that weighs nothing with the new one
  meet_none : (x j : ℕ) → weight x (labels ++ guard ∷ []) ns' ≡ 0 → 0 < times numbers j ns
      → has_bit x (edge_at labels j)
      ≡ 0
  meet_none x j none in_j =
      let w = meet_weight x in let b = meet_before x in let i = inside x in
      let t = total_in numbers (λ k. has_bit x (edge_at labels k)) j ns in_j in
      omega arith

  pub meet_adds : Adds nodes labels ns (Meet g d) guard ns'
  meet_adds = record {
    children = λ j h. elim (meet_children j h) [
      | inl e ↦ let t = meet_g in let k : times numbers g ns
          ≡ times numbers j ns = ap (λ (z : ℕ). times numbers z ns) e in omega arith
      | inr e ↦ let t = meet_d in let k : times numbers d ns
          ≡ times numbers j ns = ap (λ (z : ℕ). times numbers z ns) e in omega arith
    ];
    stays = λ j h. elim (cases_eq g j) [
      | inl e ↦ inl (rw (eq-eqb g j e) refl)
      | inr off_g ↦ elim (cases_eq d j) [
        | inl e ↦ inl (rw (eq-eqb d j e) (or-true (eqb g j)))
        | inr off_d ↦
            inr (let w = was j in let i = is j in let o = one_ne j g (λ e. off_g (sym e)) in let p = one_ne j d
            (λ e. off_d (sym e)) in omega arith)
      ]
    ];
    comes = λ j h. elim (cases_eq j (length nodes)) [
      | inl e ↦ inl e
      | inr apart ↦
          let i = is j in let o = one_ne j (length nodes) apart in let w = was j in
          let r : 0 < times numbers j R = omega arith in
          let away = rest_apart j r in
          inr (omega arith, no_child j away.0 away.1)
    ];
    itself = (let i = is (length nodes) in let o = one_eq (length nodes) (length nodes) refl in omega arith);
    once = λ j. elim (cases_eq j (length nodes)) [
      | inl e ↦
          let i = is j in let w = was j in let n = meet_not_new in
          let k : times numbers j ns ≡ times numbers (length nodes) ns = ap (λ (z : ℕ). times numbers z ns) e in
          omega (arith, one_le (numbers.eq j (length nodes)))
      | inr apart ↦ let i = is j in let w = was j in let o = one_ne j (length nodes) apart in let q = s.once j in omega
          arith
    ];
    no_leaf = λ a e. absurd cc;
    trim = λ c e. absurd cc;
    meet = λ h f e. (let k : g ≡ h = cc in let k2 : d ≡ f = cc in
        subst (λ (z : ℕ). IsMeet (labels ++ guard ∷ []) (length nodes) h z) k2
        (subst (λ (z : ℕ). IsMeet (labels ++ guard ∷ []) (length nodes) z d) k meet_is));
    lost = λ x j child had none.
        absurd (elim (meet_children j child) [
          | inl e ↦ let k : has_bit x guard
              ≡ has_bit x (edge_at labels j) = ap (λ (z : ℕ). has_bit x (edge_at labels z)) e in omega arith
          | inr e ↦ let k : has_bit x (edge_at labels d)
              ≡ has_bit x (edge_at labels j) = ap (λ (z : ℕ). has_bit x (edge_at labels z)) e in let i =
              inside x in omega arith
        ]);
    single = λ x j k none in_j in_k has_j has_k. absurd (let z = meet_none x j none in_j in omega arith);
    fewer = λ x none. let b = meet_before x in let w = meet_weight x in omega arith;
  }
