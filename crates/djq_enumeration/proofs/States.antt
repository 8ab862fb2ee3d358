-- States of a listing that can be made an answer, and what updates do to them.
use Rattle.std.proofs.Common.{◌≡◌, ℕ, suc, ◌-◌, ◌*◌, ◌<◌, ◌≤◌, true, List, [], length, ap, ap₂, sym, subst, ◌∙◌, ◌⊎◌}
use Rattle.std.proofs.Common.{inl, inr, arith, zero, ◌+◌, Bool, false, Option, Some, None, is_some, refl, ◌≢◌}
use Rattle.std.specs.Prelude.{◌==◌, ◌||◌, ◌&&◌, nat_lt, MatchOption, ◌↔◌}
use Rattle.std.proofs.lemmas.Bool.{cases_eq, cases_lt, eqb-true, or_cases, false≢true, lt-ltb, cases_Bool, ltb-true}
use Rattle.std.proofs.lemmas.Bool.{and_parts}
use Rattle.djq_hypergraph.specs.Hypergraph.{member, one}
use Rattle.djq_index.specs.declared.place.Place.{Place}
use Rattle.djq_index.specs.Tuple.{pick}
use Rattle.djq_index.specs.Entries.{Entry, count_of, supports_of, group_size, marks, plain}
use Rattle.djq_index.specs.Table.{IsAt, Table}
use Rattle.djq_index.proofs.Tuples.{cnt_supp, supp_none, there, cnt_once, pick_nil, cnt_split}
use Rattle.djq_index.proofs.Groups.{many_even}
use Rattle.djq_tree.specs.declared.node.Node.{Node}
use Rattle.djq_tree.specs.declared.node.Node.TheVariants.{Trim, Meet, Leaf}
use Rattle.djq_tree.specs.Labels.{label_at}
use Rattle.djq_tree.specs.Keys.{key_of}
use Rattle.djq_tree.specs.Tree.{Tree, IsTree, node_at, has_child, is_out}
use Rattle.djq_tree.specs.Levels.{is_start}
use Rattle.djq_tree.specs.Counts.{how_many, IsSmall}
use Rattle.djq_tree.proofs.Paths.{key_of_trim, key_of_guard, trim_child, guard_child, side_child, rising_of}
use Rattle.djq_reduct.specs.Columns.{columns}
use Rattle.djq_reduct.specs.Tables.{entries_at, key_at}
use Rattle.djq_reduct.specs.Reducts.{Reducts, IsReducts}
use Rattle.djq_reduct.specs.Answers.{on_node, IsAnswerOf}
use Rattle.djq_reduct.specs.Marks.{path_at, on_path, IsOff, agreeing, ArePlainAt, AreMarks, IsWithout}
use Rattle.djq_reduct.proofs.Assignments.{trim_law, meet_law, apart_at, key_agree, columns_none, within_of}
use Rattle.djq_reduct.proofs.Paths.{path_low, child_off, off_below}
use Rattle.djq_enumeration.specs.Walk.{ProjectAlike}
use Rattle.djq_enumeration.specs.Changed.{IsMarkedAt, entry_node}
use Rattle.djq_enumeration.proofs.Cells.{Within, cell, cells_same, pick_same, pick_pick, root_or_parent, child_out}
use Rattle.djq_enumeration.proofs.Cells.{out_within, start_off}
use Rattle.djq_enumeration.proofs.Menus.{many_of, both_positive, product_positive}

-- ---- A state of a listing that can be made an answer.

-- ---- projections

pub root_node : (t : Tree) (s : List ℕ) → IsTree t → on_node t (length t.nodes - 1) s ≡ []
unfolding on_node
root_node t s h = ap (λ (l : List ℕ). pick (columns t.head l) s) h.root
    ∙ ap (λ (l : List ℕ). pick l s) (columns_none t.head) ∙ pick_nil s

pub node_same : (t : Tree) (j : ℕ) (s a : List ℕ)
    → ((x : ℕ) → member x (label_at t.labels j) ≡ true → cell t.head s x ≡ cell t.head a x)
    → on_node t j s ≡ on_node t j a
unfolding on_node
node_same t j s a h = pick_same t.head t.head (label_at t.labels j) s a h

pub node_cells : (t : Tree) (j : ℕ) (s a : List ℕ) → on_node t j s ≡ on_node t j a → (x : ℕ)
    → member x (label_at t.labels j) ≡ true → cell t.head s x ≡ cell t.head a x
unfolding on_node
node_cells t j s a e x m = cells_same t.head t.head (label_at t.labels j) s a x e m

pub node_label : (t : Tree) (j k : ℕ) (s : List ℕ) → label_at t.labels j ≡ label_at t.labels k
    → on_node t j s ≡ on_node t k s
unfolding on_node
node_label t j k s e = ap (λ (l : List ℕ). pick (columns t.head l) s) e

-- a node's key picks the projection on a smaller label
pub key_picks : (t : Tree) (c k : ℕ) (s : List ℕ)
    → Within (label_at t.labels k) (label_at t.labels c)
    → pick (columns (label_at t.labels c) (label_at t.labels k)) (on_node t c s) ≡ on_node t k s
unfolding on_node
key_picks t c k s w = pick_pick t.head (label_at t.labels k) (label_at t.labels c) s w

-- ---- tables

-- the projection on a node is in its table
abbrev pub IsIn : Reducts → ℕ → List ℕ → Type 0
IsIn r j s = 0 < count_of (entries_at r.tables j) (on_node r.tree j s)

key_is : (r : Reducts) (c : ℕ) (l : List ℕ) → IsReducts r → c < length r.tree.nodes
    → key_of r.tree c ≡ l → key_at r.tables c ≡ columns (label_at r.tree.labels c) l
key_is r c l h within e = (h.family.keyed c within).key
    ∙ ap (λ (k : List ℕ). columns (label_at r.tree.labels c) k) e

pub trim_key : (r : Reducts) (k c : ℕ) → IsReducts r → k < length r.tree.nodes
    → node_at r.tree.nodes k ≡ Trim c
    → key_at r.tables c ≡ columns (label_at r.tree.labels c) (label_at r.tree.labels k)
trim_key r k c h within e =
    (let low = (h.family.is_tree.trim k c e).lower in key_is r c (label_at r.tree.labels k) h
    (omega arith) (key_of_trim r.tree k c h.family.is_tree e))

pub meet_key : (r : Reducts) (k g d : ℕ) → IsReducts r → k < length r.tree.nodes
    → node_at r.tree.nodes k ≡ Meet g d
    → key_at r.tables g ≡ columns (label_at r.tree.labels g) (label_at r.tree.labels d)
meet_key r k g d h within e =
    (let low = (h.family.is_tree.meet k g d e).guard_lower in key_is r g (label_at r.tree.labels d)
    h (omega arith) (key_of_guard r.tree k g d h.family.is_tree e))

pub supp_cnt : (es : List Entry) (u : List ℕ) → 0 < supports_of es u → 0 < count_of es u
supp_cnt es u h = elim (cases_lt 0 (count_of es u))
    [ inl low ↦ low | inr high ↦ absurd (let z = supp_none es u (omega arith) in omega arith) ]

trim_within : (t : Tree) (k c : ℕ) → IsTree t → node_at t.nodes k ≡ Trim c
    → Within (label_at t.labels k) (label_at t.labels c)
trim_within t k c s e = within_of (label_at t.labels k) (label_at t.labels c) (s.trim k c e).within

-- a trim's tuple has a tuple of the child, and the other way round
pub trim_down : (r : Reducts) (k c : ℕ) (w : List ℕ) → IsReducts r → k < length r.tree.nodes
    → node_at r.tree.nodes k ≡ Trim c → 0 < count_of (entries_at r.tables k) w
    → 0 < group_size (key_at r.tables c) (entries_at r.tables c) w
trim_down r k c w h within e there =
    let law = trim_law (node_at r.tree.nodes k) c r.tables k e (h.reduced.at k (omega arith) within)
    w in
    let s = cnt_supp (entries_at r.tables k) w (h.family.supported k) there in
    omega arith

pub trim_up : (r : Reducts) (k c : ℕ) (s : List ℕ) → IsReducts r → k < length r.tree.nodes
    → node_at r.tree.nodes k ≡ Trim c → IsIn r c s → IsIn r k s
trim_up r k c s h within e there =
    let w = on_node r.tree k s in
    let law = trim_law (node_at r.tree.nodes k) c r.tables k e (h.reduced.at k (omega arith) within)
    w in
    let key : pick (key_at r.tables c) (on_node r.tree c s) ≡ w =
    ap (λ (ks : List ℕ). pick ks (on_node r.tree c s)) (trim_key r k c h within e)
    ∙ key_picks r.tree c k s (trim_within r.tree k c h.family.is_tree e) in
    let m = many_of (key_at r.tables c) (entries_at r.tables c) w (on_node r.tree c s) there key in
    supp_cnt (entries_at r.tables k) w (omega arith)

pub guard_pick : (r : Reducts) (k g d : ℕ) (s : List ℕ) → IsReducts r → k < length r.tree.nodes
    → node_at r.tree.nodes k ≡ Meet g d
    → pick (key_at r.tables g) (on_node r.tree k s) ≡ on_node r.tree d s
guard_pick r k g d s h within e =
    let m = h.family.is_tree.meet k g d e in
    ap (λ (ks : List ℕ). pick ks (on_node r.tree k s)) (meet_key r k g d h within e)
    ∙ ap (λ (u : List ℕ). pick (columns (label_at r.tree.labels g) (label_at r.tree.labels d)) u)
    (node_label r.tree k g s m.guard)
    ∙ key_picks r.tree g d s
    (within_of (label_at r.tree.labels d) (label_at r.tree.labels g) m.side)

meet_product : (r : Reducts) (k g d : ℕ) (s : List ℕ) → IsReducts r → k < length r.tree.nodes
    → node_at r.tree.nodes k ≡ Meet g d
    → supports_of (entries_at r.tables k) (on_node r.tree k s) ≡ count_of (entries_at r.tables g)
    (on_node r.tree g s) * count_of (entries_at r.tables d) (on_node r.tree d s)
meet_product r k g d s h within e =
    meet_law (node_at r.tree.nodes k) g d r.tables k e (h.reduced.at k (omega arith) within)
    (on_node r.tree k s)
    ∙ ap₂ (λ (a b : ℕ). a * b)
    (ap (λ (u : List ℕ). count_of (entries_at r.tables g) u)
    (node_label r.tree k g s (h.family.is_tree.meet k g d e).guard))
    (ap (λ (u : List ℕ). count_of (entries_at r.tables d) u) (guard_pick r k g d s h within e))

-- a meet's projection is in its table exactly where its children's are
pub meet_down : (r : Reducts) (k g d : ℕ) (s : List ℕ) → IsReducts r → k < length r.tree.nodes
    → node_at r.tree.nodes k ≡ Meet g d → IsIn r k s → IsIn r g s × IsIn r d s
meet_down r k g d s h within e there =
    let p = meet_product r k g d s h within e in
    let q = cnt_supp (entries_at r.tables k) (on_node r.tree k s) (h.family.supported k) there in
    both_positive (count_of (entries_at r.tables g) (on_node r.tree g s))
    (count_of (entries_at r.tables d) (on_node r.tree d s)) (omega arith)

pub meet_up : (r : Reducts) (k g d : ℕ) (s : List ℕ) → IsReducts r → k < length r.tree.nodes
    → node_at r.tree.nodes k ≡ Meet g d → IsIn r g s → IsIn r d s → IsIn r k s
meet_up r k g d s h within e guard side =
    let p = meet_product r k g d s h within e in
    let q = product_positive (count_of (entries_at r.tables g) (on_node r.tree g s))
    (count_of (entries_at r.tables d) (on_node r.tree d s)) guard side in
    supp_cnt (entries_at r.tables k) (on_node r.tree k s) (omega arith)

-- ---- good states

-- the root's table has the empty tuple, and the table of each child of a node from k on has the
-- state's projection
pub record IsGood (r : Reducts) (k : ℕ) (s : List ℕ) : Type 0 where
  pub late : r.tree.second_stage ≤ k
  pub wide : length s ≡ length r.tree.head
  pub root : 0 < count_of (entries_at r.tables (length r.tree.nodes - 1)) []
  pub below : (i j : ℕ) → k ≤ i → has_child (node_at r.tree.nodes i) j ≡ true → IsIn r j s

pub root_in : (r : Reducts) (j : ℕ) (s : List ℕ) → IsReducts r
    → 0 < count_of (entries_at r.tables (length r.tree.nodes - 1)) [] → j ≡ length r.tree.nodes - 1
    → IsIn r j s
root_in r j s h root e =
    subst (λ (i : ℕ). IsIn r i s) (sym e)
    (subst (λ (u : List ℕ). 0 < count_of (entries_at r.tables (length r.tree.nodes - 1)) u)
    (sym (root_node r.tree s h.family.is_tree)) root)

-- so the node just below k has it too
pub node_in : (r : Reducts) (k : ℕ) (s : List ℕ) → IsReducts r → k < length r.tree.nodes
    → IsGood r (suc k) s → IsIn r k s
node_in r k s h within good =
    elim (root_or_parent r.tree k h.family.is_tree within) [
      | inl root ↦ root_in r k s h good.root root
      | inr p ↦ (let a = p.above in good.below p.parent k (omega arith) p.child)
    ]

pub node_alike : (t : Tree) (k : ℕ) (s a : List ℕ) → IsTree t → k < length t.nodes
    → ProjectAlike t (suc k) s a → on_node t k s ≡ on_node t k a
node_alike t k s a h within alike =
    elim (root_or_parent t k h within) [
      | inl root ↦ ap (λ (i : ℕ). on_node t i s) root ∙ root_node t s h
          ∙ sym (ap (λ (i : ℕ). on_node t i a) root ∙ root_node t a h)
      | inr p ↦ (let b = p.above in alike.below p.parent k (omega arith) p.child)
    ]

pub meet_child : (t : Tree) (k g d j : ℕ) → node_at t.nodes k ≡ Meet g d
    → has_child (node_at t.nodes k) j ≡ true → (g ≡ j) ⊎ (d ≡ j)
meet_child t k g d j e h =
    let c : ((g == j) || (d == j)) ≡ true = ap (λ (n : Node). has_child n j) (sym e) ∙ h in
    elim (or_cases (g == j) (d == j) c)
    [ inl first ↦ inl (eqb-true g j first) | inr second ↦ inr (eqb-true d j second) ]

pub trim_only : (t : Tree) (k c j : ℕ) → node_at t.nodes k ≡ Trim c
    → has_child (node_at t.nodes k) j ≡ true → c ≡ j
trim_only t k c j e h = eqb-true c j (ap (λ (n : Node). has_child n j) (sym e) ∙ h)

-- down a meet
pub good_meet : (r : Reducts) (k g d : ℕ) (s : List ℕ) → IsReducts r → r.tree.second_stage ≤ k
    → k < length r.tree.nodes → node_at r.tree.nodes k ≡ Meet g d → IsGood r (suc k) s
    → IsGood r k s
good_meet r k g d s h late within e good =
    let down = meet_down r k g d s h within e (node_in r k s h within good) in
    record {
      late = late;
      wide = good.wide;
      root = good.root;
      below = λ i j from child.
          elim (cases_eq i k) [
            | inl here ↦
                elim (meet_child r.tree k g d j e
                (ap (λ (n : ℕ). has_child (node_at r.tree.nodes n) j) (sym here) ∙ child)) [
                  | inl guard ↦ subst (λ (n : ℕ). IsIn r n s) guard down.0
                  | inr side ↦ subst (λ (n : ℕ). IsIn r n s) side down.1
                ]
            | inr above ↦ good.below i j (omega arith) child
          ];
    }

pub alike_meet : (t : Tree) (k g d : ℕ) (s a : List ℕ) → IsTree t → k < length t.nodes
    → node_at t.nodes k ≡ Meet g d → ProjectAlike t (suc k) s a → ProjectAlike t k s a
alike_meet t k g d s a h within e alike =
    let m = h.meet k g d e in
    let same = node_cells t k s a (node_alike t k s a h within alike) in
    let guard : on_node t g s ≡ on_node t g a = node_same t g s a
    (λ x n. same x (ap (λ (l : List ℕ). member x l) m.guard ∙ n)) in
    let side : on_node t d s ≡ on_node t d a =
    node_same t d s a
    (λ x n. same x
    (ap (λ (l : List ℕ). member x l) m.guard
    ∙ within_of (label_at t.labels d) (label_at t.labels g) m.side x n)) in
    record {
      below = λ i j from child.
          elim (cases_eq i k) [
            | inl here ↦
                elim (meet_child t k g d j e
                (ap (λ (n : ℕ). has_child (node_at t.nodes n) j) (sym here) ∙ child)) [
                  | inl first ↦ subst (λ (n : ℕ). on_node t n s ≡ on_node t n a) first guard
                  | inr second ↦ subst (λ (n : ℕ). on_node t n s ≡ on_node t n a) second side
                ]
            | inr above ↦ alike.below i j (omega arith) child
          ];
    }

-- ---- Whether a tuple over the head is an answer.

-- the nodes of `out` that the first stage made have the tuple's projection
abbrev pub Starts : Reducts → List ℕ → ℕ → Type 0
Starts r a n = (j : ℕ) → j < n → is_out r.tree.out j ≡ true → IsIn r j a

up_kind : (r : Reducts) (a : List ℕ) (j : ℕ) (m : Node) → IsReducts r → r.tree.second_stage ≤ j
    → j < length r.tree.nodes → node_at r.tree.nodes j ≡ m
    → ((i : ℕ) → i < j → is_out r.tree.out i ≡ true → IsIn r i a) → IsIn r j a
up_kind r a j (Leaf b) h late within e below = absurd
    (let low = h.family.is_tree.inner j b within e in let st = h.family.is_tree.stages.0 in omega
    arith)
up_kind r a j (Trim c) h late within e below =
    let t = h.family.is_tree in
    trim_up r j c a h within e
    (below c (t.trim j c e).lower (child_out r.tree j c t late (trim_child r.tree.nodes j c e)))
up_kind r a j (Meet g d) h late within e below =
    let t = h.family.is_tree in
    let m = t.meet j g d e in
    meet_up r j g d a h within e
    (below g m.guard_lower (child_out r.tree j g t late (guard_child r.tree.nodes j g d e)))
    (below d m.side_lower (child_out r.tree j d t late (side_child r.tree.nodes j g d e)))

-- so all nodes of `out` have it
up_all : (r : Reducts) (a : List ℕ) (n j : ℕ) → IsReducts r → Starts r a r.tree.second_stage → j < n
    → is_out r.tree.out j ≡ true → IsIn r j a
up_all r a zero j h starts low out = absurd (omega arith)
up_all r a (suc n) j h starts low out =
    elim (cases_lt j r.tree.second_stage) [
      | inl early ↦ starts j early out
      | inr late ↦ up_kind r a j (node_at r.tree.nodes j) h late
          (out_within r.tree j h.family.is_tree out) refl
          (λ i lower is. up_all r a n i h starts (omega arith) is)
    ]

pub answer_of : (r : Reducts) (a : List ℕ) → IsReducts r → length a ≡ length r.tree.head
    → Starts r a r.tree.second_stage → IsAnswerOf r a
answer_of r a h wide starts =
    record { wide = wide; there = λ j out. up_all r a (suc j) j h starts (omega arith) out }

-- ---- how many are looked up

pub how_many_upto : (test : ℕ → Bool) (n m : ℕ) → n ≤ m → how_many test n ≤ how_many test m
how_many_upto test zero zero h = omega arith
how_many_upto test (suc n) zero h = absurd (omega arith)
how_many_upto test n (suc m) h =
    elim (cases_eq n (suc m)) [
      | inl same ↦ (let e = ap (λ (k : ℕ). how_many test k) same in omega arith)
      | inr other ↦ (let r = how_many_upto test n m (omega arith) in omega arith)
    ]

start_is : (t : Tree) (j : ℕ) (b : Bool) → j < t.second_stage → b ≡ is_out t.out j
    → is_start t j ≡ b
start_is t j b low e = ap (λ (c : Bool). c && nat_lt j t.second_stage) (sym e)
    ∙ ap (λ (c : Bool). b && c) (lt-ltb j t.second_stage low) ∙ and_true b
  where
    and_true : (b : Bool) → (b && true) ≡ b
    and_true true = refl
    and_true false = refl

pub one_more : (t : Tree) (j : ℕ) (b : Bool) → j < t.second_stage → b ≡ is_out t.out j
    → how_many (is_start t) (j + 1) ≡ how_many (is_start t) j + one b
one_more t j b low e =
    let next : j + 1 ≡ suc j = omega arith in
    ap (λ (n : ℕ). how_many (is_start t) n) next
    ∙ ap (λ (c : Bool). how_many (is_start t) j + one c) (start_is t j b low e)

-- ---- a lookup

pub looked_up : (r : Reducts) (j : ℕ) (es : List Entry) (u a : List ℕ) (o : Option Place)
    → es ≡ entries_at r.tables j → u ≡ on_node r.tree j a
    → MatchOption o (count_of es u ≡ 0) (λ p. IsAt es p u) → is_some o ≡ true → IsIn r j a
looked_up r j es u a None e is h some = absurd (false≢true some)
looked_up r j es u a (Some p) e is h some =
    subst (λ (v : List ℕ). 0 < count_of (entries_at r.tables j) v) is
    (subst (λ (fs : List Entry). 0 < count_of fs u) e
    (there es h.front h.entry h.back u h.is h.tuple))

pub not_there : (r : Reducts) (j : ℕ) (es : List Entry) (u a : List ℕ) (o : Option Place)
    → es ≡ entries_at r.tables j → u ≡ on_node r.tree j a
    → MatchOption o (count_of es u ≡ 0) (λ p. IsAt es p u) → is_some o ≡ false → IsIn r j a → ⊥
not_there r j es u a None e is h none there =
    let z : count_of (entries_at r.tables j) (on_node r.tree j a) ≡ 0 = sym
    (ap (λ (fs : List Entry). count_of fs (on_node r.tree j a)) e)
    ∙ ap (λ (v : List ℕ). count_of es v) (sym is) ∙ h in
    omega arith
not_there r j es u a (Some p) e is h none there = absurd (false≢true (sym none))

-- ---- in the words of the code, which reads a tree of its own

pub few_all : (t u : Tree) (n j : ℕ) → IsTree t → u ≡ t → IsSmall u → n ≡ u.second_stage → j ≤ n
    → how_many (is_start t) j ≤ t.leaves
few_all t u n j h same small e low =
    let s = subst IsSmall same small in
    let few = s.few_starts in
    let second : n ≡ t.second_stage = e ∙ ap (λ (v : Tree). v.second_stage) same in
    let high = h.stages.1 in
    let upto = how_many_upto (is_start t) j (length t.nodes) (omega arith) in
    omega arith

pub few_more : (t u : Tree) (n j : ℕ) → IsTree t → u ≡ t → IsSmall u → n ≡ u.second_stage → j < n
    → how_many (is_start t) j + one (is_out t.out j) ≤ t.leaves
few_more t u n j h same small e low =
    let second : n ≡ t.second_stage = e ∙ ap (λ (v : Tree). v.second_stage) same in
    let more = one_more t j (is_out t.out j) (omega arith) refl in
    let all = few_all t u n (j + 1) h same small e (omega arith) in
    omega arith

pub answer_upto : (r : Reducts) (u : Tree) (a : List ℕ) (n j : ℕ) → IsReducts r
    → length a ≡ length r.tree.head → u ≡ r.tree → n ≡ u.second_stage → n ≤ j → Starts r a j
    → IsAnswerOf r a
answer_upto r u a n j h wide same e high starts =
    let second : n ≡ r.tree.second_stage = e ∙ ap (λ (v : Tree). v.second_stage) same in
    answer_of r a h wide (λ i low out. starts i (omega arith) out)

-- ---- What the listing goes by: marks on the path above, and the leaves' tuples below.

-- how many marked tuples of the child j agree with a node's tuple w
abbrev pub agreed : Node → ℕ → List Table → List ℕ → ℕ
agreed n j ts w = agreeing n j ts (marks (entries_at ts j)) w

-- what a listing reads of the marks: above the nodes that the first stage made, a tuple of the path
-- is marked exactly where it agrees with a marked one of the path's next lower node, and children
-- off the path have no marks
pub record IsUpdated (r : Reducts) (a : ℕ) : Type 0 where
  pub leaf : a < r.tree.leaves
  pub above : (k : ℕ) (w : List ℕ) → r.tree.second_stage ≤ k
      → has_child (node_at r.tree.nodes k) (path_at r.tree.nodes a k) ≡ true
      → 0 < count_of (entries_at r.tables k) w
      → IsMarkedAt r.tables k w
      ↔ (0 < agreed (node_at r.tree.nodes k) (path_at r.tree.nodes a k) r.tables w)
  pub off : (k j : ℕ) (u : List ℕ) → r.tree.second_stage ≤ k
      → has_child (node_at r.tree.nodes k) j ≡ true → j ≢ path_at r.tree.nodes a k
      → count_of (marks (entries_at r.tables j)) u ≡ 0

pub updated : (r : Reducts) (a : ℕ) → IsReducts r → a < r.tree.leaves
    → AreMarks r.tree r.tables a → IsUpdated r a
unfolding on_path
updated r a h leaf m = record {
  leaf = leaf;
  above = λ k w late on there.
      let agree = m.high k late on in
      (λ marked. agree.up w marked, λ some. agree.down w there some);
  off = λ k j u late child other. m.path.off j (child_off r.tree a k j h.family.is_tree child other)
      u;
}

-- ---- the reducts without the marked tuples of the leaf

-- `small` are the reducts without what is marked. Of the nodes of `out` that the first stage made,
-- only that of the path has other tuples: those that aren't marked
pub record IsLess (big small : Reducts) (a : ℕ) : Type 0 where
  pub sound : IsReducts small
  pub same_tree : small.tree ≡ big.tree
  pub unmarked : (u : List ℕ)
      → count_of (entries_at small.tables (entry_node big a)) u ≡ count_of
      (plain (entries_at big.tables (entry_node big a))) u
  pub others : (j : ℕ) (u : List ℕ) → is_start big.tree j ≡ true → j ≢ entry_node big a
      → count_of (entries_at small.tables j) u ≡ count_of (entries_at big.tables j) u

-- they have the unmarked tuples at the node k
abbrev IsPlain : Reducts → Reducts → ℕ → Type 0
IsPlain big small k = (u : List ℕ) → count_of (entries_at small.tables k) u ≡ count_of
    (plain (entries_at big.tables k)) u

-- what stays by its supports
by_supports : (big small : Reducts) (k : ℕ) (w : List ℕ) → IsReducts big → IsReducts small
    → (0 < supports_of (entries_at small.tables k) w → 0 < count_of (plain (entries_at big.tables k)) w)
    → (0 < count_of (plain (entries_at big.tables k)) w → 0 < supports_of (entries_at small.tables k) w)
    → count_of (entries_at small.tables k) w ≡ count_of (plain (entries_at big.tables k)) w
by_supports big small k w hb hs stays comes =
    let es = entries_at small.tables k in
    let ps = plain (entries_at big.tables k) in
    let split = cnt_split (entries_at big.tables k) w in
    let once = cnt_once (entries_at big.tables k) w (apart_at big.tables k (hb.family.sound k)) in
    let less = cnt_once es w (apart_at small.tables k (hs.family.sound k)) in
    elim (cases_lt 0 (count_of es w)) [
      | inl some ↦ (let p = stays (cnt_supp es w (hs.family.supported k) some) in omega arith)
      | inr none ↦
          elim (cases_lt 0 (count_of ps w)) [
            | inl some ↦ absurd (let p = supp_cnt es w (comes some) in omega arith)
            | inr empty ↦ omega arith
          ]
    ]

-- off the path all are unmarked
off_plain : (r : Reducts) (a k : ℕ) (w : List ℕ) → AreMarks r.tree r.tables a
    → IsOff r.tree.nodes a k
    → count_of (plain (entries_at r.tables k)) w ≡ count_of (entries_at r.tables k) w
off_plain r a k w m off = (let z = m.path.off k off w in let s = cnt_split (entries_at r.tables k) w
    in omega arith)

-- what the supports of a trim, and of a meet, are in the small reducts
small_trim : (big small : Reducts) (k c : ℕ) (w : List ℕ) → IsReducts big → IsReducts small
    → small.tree ≡ big.tree → k < length big.tree.nodes → node_at big.tree.nodes k ≡ Trim c
    → IsPlain big small c
    → supports_of (entries_at small.tables k) w ≡ group_size (key_at big.tables c)
    (plain (entries_at big.tables c)) w
small_trim big small k c w hb hs same within e below =
    let low = (hb.family.is_tree.trim k c e).lower in
    let inside : k < length small.tree.nodes = subst (λ (t : Tree). k < length t.nodes) (sym same)
    within in
    trim_law (node_at small.tree.nodes k) c small.tables k
    (ap (λ (t : Tree). node_at t.nodes k) same ∙ e) (hs.reduced.at k (omega arith) inside) w
    ∙ ap (λ (ks : List ℕ). group_size ks (entries_at small.tables c) w)
    (key_agree big small c hb hs same (omega arith))
    ∙ many_even (key_at big.tables c) (entries_at small.tables c) (plain (entries_at big.tables c))
    below w

small_meet : (big small : Reducts) (k g d : ℕ) (w : List ℕ) → IsReducts big → IsReducts small
    → small.tree ≡ big.tree → k < length big.tree.nodes → node_at big.tree.nodes k ≡ Meet g d
    → IsPlain big small g → IsPlain big small d
    → supports_of (entries_at small.tables k) w ≡ count_of (plain (entries_at big.tables g)) w
    * count_of (plain (entries_at big.tables d)) (pick (key_at big.tables g) w)
small_meet big small k g d w hb hs same within e guard side =
    let low = (hb.family.is_tree.meet k g d e).guard_lower in
    let inside : k < length small.tree.nodes = subst (λ (t : Tree). k < length t.nodes) (sym same)
    within in
    meet_law (node_at small.tree.nodes k) g d small.tables k
    (ap (λ (t : Tree). node_at t.nodes k) same ∙ e) (hs.reduced.at k (omega arith) inside) w
    ∙ ap₂ (λ (x y : ℕ). x * y) (guard w)
    (ap (λ (ks : List ℕ). count_of (entries_at small.tables d) (pick ks w))
    (key_agree big small g hb hs same (omega arith)) ∙ side (pick (key_at big.tables g) w))

-- at a node below the second stage the unmarked tuples are those that its children's make of it
plain_trim : (n : Node) (c : ℕ) (ts : List Table) (k : ℕ) → n ≡ Trim c → ArePlainAt n ts k
    → (w : List ℕ) → (0 < count_of (plain (entries_at ts k)) w)
    ↔ (0 < group_size (key_at ts c) (plain (entries_at ts c)) w)
unfolding ArePlainAt
plain_trim n c ts k e h = subst (λ (m : Node). ArePlainAt m ts k) e h

plain_meet : (n : Node) (g d : ℕ) (ts : List Table) (k : ℕ) → n ≡ Meet g d → ArePlainAt n ts k
    → (w : List ℕ) → count_of (plain (entries_at ts k)) w ≡ count_of (plain (entries_at ts g)) w
    * count_of (plain (entries_at ts d)) (pick (key_at ts g) w)
unfolding ArePlainAt
plain_meet n g d ts k e h = subst (λ (m : Node). ArePlainAt m ts k) e h

-- both as one: a tuple has supports in the small reducts where it is unmarked in the big ones
leaf_plain : (big small : Reducts) (a k b : ℕ) → IsReducts big → AreMarks big.tree big.tables a
    → IsWithout big small a → k < length big.tree.nodes → node_at big.tree.nodes k ≡ Leaf b
    → IsPlain big small k
unfolding on_path
leaf_plain big small a k b hb m w within e u =
    elim (cases_eq k a) [
      | inl here ↦ subst (λ (i : ℕ). count_of (entries_at small.tables i) u ≡ count_of
          (plain (entries_at big.tables i)) u) (sym here) (w.leaf u)
      | inr other ↦
          w.others k u (hb.family.is_tree.inner k b within e) other
          ∙ sym (off_plain big a k u m
          (other, ap (λ (n : Node). has_child n (path_at big.tree.nodes a k)) e))
    ]

trim_plain : (big small : Reducts) (a k c : ℕ) → IsReducts big → IsReducts small
    → AreMarks big.tree big.tables a → small.tree ≡ big.tree → k < big.tree.second_stage
    → k < length big.tree.nodes → node_at big.tree.nodes k ≡ Trim c → k ≢ a
    → IsPlain big small c → IsPlain big small k
trim_plain big small a k c hb hs m same early within e inner below w =
    let t = big.tree in
    let s = small_trim big small k c w hb hs same within e below in
    elim (cases_Bool (on_path t.nodes a k)) [
      | inl on ↦
          let p = plain_trim (node_at t.nodes k) c big.tables k e (m.low k early on) w in
          by_supports big small k w hb hs (λ some. p.1 (omega arith))
          (λ some. let q = p.0 some in omega arith)
      | inr off ↦
          let child = off_below t a k c hb.family.is_tree (trim_child t.nodes k c e) off in
          let z = off_plain big a k w m (inner, off) in
          let f = many_even (key_at big.tables c) (plain (entries_at big.tables c))
          (entries_at big.tables c) (λ u. off_plain big a c u m child) w in
          let l = trim_law (node_at t.nodes k) c big.tables k e
          (hb.reduced.at k (omega arith) within) w in
          by_supports big small k w hb hs
          (λ some. let q = supp_cnt (entries_at big.tables k) w (omega arith) in omega arith)
          (λ some. let q = cnt_supp (entries_at big.tables k) w (hb.family.supported k)
          (omega arith) in omega arith)
    ]

meet_plain : (big small : Reducts) (a k g d : ℕ) → IsReducts big → IsReducts small
    → AreMarks big.tree big.tables a → small.tree ≡ big.tree → k < big.tree.second_stage
    → k < length big.tree.nodes → node_at big.tree.nodes k ≡ Meet g d → k ≢ a
    → IsPlain big small g → IsPlain big small d → IsPlain big small k
meet_plain big small a k g d hb hs m same early within e inner guard side w =
    let t = big.tree in
    let s = small_meet big small k g d w hb hs same within e guard side in
    elim (cases_Bool (on_path t.nodes a k)) [
      | inl on ↦
          let p = plain_meet (node_at t.nodes k) g d big.tables k e (m.low k early on) w in
          let q : supports_of (entries_at small.tables k) w ≡ count_of (plain (entries_at big.tables k)) w = s
          ∙ sym p in
          by_supports big small k w hb hs (λ some. omega arith) (λ some. omega arith)
      | inr off ↦
          let first = off_below t a k g hb.family.is_tree (guard_child t.nodes k g d e) off in
          let second = off_below t a k d hb.family.is_tree (side_child t.nodes k g d e) off in
          let z = off_plain big a k w m (inner, off) in
          let q : supports_of (entries_at small.tables k) w ≡ supports_of (entries_at big.tables k) w = s
          ∙ ap₂ (λ (x y : ℕ). x * y) (off_plain big a g w m first)
          (off_plain big a d (pick (key_at big.tables g) w) m second)
          ∙ sym (meet_law (node_at t.nodes k) g d big.tables k e
          (hb.reduced.at k (omega arith) within) w) in
          by_supports big small k w hb hs
          (λ some. let v = supp_cnt (entries_at big.tables k) w (omega arith) in omega arith)
          (λ some. let v = cnt_supp (entries_at big.tables k) w (hb.family.supported k)
          (omega arith) in omega arith)
    ]

inner_of : (t : Tree) (a k j : ℕ) → IsTree t → a < t.leaves
    → has_child (node_at t.nodes k) j ≡ true → k ≢ a
inner_of t a k j s leaf child same = false≢true
    (ap (λ (n : Node). has_child n j) (sym (s.leaf a leaf))
    ∙ ap (λ (i : ℕ). has_child (node_at t.nodes i) j) (sym same) ∙ child)

node_plain : (big small : Reducts) (a k : ℕ) (n : Node) → IsReducts big → IsReducts small
    → a < big.tree.leaves → AreMarks big.tree big.tables a → IsWithout big small a
    → k < big.tree.second_stage → k < length big.tree.nodes → node_at big.tree.nodes k ≡ n
    → ((i : ℕ) → i < k → IsPlain big small i) → IsPlain big small k
node_plain big small a k (Leaf b) hb hs leaf m w early within e below =
    leaf_plain big small a k b hb m w within e
node_plain big small a k (Trim c) hb hs leaf m w early within e below =
    let s = hb.family.is_tree in
    trim_plain big small a k c hb hs m w.tree early within e
    (inner_of big.tree a k c s leaf (trim_child big.tree.nodes k c e))
    (below c (s.trim k c e).lower)
node_plain big small a k (Meet g d) hb hs leaf m w early within e below =
    let s = hb.family.is_tree in
    meet_plain big small a k g d hb hs m w.tree early within e
    (inner_of big.tree a k g s leaf (guard_child big.tree.nodes k g d e))
    (below g (s.meet k g d e).guard_lower) (below d (s.meet k g d e).side_lower)

plain_below : (big small : Reducts) (a n : ℕ) → IsReducts big → IsReducts small
    → a < big.tree.leaves → AreMarks big.tree big.tables a → IsWithout big small a
    → (k : ℕ) → k < n → k < big.tree.second_stage → IsPlain big small k
plain_below big small a zero hb hs leaf m w k low early = absurd (omega arith)
plain_below big small a (suc n) hb hs leaf m w k low early =
    let st = hb.family.is_tree.stages.1 in
    node_plain big small a k (node_at big.tree.nodes k) hb hs leaf m w early (omega arith) refl
    (λ i less. plain_below big small a n hb hs leaf m w i (omega arith) (omega arith))

start_is_updates : (t : Tree) (j : ℕ) → is_start t j ≡ true
    → (j < t.second_stage) × (is_out t.out j ≡ true)
start_is_updates t j h =
    let b = and_parts (is_out t.out j) (nat_lt j t.second_stage) h in
    (ltb-true j t.second_stage b.1, b.0)

pub less_of : (big small : Reducts) (a : ℕ) → IsReducts big → IsReducts small
    → a < big.tree.leaves → AreMarks big.tree big.tables a → IsWithout big small a
    → IsLess big small a
less_of big small a hb hs leaf m w =
    let t = big.tree in
    let s = hb.family.is_tree in
    let st = s.stages.0 in
    let all = λ (k : ℕ). λ (early : k < t.second_stage). plain_below big small a (suc k) hb hs leaf
    m w k (omega arith) early in
    record {
      sound = hs;
      same_tree = w.tree;
      unmarked = all (entry_node big a)
          (path_low t.nodes a t.second_stage (rising_of t s) (omega arith));
      others = λ j u start other.
          let is = start_is_updates t j start in
          all j is.0 u ∙ off_plain big a j u m (start_off t a j s leaf is.0 is.1 other);
    }
