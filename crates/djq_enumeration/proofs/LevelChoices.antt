-- A tuple is chosen at a level, and found at its place.
use Rattle.std.proofs.Common.{◌≡◌, ℕ, suc, ◌<◌, ◌≤◌, true, List, [], ◌∷◌, length, refl, ap, sym, subst, ◌∙◌, inl, inr}
use Rattle.std.proofs.Common.{arith, zero, Bool, false, cond, drop, ap₂, ◌+◌, ◌++◌}
use Rattle.std.proofs.lemmas.Bool.{cases_Bool, cases_eq, false≢true, leb-true, eq-eqb, ne_eqb}
use Rattle.std.specs.Prelude.{nat_le, slice_index_or}
use Rattle.std.proofs.lemmas.List.{drop_more}
use Rattle.djq_hypergraph.specs.Hypergraph.{member, subset}
use Rattle.djq_index.specs.declared.place.Place.{Place}
use Rattle.djq_index.specs.Tuple.{same, pick, one_if}
use Rattle.djq_index.specs.Entries.{Entry, count_of}
use Rattle.djq_index.specs.Table.{AreWide, ArePlaced, IsAt, IsElsewhere}
use Rattle.djq_index.proofs.Tuples.{same_is, one_false, cnt_cons, there, elsewhere_middle}
use Rattle.djq_tree.specs.declared.node.Node.{Node}
use Rattle.djq_tree.specs.declared.node.Node.TheVariants.{Leaf, Trim, Meet}
use Rattle.djq_tree.specs.Labels.{label_at}
use Rattle.djq_tree.specs.Tree.{Tree, IsTree, node_at, has_child}
use Rattle.djq_tree.specs.Counts.{is_trim, IsSmall}
use Rattle.djq_tree.specs.Levels.{levels, levels_below, level_on}
use Rattle.djq_tree.proofs.Paths.{trim_child}
use Rattle.djq_reduct.specs.Columns.{columns}
use Rattle.djq_reduct.specs.Tables.{table_at, entries_at, key_at, width_at}
use Rattle.djq_reduct.specs.Reducts.{Reducts, IsReducts}
use Rattle.djq_reduct.specs.Answers.{on_node, IsAnswerOf}
use Rattle.djq_reduct.proofs.Assignments.{apart_at, within_of}
use Rattle.djq_enumeration.specs.declared.places.Choice.{Choice}
use Rattle.djq_enumeration.specs.Menus.{has_tuple, TuplesOnce}
use Rattle.djq_enumeration.specs.Levels.{IsLevel, source, group_at, step, IsNextLevel, tuple_at, cells_put}
use Rattle.djq_enumeration.specs.Walk.{ProjectAlike, Menu, chosen, here, reached_level, GoesThrough, Descends}
use Rattle.djq_enumeration.specs.Walk.{IsComplete, ChoicesStand, blank, IsAlive}
use Rattle.djq_enumeration.proofs.Cells.{Within, cell, cells_same, pick_written, written_else, written_there}
use Rattle.djq_enumeration.proofs.Cells.{length_written, tuple_same, root_or_late, child_out, head_within, label_simple}
use Rattle.djq_enumeration.proofs.Cells.{head_simple, covered, kept, level_trim, source_within, written_put}
use Rattle.djq_enumeration.proofs.Menus.{group_says, group_has, group_once, group_filled, length_levels}
use Rattle.djq_enumeration.proofs.States.{IsIn, IsGood, root_in, node_alike, node_same, node_cells, trim_key, trim_only}
use Rattle.djq_enumeration.proofs.States.{trim_down, key_picks}

-- ---- A tuple is chosen at a level.

-- ---- a level's group

pub group_in : (r : Reducts) (k : ℕ) (w u : List ℕ) → has_tuple (group_at r k w) u ≡ true
    → (0 < count_of (entries_at r.tables (source r.tree k)) u)
    × (pick (key_at r.tables (source r.tree k)) u ≡ w)
unfolding group_at
group_in r k w u h = group_says (key_at r.tables (source r.tree k))
    (entries_at r.tables (source r.tree k)) w u h

pub in_group : (r : Reducts) (k : ℕ) (w u : List ℕ)
    → 0 < count_of (entries_at r.tables (source r.tree k)) u
    → pick (key_at r.tables (source r.tree k)) u ≡ w → has_tuple (group_at r k w) u ≡ true
unfolding group_at
in_group r k w u h e = group_has (key_at r.tables (source r.tree k))
    (entries_at r.tables (source r.tree k)) w u h e

pub group_is_once : (r : Reducts) (k : ℕ) (w : List ℕ) → IsReducts r → TuplesOnce (group_at r k w)
unfolding group_at
group_is_once r k w h = group_once (key_at r.tables (source r.tree k))
    (entries_at r.tables (source r.tree k)) w
    (apart_at r.tables (source r.tree k) (h.family.sound (source r.tree k)))

pub group_is_filled : (r : Reducts) (k : ℕ) (w : List ℕ) → IsReducts r → IsLevel r.tree k
    → 0 < count_of (entries_at r.tables k) w → group_at r k w ≡ [] → ⊥
unfolding group_at
group_is_filled r k w h l there =
    group_filled (key_at r.tables (source r.tree k)) (entries_at r.tables (source r.tree k)) w
    (trim_down r k (source r.tree k) w h l.within (level_trim r.tree k l) there)

no_cnt : (u : List ℕ) → count_of [] u ≡ 0
unfolding count_of
no_cnt u = refl

wide_parts : (width : ℕ) (e : Entry) (es : List Entry) → AreWide width (e ∷ es)
    → (length e.tuple ≡ width) × AreWide width es
unfolding AreWide
wide_parts width e es h = (h.0, h.1)

wide_in : (width : ℕ) (es : List Entry) (u : List ℕ) → AreWide width es → 0 < count_of es u
    → length u ≡ width
wide_in width [] u h there = absurd (let n = no_cnt u in omega arith)
wide_in width (e ∷ es) u h there =
    let p = wide_parts width e es h in
    elim (cases_Bool (same e.tuple u)) [
      | inl here ↦ ap (λ (v : List ℕ). length v) (sym (same_is e.tuple u here)) ∙ p.0
      | inr other ↦ wide_in width es u p.1
          (let c = cnt_cons e es u in let o : one_if (same e.tuple u) ≡ 0 = one_false (same e.tuple u)
          other in omega arith)
    ]

table_wide : (r : Reducts) (j : ℕ) (u : List ℕ) → IsReducts r → 0 < count_of (entries_at r.tables j) u
    → length u ≡ width_at r.tables j
unfolding entries_at width_at
table_wide r j u h there = wide_in (table_at r.tables j).width (table_at r.tables j).entries u
    (h.family.sound j).wide there

pub tuple_wide : (r : Reducts) (j : ℕ) (u : List ℕ) → IsReducts r → j < length r.tree.nodes
    → 0 < count_of (entries_at r.tables j) u → length u ≡ length (label_at r.tree.labels j)
tuple_wide r j u h within there = table_wide r j u h there ∙ (h.family.keyed j within).width

-- ---- a step

pub step_wide : (t : Tree) (k : ℕ) (s u : List ℕ) → length (step t k s u) ≡ length s
unfolding step
step_wide t k s u = length_written t.head (label_at t.labels (source t k)) u s

-- what is known of a tuple of a level's group
pub record Joins (r : Reducts) (k : ℕ) (s u : List ℕ) : Type 0 where
  pub level : IsLevel r.tree k
  pub wide : length s ≡ length r.tree.head
  pub there : 0 < count_of (entries_at r.tables (source r.tree k)) u
  pub key : pick (key_at r.tables (source r.tree k)) u ≡ on_node r.tree k s

pub joins : (r : Reducts) (k : ℕ) (s u : List ℕ) → IsLevel r.tree k → length s ≡ length r.tree.head
    → has_tuple (group_at r k (on_node r.tree k s)) u ≡ true → Joins r k s u
joins r k s u l wide h = let g = group_in r k (on_node r.tree k s) u h in
    record { level = l; wide = wide; there = g.0; key = g.1 }

pub source_child : (t : Tree) (k : ℕ) → IsLevel t k
    → has_child (node_at t.nodes k) (source t k) ≡ true
source_child t k l = trim_child t.nodes k (source t k) (level_trim t k l)

source_head : (t : Tree) (k : ℕ) → IsTree t → IsLevel t k
    → Within (label_at t.labels (source t k)) t.head
source_head t k h l = head_within t (source t k) h
    (child_out t k (source t k) h l.late (source_child t k l))

long : (r : Reducts) (k : ℕ) (s u : List ℕ) → IsReducts r → Joins r k s u
    → length u ≡ length (label_at r.tree.labels (source r.tree k))
long r k s u h j = tuple_wide r (source r.tree k) u h
    (source_within r.tree k h.family.is_tree j.level) j.there

-- the child has the tuple as its projection
pub step_child : (r : Reducts) (k : ℕ) (s u : List ℕ) → IsReducts r → Joins r k s u
    → on_node r.tree (source r.tree k) (step r.tree k s u) ≡ u
unfolding on_node step
step_child r k s u h j =
    let t = r.tree in
    let c = source t k in
    pick_written t.head (label_at t.labels c) u s (label_simple t c h.family.is_tree)
    (source_head t k h.family.is_tree j.level) (long r k s u h j) j.wide

step_cell : (r : Reducts) (k x : ℕ) (s u : List ℕ) → IsReducts r → Joins r k s u
    → member x r.tree.head ≡ true
    → (member x (label_at r.tree.labels (source r.tree k)) ≡ true
    → member x (label_at r.tree.labels k) ≡ true)
    → cell r.tree.head (step r.tree k s u) x ≡ cell r.tree.head s x
unfolding on_node step
step_cell r k x s u h j m up =
    let t = r.tree in
    let c = source t k in
    let l = label_at t.labels c in
    let low = source_head t k h.family.is_tree j.level in
    elim (cases_Bool (member x l)) [
      | inl is ↦
          let key : pick (columns l (label_at t.labels k)) u ≡ pick
          (columns t.head (label_at t.labels k)) s =
          ap (λ (ks : List ℕ). pick ks u)
          (sym (trim_key r k c h j.level.within (level_trim t k j.level))) ∙ j.key in
          written_there t.head l u s x (label_simple t c h.family.is_tree) low (long r k s u h j)
          j.wide is
          ∙ cells_same l t.head (label_at t.labels k) u s x key (up is)
      | inr isnt ↦ written_else t.head l u s x low m isnt
    ]

-- other nodes keep theirs
pub step_else : (r : Reducts) (k i n : ℕ) (s u : List ℕ) → IsReducts r → Joins r k s u → k ≤ i
    → has_child (node_at r.tree.nodes i) n ≡ true → (n ≡ source r.tree k → ⊥)
    → on_node r.tree n (step r.tree k s u) ≡ on_node r.tree n s
step_else r k i n s u h j from child other =
    let t = r.tree in
    let tree = h.family.is_tree in
    let late = j.level.late in
    node_same t n (step t k s u) s
    (λ x m. step_cell r k x s u h j
    (head_within t n tree (child_out t i n tree (omega arith) child) x m)
    (λ is. kept t k (source t k) i n x tree (level_trim t k j.level) from child other is m))

not_source : (t : Tree) (k i n : ℕ) → IsTree t → IsLevel t k → k < i
    → has_child (node_at t.nodes i) n ≡ true → n ≡ source t k → ⊥
not_source t k i n h l above child e =
    let same = h.one_parent n i k child
    (ap (λ (c : ℕ). has_child (node_at t.nodes k) c) e ∙ source_child t k l) in
    omega arith

-- what holds of the children of all nodes from the level on
split_child : (t : Tree) (k : ℕ) → IsTree t → IsLevel t k → (P : ℕ → Type 0) → P (source t k)
    → ((i n : ℕ) → k < i → has_child (node_at t.nodes i) n ≡ true → P n)
    → (i n : ℕ) → k ≤ i → has_child (node_at t.nodes i) n ≡ true → P n
split_child t k h l P here above i n from child =
    elim (cases_eq i k) [
      | inl same ↦ subst P
          (trim_only t k (source t k) n (level_trim t k l)
          (ap (λ (m : ℕ). has_child (node_at t.nodes m) n) (sym same) ∙ child)) here
      | inr other ↦ above i n (omega arith) child
    ]

-- the state stays good
pub good_step : (r : Reducts) (k : ℕ) (s u : List ℕ) → IsReducts r → Joins r k s u
    → IsGood r (suc k) s → IsGood r k (step r.tree k s u)
good_step r k s u h j good =
    let t = r.tree in
    let tree = h.family.is_tree in
    record {
      late = j.level.late;
      wide = step_wide t k s u ∙ good.wide;
      root = good.root;
      below =
          split_child t k tree j.level (λ n. IsIn r n (step t k s u))
          (subst (λ (v : List ℕ). 0 < count_of (entries_at r.tables (source t k)) v)
          (sym (step_child r k s u h j)) j.there)
          (λ i n above child. subst (λ (v : List ℕ). 0 < count_of (entries_at r.tables n) v)
          (sym (step_else r k i n s u h j (omega arith) child
          (not_source t k i n tree j.level above child))) (good.below i n (omega arith) child));
    }

-- what is alike behind the step was alike before it
pub alike_back : (r : Reducts) (k : ℕ) (s u a : List ℕ) → IsReducts r → Joins r k s u
    → ProjectAlike r.tree k (step r.tree k s u) a → ProjectAlike r.tree (suc k) s a
alike_back r k s u a h j alike = record {
  below = λ i n from child.
      sym (step_else r k i n s u h j (omega arith) child
      (not_source r.tree k i n h.family.is_tree j.level (omega arith) child))
      ∙ alike.below i n (omega arith) child;
}

-- one tuple makes it alike: its own projection
pub alike_tuple : (r : Reducts) (k : ℕ) (s u a : List ℕ) → IsReducts r → Joins r k s u
    → ProjectAlike r.tree k (step r.tree k s u) a → u ≡ on_node r.tree (source r.tree k) a
alike_tuple r k s u a h j alike = sym (step_child r k s u h j)
    ∙ alike.below k (source r.tree k) (omega arith) (source_child r.tree k j.level)

pub alike_step : (r : Reducts) (k : ℕ) (s u a : List ℕ) → IsReducts r → Joins r k s u
    → u ≡ on_node r.tree (source r.tree k) a → ProjectAlike r.tree (suc k) s a
    → ProjectAlike r.tree k (step r.tree k s u) a
alike_step r k s u a h j e alike =
    let t = r.tree in
    let tree = h.family.is_tree in
    record {
      below =
          split_child t k tree j.level (λ n. on_node t n (step t k s u) ≡ on_node t n a)
          (step_child r k s u h j ∙ e)
          (λ i n above child. step_else r k i n s u h j (omega arith) child
          (not_source t k i n tree j.level above child) ∙ alike.below i n (omega arith) child);
    }

-- where the same tuple is written into both, whatever it is
pub same_step : (t : Tree) (k : ℕ) (s a u : List ℕ) → IsTree t → IsLevel t k
    → length u ≡ length (label_at t.labels (source t k)) → length s ≡ length t.head
    → length a ≡ length t.head → ProjectAlike t (suc k) s a
    → ProjectAlike t k (step t k s u) (step t k a u)
unfolding step
same_step t k s a u h l long wide too alike =
    let c = source t k in
    let m = label_at t.labels c in
    let F = t.head in
    let low = source_head t k h l in
    let late = l.late in
    record {
      below = λ i j from child.
          node_same t j (step t k s u) (step t k a u)
          (λ x on. elim (cases_Bool (member x m)) [
            | inl is ↦ written_there F m u s x (label_simple t c h) low long wide is
                ∙ sym (written_there F m u a x (label_simple t c h) low long too is)
            | inr isnt ↦ (
                let inside = head_within t j h (child_out t i j h (omega arith) child) x on in
                written_else F m u s x low inside isnt
                ∙ (elim (cases_eq i k) [
                  | inl here ↦ absurd (false≢true (sym isnt ∙ ap (λ (n : ℕ). member x (label_at t.labels n))
                      (trim_only t k c j (level_trim t k l)
                      (ap (λ (n : ℕ). has_child (node_at t.nodes n) j) (sym here) ∙ child)) ∙ on))
                  | inr other ↦ node_cells t j s a (alike.below i j (omega arith) child) x on
                ])
                ∙ sym (written_else F m u a x low inside isnt))
          ]);
    }

-- an answer's projection is in the group
pub answer_in : (r : Reducts) (k : ℕ) (s a : List ℕ) → IsReducts r → IsLevel r.tree k
    → IsAnswerOf r a → ProjectAlike r.tree (suc k) s a
    → has_tuple (group_at r k (on_node r.tree k s)) (on_node r.tree (source r.tree k) a) ≡ true
answer_in r k s a h l answer alike =
    let t = r.tree in
    let c = source t k in
    let tree = h.family.is_tree in
    in_group r k (on_node t k s) (on_node t c a)
    (answer.there c (child_out t k c tree l.late (source_child t k l)))
    (ap (λ (ks : List ℕ). pick ks (on_node t c a)) (trim_key r k c h l.within (level_trim t k l))
    ∙ key_picks t c k a
    (within_of (label_at t.labels k) (label_at t.labels c)
    (tree.trim k c (level_trim t k l)).within)
    ∙ sym (node_alike t k s a tree l.within alike))

-- ---- at the end

pub good_answer : (r : Reducts) (s : List ℕ) → IsReducts r → IsGood r r.tree.second_stage s
    → IsAnswerOf r s
good_answer r s h good = record {
  wide = good.wide;
  there = λ j out.
      elim (root_or_late r.tree j h.family.is_tree out) [
        | inl root ↦ root_in r j s h good.root root
        | inr p ↦ good.below p.parent j p.late p.child
      ];
}

pub alike_same : (r : Reducts) (s a : List ℕ) → IsReducts r → length s ≡ length r.tree.head
    → length a ≡ length r.tree.head → ProjectAlike r.tree r.tree.second_stage s a → s ≡ a
alike_same r s a h wide too alike =
    let t = r.tree in
    let tree = h.family.is_tree in
    tuple_same t.head s a (head_simple t tree) wide too
    (λ x m. let c = covered t x tree m in node_cells t c.node s a
    (alike.below c.up.parent c.node c.up.late c.up.child) x c.has)

-- ---- What the walk meets on its way.

-- ---- levels

next_kind : (t : Tree) (n k : ℕ) (m : Node) (ks : List ℕ) → t.second_stage ≤ n → n < length t.nodes
    → node_at t.nodes n ≡ m → level_on n m (levels_below t n) ≡ k ∷ ks
    → (levels_below t n ≡ k ∷ ks → (k < n) × IsLevel t k) → (k < suc n) × IsLevel t k
next_kind t n k (Leaf a) ks late within e h deeper = let d = deeper h in let low = d.0 in
    (omega arith, d.1)
next_kind t n k (Trim c) ks late within e h deeper =
    let same : n ≡ k = cc in (
      omega arith,
      subst (λ (i : ℕ). IsLevel t i) same
          (record { late = late; within = within; trim = ap is_trim e }),
    )
next_kind t n k (Meet g s) ks late within e h deeper = let d = deeper h in let low = d.0 in
    (omega arith, d.1)

next_test : (t : Tree) (n k : ℕ) (b : Bool) (ks : List ℕ) → nat_le t.second_stage n ≡ b
    → n < length t.nodes → cond b (level_on n (node_at t.nodes n) (levels_below t n)) [] ≡ k ∷ ks
    → (levels_below t n ≡ k ∷ ks → (k < n) × IsLevel t k) → (k < suc n) × IsLevel t k
next_test t n k true ks late within h deeper = next_kind t n k (node_at t.nodes n) ks
    (leb-true t.second_stage n late) within refl h deeper
next_test t n k false ks early within h deeper = absurd cc

-- the next level is one, and lower
pub next_is : (t : Tree) (n k : ℕ) (ks : List ℕ) → n ≤ length t.nodes → levels_below t n ≡ k ∷ ks
    → (k < n) × IsLevel t k
next_is t zero k ks high h = absurd cc
next_is t (suc n) k ks high h = next_test t n k (nat_le t.second_stage n) ks refl (omega arith) h
    (λ deeper. next_is t n k ks (omega arith) deeper)

pub reached_within : (r : Reducts) (menu : Menu) (n : ℕ) (s : List ℕ) (cs : List Choice)
    → n ≤ length r.tree.nodes → GoesThrough r menu n s cs → reached_level n cs ≤ n
reached_within r menu n s [] high f = omega arith
reached_within r menu n s (c ∷ cs) high f =
    let low = (next_is r.tree n c.level (levels_below r.tree c.level) high f.0).0 in
    let deeper = reached_within r menu c.level (step r.tree c.level s (chosen r c)) cs (omega arith)
    f.3 in
    omega arith

-- the levels that have no choice yet, as the list of all levels tells them
left_below : (r : Reducts) (menu : Menu) (n : ℕ) (s : List ℕ) (cs : List Choice)
    → GoesThrough r menu n s cs
    → drop (length cs) (levels_below r.tree n) ≡ levels_below r.tree (reached_level n cs)
left_below r menu n s [] f = refl
left_below r menu n s (c ∷ cs) f =
    ap (λ (ks : List ℕ). drop (suc (length cs)) ks) f.0
    ∙ left_below r menu c.level (step r.tree c.level s (chosen r c)) cs f.3

down_kind : (t : Tree) (n k : ℕ) (m : Node) (ks : List ℕ)
    → level_on n m (levels_below t n) ≡ k ∷ ks
    → (levels_below t n ≡ k ∷ ks → levels_below t n ≡ k ∷ levels_below t k)
    → level_on n m (levels_below t n) ≡ k ∷ levels_below t k
down_kind t n k (Leaf a) ks h deeper = deeper h
down_kind t n k (Trim c) ks h deeper =
    let same : n ≡ k = cc in
    ap (λ (i : ℕ). i ∷ levels_below t i) same
down_kind t n k (Meet g s) ks h deeper = deeper h

down_test : (t : Tree) (n k : ℕ) (b : Bool) (ks : List ℕ)
    → cond b (level_on n (node_at t.nodes n) (levels_below t n)) [] ≡ k ∷ ks
    → (levels_below t n ≡ k ∷ ks → levels_below t n ≡ k ∷ levels_below t k)
    → cond b (level_on n (node_at t.nodes n) (levels_below t n)) [] ≡ k ∷ levels_below t k
down_test t n k true ks h deeper = down_kind t n k (node_at t.nodes n) ks h deeper
down_test t n k false ks h deeper = absurd cc

next_down : (t : Tree) (n k : ℕ) (ks : List ℕ) → levels_below t n ≡ k ∷ ks → IsNextLevel t n k
next_down t zero k ks h = absurd cc
next_down t (suc n) k ks h = down_test t n k (nat_le t.second_stage n) ks h
    (λ deeper. next_down t n k ks deeper)

-- the first of them is the next level
pub next_listed : (r : Reducts) (menu : Menu) (cs : List Choice) (ls : List ℕ) (at : ℕ)
    → Descends r menu cs → ls ≡ levels r.tree → at ≡ length cs → at < length ls
    → IsNextLevel r.tree (reached_level (length r.tree.nodes) cs) (slice_index_or ls at 0)
next_listed r menu cs ls at f all is low =
    next_down r.tree (reached_level (length r.tree.nodes) cs) (slice_index_or ls at 0) (drop (at + 1) ls)
    (sym (left_below r menu (length r.tree.nodes) (blank r.tree) cs f)
    ∙ ap₂ (λ (i : ℕ) (ks : List ℕ). drop i ks) (sym is) (sym all)
    ∙ drop_more ls at 0 low)

pub level_listed : (r : Reducts) (menu : Menu) (cs : List Choice) (ls : List ℕ) (at : ℕ)
    → Descends r menu cs → ls ≡ levels r.tree → at ≡ length cs → at < length ls
    → IsLevel r.tree (slice_index_or ls at 0)
level_listed r menu cs ls at f all is low =
    (next_is r.tree (reached_level (length r.tree.nodes) cs) (slice_index_or ls at 0)
    (levels_below r.tree (slice_index_or ls at 0))
    (reached_within r menu (length r.tree.nodes) (blank r.tree) cs (omega arith) f)
    (next_listed r menu cs ls at f all is low)).1

no_more : (ks : List ℕ) → length ks ≡ 0 → ks ≡ []
no_more [] none = refl
no_more (k ∷ ks) none = absurd cc

-- where each level has a choice, none is left
pub all_chosen : (r : Reducts) (menu : Menu) (cs : List Choice) → Descends r menu cs
    → length (levels r.tree) ≤ length cs → IsComplete r cs
all_chosen r menu cs f many =
    let l = length_levels r menu (length r.tree.nodes) (blank r.tree) cs f in
    no_more (levels_below r.tree (reached_level (length r.tree.nodes) cs)) (omega arith)

-- and no level has two
pub few_chosen : (r : Reducts) (menu : Menu) (cs : List Choice) → Descends r menu cs
    → length cs ≤ length (levels r.tree)
few_chosen r menu cs f =
    let l = length_levels r menu (length r.tree.nodes) (blank r.tree) cs f in
    omega arith

pub here_wide : (r : Reducts) (s : List ℕ) (cs : List Choice) → length (here r s cs) ≡ length s
here_wide r s [] = refl
here_wide r s (c ∷ cs) = here_wide r (step r.tree c.level s (chosen r c)) cs
    ∙ step_wide r.tree c.level s (chosen r c)

-- ---- the first tuple of the next level is chosen

-- there is room for it
pub room_for : (r : Reducts) (menu : Menu) (n k : ℕ) (cs : List Choice) (a : List ℕ) → IsReducts r
    → IsSmall r.tree → ChoicesStand r menu cs a → n ≡ reached_level (length r.tree.nodes) cs
    → IsNextLevel r.tree n k → length cs < 16
room_for r menu n k cs a h small st is next =
    let l = length_levels r menu (length r.tree.nodes) (blank r.tree) cs st.follows in
    let e : length (levels_below r.tree (reached_level (length r.tree.nodes) cs)) ≡ suc
    (length (levels_below r.tree k)) = ap (λ (i : ℕ). length (levels_below r.tree i)) (sym is)
    ∙ ap (λ (ks : List ℕ). length ks) next in
    let few = small.few_levels in
    let narrow = h.family.narrow.head in
    omega arith

-- ---- the same in the words of the code, which reads a tree of its own

pub small_in : (t u : Tree) → u ≡ t → IsSmall u → IsSmall t
small_in t u e h = subst IsSmall e h

-- ---- The tuple at a place.

here_at : (e : Entry) (es : List Entry) (p : Place) → e.at ≡ p → tuple_at (e ∷ es) p ≡ e.tuple
unfolding tuple_at
here_at e es p h = ap (λ (b : Bool). cond b e.tuple (tuple_at es p))
    (eq-eqb e.at.slot p.slot (ap (λ (q : Place). q.slot) h))

else_at : (e : Entry) (es : List Entry) (p : Place) → (e.at ≡ p → ⊥)
    → tuple_at (e ∷ es) p ≡ tuple_at es p
unfolding tuple_at
else_at e es p h = ap (λ (b : Bool). cond b e.tuple (tuple_at es p))
    (ne_eqb e.at.slot p.slot (λ k. h (ap (λ (n : ℕ). let q : Place = record { slot = n } in q) k)))

placed_parts : (e : Entry) (es : List Entry) → ArePlaced (e ∷ es) → IsElsewhere e.at es
    × ArePlaced es
unfolding ArePlaced
placed_parts e es h = (h.0, h.1)

middle_at : (xs : List Entry) (e : Entry) (ys : List Entry) → ArePlaced (xs ++ e ∷ ys)
    → tuple_at (xs ++ e ∷ ys) e.at ≡ e.tuple
middle_at [] e ys h = here_at e ys e.at refl
middle_at (x ∷ xs) e ys h =
    let p = placed_parts x (xs ++ e ∷ ys) h in
    else_at x (xs ++ e ∷ ys) e.at (λ same. elsewhere_middle x.at xs e ys p.0 (sym same))
    ∙ middle_at xs e ys p.1

pub tuple_at_is : (es : List Entry) (p : Place) (u : List ℕ) → ArePlaced es → IsAt es p u
    → tuple_at es p ≡ u
tuple_at_is es p u h a =
    ap (λ (fs : List Entry). tuple_at fs p) a.is
    ∙ ap (λ (q : Place). tuple_at (a.front ++ a.entry ∷ a.back) q) (sym a.at)
    ∙ middle_at a.front a.entry a.back (subst ArePlaced a.is h)
    ∙ a.tuple

pub placed_in : (r : Reducts) (j : ℕ) → IsReducts r → ArePlaced (entries_at r.tables j)
unfolding entries_at
placed_in r j h = (h.family.sound j).placed

-- a live place's tuple is in its table
pub chosen_at : (r : Reducts) (c : Choice) (l : IsAlive r c) → IsReducts r
    → chosen r c ≡ l.live.tuple
unfolding chosen
chosen_at r c l h = tuple_at_is (entries_at r.tables (source r.tree c.level)) c.place l.live.tuple
    (placed_in r (source r.tree c.level) h) l.live.is_at

pub chosen_there : (r : Reducts) (c : Choice) → IsAlive r c → IsReducts r
    → 0 < count_of (entries_at r.tables (source r.tree c.level)) (chosen r c)
chosen_there r c l h =
    subst (λ (u : List ℕ). 0 < count_of (entries_at r.tables (source r.tree c.level)) u)
    (sym (chosen_at r c l h))
    (there (entries_at r.tables (source r.tree c.level)) l.live.is_at.front l.live.is_at.entry
    l.live.is_at.back l.live.tuple l.live.is_at.is l.live.is_at.tuple)

pub chosen_wide : (r : Reducts) (c : Choice) → IsAlive r c → IsReducts r
    → length (chosen r c) ≡ length (label_at r.tree.labels (source r.tree c.level))
chosen_wide r c l h = tuple_wide r (source r.tree c.level) (chosen r c) h
    (source_within r.tree c.level h.family.is_tree l.level) (chosen_there r c l h)

-- what is read at the place is what was chosen
pub read_chosen : (r : Reducts) (c : Choice) (es : List Entry) (n : ℕ) (u : List ℕ) → IsAlive r c
    → IsReducts r → es ≡ entries_at r.tables n → n ≡ source r.tree c.level
    → ((v : List ℕ) → IsAt es c.place v → u ≡ v) → u ≡ chosen r c
read_chosen r c es n u l h e at says =
    let same : es ≡ entries_at r.tables (source r.tree c.level) = e
    ∙ ap (λ (i : ℕ). entries_at r.tables i) at in
    says l.live.tuple
    (subst (λ (fs : List Entry). IsAt fs c.place l.live.tuple) (sym same) l.live.is_at)
    ∙ sym (chosen_at r c l h)

pub put_chosen : (r : Reducts) (c : Choice) (cs u old new : List ℕ)
    → cs ≡ columns r.tree.head (label_at r.tree.labels (source r.tree c.level)) → u ≡ chosen r c
    → new ≡ cells_put cs u old → new ≡ step r.tree c.level old (chosen r c)
unfolding step
put_chosen r c cs u old new is same e =
    let l = label_at r.tree.labels (source r.tree c.level) in
    e ∙ ap₂ (λ (ds v : List ℕ). cells_put ds v old) is same
    ∙ sym (written_put r.tree.head l (chosen r c) old)

-- ---- what is read of a tree

pub node_is : (t u : Tree) (k n : ℕ) → u ≡ t → n ≡ source u k → n ≡ source t k
node_is t u k n same e = e ∙ ap (λ (v : Tree). source v k) same

pub columns_are : (t : Tree) (k n : ℕ) (cs : List ℕ) → n ≡ source t k
    → cs ≡ columns t.head (label_at t.labels n)
    → cs ≡ columns t.head (label_at t.labels (source t k))
columns_are t k n cs at is = is
    ∙ ap (λ (i : ℕ). columns t.head (label_at t.labels i)) at

pub source_subset : (t : Tree) (k : ℕ) → IsTree t → IsLevel t k
    → subset (label_at t.labels (source t k)) t.head ≡ true
source_subset t k h l = h.head.within (source t k)
    (child_out t k (source t k) h l.late (source_child t k l))
