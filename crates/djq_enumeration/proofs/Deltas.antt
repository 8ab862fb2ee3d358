-- Marks along the path, and the menus of marked tuples: they list the answers that are changed.
use Rattle.std.proofs.Common.{◌≡◌, ◌≢◌, ℕ, zero, suc, ◌+◌, ◌-◌, ◌<◌, ◌≤◌, Bool, true, cond, List, length, refl, ap, sym}
use Rattle.std.proofs.Common.{subst, ◌∙◌, inl, inr, arith, false, [], ◌∷◌, ◌++◌}
use Rattle.std.proofs.lemmas.Bool.{cases_Bool, false≢true, eq-eqb, ne_eqb, cases_eq, cases_lt, lt-ltb, ltb-true}
use Rattle.std.proofs.lemmas.Bool.{and_from}
use Rattle.std.specs.Prelude.{◌↔◌, nat_lt}
use Rattle.std.specs.Bool.{OnTrue, OnFalse}
use Rattle.djq_index.specs.Tuple.{pick, same}
use Rattle.djq_index.specs.Entries.{count_of, group_size, marks, Entry, group_of}
use Rattle.djq_index.specs.Table.{Table}
use Rattle.djq_index.proofs.Tuples.{is_same, one_true, cnt_split, length_grp, cnt_once}
use Rattle.djq_index.proofs.Groups.{many_sub}
use Rattle.djq_tree.specs.declared.node.Node.{Node}
use Rattle.djq_tree.specs.declared.node.Node.TheVariants.{Leaf, Trim, Meet}
use Rattle.djq_tree.specs.Labels.{label_at}
use Rattle.djq_tree.specs.Tree.{node_at, has_child, Tree, is_out}
use Rattle.djq_tree.specs.Levels.{is_start}
use Rattle.djq_reduct.specs.Tables.{entries_at, key_at}
use Rattle.djq_reduct.specs.Reducts.{Reducts, IsReducts}
use Rattle.djq_reduct.specs.Answers.{on_node, IsAnswerOf}
use Rattle.djq_reduct.specs.Marks.{path_at, agreeing}
use Rattle.djq_reduct.proofs.Assignments.{within_of, apart_at}
use Rattle.djq_reduct.proofs.Paths.{path_on, path_off}
use Rattle.djq_enumeration.specs.declared.cursor.Cursor.{Cursor}
use Rattle.djq_enumeration.specs.declared.cursor.State.TheVariants.{Start}
use Rattle.djq_enumeration.specs.declared.places.Choice.{Choice}
use Rattle.djq_enumeration.specs.declared.delta.DeltaCursor.{DeltaCursor}
use Rattle.djq_enumeration.specs.Levels.{IsLevel, source, step, group_at}
use Rattle.djq_enumeration.specs.Changed.{IsMarkedAt, IsChanged, entry_node, IsGained}
use Rattle.djq_enumeration.specs.Menus.{has_tuple, TuplesOnce}
use Rattle.djq_enumeration.specs.Walk.{blank, ProjectAlike, IsClear, all_given, walk_given, FitsBy}
use Rattle.djq_enumeration.specs.Told.{changed_at, root_marked, told_so_far, DeltaFits}
use Rattle.djq_enumeration.specs.Listing.{AreSome, ListsTuples}
use Rattle.djq_enumeration.proofs.Cells.{late_out, level_trim, child_out, path_up, path_top}
use Rattle.djq_enumeration.proofs.Menus.{many_of, has_cnt}
use Rattle.djq_enumeration.proofs.States.{IsGood, node_in, meet_child, trim_only, trim_key, key_picks, guard_pick}
use Rattle.djq_enumeration.proofs.States.{node_label, good_meet, root_node, trim_down, agreed, IsUpdated, IsLess}
use Rattle.djq_enumeration.proofs.States.{answer_of}
use Rattle.djq_enumeration.proofs.LevelChoices.{Joins, source_child, step_child, step_else, good_step, joins, group_in}
use Rattle.djq_enumeration.proofs.LevelChoices.{answer_in, good_answer}
use Rattle.djq_enumeration.proofs.ListedAnswers.{IsGuide, blank_wide, good_top, IsEntered, Whole, clear_of, whole_of}
use Rattle.djq_enumeration.proofs.ListedAnswers.{given_some, given_listing, one_left, on_false_both}
use Rattle.djq_enumeration.proofs.MarkedGroups.{part_in, part_once, part_filled, part_marked, in_part, group_few}
use Rattle.djq_enumeration.proofs.MarkedGroups.{marked_group, marked_in_group, group_marked}

-- ---- Marks go up the path with an answer, and down it with the choices.

-- ---- which marked tuples agree, by the kind of node

pub agree_trim : (ts : List Table) (j c : ℕ) (w : List ℕ)
    → agreed (Trim c) j ts w ≡ group_size (key_at ts c) (marks (entries_at ts j)) w
unfolding agreeing
agree_trim ts j c w = refl

agree_guard : (ts : List Table) (g s : ℕ) (w : List ℕ)
    → agreed (Meet g s) g ts w ≡ count_of (marks (entries_at ts g)) w
unfolding agreeing
agree_guard ts g s w = ap
    (λ (b : Bool). cond b (count_of (marks (entries_at ts g)) w)
    (count_of (marks (entries_at ts g)) (pick (key_at ts g) w))) (eq-eqb g g refl)

agree_side : (ts : List Table) (g s : ℕ) (w : List ℕ) → g ≢ s
    → agreed (Meet g s) s ts w ≡ count_of (marks (entries_at ts s)) (pick (key_at ts g) w)
unfolding agreeing
agree_side ts g s w apart = ap
    (λ (b : Bool). cond b (count_of (marks (entries_at ts s)) w)
    (count_of (marks (entries_at ts s)) (pick (key_at ts g) w))) (ne_eqb g s apart)

-- the projection of an answer, or of a state, on the path's node below k is marked
abbrev pub OnPath : Reducts → ℕ → ℕ → List ℕ → Type 0
OnPath r a k s = IsMarkedAt r.tables (path_at r.tree.nodes a k)
    (on_node r.tree (path_at r.tree.nodes a k) s)

-- at a meet the two are one
meet_agrees : (r : Reducts) (k g d j : ℕ) (s : List ℕ) → IsReducts r → k < length r.tree.nodes
    → node_at r.tree.nodes k ≡ Meet g d → has_child (node_at r.tree.nodes k) j ≡ true
    → agreed (node_at r.tree.nodes k) j r.tables (on_node r.tree k s) ≡ count_of
    (marks (entries_at r.tables j)) (on_node r.tree j s)
meet_agrees r k g d j s h within e child =
    let t = r.tree in
    let m = h.family.is_tree.meet k g d e in
    ap (λ (n : Node). agreed n j r.tables (on_node t k s)) e
    ∙ elim (meet_child t k g d j e child) [
      | inl guard ↦
          subst (λ (i : ℕ). agreed (Meet g d) i r.tables (on_node t k s) ≡ count_of
          (marks (entries_at r.tables i)) (on_node t i s)) guard
          (agree_guard r.tables g d (on_node t k s)
          ∙ ap (λ (u : List ℕ). count_of (marks (entries_at r.tables g)) u)
          (node_label t k g s m.guard))
      | inr side ↦
          subst (λ (i : ℕ). agreed (Meet g d) i r.tables (on_node t k s) ≡ count_of
          (marks (entries_at r.tables i)) (on_node t i s)) side
          (agree_side r.tables g d (on_node t k s) m.apart
          ∙ ap (λ (u : List ℕ). count_of (marks (entries_at r.tables d)) u)
          (guard_pick r k g d s h within e))
    ]

-- at a trim there is a marked tuple at least
trim_agrees : (r : Reducts) (k c j : ℕ) (s : List ℕ) → IsReducts r → k < length r.tree.nodes
    → node_at r.tree.nodes k ≡ Trim c → has_child (node_at r.tree.nodes k) j ≡ true
    → IsMarkedAt r.tables j (on_node r.tree j s)
    → 0 < agreed (node_at r.tree.nodes k) j r.tables (on_node r.tree k s)
trim_agrees r k c j s h within e child marked =
    let t = r.tree in
    let same = trim_only t k c j e child in
    let there = subst (λ (i : ℕ). IsMarkedAt r.tables i (on_node t i s)) (sym same) marked in
    let key : pick (key_at r.tables c) (on_node t c s) ≡ on_node t k s =
    ap (λ (ks : List ℕ). pick ks (on_node t c s)) (trim_key r k c h within e)
    ∙ key_picks t c k s
    (within_of (label_at t.labels k) (label_at t.labels c)
    (h.family.is_tree.trim k c e).within) in
    let m = many_of (key_at r.tables c) (marks (entries_at r.tables c)) (on_node t k s)
    (on_node t c s) there key in
    let a : agreed (node_at t.nodes k) j r.tables (on_node t k s) ≡ group_size (key_at r.tables c)
    (marks (entries_at r.tables c)) (on_node t k s) =
    ap (λ (n : Node). agreed n j r.tables (on_node t k s)) e
    ∙ agree_trim r.tables j c (on_node t k s)
    ∙ ap (λ (i : ℕ). group_size (key_at r.tables c) (marks (entries_at r.tables i)) (on_node t k s))
    (sym same) in
    omega arith

agrees_kind : (r : Reducts) (k j : ℕ) (n : Node) (s : List ℕ) → IsReducts r
    → r.tree.second_stage ≤ k → k < length r.tree.nodes → node_at r.tree.nodes k ≡ n
    → has_child (node_at r.tree.nodes k) j ≡ true
    → IsMarkedAt r.tables j (on_node r.tree j s)
    → 0 < agreed (node_at r.tree.nodes k) j r.tables (on_node r.tree k s)
agrees_kind r k j (Leaf b) s h late within e child marked = absurd
    (let low = h.family.is_tree.inner k b within e in let st = h.family.is_tree.stages.0 in omega
    arith)
agrees_kind r k j (Trim c) s h late within e child marked = trim_agrees r k c j s h within e child
    marked
agrees_kind r k j (Meet g d) s h late within e child marked =
    (let a = meet_agrees r k g d j s h within e child in omega arith)

-- ---- up

up_step : (r : Reducts) (a k : ℕ) (b : List ℕ) → IsReducts r → IsUpdated r a → IsAnswerOf r b
    → r.tree.second_stage ≤ k → k < length r.tree.nodes → OnPath r a k b → OnPath r a (suc k) b
up_step r a k b h m answer late within marked =
    let t = r.tree in
    let p = path_at t.nodes a k in
    elim (cases_Bool (has_child (node_at t.nodes k) p)) [
      | inl on ↦
          let live = answer.there k (late_out t k h.family.is_tree late within) in
          let up = (m.above k (on_node t k b) late on live).1
          (agrees_kind r k p (node_at t.nodes k) b h late within refl on marked) in
          subst (λ (i : ℕ). IsMarkedAt r.tables i (on_node t i b)) (sym (path_on t.nodes a k on)) up
      | inr off ↦ subst (λ (i : ℕ). IsMarkedAt r.tables i (on_node t i b))
          (sym (path_off t.nodes a k off)) marked
    ]

up_at : (r : Reducts) (a n k : ℕ) (b : List ℕ) → IsReducts r → IsUpdated r a → IsChanged r a b
    → k ≡ r.tree.second_stage + n → k ≤ length r.tree.nodes → OnPath r a k b
up_at r a zero k b h m changed at high = subst (λ (i : ℕ). OnPath r a i b) (omega arith)
    changed.marked
up_at r a (suc n) zero b h m changed at high = absurd (omega arith)
up_at r a (suc n) (suc k) b h m changed at high = up_step r a k b h m changed.answer (omega arith)
    (omega arith) (up_at r a n k b h m changed (omega arith) (omega arith))

-- an answer that is changed is marked on all of the path
pub marked_up : (r : Reducts) (a k : ℕ) (b : List ℕ) → IsReducts r → IsUpdated r a → IsChanged r a b
    → r.tree.second_stage ≤ k → k ≤ length r.tree.nodes → OnPath r a k b
marked_up r a k b h m changed late high = up_at r a (k - r.tree.second_stage) k b h m changed
    (omega arith) high

-- ---- down

-- a state of a listing of changes
pub record IsMarkedGood (r : Reducts) (a k : ℕ) (s : List ℕ) : Type 0 where
  pub good : IsGood r k s
  pub marked : OnPath r a k s

down_on : (r : Reducts) (a k : ℕ) (s : List ℕ) → IsReducts r → IsUpdated r a
    → r.tree.second_stage ≤ k → k < length r.tree.nodes
    → has_child (node_at r.tree.nodes k) (path_at r.tree.nodes a k) ≡ true
    → IsMarkedGood r a (suc k) s
    → 0 < agreed (node_at r.tree.nodes k) (path_at r.tree.nodes a k) r.tables
    (on_node r.tree k s)
down_on r a k s h m late within on g =
    let marked = subst (λ (i : ℕ). IsMarkedAt r.tables i (on_node r.tree i s))
    (path_on r.tree.nodes a k on) g.marked in
    (m.above k (on_node r.tree k s) late on (node_in r k s h within g.good)).0 marked

pub marked_meet : (r : Reducts) (a k g d : ℕ) (s : List ℕ) → IsReducts r → IsUpdated r a
    → r.tree.second_stage ≤ k → k < length r.tree.nodes → node_at r.tree.nodes k ≡ Meet g d
    → IsMarkedGood r a (suc k) s → IsMarkedGood r a k s
marked_meet r a k g d s h m late within e good = record {
  good = good_meet r k g d s h late within e good.good;
  marked =
      (let t = r.tree in
      let p = path_at t.nodes a k in
      elim (cases_Bool (has_child (node_at t.nodes k) p)) [
        | inl on ↦ (let q = down_on r a k s h m late within on good in let same = meet_agrees r k g
            d p s h within e on in omega arith)
        | inr off ↦ subst (λ (i : ℕ). IsMarkedAt r.tables i (on_node t i s))
            (path_off t.nodes a k off) good.marked
      ]);
}

-- on the path a level's group has marked tuples, and a marked one is chosen
pub group_has_marks : (r : Reducts) (a k : ℕ) (s : List ℕ) → IsReducts r → IsUpdated r a
    → IsLevel r.tree k → has_child (node_at r.tree.nodes k) (path_at r.tree.nodes a k) ≡ true
    → IsMarkedGood r a (suc k) s
    → 0 < group_size (key_at r.tables (source r.tree k)) (marks (entries_at r.tables (source r.tree k)))
    (on_node r.tree k s)
group_has_marks r a k s h m l on good =
    let t = r.tree in
    let q = down_on r a k s h m l.late l.within on good in
    let e : agreed (node_at t.nodes k) (path_at t.nodes a k) r.tables (on_node t k s) ≡ group_size
    (key_at r.tables (source t k)) (marks (entries_at r.tables (source t k))) (on_node t k s) =
    ap (λ (n : Node). agreed n (path_at t.nodes a k) r.tables (on_node t k s))
    (level_trim t k l)
    ∙ agree_trim r.tables (path_at t.nodes a k) (source t k) (on_node t k s)
    ∙ ap (λ (i : ℕ). group_size (key_at r.tables (source t k)) (marks (entries_at r.tables i))
    (on_node t k s)) (sym (trim_only t k (source t k) (path_at t.nodes a k) (level_trim t k l) on))
    in
    omega arith

pub marked_step : (r : Reducts) (a k : ℕ) (s u : List ℕ) → IsReducts r → IsUpdated r a
    → IsMarkedGood r a (suc k) s → (j : Joins r k s u)
    → (has_child (node_at r.tree.nodes k) (path_at r.tree.nodes a k) ≡ true
    → IsMarkedAt r.tables (source r.tree k) u) → IsMarkedGood r a k (step r.tree k s u)
marked_step r a k s u h m good j chosen = record {
  good = good_step r k s u h j good.good;
  marked =
      (let t = r.tree in
      let p = path_at t.nodes a k in
      let n = step t k s u in
      elim (cases_Bool (has_child (node_at t.nodes k) p)) [
        | inl on ↦
            let same : source t k ≡ p = trim_only t k (source t k) p (level_trim t k j.level) on in
            subst (λ (i : ℕ). IsMarkedAt r.tables i (on_node t i n)) same
            (subst (λ (v : List ℕ). IsMarkedAt r.tables (source t k) v)
            (sym (step_child r k s u h j)) (chosen on))
        | inr off ↦
            let st = h.family.is_tree.stages.0 in
            let low = m.leaf in
            let late = j.level.late in
            let up = path_up t a k h.family.is_tree (omega arith) j.level.within in
            let other : p ≡ source t k
            → ⊥ = λ (e : p ≡ source t k). false≢true
            (sym off ∙ ap (λ (i : ℕ). has_child (node_at t.nodes k) i) e
            ∙ source_child t k j.level) in
            let here = subst (λ (i : ℕ). IsMarkedAt r.tables i (on_node t i s))
            (path_off t.nodes a k off) good.marked in
            subst (λ (v : List ℕ). IsMarkedAt r.tables p v)
            (sym (step_else r k up.parent p s u h j up.from up.child other)) here
      ]);
}

-- ---- The marked parts of groups as menus: they list the answers that are changed.

-- ---- a level's menu

changed_in : (r : Reducts) (k : ℕ) (w u : List ℕ) → has_tuple (changed_at r k w) u ≡ true
    → has_tuple (group_at r k w) u ≡ true
unfolding changed_at group_at
changed_in r k w u h = part_in
    (group_of (key_at r.tables (source r.tree k)) (entries_at r.tables (source r.tree k)) w) u h

changed_once : (r : Reducts) (k : ℕ) (w : List ℕ) → IsReducts r → TuplesOnce (changed_at r k w)
unfolding changed_at
changed_once r k w h =
    let es = entries_at r.tables (source r.tree k) in
    part_once (group_of (key_at r.tables (source r.tree k)) es w)
    (λ u. group_few (key_at r.tables (source r.tree k)) es w u
    (apart_at r.tables (source r.tree k) (h.family.sound (source r.tree k))))

changed_filled : (r : Reducts) (k : ℕ) (w : List ℕ) → IsReducts r → IsLevel r.tree k
    → 0 < count_of (entries_at r.tables k) w → changed_at r k w ≡ [] → ⊥
unfolding changed_at
changed_filled r k w h l there =
    let key = key_at r.tables (source r.tree k) in
    let es = entries_at r.tables (source r.tree k) in
    let m = trim_down r k (source r.tree k) w h l.within (level_trim r.tree k l) there in
    part_filled (group_of key es w) (let g = length_grp key es w in omega arith)

-- where the group has marks, a marked tuple is chosen
changed_marked : (r : Reducts) (k : ℕ) (w u : List ℕ)
    → 0 < group_size (key_at r.tables (source r.tree k)) (marks (entries_at r.tables (source r.tree k))) w
    → has_tuple (changed_at r k w) u ≡ true → IsMarkedAt r.tables (source r.tree k) u
unfolding changed_at
changed_marked r k w u some h =
    let key = key_at r.tables (source r.tree k) in
    let es = entries_at r.tables (source r.tree k) in
    marked_in_group key es w u
    (part_marked (group_of key es w) u (let g = marked_group key es w in omega arith) h)

in_changed : (r : Reducts) (k : ℕ) (w u : List ℕ) → has_tuple (group_at r k w) u ≡ true
    → (0 < group_size (key_at r.tables (source r.tree k)) (marks (entries_at r.tables (source r.tree k)))
    w → IsMarkedAt r.tables (source r.tree k) u) → has_tuple (changed_at r k w) u ≡ true
unfolding changed_at group_at
in_changed r k w u h marked =
    let key = key_at r.tables (source r.tree k) in
    let es = entries_at r.tables (source r.tree k) in
    let same_key = (group_in r k w u h).1 in
    in_part (group_of key es w) u (has_cnt (group_of key es w) u h)
    (λ some. group_marked key es w u (marked (let g = marked_group key es w in omega arith))
    (let o = one_true (same (pick key u) w) (is_same (pick key u) w same_key) in omega arith))

no_many : (key : List ℕ) (w : List ℕ) → group_size key [] w ≡ 0
unfolding group_size
no_many key w = refl

no_cnt : (u : List ℕ) → count_of [] u ≡ 0
unfolding count_of
no_cnt u = refl

none_many : (key : List ℕ) (es : List Entry) (w : List ℕ) → ((u : List ℕ) → count_of es u ≡ 0)
    → group_size key es w ≡ 0
none_many key es w h =
    (let s = many_sub key es [] (λ u. let z = h u in let n = no_cnt u in omega arith) w in let n =
    no_many key w in omega arith)

-- ---- they lead to the answers that are changed

changed_picked : (r : Reducts) (a k : ℕ) (s b : List ℕ) → IsReducts r → IsUpdated r a
    → IsLevel r.tree k → IsChanged r a b → ProjectAlike r.tree (suc k) s b
    → has_tuple (changed_at r k (on_node r.tree k s)) (on_node r.tree (source r.tree k) b) ≡ true
changed_picked r a k s b h m l changed alike =
    let t = r.tree in
    let c = source t k in
    let late = l.late in
    let within = l.within in
    in_changed r k (on_node t k s) (on_node t c b) (answer_in r k s b h l changed.answer alike)
    (λ some.
    elim (cases_eq c (path_at t.nodes a k)) [
      | inl on ↦ subst (λ (i : ℕ). IsMarkedAt r.tables i (on_node t i b)) (sym on)
          (marked_up r a k b h m changed late (omega arith))
      | inr off ↦ absurd
          (let z = none_many (key_at r.tables c) (marks (entries_at r.tables c)) (on_node t k s)
          (λ u. m.off k c u late (source_child t k l) off) in omega arith)
    ])

pub changed_guide : (r : Reducts) (a : ℕ) → IsReducts r → IsUpdated r a
    → IsGuide r (changed_at r) (IsMarkedGood r a) (IsChanged r a)
changed_guide r a h m = record {
  group = λ k w u on. changed_in r k w u on;
  once = λ k w. changed_once r k w h;
  good = λ k s good. good.good;
  meet = λ k g d s late within e good. marked_meet r a k g d s h m late within e good;
  filled = λ k s l good. changed_filled r k (on_node r.tree k s) h l
      (node_in r k s h l.within good.good);
  chosen = λ k s u l good on.
      marked_step r a k s u h m good
      (joins r k s u l good.good.wide (changed_in r k (on_node r.tree k s) u on))
      (λ path. changed_marked r k (on_node r.tree k s) u (group_has_marks r a k s h m l path good)
      on);
  ends = λ s good. record { answer = good_answer r s h good.good; marked = good.marked };
  answer = λ b changed. changed.answer;
  picked = λ k s b l good changed alike. changed_picked r a k s b h m l changed alike;
}

-- ---- the root

marked_true : (r : Reducts) → root_marked r ≡ true
    → IsMarkedAt r.tables (length r.tree.nodes - 1) []
unfolding root_marked
marked_true r e = ltb-true 0 (count_of (marks (entries_at r.tables (length r.tree.nodes - 1))) []) e

marked_false : (r : Reducts) → root_marked r ≡ false
    → IsMarkedAt r.tables (length r.tree.nodes - 1) [] → ⊥
unfolding root_marked
marked_false r e there = false≢true
    (sym e ∙ lt-ltb 0 (count_of (marks (entries_at r.tables (length r.tree.nodes - 1))) []) there)

leaf_below : (r : Reducts) (a : ℕ) → IsReducts r → IsUpdated r a → a < length r.tree.nodes
leaf_below r a h m = (let l = m.leaf in let f = h.family.is_tree.fits in omega arith)

top_is : (r : Reducts) (a : ℕ) (s : List ℕ) → IsReducts r → IsUpdated r a → (P : List ℕ → ℕ → Type 0)
    → P [] (length r.tree.nodes - 1)
    → P (on_node r.tree (path_at r.tree.nodes a (length r.tree.nodes)) s)
    (path_at r.tree.nodes a (length r.tree.nodes))
top_is r a s h m P p =
    let top = path_top r.tree a h.family.is_tree (leaf_below r a h m) in
    subst (λ (i : ℕ). P (on_node r.tree i s) i) (sym top)
    (subst (λ (u : List ℕ). P u (length r.tree.nodes - 1))
    (sym (root_node r.tree s h.family.is_tree)) p)

pub changed_entered : (r : Reducts) (a : ℕ) → IsReducts r → IsUpdated r a
    → IsEntered r (IsMarkedGood r a) (IsChanged r a) (root_marked r)
changed_entered r a h m = record {
  good = λ is.
      let root = marked_true r is in
      record {
        good = good_top r (blank r.tree) h (blank_wide r.tree)
            (let s = cnt_split (entries_at r.tables (length r.tree.nodes - 1)) [] in omega arith);
        marked = top_is r a (blank r.tree) h m (λ u i. IsMarkedAt r.tables i u) root;
      };
  none = λ isnt b changed.
      let high = h.family.is_tree.stages.1 in
      let top = path_top r.tree a h.family.is_tree (leaf_below r a h m) in
      let up = marked_up r a (length r.tree.nodes) b h m changed high (omega arith) in
      let root = subst (λ (i : ℕ). IsMarkedAt r.tables i (on_node r.tree i b)) top up in
      marked_false r isnt
      (subst (λ (u : List ℕ). IsMarkedAt r.tables (length r.tree.nodes - 1) u)
      (root_node r.tree b h.family.is_tree) root);
}

pub changed_clear : (r : Reducts) (a : ℕ) → IsReducts r → IsUpdated r a
    → IsClear r (changed_at r) (root_marked r)
changed_clear r a h m = clear_of r (changed_at r) (IsMarkedGood r a) (IsChanged r a) (root_marked r)
    h (changed_guide r a h m) (changed_entered r a h m)

pub changed_answers : (r : Reducts) (a : ℕ) → IsReducts r → IsUpdated r a
    → Whole (IsChanged r a) (all_given r (changed_at r) (root_marked r))
changed_answers r a h m = whole_of r (changed_at r) (IsMarkedGood r a) (IsChanged r a)
    (root_marked r) h (changed_guide r a h m) (changed_entered r a h m)

-- ---- they are those that the update brought, or takes

entry_out : (r : Reducts) (a : ℕ) → IsReducts r → a < r.tree.leaves
    → is_out r.tree.out (entry_node r a) ≡ true
entry_out r a h leaf =
    let t = r.tree in
    let tree = h.family.is_tree in
    let low = tree.stages.0 in
    let high = tree.stages.1 in
    let fits = tree.fits in
    elim (cases_lt t.second_stage (length t.nodes)) [
      | inl within ↦
          (let p = path_up t a t.second_stage tree (omega arith) within in child_out t p.parent
          (entry_node r a) tree p.from p.child)
      | inr all ↦
          let last : t.second_stage ≡ length t.nodes = omega arith in
          let top : entry_node r a ≡ length t.nodes - 1 = ap (λ (n : ℕ). path_at t.nodes a n) last
          ∙ path_top t a tree (omega arith) in
          ap (λ (i : ℕ). is_out t.out i) top ∙ tree.root_out
    ]

projected : (big small : Reducts) (a j : ℕ) (b : List ℕ) → IsLess big small a
    → on_node small.tree j b ≡ on_node big.tree j b
projected big small a j b w = ap (λ (t : Tree). on_node t j b) w.same_tree

-- what is marked there isn't in the others
not_small : (big small : Reducts) (a : ℕ) (b : List ℕ) → IsReducts big → a < big.tree.leaves
    → IsLess big small a → IsChanged big a b → IsAnswerOf small b → ⊥
not_small big small a b h leaf w changed answer =
    let f = entry_node big a in
    let out : is_out small.tree.out f ≡ true = ap (λ (t : Tree). is_out t.out f) w.same_tree
    ∙ entry_out big a h leaf in
    let u = on_node big.tree f b in
    let there = subst (λ (v : List ℕ). 0 < count_of (entries_at small.tables f) v)
    (projected big small a f b w) (answer.there f out) in
    let unmarked = w.unmarked u in
    let marked = changed.marked in
    let split = cnt_split (entries_at big.tables f) u in
    let once = cnt_once (entries_at big.tables f) u (apart_at big.tables f (h.family.sound f)) in
    omega arith

start_of : (t : Tree) (j : ℕ) → j < t.second_stage → is_out t.out j ≡ true → is_start t j ≡ true
start_of t j low out = and_from (is_out t.out j) (nat_lt j t.second_stage) out
    (lt-ltb j t.second_stage low)

-- and where it isn't marked there, it was an answer of the others
still_answer : (big small : Reducts) (a : ℕ) (b : List ℕ) → IsLess big small a → IsAnswerOf big b
    → count_of (marks (entries_at big.tables (entry_node big a)))
    (on_node big.tree (entry_node big a) b) ≡ 0 → IsAnswerOf small b
still_answer big small a b w answer none =
    answer_of small b w.sound (answer.wide ∙ sym (ap (λ (t : Tree). length t.head) w.same_tree))
    (λ j low out.
    let early : j < big.tree.second_stage = subst (λ (t : Tree). j < t.second_stage) w.same_tree
    low in
    let is : is_out big.tree.out j ≡ true = sym (ap (λ (t : Tree). is_out t.out j) w.same_tree)
    ∙ out in
    let there = answer.there j is in
    subst (λ (v : List ℕ). 0 < count_of (entries_at small.tables j) v)
    (sym (projected big small a j b w))
    (elim (cases_eq j (entry_node big a)) [
      | inl here ↦
          subst (λ (i : ℕ). 0 < count_of (entries_at small.tables i) (on_node big.tree i b)) (sym here)
          (let there_here = subst
          (λ (i : ℕ). 0 < count_of (entries_at big.tables i) (on_node big.tree i b)) here there in
          let unmarked = w.unmarked (on_node big.tree (entry_node big a) b) in
          let split = cnt_split (entries_at big.tables (entry_node big a))
          (on_node big.tree (entry_node big a) b) in
          omega arith)
      | inr other ↦
          (let same_count = w.others j (on_node big.tree j b) (start_of big.tree j early is)
          other in omega arith)
    ]))

pub gained_is : (big small : Reducts) (a : ℕ) → IsReducts big → IsUpdated big a
    → IsLess big small a → (b : List ℕ) → IsChanged big a b ↔ IsGained big small b
gained_is big small a h m w b = (
  λ changed. record { is = changed.answer; was_none = not_small big small a b h m.leaf w changed },
  λ gained. record {
    answer = gained.is;
    marked =
        elim (cases_lt 0
        (count_of (marks (entries_at big.tables (entry_node big a)))
        (on_node big.tree (entry_node big a) b))) [
          | inl marked ↦ marked
          | inr unmarked ↦ absurd
              (gained.was_none (still_answer big small a b w gained.is (omega arith)))
        ];
  },
)

-- ---- A cursor over the menus of marked tuples.

pub start_fits : (r : Reducts) (a : ℕ) (cs : List Choice) (x : List ℕ) → cs ≡ []
    → DeltaFits r (record { leaf = a; cursor = record { places = cs; state = Start; answer = x } })
unfolding DeltaFits
start_fits r a cs x e = e

pub start_told : (r : Reducts) (a : ℕ) (cs : List Choice) (x : List ℕ)
    → told_so_far r (record { leaf = a; cursor = record { places = cs; state = Start; answer = x } }) ≡ []
unfolding told_so_far
start_told r a cs x = refl

pub fits_by : (r : Reducts) (d : DeltaCursor) → DeltaFits r d
    → FitsBy r (changed_at r) (root_marked r) (d.cursor).state (d.cursor).places
    (d.cursor).answer
unfolding DeltaFits
fits_by r d f = f

pub by_fits : (r : Reducts) (a : ℕ) (c : Cursor)
    → FitsBy r (changed_at r) (root_marked r) c.state c.places c.answer
    → DeltaFits r (record { leaf = a; cursor = c })
unfolding DeltaFits
by_fits r a c f = f

pub told_some : (r : Reducts) (a b : ℕ) (c : Cursor) → IsReducts r → IsUpdated r a
    → FitsBy r (changed_at r) (root_marked r) c.state c.places c.answer
    → AreSome (IsChanged r a) (told_so_far r (record { leaf = b; cursor = c }))
unfolding told_so_far
told_some r a b c h m f = given_some r (changed_at r) (IsChanged r a) (root_marked r) c.state
    c.places c.answer (changed_answers r a h m) f

pub told_one : (r : Reducts) (old : DeltaCursor) (a : ℕ) (new : Cursor) (x : List ℕ) (b : Bool)
    → OnTrue b (walk_given r (changed_at r) (root_marked r) new.state new.places ≡ walk_given r
    (changed_at r) (root_marked r) (old.cursor).state (old.cursor).places ++ x ∷ [])
    → OnTrue b (told_so_far r (record { leaf = a; cursor = new }) ≡ told_so_far r old ++ x ∷ [])
unfolding told_so_far
told_one r old a new x b h = h

pub told_same : (r : Reducts) (old : DeltaCursor) (a : ℕ) (new : Cursor) (b : Bool)
    → OnFalse b
    (walk_given r (changed_at r) (root_marked r) (old.cursor).state (old.cursor).places ≡ all_given r
    (changed_at r) (root_marked r))
    → OnFalse b (walk_given r (changed_at r) (root_marked r) new.state new.places ≡ all_given r
    (changed_at r) (root_marked r))
    → OnFalse b (told_so_far r (record { leaf = a; cursor = new }) ≡ told_so_far r old)
unfolding told_so_far
told_same r old a new b p q =
    on_false_both b
    (walk_given r (changed_at r) (root_marked r) (old.cursor).state (old.cursor).places)
    (walk_given r (changed_at r) (root_marked r) new.state new.places)
    (all_given r (changed_at r) (root_marked r)) p q

pub told_end : (r : Reducts) (old : DeltaCursor) (a : ℕ) (new : Cursor) (x : List ℕ) (b : Bool)
    → IsReducts r → IsUpdated r a → FitsBy r (changed_at r) (root_marked r) new.state new.places new.answer
    → OnTrue b (walk_given r (changed_at r) (root_marked r) new.state new.places ≡ walk_given r
    (changed_at r) (root_marked r) (old.cursor).state (old.cursor).places ++ x ∷ [])
    → OnFalse b (walk_given r (changed_at r) (root_marked r) (old.cursor).state
    (old.cursor).places ≡ all_given r (changed_at r) (root_marked r)) → (b ≡ false)
    ↔ ListsTuples (IsChanged r a) (told_so_far r old)
unfolding told_so_far
told_end r old a new x true h m f one all = (
  λ e. absurd (false≢true (sym e)),
  λ listing. absurd
      (one_left (IsChanged r a) (told_so_far r old)
      (walk_given r (changed_at r) (root_marked r) new.state new.places) x one
      (given_some r (changed_at r) (IsChanged r a) (root_marked r) new.state new.places
      new.answer (changed_answers r a h m) f) listing),
)
told_end r old a new x false h m f one all = (
  λ e. given_listing (IsChanged r a) (all_given r (changed_at r) (root_marked r)) (told_so_far r old)
      (changed_answers r a h m) all,
  λ listing. refl,
)
