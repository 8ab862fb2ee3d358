-- The answers of reducts are what the assignments in the leaves give on the head.
use Rattle.std.proofs.Common.{◌≡◌, ℕ, ◌-◌, ◌≤◌, true, false, List, length, ap, sym, ◌∙◌, inl, inr, ◌*◌, ◌<◌, [], ◌∷◌}
use Rattle.std.proofs.Common.{map, refl, ap₂, arith, zero, suc, ◌+◌, Bool, cond, subst, ◌++◌, length-append}
use Rattle.std.proofs.lemmas.Bool.{cases_Bool, false≢true, le-leb, leb-true, cases_eq, cases_lt}
use Rattle.std.specs.Prelude.{slice_index, Contains, slice_index_or}
use Rattle.std.proofs.lemmas.List.{length-map}
use Rattle.std.proofs.lemmas.List.Elements.{All-append, Contains-append_right, All-contains}
use Rattle.std.proofs.lemmas.List.Kept.{AllPairs-cons}
use Rattle.djq_hypergraph.specs.Hypergraph.{member}
use Rattle.djq_index.specs.Tuple.{pick}
use Rattle.djq_index.specs.Entries.{Entry, count_of, supports_of, group_size}
use Rattle.djq_index.proofs.Tuples.{same_cases, one_same, one_other, cnt_cons, many_cons, cnt_supp}
use Rattle.djq_tree.specs.declared.node.Node.TheVariants.{Trim, Meet, Leaf}
use Rattle.djq_tree.specs.declared.node.Node.{Node}
use Rattle.djq_tree.specs.Labels.{label_at}
use Rattle.djq_tree.specs.Tree.{Tree, IsTree, node_at, has_child, is_out}
use Rattle.djq_tree.proofs.Paths.{trim_child}
use Rattle.djq_tree.proofs.Nodes.{leaf_childless}
use Rattle.djq_union.specs.Answers.{AreDistinctAnswers}
use Rattle.djq_union.proofs.Merges.{at_head, none_contained, all_of}
use Rattle.djq_reduct.specs.Columns.{columns, column}
use Rattle.djq_reduct.specs.Tables.{entries_at, key_at}
use Rattle.djq_reduct.specs.Reducts.{Reducts, IsReducts}
use Rattle.djq_reduct.specs.Answers.{on_node, IsAnswerOf}
use Rattle.djq_reduct.specs.Marks.{AreMarks}
use Rattle.djq_reduct.proofs.Assignments.{trim_law, meet_law, Within, within_of, pick_row, IsSimple, cell_there}
use Rattle.djq_reduct.proofs.Assignments.{simple_of, reading, reading_row, pick_reading, row_same}
use Rattle.djq_enumeration.specs.Listing.{AreSome}
use Rattle.djq_enumeration.specs.Walk.{all_given}
use Rattle.djq_enumeration.specs.Changed.{IsChanged}
use Rattle.djq_enumeration.specs.Told.{changed_at, root_marked}
use Rattle.djq_enumeration.proofs.States.{trim_only, trim_key, meet_key, meet_child, updated}
use Rattle.djq_enumeration.proofs.Menus.{both_positive, product_positive, many_of}
use Rattle.djq_enumeration.proofs.Cells.{root_or_parent, kept, out_within}
use Rattle.djq_enumeration.proofs.LevelChoices.{tuple_wide}
use Rattle.djq_enumeration.proofs.ListedAnswers.{whole_listing}
use Rattle.djq_enumeration.proofs.Deltas.{changed_answers}
use Rattle.djq_propagate.proofs.PathMarks.{present}
use Rattle.djq_binder.proofs.EdgeOrder.{in_rest, in_cons}

-- ---- Variables on the way from a node to the root.

-- the root has no variable
pub root_bare : (t : Tree) (j x : ℕ) → IsTree t → j ≡ length t.nodes - 1
    → member x (label_at t.labels j) ≡ true → ⊥
root_bare t j x s root m = false≢true
    (sym (ap (λ (l : List ℕ). member x l) (ap (λ (i : ℕ). label_at t.labels i) root ∙ s.root)) ∙ m)

-- a node is in `out` exactly where its parent is of the second stage
pub out_late : (t : Tree) (k j : ℕ) → IsTree t → has_child (node_at t.nodes k) j ≡ true
    → is_out t.out j ≡ true → t.second_stage ≤ k
out_late t k j s child out = leb-true t.second_stage k (sym (s.out_split k j child) ∙ out)

pub late_out : (t : Tree) (k j : ℕ) → IsTree t → has_child (node_at t.nodes k) j ≡ true
    → t.second_stage ≤ k → is_out t.out j ≡ true
late_out t k j s child late = s.out_split k j child ∙ le-leb t.second_stage k late

pub no_child : (t : Tree) (k c j : ℕ) → node_at t.nodes k ≡ Trim c → (j ≡ c → ⊥)
    → has_child (node_at t.nodes k) j ≡ false
no_child t k c j e other =
    elim (cases_Bool (has_child (node_at t.nodes k) j)) [
      | inl child ↦ absurd (other (sym (trim_only t k c j e child)))
      | inr none ↦ none
    ]

-- ---- What the tables of a trim and of a meet have to do with their children's.

-- an entry's tuple with these cells at the key's columns
pub record HasPart (key : List ℕ) (es : List Entry) (w : List ℕ) : Type 0 where
  pub tuple : List ℕ
  pub there : 0 < count_of es tuple
  pub part : pick key tuple ≡ w

none_many : (key w : List ℕ) → group_size key [] w ≡ 0
unfolding group_size
none_many key w = refl

pub many_has : (key : List ℕ) (es : List Entry) (w : List ℕ) → 0 < group_size key es w
    → HasPart key es w
many_has key [] w h = absurd (let z = none_many key w in omega arith)
many_has key (e ∷ es) w h =
    elim (same_cases (pick key e.tuple) w) [
      | inl here ↦ record {
        tuple = e.tuple;
        there = (let c = cnt_cons e es e.tuple in let o = one_same e.tuple in omega arith);
        part = here;
      }
      | inr other ↦
          let m = many_cons key e es w in
          let o = one_other (pick key e.tuple) w other in
          let p = many_has key es w (omega arith) in
          record {
            tuple = p.tuple;
            there = (let c = cnt_cons e es p.tuple in let q = p.there in omega arith);
            part = p.part;
          }
    ]

-- ---- products

-- ---- an assignment's rows

-- the row that an assignment gives on a node is in its table
abbrev pub IsIn : Reducts → ℕ → (ℕ → ℕ) → Type 0
IsIn r j a = 0 < count_of (entries_at r.tables j) (map a (label_at r.tree.labels j))

trim_within : (t : Tree) (k c : ℕ) → IsTree t → node_at t.nodes k ≡ Trim c
    → Within (label_at t.labels k) (label_at t.labels c)
trim_within t k c s e = within_of (label_at t.labels k) (label_at t.labels c) (s.trim k c e).within

-- a trim's row comes from one of its child's
pub trim_down : (r : Reducts) (k c : ℕ) (a : ℕ → ℕ) → IsReducts r → k < length r.tree.nodes
    → node_at r.tree.nodes k ≡ Trim c → IsIn r k a
    → HasPart (key_at r.tables c) (entries_at r.tables c) (map a (label_at r.tree.labels k))
trim_down r k c a h within e there =
    let w = map a (label_at r.tree.labels k) in
    let law = trim_law (node_at r.tree.nodes k) c r.tables k e (h.reduced.at k (omega arith) within)
    w in
    let s = cnt_supp (entries_at r.tables k) w (h.family.supported k) there in
    many_has (key_at r.tables c) (entries_at r.tables c) w (omega arith)

pub trim_up : (r : Reducts) (k c : ℕ) (a : ℕ → ℕ) → IsReducts r → k < length r.tree.nodes
    → node_at r.tree.nodes k ≡ Trim c → IsIn r c a → IsIn r k a
trim_up r k c a h within e there =
    let w = map a (label_at r.tree.labels k) in
    let u = map a (label_at r.tree.labels c) in
    let law = trim_law (node_at r.tree.nodes k) c r.tables k e (h.reduced.at k (omega arith) within)
    w in
    let key : pick (key_at r.tables c) u ≡ w =
    ap (λ (ks : List ℕ). pick ks u) (trim_key r k c h within e)
    ∙ pick_row a (label_at r.tree.labels c) (label_at r.tree.labels k)
    (trim_within r.tree k c h.family.is_tree e) in
    let m = many_of (key_at r.tables c) (entries_at r.tables c) w u there key in
    present (entries_at r.tables k) w (omega arith)

guard_pick : (r : Reducts) (k g d : ℕ) (a : ℕ → ℕ) → IsReducts r → k < length r.tree.nodes
    → node_at r.tree.nodes k ≡ Meet g d
    → pick (key_at r.tables g) (map a (label_at r.tree.labels k)) ≡ map a (label_at r.tree.labels d)
guard_pick r k g d a h within e =
    let m = h.family.is_tree.meet k g d e in
    ap (λ (ks : List ℕ). pick ks (map a (label_at r.tree.labels k))) (meet_key r k g d h within e)
    ∙ ap (λ (l : List ℕ). pick (columns (label_at r.tree.labels g) (label_at r.tree.labels d))
    (map a l)) m.guard
    ∙ pick_row a (label_at r.tree.labels g) (label_at r.tree.labels d)
    (within_of (label_at r.tree.labels d) (label_at r.tree.labels g) m.side)

meet_product : (r : Reducts) (k g d : ℕ) (a : ℕ → ℕ) → IsReducts r → k < length r.tree.nodes
    → node_at r.tree.nodes k ≡ Meet g d
    → supports_of (entries_at r.tables k) (map a (label_at r.tree.labels k))
    ≡ count_of (entries_at r.tables g) (map a (label_at r.tree.labels g))
    * count_of (entries_at r.tables d) (map a (label_at r.tree.labels d))
meet_product r k g d a h within e =
    meet_law (node_at r.tree.nodes k) g d r.tables k e (h.reduced.at k (omega arith) within)
    (map a (label_at r.tree.labels k))
    ∙ ap₂ (λ (n m : ℕ). n * m)
    (ap (λ (l : List ℕ). count_of (entries_at r.tables g) (map a l))
    (h.family.is_tree.meet k g d e).guard)
    (ap (λ (u : List ℕ). count_of (entries_at r.tables d) u) (guard_pick r k g d a h within e))

-- a meet's row is there exactly where its children's are
pub meet_down : (r : Reducts) (k g d : ℕ) (a : ℕ → ℕ) → IsReducts r → k < length r.tree.nodes
    → node_at r.tree.nodes k ≡ Meet g d → IsIn r k a → IsIn r g a × IsIn r d a
meet_down r k g d a h within e there =
    let p = meet_product r k g d a h within e in
    let q = cnt_supp (entries_at r.tables k) (map a (label_at r.tree.labels k))
    (h.family.supported k) there in
    both_positive (count_of (entries_at r.tables g) (map a (label_at r.tree.labels g)))
    (count_of (entries_at r.tables d) (map a (label_at r.tree.labels d))) (omega arith)

pub meet_up : (r : Reducts) (k g d : ℕ) (a : ℕ → ℕ) → IsReducts r → k < length r.tree.nodes
    → node_at r.tree.nodes k ≡ Meet g d → IsIn r g a → IsIn r d a → IsIn r k a
meet_up r k g d a h within e guard side =
    let p = meet_product r k g d a h within e in
    let q = product_positive (count_of (entries_at r.tables g) (map a (label_at r.tree.labels g)))
    (count_of (entries_at r.tables d) (map a (label_at r.tree.labels d))) guard side in
    present (entries_at r.tables k) (map a (label_at r.tree.labels k)) (omega arith)

-- ---- The answers of reducts are what the assignments that are in the leaves give on the head.

-- ---- up: what is in the leaves is in every table

up_node : (r : Reducts) (a : ℕ → ℕ) (k : ℕ) (n : Node) → IsReducts r
    → ((j : ℕ) → j < r.tree.leaves → IsIn r j a) → k < length r.tree.nodes
    → node_at r.tree.nodes k ≡ n → ((i : ℕ) → i < k → IsIn r i a) → IsIn r k a
up_node r a k (Leaf b) h leaves within e below = leaves k (h.family.is_tree.inner k b within e)
up_node r a k (Trim c) h leaves within e below =
    trim_up r k c a h within e (below c (h.family.is_tree.trim k c e).lower)
up_node r a k (Meet g d) h leaves within e below =
    let m = h.family.is_tree.meet k g d e in
    meet_up r k g d a h within e (below g m.guard_lower) (below d m.side_lower)

up_below : (r : Reducts) (a : ℕ → ℕ) (n : ℕ) → IsReducts r
    → ((j : ℕ) → j < r.tree.leaves → IsIn r j a)
    → (k : ℕ) → k < n → k < length r.tree.nodes → IsIn r k a
up_below r a zero h leaves k low within = absurd (omega arith)
up_below r a (suc n) h leaves k low within =
    up_node r a k (node_at r.tree.nodes k) h leaves within refl
    (λ i lower. up_below r a n h leaves i (omega arith) (omega arith))

-- ---- down: an answer is extended to the leaves

-- the nodes below k that no node below k has as a child are in their tables
pub record IsSat (r : Reducts) (k : ℕ) (a : ℕ → ℕ) : Type 0 where
  pub current : (j : ℕ) → j < k
      → ((i : ℕ) → has_child (node_at r.tree.nodes i) j ≡ true → k ≤ i) → IsIn r j a

rises_as : (t : Tree) (i k : ℕ) (n : Node) → IsTree t → node_at t.nodes i ≡ n
    → has_child (node_at t.nodes i) k ≡ true → suc k ≤ i
rises_as t i k (Leaf b) s e child =
    absurd (false≢true (ap (λ (n : Node). has_child n k) (sym e) ∙ child))
rises_as t i k (Trim c) s e child =
    (let low = (s.trim i c e).lower in let same = trim_only t i c k e child in omega arith)
rises_as t i k (Meet g d) s e child =
    let m = s.meet i g d e in
    let low = m.guard_lower in
    let lower = m.side_lower in
    elim (meet_child t i g d k e child) [ inl same ↦ omega arith | inr same ↦ omega arith ]

-- the node just below k is one of them
node_in : (r : Reducts) (k : ℕ) (a : ℕ → ℕ) → IsReducts r → IsSat r (suc k) a → IsIn r k a
node_in r k a h sat = sat.current k (omega arith)
    (λ i child. rises_as r.tree i k (node_at r.tree.nodes i) h.family.is_tree refl child)

-- a node that isn't a child of k is free of what is below the number behind it
still_free : (t : Tree) (k i j : ℕ) → has_child (node_at t.nodes k) j ≡ false → k ≤ i
    → has_child (node_at t.nodes i) j ≡ true → suc k ≤ i
still_free t k i j other low c =
    elim (cases_eq i k) [
      | inl same ↦ absurd
          (false≢true
          (sym other ∙ ap (λ (n : ℕ). has_child (node_at t.nodes n) j) (sym same) ∙ c))
      | inr apart ↦ omega arith
    ]

down_meet : (r : Reducts) (k g d : ℕ) (a : ℕ → ℕ) → IsReducts r → k < length r.tree.nodes
    → node_at r.tree.nodes k ≡ Meet g d → IsSat r (suc k) a → IsSat r k a
down_meet r k g d a h within e sat =
    let both = meet_down r k g d a h within e (node_in r k a h sat) in
    record {
      current = λ j low free.
          elim (cases_Bool (has_child (node_at r.tree.nodes k) j)) [
            | inl child ↦
                elim (meet_child r.tree k g d j e child) [
                  | inl guard ↦ subst (λ (n : ℕ). IsIn r n a) guard both.0
                  | inr side ↦ subst (λ (n : ℕ). IsIn r n a) side both.1
                ]
            | inr other ↦ sat.current j (omega arith)
                (λ i c. still_free r.tree k i j other (free i c) c)
          ];
    }

-- the same assignment but for the cells of a tuple over a label
abbrev over : List ℕ → List ℕ → (ℕ → ℕ) → ℕ → ℕ
over l u a x = cond (member x l) (reading l u x) (a x)

over_in : (l u : List ℕ) (a : ℕ → ℕ) (x : ℕ) → member x l ≡ true → over l u a x ≡ reading l u x
over_in l u a x m = ap (λ (b : Bool). cond b (reading l u x) (a x)) m

over_out : (l u : List ℕ) (a : ℕ → ℕ) (x : ℕ) → member x l ≡ false → over l u a x ≡ a x
over_out l u a x m = ap (λ (b : Bool). cond b (reading l u x) (a x)) m

over_row : (l u : List ℕ) (a : ℕ → ℕ) → IsSimple l → length u ≡ length l
    → map (λ x. over l u a x) l ≡ u
over_row l u a h e = row_same (λ x. over l u a x) (λ x. reading l u x) l
    (λ x m. over_in l u a x m) ∙ reading_row l u h e

-- cells that rows share are the same in both assignments
same_cell : (k : List ℕ) (a b : ℕ → ℕ) (x : ℕ) → map a k ≡ map b k → member x k ≡ true → a x ≡ b x
same_cell k a b x e m =
    sym (cell_there a k x m) ∙ ap (λ (u : List ℕ). slice_index u (column k x)) e
    ∙ cell_there b k x m

over_same : (l k u : List ℕ) (a : ℕ → ℕ) (x : ℕ) → pick (columns l k) u ≡ map a k
    → (member x l ≡ true → member x k ≡ true) → over l u a x ≡ a x
over_same l k u a x e h =
    elim (cases_Bool (member x l)) [
      | inl is ↦ over_in l u a x is
          ∙ same_cell k (λ y. reading l u y) a x (sym (pick_reading l k u) ∙ e) (h is)
      | inr isnt ↦ over_out l u a x isnt
    ]

-- an assignment that is in the tables from here on, and gives the same on the head
pub record Extended (r : Reducts) (k : ℕ) (a : ℕ → ℕ) : Type 0 where
  pub assignment : ℕ → ℕ
  pub sat : IsSat r k assignment
  pub same : (x : ℕ) → member x r.tree.head ≡ true → assignment x ≡ a x

-- a trim of the first stage drops no variable of the head
head_kept : (t : Tree) (k c x : ℕ) → IsTree t → node_at t.nodes k ≡ Trim c → k < t.second_stage
    → member x t.head ≡ true → member x (label_at t.labels c) ≡ true
    → member x (label_at t.labels k) ≡ true
head_kept t k c x s e early m has =
    let d = s.head.covered x m in
    elim (root_or_parent t d.0 s (out_within t d.0 s d.1)) [
      | inl root ↦ absurd (root_bare t d.0 x s root d.2)
      | inr p ↦
          let late = out_late t p.parent d.0 s p.child d.1 in
          kept t k c p.parent d.0 x s e (omega arith) p.child
          (λ (same : d.0 ≡ c).
          (let l = out_late t k c s (trim_child t.nodes k c e)
          (ap (λ (n : ℕ). is_out t.out n) (sym same) ∙ d.1) in omega arith))
          has d.2
    ]

-- the rows of other nodes stay
row_stays : (r : Reducts) (k c j : ℕ) (a : ℕ → ℕ) (u : List ℕ) → IsTree r.tree
    → node_at r.tree.nodes k ≡ Trim c → j < length r.tree.nodes → (j ≡ c → ⊥)
    → ((i : ℕ) → has_child (node_at r.tree.nodes i) j ≡ true → k ≤ i)
    → pick (columns (label_at r.tree.labels c) (label_at r.tree.labels k)) u
    ≡ map a (label_at r.tree.labels k)
    → IsIn r j a → IsIn r j (λ x. over (label_at r.tree.labels c) u a x)
row_stays r k c j a u s e within other free key there =
    let l = label_at r.tree.labels c in
    let same : map (λ x. over l u a x) (label_at r.tree.labels j)
    ≡ map a (label_at r.tree.labels j) =
    row_same (λ x. over l u a x) a (label_at r.tree.labels j)
    (λ x m. over_same l (label_at r.tree.labels k) u a x key
    (λ has. elim (root_or_parent r.tree j s within) [
      | inl root ↦ absurd (root_bare r.tree j x s root m)
      | inr p ↦ kept r.tree k c p.parent j x s e (free p.parent p.child) p.child other has m
    ])) in
    subst (λ (v : List ℕ). 0 < count_of (entries_at r.tables j) v) (sym same) there

down_trim : (r : Reducts) (k c : ℕ) (a : ℕ → ℕ) → IsReducts r → k < length r.tree.nodes
    → k < r.tree.second_stage → node_at r.tree.nodes k ≡ Trim c → IsSat r (suc k) a → Extended r k a
down_trim r k c a h within early e sat =
    let s = h.family.is_tree in
    let part = trim_down r k c a h within e (node_in r k a h sat) in
    let l = label_at r.tree.labels c in
    let u = part.tuple in
    let low = (s.trim k c e).lower in
    let key : pick (columns l (label_at r.tree.labels k)) u ≡ map a (label_at r.tree.labels k) =
    ap (λ (ks : List ℕ). pick ks u) (sym (trim_key r k c h within e)) ∙ part.part in
    let row = over_row l u a (simple_of l (s.sets c).rising)
    (tuple_wide r c u h (omega arith) part.there) in
    let here : IsIn r c (λ x. over l u a x) =
    subst (λ (v : List ℕ). 0 < count_of (entries_at r.tables c) v) (sym row) part.there in
    record {
      assignment = λ x. over l u a x;
      sat = record {
        current = λ j lower free.
            elim (cases_eq j c) [
              | inl same ↦ subst (λ (n : ℕ). IsIn r n (λ x. over l u a x)) (sym same) here
              | inr other ↦ row_stays r k c j a u s e (omega arith) other free key
                  (sat.current j (omega arith)
                  (λ i child. still_free r.tree k i j (no_child r.tree k c j e other)
                  (free i child) child))
            ];
      };
      same = λ x m. over_same l (label_at r.tree.labels k) u a x key
          (λ has. head_kept r.tree k c x s e early m has);
    }

down_node : (r : Reducts) (k : ℕ) (n : Node) (a : ℕ → ℕ) → IsReducts r → r.tree.leaves ≤ k
    → k < r.tree.second_stage → node_at r.tree.nodes k ≡ n → IsSat r (suc k) a → Extended r k a
down_node r k (Leaf b) a h from early e sat =
    absurd
    (let st = h.family.is_tree.stages.1 in let low = h.family.is_tree.inner k b (omega arith) e in
    omega arith)
down_node r k (Trim c) a h from early e sat =
    down_trim r k c a h (let st = h.family.is_tree.stages.1 in omega arith) early e sat
down_node r k (Meet g d) a h from early e sat =
    record {
      assignment = a;
      sat = down_meet r k g d a h (let st = h.family.is_tree.stages.1 in omega arith) e sat;
      same = λ x m. refl;
    }

down : (r : Reducts) (n k : ℕ) (a : ℕ → ℕ) → IsReducts r → k ≡ r.tree.leaves + n
    → k ≤ r.tree.second_stage → IsSat r k a → Extended r r.tree.leaves a
down r zero k a h at early sat =
    record {
      assignment = a;
      sat = subst (λ (i : ℕ). IsSat r i a) (omega arith) sat;
      same = λ x m. refl;
    }
down r (suc n) k a h at early sat =
    let i = r.tree.leaves + n in
    let step = down_node r i (node_at r.tree.nodes i) a h (omega arith) (omega arith) refl
    (subst (λ (m : ℕ). IsSat r m a) (omega arith) sat) in
    let rest = down r n i step.assignment h refl (omega arith) step.sat in
    record {
      assignment = rest.assignment;
      sat = rest.sat;
      same = λ x m. rest.same x m ∙ step.same x m;
    }

-- where the second stage begins, the current nodes are in `out`
start_out : (t : Tree) (j : ℕ) → IsTree t → j < t.second_stage
    → ((i : ℕ) → has_child (node_at t.nodes i) j ≡ true → t.second_stage ≤ i)
    → is_out t.out j ≡ true
start_out t j s low free =
    elim (root_or_parent t j s (let st = s.stages.1 in omega arith)) [
      | inl root ↦ ap (λ (i : ℕ). is_out t.out i) root ∙ s.root_out
      | inr p ↦ late_out t p.parent j s p.child (free p.parent p.child)
    ]

projection : (t : Tree) (j : ℕ) (u : List ℕ)
    → on_node t j u ≡ map (λ x. reading t.head u x) (label_at t.labels j)
unfolding on_node
projection t j u = pick_reading t.head (label_at t.labels j) u

projection_row : (t : Tree) (j : ℕ) (a : ℕ → ℕ) → IsTree t → is_out t.out j ≡ true
    → on_node t j (map a t.head) ≡ map a (label_at t.labels j)
unfolding on_node
projection_row t j a s out = pick_row a t.head (label_at t.labels j)
    (within_of (label_at t.labels j) t.head (s.head.within j out))

start : (r : Reducts) (u : List ℕ) → IsReducts r → IsAnswerOf r u
    → IsSat r r.tree.second_stage (λ x. reading r.tree.head u x)
start r u h is = record {
  current = λ j low free.
      subst (λ (v : List ℕ). 0 < count_of (entries_at r.tables j) v) (projection r.tree j u)
      (is.there j (start_out r.tree j h.family.is_tree low free));
}

-- the rows of an assignment are in the leaves, and this is what it gives on the head
pub record IsAssigned (r : Reducts) (u : List ℕ) : Type 0 where
  pub assignment : ℕ → ℕ
  pub leaves : (j : ℕ) → j < r.tree.leaves → IsIn r j assignment
  pub is : u ≡ map assignment r.tree.head

pub assigned_of : (r : Reducts) (u : List ℕ) → IsReducts r → IsAnswerOf r u → IsAssigned r u
assigned_of r u h is =
    let s = h.family.is_tree in
    let st = s.stages.0 in
    let a : ℕ → ℕ = λ x. reading r.tree.head u x in
    let x = down r (r.tree.second_stage - r.tree.leaves) r.tree.second_stage a h (omega arith)
    (omega arith) (start r u h is) in
    record {
      assignment = x.assignment;
      leaves = λ j low. x.sat.current j low
          (λ i child.
          elim (cases_lt i r.tree.leaves) [
            | inl early ↦ absurd (leaf_childless r.tree i j s early child)
            | inr late ↦ late
          ]);
      is = sym
          (row_same x.assignment a r.tree.head x.same
          ∙ reading_row r.tree.head u (simple_of r.tree.head s.head_set.rising) is.wide);
    }

pub answer_of : (r : Reducts) (a : ℕ → ℕ) → IsReducts r
    → ((j : ℕ) → j < r.tree.leaves → IsIn r j a) → IsAnswerOf r (map a r.tree.head)
answer_of r a h leaves = record {
  wide = length-map r.tree.head a;
  there = λ j out.
      let within = out_within r.tree j h.family.is_tree out in
      subst (λ (v : List ℕ). 0 < count_of (entries_at r.tables j) v)
      (sym (projection_row r.tree j a h.family.is_tree out))
      (up_below r a (suc j) h leaves j (omega arith) within);
}

-- ---- Lists without repeats, and what they contain.

rest_differ : {A : Type 0} (x : A) (xs : List A) → AreDistinctAnswers (x ∷ xs) → AreDistinctAnswers xs
rest_differ x xs d i j e a b = d (suc i) (suc j) e (omega arith) (omega arith)

first_differs : {A : Type 0} (x y : A) (xs : List A) → AreDistinctAnswers (x ∷ xs) → Contains xs y
    → x ≡ y → ⊥
first_differs x y xs d c e =
    d zero (suc c.0) y (omega arith) (let low = c.1 in omega arith) (e ∙ sym c.2)

-- what is put behind a list without repeats wasn't in it
pub late_differs : {A : Type 0} (x : A) (xs ys : List A) → AreDistinctAnswers (xs ++ ys) → Contains xs x
    → Contains ys x → ⊥
late_differs x [] ys d c k = none_contained x c
late_differs x (y ∷ xs) ys d c k =
    elim (in_cons y x xs c) [
      | inl here ↦ first_differs y x (xs ++ ys) d (Contains-append_right xs ys x k) here
      | inr there ↦ late_differs x xs ys (rest_differ y (xs ++ ys) d) there k
    ]

-- ---- no more than there are

without : {A : Type 0} → List A → ℕ → List A
without [] k = []
without (y ∷ ys) zero = ys
without (y ∷ ys) (suc k) = y ∷ without ys k

one_fewer : {A : Type 0} (ys : List A) (k : ℕ) → k < length ys
    → suc (length (without ys k)) ≡ length ys
unfolding without
one_fewer [] k low = absurd (omega arith)
one_fewer (y ∷ ys) zero low = refl
one_fewer (y ∷ ys) (suc k) low = ap suc (one_fewer ys k (omega arith))

others_stay : {A : Type 0} (ys : List A) (k : ℕ) (x z : A) → slice_index_or ys k x ≡ x
    → k < length ys → Contains ys z → (x ≡ z → ⊥) → Contains (without ys k) z
unfolding without
others_stay [] k x z e low c other = c
others_stay (y ∷ ys) zero x z e low c other =
    elim (in_cons y z ys c) [
      | inl here ↦ absurd (other (sym e ∙ here))
      | inr there ↦ there
    ]
others_stay (y ∷ ys) (suc k) x z e low c other =
    elim (in_cons y z ys c) [
      | inl here ↦ (0, omega arith, here)
      | inr there ↦ in_rest y z (without ys k) (others_stay ys k x z e (omega arith) there other)
    ]

-- A list without repeats is no longer than one that contains all of it.
pub few : {A : Type 0} (xs ys : List A) → AreDistinctAnswers xs
    → ((x : A) → Contains xs x → Contains ys x) → length xs ≤ length ys
few [] ys d h = omega arith
few (x ∷ xs) ys d h =
    let c = h x (at_head x xs) in
    let rest = few xs (without ys c.0) (rest_differ x xs d)
    (λ z m. others_stay ys c.0 x z c.2 c.1 (h z (in_rest x z xs m))
    (λ e. first_differs x z xs d m e)) in
    let long = one_fewer ys c.0 c.1 in
    omega arith

-- ---- one behind the other

contains_as : {A : Type 0} (ys : List A) (y x : A) → y ≡ x → Contains ys y → Contains ys x
contains_as ys y x e m = subst (λ z. Contains ys z) e m

pub differ_both : {A : Type 0} (xs ys : List A) → AreDistinctAnswers xs → AreDistinctAnswers ys
    → ((x : A) → Contains xs x → Contains ys x → ⊥) → AreDistinctAnswers (xs ++ ys)
differ_both [] ys d e apart = e
differ_both (x ∷ xs) ys d e apart =
    AllPairs-cons (λ s t. s ≡ t → ⊥) x (xs ++ ys)
    (All-append (λ t. x ≡ t → ⊥) xs ys
    (all_of (λ t. x ≡ t → ⊥) xs (λ y m same. first_differs x y xs d m same))
    (all_of (λ t. x ≡ t → ⊥) ys (λ y m same. apart x (at_head x xs)
    (contains_as ys y x (sym same) m))))
    (differ_both xs ys (rest_differ x xs d) e (λ z m k. apart z (in_rest x z xs m) k))

-- ---- images

pub in_image : {A B : Type 0} (f : A → B) (xs : List A) (x : A) → Contains xs x
    → Contains (map f xs) (f x)
in_image f [] x c = absurd (none_contained x c)
in_image f (y ∷ xs) x c =
    elim (in_cons y x xs c) [
      | inl here ↦ (0, omega arith, ap f here)
      | inr there ↦ in_rest (f y) (f x) (map f xs) (in_image f xs x there)
    ]

-- what an image contains is the image of something
pub record IsImage {A B : Type 0} (f : A → B) (xs : List A) (y : B) : Type 0 where
  pub of : A
  pub there : Contains xs of
  pub is : y ≡ f of

pub image_of : {A B : Type 0} (f : A → B) (xs : List A) (y : B) → Contains (map f xs) y
    → IsImage f xs y
image_of f [] y c = absurd (none_contained y c)
image_of f (x ∷ xs) y c =
    elim (in_cons (f x) y (map f xs) c) [
      | inl here ↦ record { of = x; there = at_head x xs; is = sym here }
      | inr there ↦
          let r = image_of f xs y there in
          record { of = r.of; there = in_rest x r.of xs r.there; is = r.is }
    ]

pub images_differ : {A B : Type 0} (f : A → B) (xs : List A) → AreDistinctAnswers xs
    → ((x y : A) → Contains xs x → Contains xs y → f x ≡ f y → x ≡ y) → AreDistinctAnswers (map f xs)
images_differ f [] d one = λ i j e a b. absurd (omega arith)
images_differ f (x ∷ xs) d one =
    AllPairs-cons (λ s t. s ≡ t → ⊥) (f x) (map f xs)
    (all_of (λ t. f x ≡ t → ⊥) (map f xs)
    (λ y m same.
    let r = image_of f xs y m in
    first_differs x r.of xs d r.there
    (one x r.of (at_head x xs) (in_rest x r.of xs r.there) (same ∙ r.is))))
    (images_differ f xs (rest_differ x xs d)
    (λ y z m k e. one y z (in_rest x y xs m) (in_rest x z xs k) e))

-- ---- A delta cursor comes to its end.

-- no more is told than there is
pub told_few : (r : Reducts) (a : ℕ) (us : List (List ℕ)) → IsReducts r → a < r.tree.leaves
    → AreMarks r.tree r.tables a → AreSome (IsChanged r a) us
    → length us ≤ length (all_given r (changed_at r) (root_marked r))
told_few r a us h low marks some =
    let all = all_given r (changed_at r) (root_marked r) in
    let whole = whole_listing (IsChanged r a) all (changed_answers r a h (updated r a h low marks))
    in
    few us all some.different
    (λ u m. whole.complete u (All-contains (IsChanged r a) us u some.all m))

pub told_fewer : (r : Reducts) (a : ℕ) (us vs : List (List ℕ)) (u : List ℕ) → IsReducts r
    → a < r.tree.leaves → AreMarks r.tree r.tables a → vs ≡ us ++ u ∷ []
    → AreSome (IsChanged r a) vs
    → length (all_given r (changed_at r) (root_marked r)) - length vs
    < length (all_given r (changed_at r) (root_marked r)) - length us
told_fewer r a us vs u h low marks e some =
    let f = told_few r a vs h low marks some in
    let long = ap (λ (l : List (List ℕ)). length l) e ∙ length-append us (u ∷ []) in
    omega arith
