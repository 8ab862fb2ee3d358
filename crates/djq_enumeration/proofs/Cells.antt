-- Cells of tuples over labels, and the nodes of `out`.
use Rattle.std.proofs.Common.{◌≡◌, ◌≢◌, ℕ, ◌<◌, true, false, List, [], ◌∷◌, length, map, refl, ap, sym, ◌∙◌, inl, inr}
use Rattle.std.proofs.Common.{arith, zero, suc, ◌+◌, ◌-◌, ◌≤◌, Option, Some, None, is_some, ◌⊎◌, drop, ap₂, subst}
use Rattle.std.specs.Prelude.{⊤, ◌==◌, slice_index, slice_set, slice_index_or}
use Rattle.std.proofs.lemmas.Bool.{cases_eq, eq-eqb, eqb-true, false≢true, or_cases, or_left, or_right, or_parts}
use Rattle.std.proofs.lemmas.Bool.{cases_Bool, cases_lt, le-leb, leb-true}
use Rattle.std.proofs.lemmas.List.{length-set, get_or-set_same, get_or-set_other, get_or_past, drop_more, drop_all}
use Rattle.std.proofs.lemmas.List.{length-map}
use Rattle.djq_hypergraph.specs.Hypergraph.{member, subset}
use Rattle.djq_index.specs.Tuple.{pick}
use Rattle.djq_index.specs.Table.{AreColumns}
use Rattle.djq_index.proofs.Tuples.{column_below}
use Rattle.djq_tree.specs.declared.node.Node.{Node}
use Rattle.djq_tree.specs.declared.node.Node.TheVariants.{Leaf, Trim, Meet}
use Rattle.djq_tree.specs.Labels.{label_at}
use Rattle.djq_tree.specs.Counts.{is_trim}
use Rattle.djq_tree.specs.Tree.{Tree, IsTree, IsTop, node_at, has_child, parent, is_out}
use Rattle.djq_tree.proofs.Paths.{parent_above, rising_of, child_within, trim_child}
use Rattle.djq_reduct.specs.Columns.{column, columns}
use Rattle.djq_reduct.specs.Marks.{path_at, IsOff}
use Rattle.djq_reduct.proofs.Assignments.{column_within, column_here, column_on, columns_within, cell_there, row_same}
use Rattle.djq_reduct.proofs.Assignments.{pick_itself, simple_of, within_of}
use Rattle.djq_reduct.proofs.Paths.{path_low, path_free, off_of, reaches, free_below}
use Rattle.djq_enumeration.specs.Levels.{written_cells, IsLevel, child_of, source, cells_put}

-- ---- Cells of tuples over labels.

-- ---- labels

-- no variable stands twice
abbrev pub IsSimple : List ℕ → Type 0
IsSimple [] = ⊤
IsSimple (x ∷ l) = (member x l ≡ false) × IsSimple l

-- each variable of the first label is in the second
abbrev pub Within : List ℕ → List ℕ → Type 0
Within k l = (x : ℕ) → member x k ≡ true → member x l ≡ true

pub within_tail : (x : ℕ) (k l : List ℕ) → Within (x ∷ k) l → Within k l
within_tail x k l h y m = h y (or_right (y == x) (member y k) m)

pub within_head : (x : ℕ) (k l : List ℕ) → Within (x ∷ k) l → member x l ≡ true
within_head x k l h = h x (or_left (x == x) (member x k) (eq-eqb x x refl))

-- ---- a variable's column

-- two variables have two columns
pub column_same : (l : List ℕ) (x y : ℕ) → member x l ≡ true → column l x ≡ column l y → x ≡ y
column_same [] x y m e = absurd (false≢true m)
column_same (z ∷ l) x y m e =
    elim (cases_eq x z) [
      | inl here ↦
          elim (cases_eq y z) [
            | inl too ↦ here ∙ sym too
            | inr other ↦ absurd
                (let a = column_here z l x (sym here) in let b = column_on z l y
                (λ (k : z ≡ y). other (sym k)) in omega arith)
          ]
      | inr there ↦
          let a = column_on z l x (λ (k : z ≡ x). there (sym k)) in
          elim (cases_eq y z) [
            | inl too ↦ absurd (let b = column_here z l y (sym too) in omega arith)
            | inr other ↦
                let b = column_on z l y (λ (k : z ≡ y). other (sym k)) in
                let n : member x l ≡ true = elim (or_cases (x == z) (member x l) m)
                [ inl k ↦ absurd (there (eqb-true x z k)) | inr k ↦ k ] in
                column_same l x y n (omega arith)
          ]
    ]

-- ---- projections

-- the cell of the variable x in a tuple over the label F
abbrev pub cell : List ℕ → List ℕ → ℕ → ℕ
cell F s x = slice_index s (column F x)

map_twice : (f g : ℕ → ℕ) (l : List ℕ) → map f (map g l) ≡ map (λ x. f (g x)) l
map_twice f g [] = refl
map_twice f g (x ∷ l) = ap (λ (ys : List ℕ). f (g x) ∷ ys) (map_twice f g l)

pub pick_is : (F l s : List ℕ) → pick (columns F l) s ≡ map (λ x. cell F s x) l
unfolding pick columns
pick_is F l s = map_twice (λ c. slice_index s c) (λ x. column F x) l

pub pick_same : (F G l s a : List ℕ) → ((x : ℕ) → member x l ≡ true → cell F s x ≡ cell G a x)
    → pick (columns F l) s ≡ pick (columns G l) a
pick_same F G l s a h = pick_is F l s ∙ row_same (λ x. cell F s x) (λ x. cell G a x) l h
    ∙ sym (pick_is G l a)

pub cell_pick : (F l s : List ℕ) (x : ℕ) → member x l ≡ true
    → cell l (pick (columns F l) s) x ≡ cell F s x
cell_pick F l s x m = ap (λ (u : List ℕ). slice_index u (column l x)) (pick_is F l s)
    ∙ cell_there (λ x. cell F s x) l x m

pub cells_same : (F G l s a : List ℕ) (x : ℕ) → pick (columns F l) s ≡ pick (columns G l) a
    → member x l ≡ true → cell F s x ≡ cell G a x
cells_same F G l s a x e m = sym (cell_pick F l s x m)
    ∙ ap (λ (u : List ℕ). slice_index u (column l x)) e ∙ cell_pick G l a x m

pub pick_pick : (F k l s : List ℕ) → Within k l
    → pick (columns l k) (pick (columns F l) s) ≡ pick (columns F k) s
pick_pick F k l s h = pick_same l F k (pick (columns F l) s) s (λ x m. cell_pick F l s x (h x m))

-- tuples with the same cells are the same
pub tuple_same : (l u v : List ℕ) → IsSimple l → length u ≡ length l → length v ≡ length l
    → ((x : ℕ) → member x l ≡ true → cell l u x ≡ cell l v x) → u ≡ v
tuple_same l u v h e d same = sym (pick_itself l u h e) ∙ pick_same l l l u v same
    ∙ pick_itself l v h d

-- ---- a tuple written into an answer

pub length_written : (F l us s : List ℕ) → length (written_cells F l us s) ≡ length s
length_written F [] us s = refl
length_written F (x ∷ l) [] s = refl
length_written F (x ∷ l) (u ∷ us) s = length_written F l us (slice_set s (column F x) u)
    ∙ length-set s (column F x) u

-- elsewhere it is as before
pub written_else : (F l us s : List ℕ) (y : ℕ) → Within l F → member y F ≡ true → member y l ≡ false
    → cell F (written_cells F l us s) y ≡ cell F s y
written_else F [] us s y h m out = refl
written_else F (x ∷ l) [] s y h m out = refl
written_else F (x ∷ l) (u ∷ us) s y h m out =
    let parts = or_parts (y == x) (member y l) out in
    let other : column F y ≢ column F x = λ (e : column F y ≡ column F x). false≢true
    (sym parts.0 ∙ eq-eqb y x (column_same F y x m e)) in
    written_else F l us (slice_set s (column F x) u) y (within_tail x l F h) m parts.1
    ∙ get_or-set_other s (column F x) (column F y) u 0 other

-- there it is the tuple's
pub written_there : (F l us s : List ℕ) (y : ℕ) → IsSimple l → Within l F → length us ≡ length l
    → length s ≡ length F → member y l ≡ true → cell F (written_cells F l us s) y ≡ cell l us y
written_there F [] us s y simple h e d m = absurd (false≢true m)
written_there F (x ∷ l) [] s y simple h e d m = absurd (omega arith)
written_there F (x ∷ l) (u ∷ us) s y simple h e d m =
    let next = slice_set s (column F x) u in
    let long : length next ≡ length F = length-set s (column F x) u ∙ d in
    elim (cases_eq y x) [
      | inl here ↦
          let out : member y l ≡ false = ap (λ (z : ℕ). member z l) here ∙ simple.0 in
          let inside = within_head x l F h in
          let low : column F x < length s = (let w = column_within F x inside in omega arith) in
          written_else F l us next y (within_tail x l F h)
          (ap (λ (z : ℕ). member z F) here ∙ inside) out
          ∙ ap (λ (z : ℕ). cell F next z) here
          ∙ get_or-set_same s (column F x) u 0 low
          ∙ sym (ap (λ (i : ℕ). slice_index (u ∷ us) i) (column_here x l y (sym here)))
      | inr there ↦
          let n : member y l ≡ true = elim (or_cases (y == x) (member y l) m)
          [ inl k ↦ absurd (there (eqb-true y x k)) | inr k ↦ k ] in
          written_there F l us next y simple.1 (within_tail x l F h) (omega arith) long n
          ∙ sym (ap (λ (i : ℕ). slice_index (u ∷ us) i)
          (column_on x l y (λ (k : x ≡ y). there (sym k))))
    ]

-- so the projection on its label is the tuple
pub pick_written : (F l us s : List ℕ) → IsSimple l → Within l F → length us ≡ length l
    → length s ≡ length F → pick (columns F l) (written_cells F l us s) ≡ us
pick_written F l us s simple h e d = pick_same F l l (written_cells F l us s) us
    (λ y m. written_there F l us s y simple h e d m) ∙ pick_itself l us simple e

-- ---- The nodes of `out`: the root, and the children of the second stage's nodes.

-- a node is the root, or has a parent
pub record Parent (t : Tree) (j : ℕ) : Type 0 where
  pub parent : ℕ
  pub above : j < parent
  pub within : parent < length t.nodes
  pub child : has_child (node_at t.nodes parent) j ≡ true

parent_some : (t : Tree) (j : ℕ) (o : Option ℕ) → IsTree t → parent t.nodes j ≡ o → is_some o ≡ true
    → Parent t j
parent_some t j None s e h = absurd (false≢true h)
parent_some t j (Some p) s e h = let u = parent_above t.nodes j p (rising_of t s) e in
    record { parent = p; above = u.0; within = u.1; child = u.2 }

pub root_or_parent : (t : Tree) (j : ℕ) → IsTree t → j < length t.nodes
    → (j ≡ length t.nodes - 1) ⊎ Parent t j
root_or_parent t j s within =
    elim (cases_eq (j + 1) (length t.nodes)) [
      | inl last ↦ inl (omega arith)
      | inr other ↦ inr (parent_some t j (parent t.nodes j) s refl (s.below j (omega arith)))
    ]

pub out_within : (t : Tree) (j : ℕ) → IsTree t → is_out t.out j ≡ true → j < length t.nodes
out_within t j s h =
    elim (cases_lt j (length t.nodes)) [
      | inl low ↦ low
      | inr past ↦ absurd
          (false≢true (sym (get_or_past t.out j false (let m = s.marked in omega arith)) ∙ h))
    ]

pub child_out : (t : Tree) (k j : ℕ) → IsTree t → t.second_stage ≤ k
    → has_child (node_at t.nodes k) j ≡ true → is_out t.out j ≡ true
child_out t k j s late child = s.out_split k j child ∙ le-leb t.second_stage k late

pub late_out : (t : Tree) (k : ℕ) → IsTree t → t.second_stage ≤ k → k < length t.nodes
    → is_out t.out k ≡ true
late_out t k s late within =
    elim (root_or_parent t k s within) [
      | inl root ↦ ap (λ (i : ℕ). is_out t.out i) root ∙ s.root_out
      | inr p ↦ (let a = p.above in child_out t p.parent k s (omega arith) p.child)
    ]

-- a node of `out` is the root, or has a parent of the second stage
pub record LateParent (t : Tree) (j : ℕ) : Type 0 where
  pub parent : ℕ
  pub late : t.second_stage ≤ parent
  pub child : has_child (node_at t.nodes parent) j ≡ true

pub root_or_late : (t : Tree) (j : ℕ) → IsTree t → is_out t.out j ≡ true
    → (j ≡ length t.nodes - 1) ⊎ LateParent t j
root_or_late t j s h =
    elim (root_or_parent t j s (out_within t j s h)) [
      | inl root ↦ inl root
      | inr p ↦ inr (record {
        parent = p.parent;
        late = leb-true t.second_stage p.parent
            (sym (s.out_split p.parent j p.child) ∙ h);
        child = p.child;
      })
    ]

pub head_within : (t : Tree) (j : ℕ) → IsTree t → is_out t.out j ≡ true
    → Within (label_at t.labels j) t.head
head_within t j s h = within_of (label_at t.labels j) t.head (s.head.within j h)

pub label_simple : (t : Tree) (j : ℕ) → IsTree t → IsSimple (label_at t.labels j)
label_simple t j s = simple_of (label_at t.labels j) (s.sets j).rising

pub head_simple : (t : Tree) → IsTree t → IsSimple t.head
head_simple t s = simple_of t.head s.head_set.rising

-- a variable of the head lies in a child of a node of the second stage
pub record Covers (t : Tree) (x : ℕ) : Type 0 where
  pub node : ℕ
  pub up : LateParent t node
  pub has : member x (label_at t.labels node) ≡ true

pub covered : (t : Tree) (x : ℕ) → IsTree t → member x t.head ≡ true → Covers t x
covered t x s m =
    let c = s.head.covered x m in
    elim (root_or_late t c.0 s c.1) [
      | inl root ↦ absurd
          (false≢true
          (sym (ap (λ (l : List ℕ). member x l) (ap (λ (i : ℕ). label_at t.labels i) root ∙ s.root))
          ∙ c.2))
      | inr p ↦ record { node = c.0; up = p; has = c.2 }
    ]

-- ---- a level's variables that its label lacks

top_of : (t : Tree) (k j x : ℕ) → IsTree t → has_child (node_at t.nodes k) j ≡ true
    → member x (label_at t.labels j) ≡ true → member x (label_at t.labels k) ≡ false
    → IsTop t.nodes t.labels x j
top_of t k j x s child m out =
    record {
      has = m;
      ends = λ i h. ap (λ (n : ℕ). member x (label_at t.labels n))
          (s.one_parent j i k h child) ∙ out;
    }

-- they lie in no node from the level on
gone_at : (t : Tree) (k c x n j : ℕ) → IsTree t → node_at t.nodes k ≡ Trim c
    → member x (label_at t.labels c) ≡ true → member x (label_at t.labels k) ≡ false
    → length t.nodes ≤ j + n → j < length t.nodes → k ≤ j → member x (label_at t.labels j) ≡ true
    → ⊥
gone_at t k c x zero j s e m out high within from h = omega arith
gone_at t k c x (suc n) j s e m out high within from h =
    elim (root_or_parent t j s within) [
      | inl root ↦ false≢true
          (sym (ap (λ (l : List ℕ). member x l) (ap (λ (i : ℕ). label_at t.labels i) root ∙ s.root))
          ∙ h)
      | inr p ↦
          elim (cases_Bool (member x (label_at t.labels p.parent))) [
            | inl is ↦ (let a = p.above in gone_at t k c x n p.parent s e m out (omega arith)
                p.within (omega arith) is)
            | inr isnt ↦
                let same = s.one_top x j c (top_of t p.parent j x s p.child h isnt)
                (top_of t k c x s (trim_child t.nodes k c e) m out) in
                let low = (s.trim k c e).lower in
                omega arith
          ]
    ]

-- so where another child of a node from the level on has a variable of the level's child, the level
-- has it
pub kept : (t : Tree) (k c i j x : ℕ) → IsTree t → node_at t.nodes k ≡ Trim c → k ≤ i
    → has_child (node_at t.nodes i) j ≡ true → (j ≡ c → ⊥)
    → member x (label_at t.labels c) ≡ true → member x (label_at t.labels j) ≡ true
    → member x (label_at t.labels k) ≡ true
kept t k c i j x s e from child other m h =
    elim (cases_Bool (member x (label_at t.labels k))) [
      | inl is ↦ is
      | inr out ↦
          elim (cases_Bool (member x (label_at t.labels i))) [
            | inl up ↦ absurd
                (gone_at t k c x (length t.nodes) i s e m out (omega arith)
                (child_within t.nodes i j child) from up)
            | inr top ↦ absurd
                (other (s.one_top x j c (top_of t i j x s child h top)
                (top_of t k c x s (trim_child t.nodes k c e) m out)))
          ]
    ]

-- ---- levels are trims

trim_kind : (n : Node) → is_trim n ≡ true → n ≡ Trim (child_of n)
trim_kind (Leaf a) h = absurd (false≢true h)
trim_kind (Trim c) h = refl
trim_kind (Meet g s) h = absurd (false≢true h)

pub level_trim : (t : Tree) (k : ℕ) → IsLevel t k → node_at t.nodes k ≡ Trim (source t k)
unfolding source
level_trim t k l = trim_kind (node_at t.nodes k) l.trim

pub trim_level : (t : Tree) (k c : ℕ) → node_at t.nodes k ≡ Trim c → t.second_stage ≤ k
    → k < length t.nodes → IsLevel t k
trim_level t k c e late within = record { late = late; within = within; trim = ap is_trim e }

pub source_within : (t : Tree) (k : ℕ) → IsTree t → IsLevel t k → source t k < length t.nodes
source_within t k s l = let low = (s.trim k (source t k) (level_trim t k l)).lower in let w =
    l.within in omega arith

-- ---- Where the path from a leaf leads to.

-- above the leaf, the parent of the path's highest node below k is a node from k on
pub record Above (t : Tree) (a k : ℕ) : Type 0 where
  pub parent : ℕ
  pub from : k ≤ parent
  pub child : has_child (node_at t.nodes parent) (path_at t.nodes a k) ≡ true

pub path_up : (t : Tree) (a k : ℕ) → IsTree t → a < k → k < length t.nodes → Above t a k
path_up t a k s low within =
    let here = path_low t.nodes a k (rising_of t s) low in
    elim (root_or_parent t (path_at t.nodes a k) s (omega arith)) [
      | inl root ↦ absurd (omega arith)
      | inr p ↦
          record {
            parent = p.parent;
            from = elim (cases_lt p.parent k) [
              | inl below ↦ absurd (path_free t.nodes a k p.parent (rising_of t s) below p.child)
              | inr above ↦ above
            ];
            child = p.child;
          }
    ]

-- and at the end it is the root
pub path_top : (t : Tree) (a : ℕ) → IsTree t → a < length t.nodes
    → path_at t.nodes a (length t.nodes) ≡ length t.nodes - 1
path_top t a s low =
    let here = path_low t.nodes a (length t.nodes) (rising_of t s) low in
    elim (root_or_parent t (path_at t.nodes a (length t.nodes)) s here) [
      | inl root ↦ root
      | inr p ↦ absurd
          (path_free t.nodes a (length t.nodes) p.parent (rising_of t s) p.within p.child)
    ]

-- of the nodes current as the second stage began, only one is on it
pub start_off : (t : Tree) (a j : ℕ) → IsTree t → a < t.leaves → j < t.second_stage
    → is_out t.out j ≡ true → j ≢ path_at t.nodes a t.second_stage → IsOff t.nodes a j
start_off t a j s leaf early out other =
    elim (root_or_late t j s out) [
      | inl root ↦ absurd
          (let st = s.stages in
          let low = st.0 in
          let high = st.1 in
          let fits = s.fits in
          let last : t.second_stage ≡ length t.nodes = omega arith in
          other
          (root ∙ sym (ap (λ (n : ℕ). path_at t.nodes a n) last ∙ path_top t a s (omega arith))))
      | inr p ↦ off_of t.nodes a j
          (λ on. other
          (sym (reaches t.nodes a j t.second_stage early on (free_below t j p.parent t.second_stage
          s p.child p.late))))
    ]

-- ---- Cells are read and written variable by variable.

-- ---- cells are written at columns, one after another

pub put_next : (cs tuple s : List ℕ) (at c u : ℕ) → at < length cs → at < length tuple
    → c ≡ slice_index_or cs at 0 → u ≡ slice_index_or tuple at 0
    → cells_put (drop (at + 1) cs) (drop (at + 1) tuple) (slice_set s c u)
    ≡ cells_put (drop at cs) (drop at tuple) s
put_next cs tuple s at c u low also here value =
    ap₂ (λ (i v : ℕ). cells_put (drop (at + 1) cs) (drop (at + 1) tuple) (slice_set s i v)) here value
    ∙ sym (ap₂ (λ (ds us : List ℕ). cells_put ds us s) (drop_more cs at 0 low)
    (drop_more tuple at 0 also))

pub put_end : (cs us s : List ℕ) (at : ℕ) → length cs ≤ at → cells_put (drop at cs) us s ≡ s
put_end cs us s at past = ap (λ (ds : List ℕ). cells_put ds us s) (drop_all at cs past)

-- so is a tuple over a label
pub written_put : (F l us s : List ℕ) → written_cells F l us s ≡ cells_put (columns F l) us s
unfolding columns
written_put F [] us s = refl
written_put F (x ∷ l) [] s = refl
written_put F (x ∷ l) (u ∷ us) s = written_put F l us (slice_set s (column F x) u)

pub first_below : (n : ℕ) (cs : List ℕ) → AreColumns n cs → 0 < length cs
    → slice_index_or cs 0 0 < n
first_below n cs within some = column_below n cs 0 within some

pub second_below : (n : ℕ) (cs : List ℕ) → AreColumns n cs → 1 < length cs
    → slice_index_or cs 1 0 < n
second_below n cs within more = column_below n cs 1 within more

-- ---- a projection on no column and on one

pub pick_none : (cs u : List ℕ) → length cs ≡ 0 → pick cs u ≡ []
unfolding pick
pick_none [] u none = refl
pick_none (c ∷ cs) u none = absurd cc

pub pick_one : (cs u : List ℕ) → length cs ≡ 1
    → pick cs u ≡ slice_index_or u (slice_index_or cs 0 0) 0 ∷ []
unfolding pick
pick_one [] u one = absurd cc
pick_one (c ∷ []) u one = refl
pick_one (c ∷ d ∷ cs) u one = absurd cc

-- ---- the columns of a label in the head

pub label_columns : (F l cs s : List ℕ) → cs ≡ columns F l → subset l F ≡ true
    → length s ≡ length F → AreColumns (length s) cs
label_columns F l cs s is within wide = subst (λ (n : ℕ). AreColumns n cs) (sym wide)
    (subst (λ (ds : List ℕ). AreColumns (length F) ds) (sym is) (columns_within F l within))

pub length_columns : (F l cs : List ℕ) → cs ≡ columns F l → length cs ≡ length l
unfolding columns
length_columns F l cs is = ap (λ (ds : List ℕ). length ds) is
    ∙ length-map l (λ (x : ℕ). column F x)
