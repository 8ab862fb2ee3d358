-- The path from a leaf to the root, and the levels and columns along a listing.
use Rattle.std.proofs.Common.{◌≡◌, ℕ, zero, suc, ◌-◌, ◌<◌, ◌≤◌, true, List, [], ◌∷◌, ◌++◌, refl, ap, sym, subst, ◌∙◌}
use Rattle.std.proofs.Common.{arith, ◌+◌, length, inl, inr, length-append, ◌≢◌, Bool, false, cond, ◌⊎◌}
use Rattle.std.proofs.lemmas.Bool.{false≢true, le-leb, cases_eq, cases_Bool, cases_lt}
use Rattle.std.proofs.lemmas.List.{append_assoc, get_or_append_left}
use Rattle.std.specs.Prelude.{slice_index_or}
use Rattle.std.proofs.Math.Seq.{get_or-append_seam}
use Rattle.djq_tree.specs.declared.node.Node.{Node}
use Rattle.djq_tree.specs.declared.node.Node.TheVariants.{Leaf, Trim, Meet}
use Rattle.djq_tree.specs.Tree.{Tree, node_at, IsTree, IsRising, has_child}
use Rattle.djq_tree.specs.Levels.{levels_below, level_on}
use Rattle.djq_tree.specs.Counts.{is_trim}
use Rattle.djq_tree.specs.Labels.{label_at}
use Rattle.djq_tree.proofs.Paths.{rising_of}
use Rattle.djq_reduct.specs.Columns.{column, columns}
use Rattle.djq_reduct.specs.Heads.{head_columns, head_places}
use Rattle.djq_reduct.specs.Marks.{path_at, on_path, IsOff}

-- ---- The levels of a listing are found going down the nodes.

pub level_at : (t : Tree) (k : ℕ) (n : Node) → t.second_stage ≤ k → node_at t.nodes k ≡ n
    → levels_below t (suc k) ≡ level_on k n (levels_below t k)
level_at t k n late e = rw (le-leb t.second_stage k late)
    (ap (λ (m : Node). level_on k m (levels_below t k)) e)

on_trim : (k : ℕ) (n : Node) (ks : List ℕ) → is_trim n ≡ true → level_on k n ks ≡ k ∷ ks
on_trim k (Leaf a) ks h = absurd (false≢true h)
on_trim k (Trim c) ks h = refl
on_trim k (Meet g s) ks h = absurd (false≢true h)

just_below : (t : Tree) (n k : ℕ) (m : Node) → t.second_stage < n → k ≡ n - 1
    → m ≡ node_at t.nodes k → levels_below t n ≡ level_on k m (levels_below t k)
just_below t zero k m low e is = absurd (omega arith)
just_below t (suc n) k m low e is =
    let same : n ≡ k = omega arith in
    subst (λ (i : ℕ). levels_below t (suc i) ≡ level_on k m (levels_below t k)) (sym same)
    (level_at t k m (omega arith) (sym is))

-- a trim is put behind those that were found
pub level_found : (t : Tree) (xs all : List ℕ) (n k : ℕ) (m : Node) → xs ++ levels_below t n ≡ all
    → t.second_stage < n → k ≡ n - 1 → m ≡ node_at t.nodes k → is_trim m ≡ true
    → (xs ++ k ∷ []) ++ levels_below t k ≡ all
level_found t xs all n k m had low e is yes_trim =
    append_assoc xs (k ∷ []) (levels_below t k)
    ∙ ap (λ (ks : List ℕ). xs ++ ks)
    (sym (just_below t n k m low e is ∙ on_trim k m (levels_below t k) yes_trim)) ∙ had

-- ---- The columns of a tree's nodes in its head are listed node by node.

pub length_heads : (t : Tree) (n : ℕ) → length (head_columns t n) ≡ n
unfolding head_columns
length_heads t zero = refl
length_heads t (suc n) = omega
    (arith, length-append (head_columns t n) (columns t.head (label_at t.labels n) ∷ []), length_heads t n)

pub heads_at : (t : Tree) (n k : ℕ) (d : List ℕ) → k < n → slice_index_or (head_columns t n) k d
    ≡ columns t.head (label_at t.labels k)
unfolding head_columns
heads_at t zero k d h = absurd (omega arith)
heads_at t (suc n) k d h =
    let here = columns t.head (label_at t.labels n) in
    let long = length_heads t n in
    elim (cases_eq k n) [
      | inl last ↦ subst (λ i. slice_index_or (head_columns t n ++ here ∷ []) i d
          ≡ columns t.head (label_at t.labels k)) (long ∙ sym last)
          (get_or-append_seam (head_columns t n) here [] d ∙ ap (λ i. columns t.head (label_at t.labels i)) (sym last))
      | inr other ↦ get_or_append_left (head_columns t n) (here ∷ []) d k (omega arith) ∙ heads_at t n k d (omega arith)
    ]

pub heads_none : (t : Tree) → head_columns t 0 ≡ []
unfolding head_columns
heads_none t = refl

pub heads_on : (t : Tree) (n : ℕ) → head_columns t n ++ columns t.head (label_at t.labels n) ∷ []
    ≡ head_columns t (n + 1)
unfolding head_columns
heads_on t n = let e : suc n ≡ n + 1 = omega arith in ap (λ i. head_columns t i) e

pub length_places : (F : List ℕ) (n : ℕ) → length (head_places F n) ≡ n
unfolding head_places
length_places F zero = refl
length_places F (suc n) = omega (arith, length-append (head_places F n) (column F n ∷ []), length_places F n)

pub places_at : (F : List ℕ) (n k d : ℕ) → k < n → slice_index_or (head_places F n) k d ≡ column F k
unfolding head_places
places_at F zero k d h = absurd (omega arith)
places_at F (suc n) k d h =
    let long = length_places F n in
    elim (cases_eq k n) [
      | inl last ↦ subst (λ i. slice_index_or (head_places F n ++ column F n ∷ []) i d ≡ column F k) (long ∙ sym last)
          (get_or-append_seam (head_places F n) (column F n) [] d ∙ ap (λ i. column F i) (sym last))
      | inr other ↦ get_or_append_left (head_places F n) (column F n ∷ []) d k (omega arith)
          ∙ places_at F n k d (omega arith)
    ]

pub places_none : (F : List ℕ) → head_places F 0 ≡ []
unfolding head_places
places_none F = refl

pub places_on : (F : List ℕ) (n : ℕ) → head_places F n ++ column F n ∷ [] ≡ head_places F (n + 1)
unfolding head_places
places_on F n = let e : suc n ≡ n + 1 = omega arith in ap (λ i. head_places F i) e

-- what is read of them
pub place_read : (all F G : List ℕ) (n k d : ℕ) → all ≡ head_places F n → F ≡ G → k < length all
    → slice_index_or all k d ≡ column G k
place_read all F G n k d is same within =
    let long = ap (λ (l : List ℕ). length l) is in
    let count = length_places F n in
    ap (λ (l : List ℕ). slice_index_or l k d) is ∙ places_at F n k d (omega arith)
    ∙ ap (λ (l : List ℕ). column l k) same

-- ---- The path from a leaf to the root, and what isn't on it.

pub path_on : (nodes : List Node) (a k : ℕ)
    → has_child (node_at nodes k) (path_at nodes a k) ≡ true → path_at nodes a (suc k) ≡ k
unfolding path_at
path_on nodes a k e = ap (λ (b : Bool). cond b k (path_at nodes a k)) e

pub path_off : (nodes : List Node) (a k : ℕ)
    → has_child (node_at nodes k) (path_at nodes a k) ≡ false
    → path_at nodes a (suc k) ≡ path_at nodes a k
unfolding path_at
path_off nodes a k e = ap (λ (b : Bool). cond b k (path_at nodes a k)) e

pub path_zero : (nodes : List Node) (a : ℕ) → path_at nodes a zero ≡ a
unfolding path_at
path_zero nodes a = refl

-- it stays at the leaf below it
path_start : (nodes : List Node) (a k : ℕ) → IsRising nodes → k ≤ a → path_at nodes a k ≡ a
path_start nodes a zero rising low = path_zero nodes a
path_start nodes a (suc k) rising low =
    let here = path_start nodes a k rising (omega arith) in
    elim (cases_Bool (has_child (node_at nodes k) (path_at nodes a k))) [
      | inl on ↦ absurd (let up = rising k (path_at nodes a k) on in omega arith)
      | inr off ↦ path_off nodes a k off ∙ here
    ]

pub path_low : (nodes : List Node) (a k : ℕ) → IsRising nodes → a < k → path_at nodes a k < k
path_low nodes a zero rising low = absurd (omega arith)
path_low nodes a (suc k) rising low =
    elim (cases_Bool (has_child (node_at nodes k) (path_at nodes a k))) [
      | inl on ↦ (let e = path_on nodes a k on in omega arith)
      | inr off ↦
          let e = path_off nodes a k off in
          elim (cases_lt a k) [
            | inl below ↦ (let r = path_low nodes a k rising below in omega arith)
            | inr high ↦ (let s = path_start nodes a k rising high in omega arith)
          ]
    ]

-- no node below k has it as a child
pub path_free : (nodes : List Node) (a k i : ℕ) → IsRising nodes → i < k
    → has_child (node_at nodes i) (path_at nodes a k) ≡ true → ⊥
path_free nodes a zero i rising low h = omega arith
path_free nodes a (suc k) i rising low h =
    elim (cases_Bool (has_child (node_at nodes k) (path_at nodes a k))) [
      | inl on ↦
          let e = path_on nodes a k on in
          let up = rising i (path_at nodes a (suc k)) h in
          omega arith
      | inr off ↦
          let same = ap (λ (j : ℕ). has_child (node_at nodes i) j) (sym (path_off nodes a k off))
          ∙ h in
          elim (cases_eq i k) [
            | inl last ↦ false≢true
                (sym off ∙ ap (λ (n : ℕ). has_child (node_at nodes n) (path_at nodes a k))
                (sym last) ∙ same)
            | inr other ↦ path_free nodes a k i rising (omega arith) same
          ]
    ]

-- a node of it is the highest one below k, as long as no node below k has it as a child
rests : (nodes : List Node) (a j from k : ℕ) → from ≤ k → path_at nodes a from ≡ j
    → ((i : ℕ) → i < k → has_child (node_at nodes i) j ≡ false) → path_at nodes a k ≡ j
rests nodes a j from zero low at free = subst (λ (n : ℕ). path_at nodes a n ≡ j) (omega arith) at
rests nodes a j from (suc k) low at free =
    elim (cases_lt k from) [
      | inl last ↦ subst (λ (n : ℕ). path_at nodes a n ≡ j) (omega arith) at
      | inr more ↦
          let here = rests nodes a j from k more at (λ i less. free i (omega arith)) in
          path_off nodes a k
          (ap (λ (i : ℕ). has_child (node_at nodes k) i) here ∙ free k (omega arith)) ∙ here
    ]

-- the node j is the leaf a, or above it
abbrev pub IsOn : List Node → ℕ → ℕ → Type 0
IsOn nodes a j = (j ≡ a) ⊎ (on_path nodes a j ≡ true)

pub reaches : (nodes : List Node) (a j k : ℕ) → j < k → IsOn nodes a j
    → ((i : ℕ) → i < k → has_child (node_at nodes i) j ≡ false) → path_at nodes a k ≡ j
unfolding on_path
reaches nodes a j k low (inl leaf) free = rests nodes a j zero k (omega arith)
    (path_zero nodes a ∙ sym leaf) free
reaches nodes a j k low (inr on) free = rests nodes a j (suc j) k (omega arith) (path_on nodes a j on) free

pub off_of : (nodes : List Node) (a j : ℕ) → (IsOn nodes a j → ⊥) → IsOff nodes a j
off_of nodes a j h = (
  λ leaf. h (inl leaf),
  elim (cases_Bool (on_path nodes a j)) [ inl on ↦ absurd (h (inr on)) | inr off ↦ off ],
)

-- nodes below the parent don't have it as a child
pub free_below : (t : Tree) (j p k : ℕ) → IsTree t → has_child (node_at t.nodes p) j ≡ true → k ≤ p
    → (i : ℕ) → i < k → has_child (node_at t.nodes i) j ≡ false
free_below t j p k s child low i less =
    elim (cases_Bool (has_child (node_at t.nodes i) j)) [
      | inl is ↦ absurd (let e = s.one_parent j i p is child in omega arith)
      | inr none ↦ none
    ]

-- a child that isn't the path's next lower node is off it
pub child_off : (t : Tree) (a k j : ℕ) → IsTree t → has_child (node_at t.nodes k) j ≡ true
    → j ≢ path_at t.nodes a k → IsOff t.nodes a j
child_off t a k j s child other = off_of t.nodes a j
    (λ on. other
    (sym (reaches t.nodes a j k (rising_of t s k j child) on (free_below t j k k s child
    (omega arith)))))

-- and so are all children of a node off it
pub off_below : (t : Tree) (a k j : ℕ) → IsTree t → has_child (node_at t.nodes k) j ≡ true
    → on_path t.nodes a k ≡ false → IsOff t.nodes a j
unfolding on_path
off_below t a k j s child off = child_off t a k j s child
    (λ e. false≢true (sym off ∙ ap (λ (i : ℕ). has_child (node_at t.nodes k) i) (sym e) ∙ child))
