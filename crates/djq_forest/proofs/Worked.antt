-- The worked examples are as they are said to be: each of their slots is looked at.
use Rattle.std.specs.Prelude.{◌≡◌, ◌⊎◌, ℕ, zero, suc, ◌<◌, true, false, List, [], ◌∷◌, length}
use Rattle.std.proofs.Common.{refl, subst, arith, inl, inr}
use Rattle.djq_arena.specs.Chains.{AreDistinctSlots, IsOut, AreBelow}
use Rattle.djq_forest.specs.Tuple.{same_tuple, projection, variable_column, label_columns}
use Rattle.djq_forest.specs.Forest.{nth_knot, nth_edge}
use Rattle.djq_forest.specs.Shape.{is_need}
use Rattle.djq_forest.specs.Invariants.{IsForest}
use Rattle.djq_forest.specs.Fold.{IsFoldOf, IsTrimFold, AreAllNeeds, HasSide, IsOne, knot_of, needs_of, reducts_of}
use Rattle.djq_tree.specs.declared.node.Node.TheVariants.{Leaf, Trim, Meet}
use Rattle.djq_tree.specs.Labels.{label_at}
use Rattle.djq_tree.specs.Tree.{node_at}
use Rattle.djq_hypergraph.specs.Hypergraph.{member}
use Rattle.djq_forest.specs.Worked.{join_forest, join_knots, join_edges, join_fold, join_tree, join_tables}
use Rattle.djq_forest.specs.Worked.{cover_forest, cover_knots, cover_edges, cover_fold, cover_tree, cover_tables}
use Rattle.djq_forest.specs.Worked.{JoinIsWorked, CoverIsWorked}
use Rattle.djq_forest.proofs.Checking.{forest_by, agree, agreed, all_below, all_passed, at_edges}

join_reducts : (reducts_of join_tree join_forest join_fold).tables ≡ join_tables
join_reducts = refl

join_is_forest : IsForest join_forest
unfolding same_tuple projection
join_is_forest = forest_by join_forest (record {
  big = refl;
  small = refl;
  view = refl;
  rises = refl;
  one_upper = refl;
  columns = refl;
  counts = refl;
  holds = refl;
  marks = refl;
  ties = refl;
  lists = refl;
  wide = refl;
  differ = refl;
  tied = refl;
  projected = refl;
  refs = refl;
  held = refl;
  below = refl;
  right = refl;
  once = refl;
  missing = refl;
})

-- what the leaves need, which is nothing, and what the meet needs
leaf_whole : (k : ℕ) → (j : ℕ) → j < 3 → k < 2 → is_need k (nth_edge join_edges j) ≡ member j []
leaf_whole k j l m = agreed (is_need k (nth_edge join_edges j)) false
    (all_passed 2 (λ k. agree (is_need k (nth_edge join_edges j)) false)
    (at_edges join_edges (λ j. all_below 2 (λ k. agree (is_need k (nth_edge join_edges j)) false)) refl j l) k m)

leaf_all : (k : ℕ) → k < 2 → AreAllNeeds join_edges k []
unfolding AreBelow AreDistinctSlots
leaf_all k m = record { all = λ j l. leaf_whole k j l m; below = tt }

meet_all : AreAllNeeds join_edges 2 (1 ∷ 0 ∷ [])
unfolding AreBelow AreDistinctSlots IsOut
meet_all = record {
  all = λ j l. agreed (is_need 2 (nth_edge join_edges j)) (member j (1 ∷ 0 ∷ []))
      (at_edges join_edges (λ j. agree (is_need 2 (nth_edge join_edges j)) (member j (1 ∷ 0 ∷ []))) refl j l);
  below = (omega arith, (omega arith, tt));
}

leaves : (k a : ℕ) → k < 5 → node_at join_tree.nodes k ≡ Leaf a → (knot_of join_fold k ≡ k) × (needs_of join_fold k ≡ [])
leaves zero a l h = (refl, refl)
leaves (suc zero) a l h = (refl, refl)
leaves (suc (suc zero)) a l h = absurd cc
leaves (suc (suc (suc zero))) a l h = absurd cc
leaves (suc (suc (suc (suc zero)))) a l h = absurd cc
leaves (suc (suc (suc (suc (suc k))))) a l h = absurd (omega arith)

leaf_knots : (k a : ℕ) → k < 5 → node_at join_tree.nodes k ≡ Leaf a → (nth_knot join_knots (knot_of join_fold k)).leaf ≡ true
leaf_knots zero a l h = refl
leaf_knots (suc zero) a l h = refl
leaf_knots (suc (suc zero)) a l h = absurd cc
leaf_knots (suc (suc (suc zero))) a l h = absurd cc
leaf_knots (suc (suc (suc (suc zero)))) a l h = absurd cc
leaf_knots (suc (suc (suc (suc (suc k))))) a l h = absurd (omega arith)

trims : (k c : ℕ) → k < 5 → node_at join_tree.nodes k ≡ Trim c → IsTrimFold join_tree join_forest join_fold k c
unfolding label_columns variable_column
trims zero c l h = absurd cc
trims (suc zero) c l h = absurd cc
trims (suc (suc zero)) c l h =
    let is : 0 ≡ c = cc in
    subst (λ (c : ℕ). IsTrimFold join_tree join_forest join_fold 2 c) is (
      0,
      record {
        edge = omega arith;
        feeds = refl;
        big = refl;
        small = refl;
        columns_are = refl;
        whole = leaf_all 0 (omega arith);
      },
      refl,
    )
trims (suc (suc (suc zero))) c l h = absurd cc
trims (suc (suc (suc (suc zero)))) c l h =
    let is : 3 ≡ c = cc in
    subst (λ (c : ℕ). IsTrimFold join_tree join_forest join_fold 4 c) is
    (2, record { edge = omega arith; feeds = refl; big = refl; small = refl; columns_are = refl; whole = meet_all }, refl)
trims (suc (suc (suc (suc (suc k))))) c l h = absurd (omega arith)

meets : (k g s : ℕ) → k < 5 → node_at join_tree.nodes k ≡ Meet g s
    → HasSide join_tree join_forest join_fold k g s ⊎ IsOne join_tree join_forest join_fold k g s
unfolding label_columns variable_column
meets zero g s l h = absurd cc
meets (suc zero) g s l h = absurd cc
meets (suc (suc zero)) g s l h = absurd cc
meets (suc (suc (suc zero))) g s l h =
    let guard : 1 ≡ g = cc in
    let side : 2 ≡ s = cc in
    inr (subst (λ (g : ℕ). IsOne join_tree join_forest join_fold 3 g s) guard
    (subst (λ (s : ℕ). IsOne join_tree join_forest join_fold 3 1 s) side
    (record {
      labels = refl;
      guard_needs = 1 ∷ [];
      side_needs = 0 ∷ [];
      guard = inr (
        1,
        refl,
        record {
          edge = omega arith;
          feeds = refl;
          big = refl;
          small = refl;
          columns_are = refl;
          whole = leaf_all 1 (omega arith);
        },
      );
      side = inl (refl, refl);
      needs = refl;
    })))
meets (suc (suc (suc (suc zero)))) g s l h = absurd cc
meets (suc (suc (suc (suc (suc k))))) g s l h = absurd (omega arith)

widths : (k : ℕ) → k < 5 → (nth_knot join_knots (knot_of join_fold k)).width ≡ length (label_at join_tree.labels k)
widths zero l = refl
widths (suc zero) l = refl
widths (suc (suc zero)) l = refl
widths (suc (suc (suc zero))) l = refl
widths (suc (suc (suc (suc zero)))) l = refl
widths (suc (suc (suc (suc (suc k))))) l = absurd (omega arith)

join_folded : IsFoldOf join_tree join_forest join_fold
join_folded = record { long = refl; width = widths; leaf = leaves; leaf_knot = leaf_knots; trim = trims; meet = meets }

pub join_worked : JoinIsWorked
join_worked = record { forest = join_is_forest; folded = join_folded; reducts = join_reducts }

-- ---- with a side

cover_is_forest : IsForest cover_forest
unfolding same_tuple projection
cover_is_forest = forest_by cover_forest (record {
  big = refl;
  small = refl;
  view = refl;
  rises = refl;
  one_upper = refl;
  columns = refl;
  counts = refl;
  holds = refl;
  marks = refl;
  ties = refl;
  lists = refl;
  wide = refl;
  differ = refl;
  tied = refl;
  projected = refl;
  refs = refl;
  held = refl;
  below = refl;
  right = refl;
  once = refl;
  missing = refl;
})

cover_all : (k : ℕ) (ns : List ℕ) → all_below 3 (λ j. agree (is_need k (nth_edge cover_edges j)) (member j ns)) ≡ true
    → AreBelow 3 ns → AreAllNeeds cover_edges k ns
cover_all k ns h below = record {
  all = λ j l. agreed (is_need k (nth_edge cover_edges j)) (member j ns)
      (all_passed 3 (λ j. agree (is_need k (nth_edge cover_edges j)) (member j ns)) h j l);
  below = below;
}

s_all : AreAllNeeds cover_edges 1 []
unfolding AreBelow
s_all = cover_all 1 [] refl tt

view_all : AreAllNeeds cover_edges 2 (0 ∷ [])
unfolding AreBelow
view_all = cover_all 2 (0 ∷ []) refl (omega arith, tt)

r_all : AreAllNeeds cover_edges 0 (1 ∷ [])
unfolding AreBelow
r_all = cover_all 0 (1 ∷ []) refl (omega arith, tt)

cover_leaves : (k a : ℕ) → k < 4 → node_at cover_tree.nodes k ≡ Leaf a
    → (knot_of cover_fold k ≡ k) × (needs_of cover_fold k ≡ [])
cover_leaves zero a l h = (refl, refl)
cover_leaves (suc zero) a l h = (refl, refl)
cover_leaves (suc (suc zero)) a l h = absurd cc
cover_leaves (suc (suc (suc zero))) a l h = absurd cc
cover_leaves (suc (suc (suc (suc k)))) a l h = absurd (omega arith)

cover_leaf_knots : (k a : ℕ) → k < 4 → node_at cover_tree.nodes k ≡ Leaf a
    → (nth_knot cover_knots (knot_of cover_fold k)).leaf ≡ true
cover_leaf_knots zero a l h = refl
cover_leaf_knots (suc zero) a l h = refl
cover_leaf_knots (suc (suc zero)) a l h = absurd cc
cover_leaf_knots (suc (suc (suc zero))) a l h = absurd cc
cover_leaf_knots (suc (suc (suc (suc k)))) a l h = absurd (omega arith)

cover_trims : (k c : ℕ) → k < 4 → node_at cover_tree.nodes k ≡ Trim c → IsTrimFold cover_tree cover_forest cover_fold k c
unfolding label_columns variable_column
cover_trims zero c l h = absurd cc
cover_trims (suc zero) c l h = absurd cc
cover_trims (suc (suc zero)) c l h = absurd cc
cover_trims (suc (suc (suc zero))) c l h =
    let is : 2 ≡ c = cc in
    subst (λ (c : ℕ). IsTrimFold cover_tree cover_forest cover_fold 3 c) is
    (2, record { edge = omega arith; feeds = refl; big = refl; small = refl; columns_are = refl; whole = r_all }, refl)
cover_trims (suc (suc (suc (suc k)))) c l h = absurd (omega arith)

cover_meets : (k g s : ℕ) → k < 4 → node_at cover_tree.nodes k ≡ Meet g s
    → HasSide cover_tree cover_forest cover_fold k g s ⊎ IsOne cover_tree cover_forest cover_fold k g s
unfolding label_columns variable_column
cover_meets zero g s l h = absurd cc
cover_meets (suc zero) g s l h = absurd cc
cover_meets (suc (suc zero)) g s l h =
    let guard : 0 ≡ g = cc in
    let side : 1 ≡ s = cc in
    inl (subst (λ (g : ℕ). HasSide cover_tree cover_forest cover_fold 2 g s) guard
    (subst (λ (s : ℕ). HasSide cover_tree cover_forest cover_fold 2 0 s) side
    (record {
      edge = 1;
      within = omega arith;
      has = refl;
      big = refl;
      columns_are = refl;
      side_needs = 0 ∷ [];
      side = inr (
        0,
        refl,
        record {
          edge = omega arith;
          feeds = refl;
          big = refl;
          small = refl;
          columns_are = refl;
          whole = s_all;
        },
      );
      whole = view_all;
      knot = refl;
      needs = refl;
    })))
cover_meets (suc (suc (suc zero))) g s l h = absurd cc
cover_meets (suc (suc (suc (suc k)))) g s l h = absurd (omega arith)

cover_widths : (k : ℕ) → k < 4 → (nth_knot cover_knots (knot_of cover_fold k)).width ≡ length (label_at cover_tree.labels k)
cover_widths zero l = refl
cover_widths (suc zero) l = refl
cover_widths (suc (suc zero)) l = refl
cover_widths (suc (suc (suc zero))) l = refl
cover_widths (suc (suc (suc (suc k)))) l = absurd (omega arith)

cover_folded : IsFoldOf cover_tree cover_forest cover_fold
cover_folded = record { long = refl; width = cover_widths; leaf = cover_leaves; leaf_knot = cover_leaf_knots; trim = cover_trims; meet = cover_meets }

cover_reducts : (reducts_of cover_tree cover_forest cover_fold).tables ≡ cover_tables
cover_reducts = refl

pub cover_worked : CoverIsWorked
cover_worked = record { forest = cover_is_forest; folded = cover_folded; reducts = cover_reducts }
