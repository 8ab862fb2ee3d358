-- What a forest stands for are the reducts of its tree.
use Rattle.std.specs.Prelude.{◌≡◌, ◌⊎◌, ℕ, zero, suc, ◌*◌, ◌<◌, Bool, true, false, cond, not, ◌&&◌}
use Rattle.std.specs.Prelude.{List, [], ◌∷◌, ◌++◌, length, Option, Some, None, is_some}
use Rattle.std.proofs.Common.{refl, sym, ◌∙◌, ap, ap₂, subst, arith, inl, inr}
use Rattle.std.proofs.lemmas.Bool.{cases_eq}
use Rattle.std.proofs.lemmas.List.{get_or_append_left, get_or_push, length_push}
use Rattle.djq_hypergraph.specs.Hypergraph.{one}
use Rattle.djq_tree.specs.declared.node.Node.{Node}
use Rattle.djq_tree.specs.declared.node.Node.TheVariants.{Leaf, Trim, Meet}
use Rattle.djq_tree.specs.Labels.{label_at}
use Rattle.djq_tree.specs.Tree.{Tree, IsTree, node_at}
use Rattle.djq_forest.specs.Tuple.{same_tuple, projection, label_columns}
use Rattle.djq_forest.specs.Forest.{Forest, nth_edge, slot_at, tuple_cells, entry_tuple, has_entry}
use Rattle.djq_forest.specs.Forest.{lives, tie_of, list_of}
use Rattle.djq_forest.specs.Invariants.{IsForest, gives, is_empty}
use Rattle.djq_forest.specs.Reducts.{TableEntry, node_table, support_sum, tuple_count, group_count, columns_in}
use Rattle.djq_forest.specs.Reducts.{IsNodeReduct}
use Rattle.djq_forest.specs.Fold.{Fold, knot_of, needs_of, IsTrimFold, HasSide, IsOne, IsFoldOf}
use Rattle.djq_forest.specs.Fold.{meets_needs, node_entries, tables_of, ForestsAreReducts}
use Rattle.djq_forest.proofs.Tuples.{same_is, is_same}
use Rattle.djq_forest.proofs.Checking.{slot_within}
use Rattle.djq_forest.proofs.Sums.{over, over_none, over_one}
use Rattle.djq_forest.proofs.Projections.{rises_by, pick_own}
use Rattle.djq_forest.proofs.TableSums.{supports_sum, weight, slots_of, table_sum, standing, count_is, group_is, one_support}
use Rattle.djq_forest.proofs.Living.{and_true, untrue, met_lives}
use Rattle.djq_forest.proofs.Supports.{At, at_or_away, standing_at, standing_away, isfed_length, isfed_away, represented}

zero_both : (a b : Bool) (m : ℕ) → b ≡ false → cond a (cond b m 0) 0 ≡ 0
zero_both true b m h = rw h refl
zero_both false b m h = refl

given_length : (feeds : Bool) (xs : List ℕ) (b c : Bool) → feeds ≡ true → c ≡ true
    → cond (cond feeds (not (is_empty xs)) b && true) (cond c (length xs) 0) 0 ≡ length xs
given_length feeds [] b c is h = rw is refl
given_length feeds (x ∷ xs) b c is h = rw (is, h) refl

-- what a slot adds to the supports of a trim's tuple
abbrev trim_weight : Forest → ℕ → ℕ → List ℕ → ℕ → Option (List ℕ) → ℕ
trim_weight f c e w i v = weight (λ x. cond (same_tuple x.tuple w) x.supports 0) f (Trim c) (e ∷ []) i v

trim_off : (f : Forest) (c e : ℕ) (w : List ℕ) (i : ℕ) (v : Option (List ℕ)) → (is_some v ≡ true → tuple_cells v ≡ w → ⊥)
    → trim_weight f c e w i v ≡ 0
trim_off f c e w i None h = refl
trim_off f c e w i (Some u) h = zero_both (meets_needs f (e ∷ []) i) (same_tuple u w)
    (length (list_of (nth_edge f.edges e) i)) (untrue (same_tuple u w) (λ t. h refl (same_is u w t)))

trim_on : (f : Forest) (c e : ℕ) (w : List ℕ) (i : ℕ) (v : Option (List ℕ)) → (nth_edge f.edges e).feeds ≡ true
    → is_some v ≡ true → tuple_cells v ≡ w → trim_weight f c e w i v ≡ length (list_of (nth_edge f.edges e) i)
trim_on f c e w i None feeds some is = absurd cc
trim_on f c e w i (Some u) feeds some is = given_length (nth_edge f.edges e).feeds (list_of (nth_edge f.edges e) i)
    (lives f.knots (nth_edge f.edges e).small (tie_of (nth_edge f.edges e) i)) (same_tuple u w) feeds (is_same u w is)

trim_sum : (t : Tree) (f : Forest) (o : Fold) (k c e : ℕ) (w : List ℕ) → node_at t.nodes k ≡ Trim c
    → needs_of o k ≡ e ∷ [] → support_sum (node_entries t f o k) w
    ≡ over (λ i. trim_weight f c e w i (slot_at f.knots (knot_of o k) i)) (slots_of f (knot_of o k))
trim_sum t f o k c e w is needs =
    supports_sum (node_entries t f o k) w ∙ table_sum (λ x. cond (same_tuple x.tuple w) x.supports 0) t f o k
    ∙ ap₂ (λ (n : Node) (ns : List ℕ).
    over (λ i. weight (λ x. cond (same_tuple x.tuple w) x.supports 0) f n ns i (slot_at f.knots (knot_of o k) i))
    (slots_of f (knot_of o k))) is needs

trim_reduct : (t : Tree) (f : Forest) (o : Fold) (k c : ℕ) (w : List ℕ) → IsForest f → node_at t.nodes k ≡ Trim c
    → IsTrimFold t f o k c → support_sum (node_entries t f o k) w
    ≡ group_count (columns_in t c k) (node_entries t f o c) w
trim_reduct t f o k c w h is d =
    let K = knot_of o k in
    let cols = columns_in t c k in
    let sum = trim_sum t f o k c d.0 w is d.2 in
    let group = group_is cols t f o c w in
    elim (at_or_away f K w) [
      | inl p ↦
          sum ∙ over_one (λ i. trim_weight f c d.0 w i (slot_at f.knots K i)) (slots_of f K) p.slot p.within
          (λ i l other. trim_off f c d.0 w i (slot_at f.knots K i)
          (λ there same. other (h.entries.differ K i p.slot there p.there (same ∙ sym p.tuple))))
          ∙ trim_on f c d.0 w p.slot (slot_at f.knots K p.slot) d.1.feeds p.there p.tuple
          ∙ isfed_length f o c d.0 K p.slot cols h d.1 p.there
          ∙ ap (λ (v : List ℕ). standing f (knot_of o c) (needs_of o c) (λ u. same_tuple (projection cols u) v)) p.tuple
          ∙ sym group
      | inr away ↦
          sum ∙ over_none (λ i. trim_weight f c d.0 w i (slot_at f.knots K i)) (slots_of f K)
          (λ i l. trim_off f c d.0 w i (slot_at f.knots K i) (away i))
          ∙ sym (isfed_away f o c d.0 K cols w h d.1 away) ∙ sym group
    ]

and_assoc : (a b c : Bool) → (a && (b && c)) ≡ ((a && b) && c)
and_assoc true b c = refl
and_assoc false b c = refl

met_append : (f : Forest) (ns ms : List ℕ) (x : ℕ)
    → meets_needs f (ns ++ ms) x ≡ (meets_needs f ns x && meets_needs f ms x)
met_append f [] ms x = refl
met_append f (n ∷ ns) ms x =
    ap (λ (b : Bool). gives f.knots (nth_edge f.edges n) x && b) (met_append f ns ms x)
    ∙ and_assoc (gives f.knots (nth_edge f.edges n) x) (meets_needs f ns x) (meets_needs f ms x)

one_times : (a b : Bool) → one (a && b) ≡ one a * one b
one_times true true = refl
one_times true false = refl
one_times false true = refl
one_times false false = refl

no_times : (m n : ℕ) → m ≡ 0 → 0 ≡ m * n
no_times m n h = rw h (sym (omega arith))

-- a meet whose side is one of its guard's knot
side_reduct : (t : Tree) (f : Forest) (o : Fold) (k g s : ℕ) (w : List ℕ) → IsTree t → IsForest f → IsFoldOf t f o
    → s < length t.nodes → HasSide t f o k g s
    → standing f (knot_of o k) (needs_of o k) (λ u. same_tuple u w)
    ≡ standing f (knot_of o g) (needs_of o g) (λ u. same_tuple u w)
    * standing f (knot_of o s) (needs_of o s) (λ u. same_tuple u (projection (columns_in t g s) w))
side_reduct t f o k g s w tree h fold l d =
    let E = nth_edge f.edges d.edge in
    let G = knot_of o g in
    let v = projection (columns_in t g s) w in
    let all = ap₂ (λ (K : ℕ) (ns : List ℕ). standing f K ns (λ u. same_tuple u w)) d.knot d.needs in
    let stands = represented t f o s E.small d.side_needs v tree h fold l d.side in
    elim (at_or_away f G w) [
      | inl p ↦
          let there = subst (λ (K : ℕ). has_entry f.knots K p.slot ≡ true) (sym d.big) p.there in
          let in_small = h.entries.tied d.edge p.slot d.within there in
          let side : At f E.small v = record {
            slot = tie_of E p.slot;
            within = slot_within f.knots E.small (tie_of E p.slot) in_small;
            there = in_small;
            tuple = h.entries.projected d.edge p.slot d.within there
                ∙ ap₂ (λ (cs : List ℕ) (K : ℕ). projection cs (entry_tuple f.knots K p.slot)) d.columns_are d.big
                ∙ ap (λ (u : List ℕ). projection (columns_in t g s) u) p.tuple;
          } in
          let given : (gives f.knots E p.slot && true) ≡ meets_needs f d.side_needs (tie_of E p.slot) =
          and_true (gives f.knots E p.slot)
          ∙ ap (λ (b : Bool). cond b (not (is_empty (list_of E p.slot))) (lives f.knots E.small (tie_of E p.slot))) d.has
          ∙ sym (met_lives f E.small (tie_of E p.slot) d.side_needs h d.whole in_small) in
          all ∙ standing_at f G (needs_of o g ++ d.edge ∷ []) w h p
          ∙ ap one (met_append f (needs_of o g) (d.edge ∷ []) p.slot)
          ∙ one_times (meets_needs f (needs_of o g) p.slot) (gives f.knots E p.slot && true)
          ∙ ap₂ (λ (m n : ℕ). m * n) (sym (standing_at f G (needs_of o g) w h p))
          (ap one given ∙ sym (standing_at f E.small d.side_needs v h side) ∙ sym stands)
      | inr away ↦ all ∙ standing_away f G (needs_of o g ++ d.edge ∷ []) w away
          ∙ no_times _ _ (standing_away f G (needs_of o g) w away)
    ]

-- a meet whose guard and side are one view
one_reduct : (t : Tree) (f : Forest) (o : Fold) (k g s : ℕ) (w : List ℕ) → IsTree t → IsForest f → IsFoldOf t f o
    → k < length t.nodes → g < length t.nodes → s < length t.nodes → label_at t.labels k ≡ label_at t.labels g
    → IsOne t f o k g s → standing f (knot_of o k) (needs_of o k) (λ u. same_tuple u w)
    ≡ standing f (knot_of o g) (needs_of o g) (λ u. same_tuple u w)
    * standing f (knot_of o s) (needs_of o s) (λ u. same_tuple u (projection (columns_in t g s) w))
one_reduct t f o k g s w tree h fold l lg ls label d =
    let K = knot_of o k in
    let v = projection (columns_in t g s) w in
    let all = ap (λ (ns : List ℕ). standing f K ns (λ u. same_tuple u w)) d.needs in
    let guard = represented t f o g K d.guard_needs w tree h fold lg d.guard in
    let side = represented t f o s K d.side_needs v tree h fold ls d.side in
    elim (at_or_away f K w) [
      | inl p ↦
          let wide : length w ≡ length (label_at t.labels g) =
          ap (λ (u : List ℕ). length u) (sym p.tuple) ∙ h.entries.wide K p.slot p.there ∙ fold.width k l
          ∙ ap (λ (u : List ℕ). length u) label in
          let own : v ≡ w =
          ap (λ (m : List ℕ). projection (label_columns (label_at t.labels g) m) w) (sym d.labels)
          ∙ pick_own (label_at t.labels g) w (rises_by (label_at t.labels g) (tree.sets g).rising) wide in
          all ∙ standing_at f K (d.guard_needs ++ d.side_needs) w h p
          ∙ ap one (met_append f d.guard_needs d.side_needs p.slot)
          ∙ one_times (meets_needs f d.guard_needs p.slot) (meets_needs f d.side_needs p.slot)
          ∙ ap₂ (λ (m n : ℕ). m * n) (sym (standing_at f K d.guard_needs w h p) ∙ sym guard)
          (sym (standing_at f K d.side_needs w h p)
          ∙ ap (λ (u : List ℕ). standing f K d.side_needs (λ z. same_tuple z u)) (sym own) ∙ sym side)
      | inr away ↦ all ∙ standing_away f K (d.guard_needs ++ d.side_needs) w away
          ∙ no_times _ _ (guard ∙ standing_away f K d.guard_needs w away)
    ]

meet_reduct : (t : Tree) (f : Forest) (o : Fold) (k g s : ℕ) (w : List ℕ) → IsTree t → IsForest f → IsFoldOf t f o
    → k < length t.nodes → node_at t.nodes k ≡ Meet g s → HasSide t f o k g s ⊎ IsOne t f o k g s
    → support_sum (node_entries t f o k) w
    ≡ tuple_count (node_entries t f o g) w * tuple_count (node_entries t f o s) (projection (columns_in t g s) w)
meet_reduct t f o k g s w tree h fold l is d =
    let meet = tree.meet k g s is in
    let lg : g < length t.nodes = let m = meet.guard_lower in omega arith in
    let ls : s < length t.nodes = let m = meet.side_lower in omega arith in
    one_support t f o k (Meet g s) w is (λ x. refl) ∙ count_is t f o k w
    ∙ elim d [
      | inl side ↦ side_reduct t f o k g s w tree h fold ls side
      | inr both ↦ one_reduct t f o k g s w tree h fold l lg ls meet.guard both
    ]
    ∙ ap₂ (λ (m n : ℕ). m * n) (sym (count_is t f o g w)) (sym (count_is t f o s (projection (columns_in t g s) w)))

tables_long : (t : Tree) (f : Forest) (o : Fold) (n : ℕ) → length (tables_of t f o n) ≡ n
tables_long t f o zero = refl
tables_long t f o (suc n) = omega (arith, tables_long t f o n, length_push (tables_of t f o n) (node_entries t f o n))

table_is : (t : Tree) (f : Forest) (o : Fold) (n k : ℕ) → k < n → node_table (tables_of t f o n) k ≡ node_entries t f o k
table_is t f o zero k l = absurd (omega arith)
table_is t f o (suc n) k l =
    elim (cases_eq k n) [
      | inl last ↦ get_or_push (tables_of t f o n) (node_entries t f o n) [] k (tables_long t f o n ∙ sym last)
          ∙ ap (λ (i : ℕ). node_entries t f o i) (sym last)
      | inr other ↦ let below : k < n = omega arith in
          get_or_append_left (tables_of t f o n) (node_entries t f o n ∷ []) [] k (omega (arith, below, tables_long t f o n))
          ∙ table_is t f o n k below
    ]

node_reduct : (t : Tree) (f : Forest) (o : Fold) (ts : List (List TableEntry)) (k : ℕ) (n : Node) → IsTree t → IsForest f
    → IsFoldOf t f o → k < length t.nodes → node_at t.nodes k ≡ n
    → ((j : ℕ) → j < length t.nodes → node_table ts j ≡ node_entries t f o j) → IsNodeReduct t n ts k
unfolding IsNodeReduct
node_reduct t f o ts k (Leaf a) tree h fold l is at = λ w. rw (at k l) (one_support t f o k (Leaf a) w is (λ x. refl))
node_reduct t f o ts k (Trim c) tree h fold l is at = λ w.
    let lower = (tree.trim k c is).lower in
    let lc : c < length t.nodes = omega arith in
    rw (at k l, at c lc) (trim_reduct t f o k c w h is (fold.trim k c l is))
node_reduct t f o ts k (Meet g s) tree h fold l is at = λ w.
    let meet = tree.meet k g s is in
    let lg : g < length t.nodes = let m = meet.guard_lower in omega arith in
    let ls : s < length t.nodes = let m = meet.side_lower in omega arith in
    rw (at k l, at g lg, at s ls) (meet_reduct t f o k g s w tree h fold l is (fold.meet k g s l is))

pub reduction : ForestsAreReducts
reduction = λ t f o tree h fold. record {
  long = tables_long t f o (length t.nodes);
  at = λ k l. node_reduct t f o (tables_of t f o (length t.nodes)) k (node_at t.nodes k) tree h fold l refl
      (λ j m. table_is t f o (length t.nodes) j m);
}
