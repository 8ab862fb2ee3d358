-- An entry with a tuple, if there is one, and how many entries an edge lists for it.
use Rattle.std.specs.Prelude.{◌≡◌, ◌⊎◌, ℕ, ◌<◌, ◌≤◌, Bool, true, false, cond, not, ◌==◌, ◌&&◌}
use Rattle.std.specs.Prelude.{List, [], ◌∷◌, length}
use Rattle.std.proofs.Common.{refl, sym, ◌∙◌, ap, ap₂, subst, arith, inl, inr}
use Rattle.std.proofs.lemmas.Bool.{cases_eq, eq-eqb, ne_eqb}
use Rattle.djq_arena.specs.Chains.{AreBelow}
use Rattle.djq_hypergraph.specs.Hypergraph.{member, one}
use Rattle.djq_tree.specs.Labels.{label_at}
use Rattle.djq_tree.specs.Tree.{Tree, IsTree}
use Rattle.djq_forest.specs.Tuple.{same_tuple, projection}
use Rattle.djq_forest.specs.Forest.{Forest, nth_edge, entry_tuple, has_entry, missing_at}
use Rattle.djq_forest.specs.Forest.{lives, tie_of, list_of}
use Rattle.djq_forest.specs.Invariants.{IsForest, is_to_list, is_empty}
use Rattle.djq_forest.specs.Reducts.{columns_in}
use Rattle.djq_forest.specs.Fold.{Fold, knot_of, needs_of, AreAllNeeds, IsFed, Represents, IsFoldOf}
use Rattle.djq_forest.specs.Fold.{meets_needs}
use Rattle.djq_forest.proofs.Tuples.{same_is, is_same}
use Rattle.djq_forest.proofs.Checking.{slot_within}
use Rattle.djq_forest.proofs.Sums.{over_same, over_none, over_one, find_below, listed_length}
use Rattle.djq_forest.proofs.Projections.{rises_by, pick_own}
use Rattle.djq_forest.proofs.TableSums.{slots_of, hit, standing}
use Rattle.djq_forest.proofs.Living.{and_true, and_swap, untrue, and_left, and_right, member_here, member_later, met_lives}

pub record At (f : Forest) (k : ℕ) (w : List ℕ) : Type 0 where
  pub slot : ℕ
  pub within : slot < slots_of f k
  pub there : has_entry f.knots k slot ≡ true
  pub tuple : entry_tuple f.knots k slot ≡ w

abbrev pub IsAway : Forest → ℕ → List ℕ → Type 0
IsAway f k w = (x : ℕ) → has_entry f.knots k x ≡ true → entry_tuple f.knots k x ≡ w → ⊥

pub at_or_away : (f : Forest) (k : ℕ) (w : List ℕ) → At f k w ⊎ IsAway f k w
at_or_away f k w =
    let test = λ (x : ℕ). has_entry f.knots k x && same_tuple (entry_tuple f.knots k x) w in
    elim (find_below test (slots_of f k)) [
      | inl found ↦ inl (record {
        slot = found.at;
        within = found.below;
        there = and_left (has_entry f.knots k found.at) _ found.passes;
        tuple = same_is _ _ (and_right (has_entry f.knots k found.at) _ found.passes);
      })
      | inr none ↦ inr (λ x i is.
          let off : test x ≡ false = none x (slot_within f.knots k x i) in
          let on : test x ≡ true = rw (i, is_same (entry_tuple f.knots k x) w is) refl in
          cc)
    ]

pub no_hit : (a b c : Bool) → (a ≡ true → c ≡ true → ⊥) → (a && (b && c)) ≡ false
no_hit true true c h = untrue c (h refl)
no_hit true false c h = refl
no_hit false b c h = refl

pub unhit_by : (f : Forest) (k : ℕ) (ns : List ℕ) (test : List ℕ → Bool) (x : ℕ)
    → (has_entry f.knots k x ≡ true → test (entry_tuple f.knots k x) ≡ true → ⊥) → hit f k ns test x ≡ false
unhit_by f k ns test x h = no_hit (has_entry f.knots k x) (meets_needs f ns x) (test (entry_tuple f.knots k x)) h

pub unhit : (f : Forest) (k : ℕ) (ns : List ℕ) (w : List ℕ) (x : ℕ)
    → (has_entry f.knots k x ≡ true → entry_tuple f.knots k x ≡ w → ⊥) → hit f k ns (λ u. same_tuple u w) x ≡ false
unhit f k ns w x h = unhit_by f k ns (λ u. same_tuple u w) x (λ i is. h i (same_is (entry_tuple f.knots k x) w is))

-- what passes with this tuple is one entry, or none
pub standing_at : (f : Forest) (k : ℕ) (ns : List ℕ) (w : List ℕ) → IsForest f → (p : At f k w)
    → standing f k ns (λ u. same_tuple u w) ≡ one (meets_needs f ns p.slot)
standing_at f k ns w h p =
    over_one (λ x. one (hit f k ns (λ u. same_tuple u w) x)) (slots_of f k) p.slot p.within
    (λ x l other. ap one (unhit f k ns w x (λ i is. other (h.entries.differ k x p.slot i p.there (is ∙ sym p.tuple)))))
    ∙ ap one (rw (p.there, is_same (entry_tuple f.knots k p.slot) w p.tuple) (and_true (meets_needs f ns p.slot)))

pub standing_away : (f : Forest) (k : ℕ) (ns : List ℕ) (w : List ℕ) → IsAway f k w
    → standing f k ns (λ u. same_tuple u w) ≡ 0
standing_away f k ns w away = over_none (λ x. one (hit f k ns (λ u. same_tuple u w) x)) (slots_of f k)
    (λ x l. ap one (unhit f k ns w x (away x)))

pub below_members : (n : ℕ) (xs : List ℕ) → ((x : ℕ) → member x xs ≡ true → x < n) → AreBelow n xs
unfolding AreBelow
below_members n [] h = tt
below_members n (x ∷ xs) h = (h x (member_here x xs), below_members n xs (λ y m. h y (member_later y x xs m)))

pub listed_in : (here feeds a m : Bool) → (here && cond feeds (a && m) a) ≡ true → a ≡ true
listed_in true true a m h = and_left a m h
listed_in true false a m h = h
listed_in false feeds a m h = absurd cc

pub listed_below : (f : Forest) (e y : ℕ) → IsForest f → e < length f.edges
    → AreBelow (slots_of f (nth_edge f.edges e).big) (list_of (nth_edge f.edges e) y)
listed_below f e y h l =
    let E = nth_edge f.edges e in
    below_members (slots_of f E.big) (list_of E y)
    (λ x m. slot_within f.knots E.big x (listed_in (tie_of E x == y) E.feeds (has_entry f.knots E.big x)
    (missing_at f.knots E.big x == 0) (sym (h.listed e x y l) ∙ m)))

-- an entry is tied to the one with its projection, and to no other one
pub tie_same : (f : Forest) (e x y : ℕ) → IsForest f → e < length f.edges
    → has_entry f.knots (nth_edge f.edges e).big x ≡ true → has_entry f.knots (nth_edge f.edges e).small y ≡ true
    → (tie_of (nth_edge f.edges e) x == y) ≡ same_tuple
    (projection (nth_edge f.edges e).columns (entry_tuple f.knots (nth_edge f.edges e).big x))
    (entry_tuple f.knots (nth_edge f.edges e).small y)
tie_same f e x y h l i there =
    let E = nth_edge f.edges e in
    elim (cases_eq (tie_of E x) y) [
      | inl here ↦ eq-eqb (tie_of E x) y here
          ∙ sym (is_same _ _ (sym (h.entries.projected e x l i) ∙ ap (λ (z : ℕ). entry_tuple f.knots E.small z) here))
      | inr other ↦ ne_eqb (tie_of E x) y other
          ∙ sym (untrue _ (λ is. other (h.entries.differ E.small (tie_of E x) y (h.entries.tied e x l i) there
          (h.entries.projected e x l i ∙ same_is _ _ is))))
    ]

pub fed_hit : (f : Forest) (e y x : ℕ) (ns : List ℕ) → IsForest f → e < length f.edges → (nth_edge f.edges e).feeds ≡ true
    → AreAllNeeds f.edges (nth_edge f.edges e).big ns → has_entry f.knots (nth_edge f.edges e).small y ≡ true
    → (b : Bool) → has_entry f.knots (nth_edge f.edges e).big x ≡ b
    → is_to_list f.knots (nth_edge f.edges e) x y ≡ hit f (nth_edge f.edges e).big ns
    (λ u. same_tuple (projection (nth_edge f.edges e).columns u) (entry_tuple f.knots (nth_edge f.edges e).small y)) x
fed_hit f e y x ns h l feeds a there true i =
    let E = nth_edge f.edges e in
    ap (λ (b : Bool). (tie_of E x == y) && cond b (lives f.knots E.big x) (has_entry f.knots E.big x)) feeds
    ∙ and_swap (tie_of E x == y) (lives f.knots E.big x)
    ∙ ap₂ (λ (a b : Bool). a && b) (sym (met_lives f E.big x ns h a i)) (tie_same f e x y h l i there)
    ∙ ap (λ (b : Bool). b && (meets_needs f ns x
    && same_tuple (projection E.columns (entry_tuple f.knots E.big x)) (entry_tuple f.knots E.small y))) (sym i)
fed_hit f e y x ns h l feeds a there false i =
    let E = nth_edge f.edges e in
    ap (λ (b : Bool). (tie_of E x == y) && cond b (lives f.knots E.big x) (has_entry f.knots E.big x)) feeds
    ∙ ap (λ (b : Bool). (tie_of E x == y) && (b && (missing_at f.knots E.big x == 0))) i
    ∙ and_swap (tie_of E x == y) false
    ∙ ap (λ (b : Bool). b && (meets_needs f ns x
    && same_tuple (projection E.columns (entry_tuple f.knots E.big x)) (entry_tuple f.knots E.small y))) (sym i)

-- of the entries that live in a big knot, as many as have a projection are listed for the small one's entry with it
pub fed_length : (f : Forest) (e y : ℕ) (ns : List ℕ) → IsForest f → e < length f.edges → (nth_edge f.edges e).feeds ≡ true
    → AreAllNeeds f.edges (nth_edge f.edges e).big ns → has_entry f.knots (nth_edge f.edges e).small y ≡ true
    → length (list_of (nth_edge f.edges e) y) ≡ standing f (nth_edge f.edges e).big ns
    (λ u. same_tuple (projection (nth_edge f.edges e).columns u) (entry_tuple f.knots (nth_edge f.edges e).small y))
fed_length f e y ns h l feeds a there =
    let E = nth_edge f.edges e in
    listed_length (list_of E y) (slots_of f E.big) (h.once e y l) (listed_below f e y h l)
    ∙ over_same (λ x. one (member x (list_of E y))) _ (slots_of f E.big)
    (λ x m. ap one (h.listed e x y l ∙ fed_hit f e y x ns h l feeds a there (has_entry f.knots E.big x) refl))

-- and where the small knot has no entry with a projection, none lives that has it
pub fed_away : (f : Forest) (e : ℕ) (ns : List ℕ) (w : List ℕ) → IsForest f → e < length f.edges
    → IsAway f (nth_edge f.edges e).small w
    → standing f (nth_edge f.edges e).big ns (λ u. same_tuple (projection (nth_edge f.edges e).columns u) w) ≡ 0
fed_away f e ns w h l away =
    let E = nth_edge f.edges e in
    over_none _ (slots_of f E.big)
    (λ x m. ap one (unhit_by f E.big ns (λ u. same_tuple (projection E.columns u) w) x (λ i is.
    away (tie_of E x) (h.entries.tied e x l i) (h.entries.projected e x l i ∙ same_is _ _ is))))

pub hits_alike : (a b c d : Bool) → (a ≡ true → c ≡ d) → (a && (b && c)) ≡ (a && (b && d))
hits_alike true b c d h = ap (λ (e : Bool). b && e) (h refl)
hits_alike false b c d h = refl

pub one_at_most : (b : Bool) → one b ≤ 1
one_at_most true = omega arith
one_at_most false = omega arith

-- a list of one slot at most is as long as it isn't empty
pub fed_on : (feeds : Bool) (xs : List ℕ) (b : Bool) → feeds ≡ true → length xs ≤ 1
    → one (cond feeds (not (is_empty xs)) b && true) ≡ length xs
fed_on feeds [] b is l = rw is refl
fed_on feeds (x ∷ []) b is l = rw is refl
fed_on feeds (x ∷ (y ∷ ys)) b is l = absurd (omega arith)

pub fed_one : (f : Forest) (e y : ℕ) → (nth_edge f.edges e).feeds ≡ true → length (list_of (nth_edge f.edges e) y) ≤ 1
    → one (meets_needs f (e ∷ []) y) ≡ length (list_of (nth_edge f.edges e) y)
fed_one f e y is l = fed_on (nth_edge f.edges e).feeds (list_of (nth_edge f.edges e) y)
    (lives f.knots (nth_edge f.edges e).small (tie_of (nth_edge f.edges e) y)) is l

-- the same of a view that a node's knot feeds
pub isfed_length : (f : Forest) (o : Fold) (c e v y : ℕ) (cols : List ℕ) → IsForest f → (d : IsFed f o c e v cols)
    → has_entry f.knots v y ≡ true → length (list_of (nth_edge f.edges e) y) ≡ standing f (knot_of o c) (needs_of o c)
    (λ u. same_tuple (projection cols u) (entry_tuple f.knots v y))
isfed_length f o c e v y cols h d there =
    let k = fed_length f e y (needs_of o c) h d.edge d.feeds
    (subst (λ (b : ℕ). AreAllNeeds f.edges b (needs_of o c)) (sym d.big) d.whole)
    (subst (λ (s : ℕ). has_entry f.knots s y ≡ true) (sym d.small) there) in
    rw (d.big, d.small, d.columns_are) at k

pub isfed_away : (f : Forest) (o : Fold) (c e v : ℕ) (cols w : List ℕ) → IsForest f → (d : IsFed f o c e v cols)
    → IsAway f v w → standing f (knot_of o c) (needs_of o c) (λ u. same_tuple (projection cols u) w) ≡ 0
isfed_away f o c e v cols w h d away =
    let k = fed_away f e (needs_of o c) w h d.edge (subst (λ (s : ℕ). IsAway f s w) (sym d.small) away) in
    rw (d.big, d.columns_are) at k

-- what stands for a node has its tuples
pub standing_alike : (f : Forest) (k : ℕ) (ns : List ℕ) (p q : List ℕ → Bool)
    → ((x : ℕ) → has_entry f.knots k x ≡ true → p (entry_tuple f.knots k x) ≡ q (entry_tuple f.knots k x))
    → standing f k ns p ≡ standing f k ns q
standing_alike f k ns p q h = over_same _ _ (slots_of f k)
    (λ x l. ap one (hits_alike (has_entry f.knots k x) (meets_needs f ns x) _ _ (h x)))

pub few_standing : (f : Forest) (k : ℕ) (ns : List ℕ) (w : List ℕ) → IsForest f → standing f k ns (λ u. same_tuple u w) ≤ 1
few_standing f k ns w h =
    elim (at_or_away f k w) [
      | inl p ↦ let is = standing_at f k ns w h p in let b = one_at_most (meets_needs f ns p.slot) in omega (arith, is, b)
      | inr away ↦ let is = standing_away f k ns w away in omega (arith, is)
    ]

pub own_columns : (t : Tree) (f : Forest) (o : Fold) (j x : ℕ) → IsTree t → IsForest f → IsFoldOf t f o → j < length t.nodes
    → has_entry f.knots (knot_of o j) x ≡ true
    → projection (columns_in t j j) (entry_tuple f.knots (knot_of o j) x) ≡ entry_tuple f.knots (knot_of o j) x
own_columns t f o j x tree h fold l i = pick_own (label_at t.labels j) (entry_tuple f.knots (knot_of o j) x)
    (rises_by (label_at t.labels j) (tree.sets j).rising) (h.entries.wide (knot_of o j) x i ∙ fold.width j l)

pub copied : (t : Tree) (f : Forest) (o : Fold) (j k e : ℕ) (v : List ℕ) → IsTree t → IsForest f → IsFoldOf t f o
    → j < length t.nodes → (d : IsFed f o j e k (columns_in t j j))
    → standing f (knot_of o j) (needs_of o j) (λ u. same_tuple u v) ≡ standing f k (e ∷ []) (λ u. same_tuple u v)
copied t f o j k e v tree h fold l d =
    let own = standing_alike f (knot_of o j) (needs_of o j) (λ u. same_tuple (projection (columns_in t j j) u) v)
    (λ u. same_tuple u v) (λ x i. ap (λ (u : List ℕ). same_tuple u v) (own_columns t f o j x tree h fold l i)) in
    elim (at_or_away f k v) [
      | inl p ↦
          let long = isfed_length f o j e k p.slot (columns_in t j j) h d p.there in
          let tuple = ap (λ (w : List ℕ). standing f (knot_of o j) (needs_of o j)
          (λ u. same_tuple (projection (columns_in t j j) u) w)) p.tuple in
          let few = few_standing f (knot_of o j) (needs_of o j) v h in
          let here = standing_at f k (e ∷ []) v h p in
          let given = fed_one f e p.slot d.feeds (omega (arith, long, tuple, own, few)) in
          omega (arith, long, tuple, own, here, given)
      | inr away ↦
          let none = isfed_away f o j e k (columns_in t j j) v h d away in
          let here = standing_away f k (e ∷ []) v away in
          omega (arith, own, none, here)
    ]

pub represented : (t : Tree) (f : Forest) (o : Fold) (j k : ℕ) (ns v : List ℕ) → IsTree t → IsForest f → IsFoldOf t f o
    → j < length t.nodes → Represents t f o j k ns
    → standing f (knot_of o j) (needs_of o j) (λ u. same_tuple u v) ≡ standing f k ns (λ u. same_tuple u v)
represented t f o j k ns v tree h fold l r =
    elim r [
      | inl own ↦ rw (own.0, own.1) refl
      | inr copy ↦ copied t f o j k copy.0 v tree h fold l copy.2
          ∙ ap (λ (ms : List ℕ). standing f k ms (λ u. same_tuple u v)) (sym copy.1)
    ]
