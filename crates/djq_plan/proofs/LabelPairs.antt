-- In how many labels two variables lie, each of them and both.
use Rattle.std.proofs.Common.{◌≡◌, ◌⊎◌, ℕ, zero, suc, ◌<◌, ◌≤◌, min, Bool, true, false, not, ◌&&◌, ◌||◌, List, [], ◌∷◌}
use Rattle.std.proofs.Common.{refl, ◌∙◌, arith, inl, inr}
use Rattle.std.proofs.lemmas.Bool.{cases_Bool, and_parts}
use Rattle.djq_hypergraph.specs.Hypergraph.{member, degree, edge_at, one}
use Rattle.djq_hypergraph.specs.Variables.{AreCovered}
use Rattle.djq_hypergraph.specs.Flat.{edges_are_within, is_apart, IsFlat}
use Rattle.djq_hypergraph.proofs.Sets.{has_bit, one_true, from_true}
use Rattle.djq_hypergraph.proofs.Labels.{labels, total, total_same, Same}

-- how many labels have both variables
abbrev pub pairs : ℕ → ℕ → List (List ℕ) → ℕ
pairs x y L = total (λ l. min (has_bit x l) (has_bit y l)) L

pub pairs_same : (x y : ℕ) (L M : List (List ℕ)) → Same L M → pairs x y L ≡ pairs x y M
pairs_same x y L M h = total_same labels (λ l. min (has_bit x l) (has_bit y l)) L M h

pub pairs_turn : (x y : ℕ) (L : List (List ℕ)) → pairs x y L ≡ pairs y x L
pairs_turn x y [] = refl
pairs_turn x y (l ∷ L) = omega (arith, pairs_turn x y L)

pub pairs_most : (x y : ℕ) (L : List (List ℕ)) → pairs x y L ≤ degree x L
pairs_most x y [] = omega arith
pairs_most x y (l ∷ L) = omega (arith, pairs_most x y L)

pub pairs_least : (x y : ℕ) (L : List (List ℕ)) → pairs x y L ≤ degree y L
pairs_least x y L = omega (arith, pairs_turn x y L, pairs_most y x L)

-- ---- what the numbers say of the labels

implied : (a b : Bool) → (not a || b) ≡ true → one a ≤ one b
implied true true h = omega arith
implied true false h = absurd cc
implied false b h = omega arith

implies : (a b : Bool) → one a ≤ one b → (not a || b) ≡ true
implies true true h = refl
implies true false h = absurd (omega arith)
implies false b h = refl

parted : (a b : Bool) → not (a && b) ≡ true → min (one a) (one b) ≡ 0
parted true true h = absurd cc
parted true false h = omega arith
parted false b h = omega arith

parts : (a b : Bool) → min (one a) (one b) ≡ 0 → not (a && b) ≡ true
parts true true h = absurd (omega arith)
parts true false h = refl
parts false b h = refl

pub within_pairs : (H : List (List ℕ)) (x y : ℕ) → edges_are_within H x y ≡ true → pairs x y H ≡ degree x H
within_pairs [] x y h = refl
within_pairs (e ∷ H) x y h =
    let here = implied (member x e) (member y e)
    (and_parts (not (member x e) || member y e) (edges_are_within H x y) h).0 in
    let r = within_pairs H x y (and_parts (not (member x e) || member y e) (edges_are_within H x y) h).1 in
    omega arith

pub pairs_within : (H : List (List ℕ)) (x y : ℕ) → pairs x y H ≡ degree x H → edges_are_within H x y ≡ true
pairs_within [] x y h = refl
pairs_within (e ∷ H) x y h =
    let m = pairs_most x y H in
    let here = implies (member x e) (member y e) (omega arith) in
    rw (here, pairs_within H x y (omega arith)) refl

apart_pairs : (H : List (List ℕ)) (x y : ℕ) → is_apart H x y ≡ true → pairs x y H ≡ 0
apart_pairs [] x y h = refl
apart_pairs (e ∷ H) x y h =
    let here = parted (member x e) (member y e) (and_parts (not (member x e && member y e)) (is_apart H x y) h).0 in
    let r = apart_pairs H x y (and_parts (not (member x e && member y e)) (is_apart H x y) h).1 in
    omega arith

pairs_apart : (H : List (List ℕ)) (x y : ℕ) → pairs x y H ≡ 0 → is_apart H x y ≡ true
pairs_apart [] x y h = refl
pairs_apart (e ∷ H) x y h = rw (parts (member x e) (member y e) (omega arith), pairs_apart H x y (omega arith)) refl

-- a place with both variables
pub pairs_at : (x y : ℕ) (L : List (List ℕ)) (j : ℕ)
    → min (has_bit x (edge_at L j)) (has_bit y (edge_at L j)) ≤ pairs x y L
pairs_at x y [] zero = omega arith
pairs_at x y [] (suc j) = omega arith
pairs_at x y (l ∷ L) zero = omega arith
pairs_at x y (l ∷ L) (suc j) = omega (arith, pairs_at x y L j)

-- where each label with x has y, so has the one at a place
pub pairs_each : (x y : ℕ) (L : List (List ℕ)) (j : ℕ) → pairs x y L ≡ degree x L
    → has_bit x (edge_at L j) ≤ has_bit y (edge_at L j)
pairs_each x y [] zero h = omega arith
pairs_each x y [] (suc j) h = omega arith
pairs_each x y (l ∷ L) zero h = omega (arith, pairs_most x y L)
pairs_each x y (l ∷ L) (suc j) h = pairs_each x y L j (omega (arith, pairs_most x y L))

-- ---- flat queries

-- the labels L are those of a flat query whose head has the variables of `keep`, but that these needn't lie in L
pub record IsEven (keep : List ℕ) (L : List (List ℕ)) : Type 0 where
  pub nested : (x y : ℕ) → (pairs x y L ≡ degree x L) ⊎ ((pairs x y L ≡ degree y L) ⊎ (pairs x y L ≡ 0))
  pub headed : (x y : ℕ) → 0 < has_bit x keep → 0 < degree x L → pairs x y L ≡ degree x L
      → (pairs x y L ≡ degree y L) ⊎ (0 < has_bit y keep)

one_of : (a b c : Bool) → (a || b || c) ≡ true → (a ≡ true) ⊎ ((b ≡ true) ⊎ (c ≡ true))
one_of true b c h = inl refl
one_of false true c h = inr (inl refl)
one_of false false c h = inr (inr h)

first_or : (a b c : Bool) → a ≡ true → (a || b || c) ≡ true
first_or a b c h = rw h refl

middle_or : (a b c : Bool) → b ≡ true → (a || b || c) ≡ true
middle_or true b c h = refl
middle_or false b c h = rw h refl

last_or : (a b c : Bool) → c ≡ true → (a || b || c) ≡ true
last_or true b c h = refl
last_or false true c h = refl
last_or false false c h = h

pub even_of : (H : List (List ℕ)) (F : List ℕ) → IsFlat H F → IsEven F H
even_of H F flat = record {
  nested = λ x y. elim (one_of (edges_are_within H x y) (edges_are_within H y x) (is_apart H x y) ((flat x).nested y)) [
    | inl w ↦ inl (within_pairs H x y w)
    | inr r ↦ elim r [
      | inl w ↦ inr (inl (pairs_turn x y H ∙ within_pairs H y x w))
      | inr a ↦ inr
          (inr (apart_pairs H x y a))
    ]
  ];
  headed = λ x y head some full. elim (cases_Bool (edges_are_within H y x)) [
    | inl w ↦ inl (pairs_turn x y H ∙ within_pairs H y x w)
    | inr less ↦ inr (from_true (member y F)
        ((flat x).headed y (one_true (member x F) head) (pairs_within H x y full) less))
  ];
}

pub flat_of : (H : List (List ℕ)) (F : List ℕ) → AreCovered F H → IsEven F H → IsFlat H F
flat_of H F heads even x = record {
  nested = λ y. elim (even.nested x y) [
    | inl p ↦ first_or (edges_are_within H x y) (edges_are_within H y x) (is_apart H x y) (pairs_within H x y p)
    | inr r ↦ elim r [
      | inl p ↦ middle_or (edges_are_within H x y) (edges_are_within H y x) (is_apart H x y)
          (pairs_within H y x (pairs_turn y x H ∙ p))
      | inr p ↦ last_or (edges_are_within H x y) (edges_are_within H y x) (is_apart H x y) (pairs_apart H x y p)
    ]
  ];
  headed = λ y head w less. elim (even.headed x y (from_true (member x F) head) (heads x head) (within_pairs H x y w)) [
    | inl p ↦ absurd (let t = pairs_within H y x (pairs_turn y x H ∙ p) in cc)
    | inr in_head ↦ one_true (member y F) in_head
  ];
}
