-- What settling comes to: the net, and no more lines than there were.
use Rattle.std.proofs.Common.{arith, ◌≡◌, ◌<◌, ◌≤◌, ◌∙◌, ap, sym, refl, subst, length, map, Bool, true, false, ◌&&◌, List, [], ◌++◌, ℕ, inl, inr, Bool}
use Rattle.std.specs.Bool.{Decides}
use Rattle.std.specs.Cmp.{IsEquivalence, bool_eq_equiv, booleans_Decides}
use Rattle.std.specs.Cmp.Lexicographic.{pointwise}
use Rattle.std.specs.List.{All, AllPairs, Contains}
use Rattle.std.specs.List.Sorted.{IsPermutation}
use Rattle.std.specs.Ordering.{on, eq_of_both}
use Rattle.std.specs.Prelude.{nat_eq}
use Rattle.std.proofs.lemmas.Cmp.{and_equiv, on_equiv, nat_list_eq_equiv}
use Rattle.std.proofs.lemmas.List.{get_or-map, length-map}
use Rattle.std.proofs.lemmas.List.Elements.{All-contains, Contains-append_cases, Contains-append_left, Contains-append_right, Contains-get_or}
use Rattle.std.proofs.lemmas.List.Sorted.{Contains-permutation, IsPermutation-sym}
use Rattle.std.proofs.lemmas.Map.Keys.{IsDistinct-IsPermutation}
use Rattle.std.proofs.lemmas.Map.Made.{AllPairs-from_IsDistinct, IsDistinct-from_AllPairs, is_member-Decides, length-le_from_is_member}
use Rattle.std.proofs.lemmas.Slice.Eq.{bytes_eq-Decides}
use Rattle.std.proofs.Math.Bool.{beq}
use Rattle.std.proofs.Math.ListN.{get_or}
use Rattle.djq_delta.specs.Lines.{SignedLine, reversed, AreDistinctLines, SettlesTo, came_line, went_line}
use Rattle.djq_delta.proofs.Alone.{same_line, not_itself}

in_map : (f : List ℕ → SignedLine) (ts : List (List ℕ)) (t : List ℕ) → Contains ts t → Contains (map f ts) (f t)
in_map f ts t c = (c.0, omega (arith, c.1, length-map ts f), get_or-map f ts c.0 t (f t) c.1 ∙ ap f c.2)

from_map : (f : List ℕ → SignedLine) (ts : List (List ℕ)) (l : SignedLine) → Contains (map f ts) l → (t : List ℕ) × Contains ts t × (f t ≡ l)
from_map f ts l c =
    let within : c.0 < length ts = omega (arith, c.1, length-map ts f) in
    (get_or ts c.0 [], Contains-get_or ts c.0 [] within, sym (get_or-map f ts c.0 [] l within) ∙ c.2)

sign_differs : {G : Type 0} (s t : List ℕ) → came_line s ≡ went_line t → G
sign_differs s t e = let signs : true ≡ false = ap (λ (l : SignedLine). l.came) e in cc signs

came_there : (come gone : List (List ℕ)) (t : List ℕ) → Contains (map came_line come ++ map went_line gone) (came_line t) → Contains come t
came_there come gone t c = elim (Contains-append_cases (map came_line come) (map went_line gone) (came_line t) c) [
  | inl d ↦ let f = from_map came_line come (came_line t) d in subst (Contains come) (ap (λ (l : SignedLine). l.cells) f.2) f.1
  | inr d ↦ let f = from_map went_line gone (came_line t) d in sign_differs t f.0 (sym f.2)
]

went_there : (come gone : List (List ℕ)) (t : List ℕ) → Contains (map came_line come ++ map went_line gone) (went_line t) → Contains gone t
went_there come gone t c = elim (Contains-append_cases (map came_line come) (map went_line gone) (went_line t) c) [
  | inl d ↦ let f = from_map came_line come (went_line t) d in sign_differs f.0 t f.2
  | inr d ↦ let f = from_map went_line gone (went_line t) d in subst (Contains gone) (ap (λ (l : SignedLine). l.cells) f.2) f.1
]

there_came : (come gone : List (List ℕ)) (t : List ℕ) → Contains come t → Contains (map came_line come ++ map went_line gone) (came_line t)
there_came come gone t c = Contains-append_left (map came_line come) (map went_line gone) (came_line t) (in_map came_line come t c)

there_went : (come gone : List (List ℕ)) (t : List ℕ) → Contains gone t → Contains (map came_line come ++ map went_line gone) (went_line t)
there_went come gone t c = Contains-append_right (map came_line come) (map went_line gone) (went_line t) (in_map went_line gone t c)

-- settled, what came and what went is the net
pub net : (come gone : List (List ℕ)) (new : List SignedLine) → SettlesTo (map came_line come ++ map went_line gone) new → (t : List ℕ)
    → ((Contains new (came_line t) → Contains come t × (Contains gone t → ⊥)) × (Contains come t × (Contains gone t → ⊥) → Contains new (came_line t)))
    × ((Contains new (went_line t) → Contains gone t × (Contains come t → ⊥)) × (Contains gone t × (Contains come t → ⊥) → Contains new (went_line t)))
net come gone new h t = (
  (
    λ c. (came_there come gone t (h.within (came_line t) c), λ w. h.alone (came_line t) c (there_went come gone t w)),
    λ p. h.complete (came_line t) (there_came come gone t p.0) (λ r. p.1 (went_there come gone t r)),
  ),
  (
    λ c. (went_there come gone t (h.within (went_line t) c), λ w. h.alone (went_line t) c (there_came come gone t w)),
    λ p. h.complete (went_line t) (there_went come gone t p.0) (λ r. p.1 (came_there come gone t r)),
  ),
)

-- Whether two lines are the same.
abbrev pub line_eq : SignedLine → SignedLine → Bool
line_eq = eq_of_both (on (λ (l : SignedLine). l.came) beq) (on (λ (l : SignedLine). l.cells) (pointwise nat_eq))

line_eq_equiv : IsEquivalence line_eq
line_eq_equiv = and_equiv (on_equiv (λ (l : SignedLine). l.came) bool_eq_equiv) (on_equiv (λ (l : SignedLine). l.cells) nat_list_eq_equiv)

both_decide : (k l : SignedLine) (b c : Bool) → Decides b (k.came ≡ l.came) → Decides c (k.cells ≡ l.cells) → Decides (b && c) (k ≡ l)
both_decide k l true true f g = (λ _. same_line k l (f.0 refl) (g.0 refl), λ _. refl)
both_decide k l true false f g = (λ e. cc e, λ e. g.1 (ap (λ (m : SignedLine). m.cells) e))
both_decide k l false c f g = (λ e. cc e, λ e. f.1 (ap (λ (m : SignedLine). m.came) e))

pub line_eq_decides : (k l : SignedLine) → Decides (line_eq k l) (k ≡ l)
line_eq_decides k l = both_decide k l (beq k.came l.came) (pointwise nat_eq k.cells l.cells) (booleans_Decides k.came l.came) (bytes_eq-Decides k.cells l.cells)

-- lines that are different stay so in another order
pub distinct_permuted : (xs ys : List SignedLine) → IsPermutation xs ys → AreDistinctLines xs → AreDistinctLines ys
distinct_permuted xs ys moved h = AllPairs-from_IsDistinct line_eq_decides ys
    (IsDistinct-IsPermutation line_eq line_eq_equiv.symm xs ys moved (IsDistinct-from_AllPairs line_eq_decides xs h))

-- the order of lines doesn't matter for what is left of them
pub settled_permuted : (xs ys new : List SignedLine) → IsPermutation xs ys → SettlesTo ys new → SettlesTo xs new
settled_permuted xs ys new moved h = record {
  different = h.different;
  within = λ l c. Contains-permutation ys xs l (IsPermutation-sym xs ys moved) (h.within l c);
  alone = λ l c r. h.alone l c (Contains-permutation xs ys (reversed l) moved r);
  complete = λ l c lone. h.complete l (Contains-permutation xs ys l moved c)
      (λ r. lone (Contains-permutation ys xs (reversed l) (IsPermutation-sym xs ys moved) r));
}

-- lines of different answers are different lines
pub distinct_by_cells : (ls : List SignedLine) → AllPairs (λ s t. s ≡ t → ⊥) (map (λ l. l.cells) ls) → AreDistinctLines ls
distinct_by_cells ls h i j d below within e =
    let cells = λ (l : SignedLine). l.cells in
    h i j (cells d) below (omega (arith, length-map ls cells))
    (get_or-map cells ls i d (cells d) (omega arith) ∙ ap cells e ∙ sym (get_or-map cells ls j d (cells d) within))

-- no more lines than there were
pub shortens : (old new : List SignedLine) → SettlesTo old new → length new ≤ length old
shortens old new h = length-le_from_is_member line_eq_equiv new old (IsDistinct-from_AllPairs line_eq_decides new (distinct_by_cells new h.different))
    (λ l m. (is_member-Decides line_eq_decides old l).1 (h.within l ((is_member-Decides line_eq_decides new l).0 m)))

-- Lines of one sign that are different are settled as they stand.
pub settled_of_one_sign : (came : Bool) (ls : List SignedLine) → All (λ l. l.came ≡ came) ls → AreDistinctLines ls → SettlesTo ls ls
settled_of_one_sign came ls all h =
    let cells = λ (l : SignedLine). l.cells in
    let none : SignedLine = record { came = true; cells = [] } in
    record {
      different = λ i j d below within e.
          let last : j < length ls = omega (arith, length-map ls cells) in
          let first : i < length ls = omega arith in
          h i j none below last (same_line _ _ (all i none first ∙ sym (all j none last)) (sym (get_or-map cells ls i none d first) ∙ e ∙ get_or-map cells ls j none d last));
      within = λ l c. c;
      alone = λ l c r. not_itself l.came (All-contains (λ (k : SignedLine). k.came ≡ came) ls l all c
          ∙ sym (All-contains (λ (k : SignedLine). k.came ≡ came) ls (reversed l) all r));
      complete = λ l c lone. c;
    }
