-- Rising numbers, of which some were given.
use Rattle.std.proofs.Common.{◌≡◌, ℕ, ◌+◌, ◌<◌, ◌≤◌, true, false, List, [], ◌∷◌, ◌++◌, length, take, drop, get_or, refl}
use Rattle.std.proofs.Common.{sym, subst, inl, inr, ◌⊎◌, arith}
use Rattle.std.specs.Prelude.{◌↔◌, ◌==◌, nat_lt, AllPairs, Contains}
use Rattle.std.specs.List.{list_any}
use Rattle.std.proofs.lemmas.Bool.{false≢true, eqb-true, eq-eqb, le-ltb, ltb-false, ltb-true, cases_Bool}
use Rattle.std.proofs.lemmas.List.{take-append-drop, take_all, take_more}
use Rattle.std.proofs.lemmas.List.Elements.{Contains-append_left}
use Rattle.std.proofs.lemmas.List.Folds.{Any-from_list_any, list_any-from_Any}
use Rattle.djq_union.specs.Answers.{AreSomeCells, AreAllCells, IsListingOfCells}
use Rattle.djq_union.proofs.Merges.{all_of, AreOnce, once_of, different_of}
use Rattle.djq_union.proofs.UnionMembers.{one_left}

nat_le_or_lt : (n s : ℕ) → (n ≤ s) ⊎ (s < n)
nat_le_or_lt n s = elim (cases_Bool (nat_lt s n)) [
  | inl low ↦ inr (ltb-true s n low)
  | inr past ↦ inl (ltb-false s n past)
]

module _ (xs : List ℕ) where
  has_it : (t : ℕ) → Contains xs t → list_any (λ n. n == t) xs ≡ true
  has_it t c = list_any-from_Any (λ n. n == t) xs (c.0, t, c.1, c.2, eq-eqb t t refl)

  contains_it : (t : ℕ) → list_any (λ n. n == t) xs ≡ true → Contains xs t
  contains_it t e =
      let a = Any-from_list_any (λ n. n == t) xs e in
      subst (λ (u : ℕ). Contains xs u) (eqb-true a.1 t a.4) (a.0, a.2, a.3)

  once_front : (fs bs : List ℕ) → AreOnce (fs ++ bs) → AreOnce fs
  once_front [] bs h = tt
  once_front (f ∷ fs) bs h =
      (λ there. h.0 (Contains-append_left fs bs f there), once_front fs bs h.1)

  module _ (rising : AllPairs (λ x y. x < y) xs) where
    pub some_taken : (s : ℕ) → AreSomeCells (λ t. list_any (λ n. n == t) xs) (take s xs)
    some_taken s = record {
      different = different_of (take s xs)
          (once_front (take s xs) (drop s xs)
          (subst (λ (l : List ℕ). AreOnce l) (sym (take-append-drop s xs))
          (once_of xs (λ i j d l m e. let r = rising i j d l m in omega (arith, r, e)))));
      answers = all_of (λ (t : ℕ). list_any (λ n. n == t) xs ≡ true) (take s xs)
          (λ t there. has_it t
          (subst (λ (l : List ℕ). Contains l t) (take-append-drop s xs)
          (Contains-append_left (take s xs) (drop s xs) t there)));
    }

    all_taken : (s : ℕ) → length xs ≤ s → AreAllCells (λ t. list_any (λ n. n == t) xs) (take s xs)
    all_taken s past t is =
        subst (λ (l : List ℕ). Contains l t) (sym (take_all s xs past)) (contains_it t is)

    not_all_taken : (s : ℕ) → s < length xs → AreAllCells (λ t. list_any (λ n. n == t) xs) (take s xs)
        → ⊥
    not_all_taken s low all = one_left (λ t. list_any (λ n. n == t) xs) (take s xs)
        (take (s + 1) xs) (get_or xs s 0) (some_taken (s + 1)) (take_more xs s 0 low) all

    pub at_end : (s : ℕ) → length xs ≤ s
        → (false ≡ false) ↔ IsListingOfCells (λ t. list_any (λ n. n == t) xs) (take s xs)
    at_end s past = (λ e. record { some = some_taken s; all = all_taken s past }, λ l. refl)

    pub before_end : (s : ℕ) → s < length xs
        → (true ≡ false) ↔ IsListingOfCells (λ t. list_any (λ n. n == t) xs) (take s xs)
    before_end s low =
        (λ e. absurd (false≢true (sym e)), λ l. absurd (not_all_taken s low l.all))

    pub left_taken : (s n : ℕ) → n ≡ length xs
        → (nat_lt s n ≡ false) ↔ AreAllCells (λ t. list_any (λ n. n == t) xs) (take s xs)
    left_taken s n e = (
      λ no. all_taken s (let past = ltb-false s n no in omega (arith, past, e)),
      λ all. le-ltb s n (elim (nat_le_or_lt n s) [
        | inl past ↦ past
        | inr low ↦ absurd (not_all_taken s (omega (arith, low, e)) all)
      ]),
    )
