-- All numbers below one, and one of them as the first.
use Rattle.std.proofs.Common.{◌≡◌, ℕ, zero, suc, ◌<◌, ◌≤◌, List, ◌∷◌, ◌++◌, length}
use Rattle.std.proofs.Common.{refl, sym, subst, arith, inl, inr}
use Rattle.std.proofs.lemmas.Bool.{cases_eq}
use Rattle.djq_arena.specs.Chains.{IsOut, AreDistinctSlots, AreBelow}
use Rattle.djq_arena.proofs.Chains.{below_more, below_at, holds_in, different_here, out_to_front, out_middle}
use Rattle.djq_arena.proofs.Chains.{out_first, out_rest}
use Rattle.djq_texts.specs.Index.{numbers}

pub numbers_out : (j n : ℕ) → n ≤ j → IsOut j (numbers n)
unfolding numbers IsOut
numbers_out j zero h = tt
numbers_out j (suc n) h = ((λ same. omega (arith, same, h)), numbers_out j n (omega (arith, h)))

pub numbers_in : (j n : ℕ) → j < n → IsOut j (numbers n) → ⊥
unfolding numbers IsOut
numbers_in j zero h out = omega (arith, h)
numbers_in j (suc n) h out = elim (cases_eq n j) [
  | inl same ↦ out.0 same
  | inr other ↦ numbers_in j n (omega (arith, h, other)) out.1
]

pub numbers_below : (n : ℕ) → AreBelow n (numbers n)
unfolding numbers AreBelow
numbers_below zero = tt
numbers_below (suc n) = (omega arith, below_more n (suc n) (numbers n) (omega arith) (numbers_below n))

pub numbers_different : (n : ℕ) → AreDistinctSlots (numbers n)
unfolding numbers AreDistinctSlots
numbers_different zero = tt
numbers_different (suc n) = (numbers_out n n (omega arith), numbers_different n)

pub length-numbers : (n : ℕ) → length (numbers n) ≡ n
unfolding numbers
length-numbers zero = refl
length-numbers (suc n) = omega (arith, length-numbers n)

pub not_out_below : (j n : ℕ) → (IsOut j (numbers n) → ⊥) → j < n
not_out_below j n h = below_at n j (numbers n) (numbers_below n) h

-- the numbers below n but for one of them
pub record Others (i n : ℕ) : Type 0 where
  pub rest : List ℕ
  pub out : IsOut i rest
  pub more : (j : ℕ) → IsOut j (numbers n) → IsOut j (i ∷ rest)
  pub less : (j : ℕ) → IsOut j (i ∷ rest) → IsOut j (numbers n)

pub others : (i n : ℕ) → i < n → Others i n
others i n h =
    let held = holds_in i (numbers n) (numbers_in i n h) in
    record {
      rest = held.front ++ held.back;
      out = different_here held.front i held.back (subst AreDistinctSlots held.is (numbers_different n));
      more = λ j out. out_to_front j held.front i held.back (subst (IsOut j) held.is out);
      less = λ j out. subst (IsOut j) (sym held.is)
          (out_middle j held.front i held.back (out_first i (held.front ++ held.back) j out)
          (out_rest i (held.front ++ held.back) j out));
    }
