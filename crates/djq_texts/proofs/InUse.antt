-- Texts in use as one finds them: none at first, and what was read of one.
use Rattle.std.proofs.Common.{◌≡◌, ℕ, zero, suc, ◌<◌, List, [], ◌∷◌, length, Option, Some, None, IsSome}
use Rattle.std.proofs.Common.{refl, sym, ◌∙◌, subst, arith, ap}
use Rattle.djq_texts.specs.Known.{Known, known_at, HasNumber, uses_of}

-- what is in use is something with a number that was given
pub in_use_within : (known : List (Option Known)) (n : ℕ) → IsSome (known_at known n) → n < length known
in_use_within [] n h = absurd cc
in_use_within (None ∷ known) zero h = absurd cc
in_use_within (Some k ∷ known) zero h = omega arith
in_use_within (x ∷ known) (suc n) h = omega (arith, in_use_within known n h)

some_numbered : (o : Option Known) (known : List (Option Known)) (n : ℕ) (bytes : List ℕ) → IsSome o
    → known_at known n ≡ o → ((k : Known) → o ≡ Some k → bytes ≡ k.bytes) → HasNumber known n bytes
some_numbered None known n bytes some at is = absurd cc
some_numbered (Some k) known n bytes some at is =
    (k.uses, at ∙ ap (λ (t : List ℕ). Some (record { bytes = t; uses = k.uses })) (sym (is k refl)))

-- the bytes that were read are the number's text
pub numbered : (known : List (Option Known)) (n : ℕ) (o : Option Known) (bytes : List ℕ) → IsSome (known_at known n)
    → known_at known n ≡ o → ((k : Known) → o ≡ Some k → bytes ≡ k.bytes) → HasNumber known n bytes
numbered known n o bytes some at is = some_numbered o known n bytes (subst (λ (e : Option Known). IsSome e) at some) at is

pub used_some : (o : Option Known) → IsSome o → ((k : Known) → o ≡ Some k → 0 < k.uses) → 0 < uses_of o
used_some None some used = absurd cc
used_some (Some k) some used = used k refl
