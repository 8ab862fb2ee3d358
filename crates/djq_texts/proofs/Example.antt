-- "ab" is used twice and "cde" once; "cde" is given back, and "f" gets its number.
use Rattle.std.proofs.Common.{◌≡◌, ℕ, List, [], ◌∷◌, Option, Some, None, refl, slice_set}
use Rattle.djq_texts.specs.Known.{Known, known_at, with_less, with_more}

ab : List ℕ
ab = 97 ∷ 98 ∷ []

cde : List ℕ
cde = 99 ∷ 100 ∷ 101 ∷ []

f : List ℕ
f = 102 ∷ []

-- the texts in use, with so many uses of "ab", and this under number 1
in_use : ℕ → Option Known → List (Option Known)
in_use uses one = Some (record { bytes = ab; uses = uses }) ∷ one ∷ []

taken_again : slice_set (in_use 1 (Some (record { bytes = cde; uses = 1 }))) 0
    (with_more (known_at (in_use 1 (Some (record { bytes = cde; uses = 1 }))) 0))
    ≡ in_use 2 (Some (record { bytes = cde; uses = 1 }))
unfolding in_use
taken_again = refl

given_back : slice_set (in_use 2 (Some (record { bytes = cde; uses = 1 }))) 1
    (with_less (known_at (in_use 2 (Some (record { bytes = cde; uses = 1 }))) 1)) ≡ in_use 2 None
unfolding in_use
given_back = refl

used_less : slice_set (in_use 2 None) 0 (with_less (known_at (in_use 2 None) 0)) ≡ in_use 1 None
unfolding in_use
used_less = refl

given_anew : slice_set (in_use 2 None) 1 (Some (record { bytes = f; uses = 1 }))
    ≡ in_use 2 (Some (record { bytes = f; uses = 1 }))
unfolding in_use
given_anew = refl
