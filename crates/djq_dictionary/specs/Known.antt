-- Which texts are known.
use Rattle.std.specs.Prelude.{◌≡◌, ◌≢◌, ℕ, ◌⊎◌, List, [], ◌∷◌, ◌++◌, All, AllPairs, Contains}

-- no text occurs twice
abbrev pub AllDifferent : List (List ℕ) → Type 0
AllDifferent texts = AllPairs (λ s t. s ≢ t) texts

-- a text isn't known
abbrev pub IsUnknown : List (List ℕ) → List ℕ → Type 0
IsUnknown texts text = All (λ t. t ≢ text) texts

-- a text becomes known: if it was, the texts stay as they are, and else it is appended to them
abbrev pub Learns : List (List ℕ) → List ℕ → List (List ℕ) → Type 0
Learns old text new = (Contains old text × (new ≡ old)) ⊎ (IsUnknown old text × (new ≡ old ++ text ∷ []))
