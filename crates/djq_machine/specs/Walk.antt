-- One thing after another.
use Rattle.std.specs.Prelude.{List, [], ◌∷◌, ◌≡◌}

-- what each of a list does, in order
abbrev pub Walk : {D L : Type 0} → (D → L → D → Type 0) → D → List L → D → Type 0
Walk May old [] new = new ≡ old
Walk {D = D} May old (l ∷ more) new = (mid : D) × May old l mid × Walk May mid more new
