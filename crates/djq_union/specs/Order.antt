-- The order in which a union gives its answers. It walks its first member. An answer that no
-- later member has is given as it is; for one that some later member has, the next answer of the
-- union of the later ones is given. Then the rest of that union is given.
use Rattle.std.specs.Prelude.{Bool, cond, List, [], ◌∷◌}

-- what a union has given, if its first member has given the first list and the union of the later
-- members, which has the answers `later`, the second one
abbrev pub merged : {A : Type 0} → (A → Bool) → List A → List A → List A
merged later [] ds = ds
merged later (x ∷ xs) [] = cond (later x) (merged later xs []) (x ∷ merged later xs [])
merged later (x ∷ xs) (d ∷ ds) =
    cond (later x) (d ∷ merged later xs ds) (x ∷ merged later xs (d ∷ ds))
