-- Worked examples of the definitions: the choice rule's trees and their lines.
use Rattle.std.proofs.Common.{◌≡◌, ℕ, List, [], ◌∷◌, length, refl}
use Rattle.std.specs.Prelude.{codes}
use Rattle.std.specs.Fmt.{digits}
use Rattle.djq_tree.specs.Growing.{start, grow, tree_of}
use Rattle.djq_tree.specs.Explaining.{explain_of}

-- the lines of the tree of the edges H and the head F, after n steps of the first stage and m of the second
abbrev text : List (List ℕ) → List (List ℕ) → List (List ℕ) → List ℕ → ℕ → ℕ → List ℕ
text atoms variables H F n m =
    explain_of atoms variables (tree_of (length H) F (grow F n (start H)) (grow [] m (grow F n (start H))))

-- a triangle with an atom that covers it
covered : text (codes "r" ∷ codes "s" ∷ codes "t" ∷ codes "u" ∷ []) (codes "x" ∷ codes "y" ∷ codes "z" ∷ [])
    ((0 ∷ 1 ∷ []) ∷ (1 ∷ 2 ∷ []) ∷ (0 ∷ 2 ∷ []) ∷ (0 ∷ 1 ∷ 2 ∷ []) ∷ []) (0 ∷ 1 ∷ 2 ∷ []) 0 5
    ≡ codes "n 0 leaf r x,y out\nn 1 leaf s y,z out\nn 2 leaf t x,z out\nn 3 leaf u x,y,z out\nn 4 meet 3 0 x,y,z out\nn 5 meet 4 1 x,y,z out\nn 6 trim 5 x,z out\nn 7 meet 2 6 x,z out\nn 8 trim 7 - out\n"
unfolding grow digits
covered = refl

-- two atoms with no common variable
apart : text (codes "r" ∷ codes "s" ∷ []) (codes "x" ∷ codes "y" ∷ []) ((0 ∷ []) ∷ (1 ∷ []) ∷ []) (0 ∷ 1 ∷ []) 0 3
    ≡ codes "n 0 leaf r x out\nn 1 leaf s y out\nn 2 trim 0 - out\nn 3 trim 1 - out\nn 4 meet 2 3 - out\n"
unfolding grow digits
apart = refl

-- two equal atoms
twice : text (codes "p" ∷ codes "p" ∷ []) (codes "x" ∷ []) ((0 ∷ []) ∷ (0 ∷ []) ∷ []) (0 ∷ []) 0 2
    ≡ codes "n 0 leaf p x out\nn 1 leaf p x out\nn 2 meet 0 1 x out\nn 3 trim 2 - out\n"
unfolding grow digits
twice = refl

-- a projection
projected : text (codes "r" ∷ []) (codes "x" ∷ codes "y" ∷ []) ((0 ∷ 1 ∷ []) ∷ []) (0 ∷ []) 1 1
    ≡ codes "n 0 leaf r x,y\nn 1 trim 0 x out\nn 2 trim 1 - out\n"
unfolding grow digits
projected = refl

-- a head out of the body's order: it is a set
turned : text (codes "r" ∷ []) (codes "x" ∷ codes "y" ∷ []) ((0 ∷ 1 ∷ []) ∷ []) (1 ∷ 0 ∷ []) 0 1
    ≡ codes "n 0 leaf r x,y out\nn 1 trim 0 - out\n"
unfolding grow digits
turned = refl

-- holes, which are variables that are named alike
holes : text (codes "r" ∷ codes "s" ∷ []) (codes "_" ∷ codes "y" ∷ codes "_" ∷ []) ((0 ∷ 1 ∷ []) ∷ (1 ∷ 2 ∷ []) ∷ [])
    (1 ∷ []) 2 2
    ≡ codes "n 0 leaf r _,y\nn 1 leaf s y,_\nn 2 trim 0 y out\nn 3 trim 1 y out\nn 4 meet 2 3 y out\nn 5 trim 4 - out\n"
unfolding grow digits
holes = refl
