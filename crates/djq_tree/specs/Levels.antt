-- The two stages in which a tree was made, as its listing reads them.
use Rattle.std.specs.Prelude.{ℕ, zero, suc, Bool, cond, ◌&&◌, nat_le, nat_lt, List, [], ◌∷◌, length}
use Rattle.djq_tree.specs.declared.node.Node.{Node}
use Rattle.djq_tree.specs.declared.node.Node.TheVariants.{Leaf, Trim, Meet}
use Rattle.djq_tree.specs.Tree.{Tree, node_at, is_out}

-- whether the node was current as the second stage began: it is in `out`, and made before that stage
abbrev pub is_start : Tree → ℕ → Bool
is_start t j = is_out t.out j && nat_lt j t.second_stage

-- a trim is one more level, a meet is none
abbrev pub level_on : ℕ → Node → List ℕ → List ℕ
level_on k (Leaf a) ks = ks
level_on k (Trim c) ks = k ∷ ks
level_on k (Meet g s) ks = ks

-- the second stage's trims with numbers below k, from the highest one on
abbrev pub levels_below : Tree → ℕ → List ℕ
levels_below t zero = []
levels_below t (suc k) = cond (nat_le t.second_stage k) (level_on k (node_at t.nodes k) (levels_below t k)) []

-- the levels of a listing, from the root down: the second stage's trims, from the highest one on
abbrev pub levels : Tree → List ℕ
levels t = levels_below t (length t.nodes)
