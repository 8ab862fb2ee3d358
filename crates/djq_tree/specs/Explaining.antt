-- The text that explains a tree: a line for each node.
use Rattle.std.specs.Prelude.{ℕ, zero, suc, ◌<◌, Bool, true, false, List, [], ◌∷◌, ◌++◌, length, codes, decimal}
pub use Rattle.djq_hypergraph.specs.Naming.{name_at, comma_listed}
use Rattle.djq_tree.specs.Labels.{label_at}
use Rattle.djq_tree.specs.declared.node.Node.{Node}
use Rattle.djq_tree.specs.declared.node.Node.TheVariants.{Leaf, Trim, Meet}
use Rattle.djq_tree.specs.Tree.{Tree, node_at, is_out}

-- a label: its variables in order of number with commas between them, or a dash if it has none
abbrev pub label_text : List (List ℕ) → List ℕ → List ℕ
label_text variables [] = codes "-"
label_text variables (x ∷ xs) = name_at variables x ++ comma_listed variables xs

-- what a node is
abbrev pub node_text : List (List ℕ) → Node → List ℕ
node_text atoms (Leaf a) = codes "leaf " ++ name_at atoms a
node_text atoms (Trim c) = codes "trim " ++ decimal c
node_text atoms (Meet g s) = codes "meet " ++ decimal g ++ codes " " ++ decimal s

-- whether it is in `out`, and the line's end
abbrev pub end_text : Bool → List ℕ
end_text true = codes " out\n"
end_text false = codes "\n"

-- the line of the node with a number
abbrev pub line_text : List (List ℕ) → List (List ℕ) → Tree → ℕ → List ℕ
line_text atoms variables t j =
    codes "n " ++ decimal j ++ codes " " ++ node_text atoms (node_at t.nodes j)
    ++ codes " " ++ label_text variables (label_at t.labels j) ++ end_text (is_out t.out j)

-- the lines of the nodes below n
abbrev pub lines_below : List (List ℕ) → List (List ℕ) → Tree → ℕ → List ℕ
lines_below atoms variables t zero = []
lines_below atoms variables t (suc n) = lines_below atoms variables t n ++ line_text atoms variables t n

-- the whole text, with the atoms' relation names and the variables' names
abbrev pub explain_of : List (List ℕ) → List (List ℕ) → Tree → List ℕ
explain_of atoms variables t = lines_below atoms variables t (length t.nodes)

-- a leaf's atom has a name
abbrev pub IsNamed : List (List ℕ) → Node → Type 0
IsNamed atoms (Leaf a) = a < length atoms
IsNamed atoms (Trim c) = Unit {0}
IsNamed atoms (Meet g s) = Unit {0}
