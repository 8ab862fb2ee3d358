-- Join trees: Beeri, Fagin, Maier and Yannakakis (1983). A tree is a list of links, one for each edge, the
-- latest first: each link but the last of the list hangs its edge on the edge of a link after it, and the
-- last one is the root.
use Rattle.std.specs.Prelude.{◌≡◌, ℕ, ◌+◌, ◌<◌, not, ◌==◌, ◌&&◌, nat_lt, List, [], ◌∷◌, length}
use Rattle.djq_hypergraph.specs.declared.join_tree.Link.{Link}
use Rattle.djq_hypergraph.specs.Hypergraph.{member, one, degree, edge_at}

-- how many links are of the edge at a position
abbrev pub places : ℕ → List Link → ℕ
places p [] = 0
places p (k ∷ R) = one (p == k.edge) + places p R

-- the edges of the links
abbrev pub link_edges : List (List ℕ) → List Link → List (List ℕ)
link_edges E [] = []
link_edges E (k ∷ R) = edge_at E k.edge ∷ link_edges E R

-- the edge that a link hangs on: none for the root, which has no links after it
abbrev pub parent_edge : List (List ℕ) → Link → List Link → List ℕ
parent_edge E k [] = []
parent_edge E k (j ∷ R) = edge_at E k.parent

-- the link is the root, or its parent follows it
abbrev pub IsUnder : Link → List Link → Type 0
IsUnder k [] = Unit {0}
IsUnder k (j ∷ R) = 0 < places k.parent (j ∷ R)

-- each edge occurs once, and each link but the root is followed by its parent
abbrev pub IsOrder : List Link → Type 0
IsOrder [] = Unit {0}
IsOrder (k ∷ R) = (places k.edge R ≡ 0) × IsUnder k R × IsOrder R

-- how many edges with the variable hang on none with it: the topmost ones
abbrev pub tops : ℕ → List (List ℕ) → List Link → ℕ
tops x E [] = 0
tops x E (k ∷ R) = one (member x (edge_at E k.edge) && not (member x (parent_edge E k R))) + tops x E R

-- the links are a join tree of the edges
pub record IsJoinTree (E : List (List ℕ)) (R : List Link) : Type 0 where
  -- each position of an edge occurs once, and no other does
  pub covers : (p : ℕ) → places p R ≡ one (nat_lt p (length E))
  pub ordered : IsOrder R
  -- each variable that lies in an edge has one topmost edge
  pub one_top : (x : ℕ) → 0 < degree x E → tops x E R ≡ 1

-- the root's edge is the one at the position
abbrev pub IsRootedAt : ℕ → List Link → Type 0
IsRootedAt p [] = ⊥
IsRootedAt p (k ∷ []) = k.edge ≡ p
IsRootedAt p (k ∷ j ∷ R) = IsRootedAt p (j ∷ R)

-- the hypergraph is acyclic
abbrev pub HasJoinTree : List (List ℕ) → Type 0
HasJoinTree E = (R : List Link) × IsJoinTree E R

-- the edge F followed by the edges has a join tree whose root is F
abbrev pub HasJoinTreeFrom : List ℕ → List (List ℕ) → Type 0
HasJoinTreeFrom F E = (R : List Link) × IsJoinTree (F ∷ E) R × IsRootedAt 0 R

-- the query with these edges and the head F is free-connex: Bagan, Durand and Grandjean (2007)
abbrev pub IsFreeConnex : List (List ℕ) → List ℕ → Type 0
IsFreeConnex E F = HasJoinTree E × HasJoinTreeFrom F E
