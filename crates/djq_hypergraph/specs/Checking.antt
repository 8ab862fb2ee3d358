-- What a link must meet to be appended to the earlier ones.
use Rattle.std.specs.Prelude.{◌≡◌, ℕ, ◌<◌, List, length}
use Rattle.djq_hypergraph.specs.declared.join_tree.Link.{Link}
use Rattle.djq_hypergraph.specs.Hypergraph.{member, one, degree, edge_at}
use Rattle.djq_hypergraph.specs.JoinTree.{places, link_edges}

-- the link's edge is a new one, its parent precedes it, and has what the edge shares with those before
pub record FitsTree (E : List (List ℕ)) (before : List Link) (k : Link) : Type 0 where
  pub below : k.edge < length E
  pub fresh : places k.edge before ≡ 0
  pub under : 0 < length before → 0 < places k.parent before
  pub keeps : 0 < length before → (x : ℕ) → 0 < one (member x (edge_at E k.edge)) → 0 < degree x (link_edges E before)
      → 0 < one (member x (edge_at E k.parent))
