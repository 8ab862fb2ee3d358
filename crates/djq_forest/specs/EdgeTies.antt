-- An edge as ties and lists.
use Rattle.std.specs.Prelude.{ℕ, Bool, List}
use Rattle.djq_forest.specs.TieLists.{TieLists}
use Rattle.djq_forest.specs.Forest.{Edge}

-- the edge with these ties
abbrev pub as_edge : ℕ → ℕ → Bool → List ℕ → TieLists → Edge
as_edge big small feeds columns t = record {
  big = big;
  small = small;
  feeds = feeds;
  columns = columns;
  ties = t.ties;
  lists = t.lists;
}

-- the ties of an edge, and its lists
abbrev pub edge_ties : Edge → TieLists
edge_ties e = record { ties = e.ties; lists = e.lists }

-- the same edge with other ties and lists
abbrev pub put_ties : Edge → TieLists → Edge
put_ties e t = as_edge e.big e.small e.feeds e.columns t
