-- Worked examples: the forests of two small trees with rows, and what their reducts are.
use Rattle.std.specs.Prelude.{◌≡◌, ℕ, true, false, List, [], ◌∷◌, Some, None}
use Rattle.djq_tree.specs.declared.node.Node.TheVariants.{Leaf, Trim, Meet}
use Rattle.djq_tree.specs.Tree.{Tree}
use Rattle.djq_forest.specs.Forest.{Knot, Edge, Forest}
use Rattle.djq_forest.specs.Invariants.{IsForest}
use Rattle.djq_forest.specs.Reducts.{TableEntry}
use Rattle.djq_forest.specs.Fold.{Fold, IsFoldOf, reducts_of}

-- an entry of a table
abbrev pub entry : ℕ → List ℕ → ℕ → TableEntry
entry slot tuple supports = record { slot = slot; tuple = tuple; supports = supports }

-- q(x,y) <- r(x,y), s(y): the leaves r and s, r's trim on y, the meet of s with it, and the root
abbrev pub join_tree : Tree
join_tree = record {
  nodes = Leaf 0 ∷ Leaf 1 ∷ Trim 0 ∷ Meet 1 2 ∷ Trim 3 ∷ [];
  labels = (0 ∷ 1 ∷ []) ∷ (1 ∷ []) ∷ (1 ∷ []) ∷ (1 ∷ []) ∷ [] ∷ [];
  out = true ∷ true ∷ true ∷ true ∷ true ∷ [];
  head = 0 ∷ 1 ∷ [];
  leaves = 2;
  second_stage = 2;
}

-- the knots for r(1,7), r(2,7), r(3,8), which lie in slots 0, 3 and 1, and s(7), s(9): the leaves, one view on y
-- for the trim and the meet, and the root's view
abbrev pub join_knots : List Knot
join_knots =
    record {
      leaf = true;
      width = 2;
      rank = 0;
      tuples = Some (1 ∷ 7 ∷ []) ∷ Some (3 ∷ 8 ∷ []) ∷ None ∷ Some (2 ∷ 7 ∷ []) ∷ [];
      missing = 0 ∷ 0 ∷ 0 ∷ 0 ∷ [];
      refs = 0 ∷ 0 ∷ 0 ∷ 0 ∷ [];
      marks = 0 ∷ 0 ∷ 0 ∷ 0 ∷ [];
    }
    ∷ record {
      leaf = true;
      width = 1;
      rank = 1;
      tuples = Some (7 ∷ []) ∷ Some (9 ∷ []) ∷ [];
      missing = 0 ∷ 0 ∷ [];
      refs = 0 ∷ 0 ∷ [];
      marks = 0 ∷ 0 ∷ [];
    }
    ∷ record {
      leaf = false;
      width = 1;
      rank = 3;
      tuples = Some (7 ∷ []) ∷ Some (8 ∷ []) ∷ Some (9 ∷ []) ∷ [];
      missing = 0 ∷ 1 ∷ 1 ∷ [];
      refs = 3 ∷ 1 ∷ 1 ∷ [];
      marks = 0 ∷ 0 ∷ 0 ∷ [];
    }
    ∷ record { leaf = false; width = 0; rank = 4; tuples = Some [] ∷ []; missing = 0 ∷ []; refs = 3 ∷ []; marks = 0 ∷ [] }
    ∷ []

-- its edges: r feeds the view on y, s feeds it, and it feeds the root
abbrev pub join_edges : List Edge
join_edges =
    record {
      big = 0;
      small = 2;
      feeds = true;
      columns = 1 ∷ [];
      ties = 0 ∷ 1 ∷ 5 ∷ 0 ∷ [];
      lists = (3 ∷ 0 ∷ []) ∷ (1 ∷ []) ∷ [] ∷ [];
    }
    ∷ record {
      big = 1;
      small = 2;
      feeds = true;
      columns = 0 ∷ [];
      ties = 0 ∷ 2 ∷ [];
      lists = (0 ∷ []) ∷ [] ∷ (1 ∷ []) ∷ [];
    }
    ∷ record { big = 2; small = 3; feeds = true; columns = []; ties = 0 ∷ 0 ∷ 0 ∷ []; lists = (0 ∷ []) ∷ [] }
    ∷ []

-- the forest
abbrev pub join_forest : Forest
join_forest = record { knots = join_knots; edges = join_edges; stamp = 0 }

-- the fold: the trim and the meet are one view, which the trim needs by its feed alone and the meet by both
abbrev pub join_fold : Fold
join_fold = record {
  knots = 0 ∷ 1 ∷ 2 ∷ 2 ∷ 3 ∷ [];
  needs = [] ∷ [] ∷ (0 ∷ []) ∷ (1 ∷ 0 ∷ []) ∷ (2 ∷ []) ∷ [];
}

-- the reducts of these rows: of r's keys 7 has two supports, and the meet has the one that s has, too
abbrev pub join_tables : List (List TableEntry)
join_tables =
    (entry 0 (1 ∷ 7 ∷ []) 1 ∷ entry 1 (3 ∷ 8 ∷ []) 1 ∷ entry 3 (2 ∷ 7 ∷ []) 1 ∷ [])
    ∷ (entry 0 (7 ∷ []) 1 ∷ entry 1 (9 ∷ []) 1 ∷ [])
    ∷ (entry 0 (7 ∷ []) 2 ∷ entry 1 (8 ∷ []) 1 ∷ [])
    ∷ (entry 0 (7 ∷ []) 1 ∷ [])
    ∷ (entry 0 [] 1 ∷ [])
    ∷ []

-- the join's forest is one, over the join's tree, and its reducts are these
pub record JoinIsWorked : Type 0 where
  pub forest : IsForest join_forest
  pub folded : IsFoldOf join_tree join_forest join_fold
  pub reducts : (reducts_of join_tree join_forest join_fold).tables ≡ join_tables

-- the same query with s as a side of r: the leaves r and s, their meet, and the root
abbrev pub cover_tree : Tree
cover_tree = record {
  nodes = Leaf 0 ∷ Leaf 1 ∷ Meet 0 1 ∷ Trim 2 ∷ [];
  labels = (0 ∷ 1 ∷ []) ∷ (1 ∷ []) ∷ (0 ∷ 1 ∷ []) ∷ [] ∷ [];
  out = true ∷ true ∷ true ∷ true ∷ [];
  head = 0 ∷ 1 ∷ [];
  leaves = 2;
  second_stage = 2;
}

-- the knots for the same rows: the leaves, of which r is also the meet; a view that repeats s, with an entry
-- for each y of r; and the root's view
abbrev pub cover_knots : List Knot
cover_knots =
    record {
      leaf = true;
      width = 2;
      rank = 2;
      tuples = Some (1 ∷ 7 ∷ []) ∷ Some (3 ∷ 8 ∷ []) ∷ None ∷ Some (2 ∷ 7 ∷ []) ∷ [];
      missing = 0 ∷ 1 ∷ 0 ∷ 0 ∷ [];
      refs = 0 ∷ 0 ∷ 0 ∷ 0 ∷ [];
      marks = 0 ∷ 0 ∷ 0 ∷ 0 ∷ [];
    }
    ∷ record {
      leaf = true;
      width = 1;
      rank = 0;
      tuples = Some (7 ∷ []) ∷ Some (9 ∷ []) ∷ [];
      missing = 0 ∷ 0 ∷ [];
      refs = 0 ∷ 0 ∷ [];
      marks = 0 ∷ 0 ∷ [];
    }
    ∷ record {
      leaf = false;
      width = 1;
      rank = 1;
      tuples = Some (7 ∷ []) ∷ Some (8 ∷ []) ∷ Some (9 ∷ []) ∷ [];
      missing = 0 ∷ 1 ∷ 0 ∷ [];
      refs = 3 ∷ 1 ∷ 1 ∷ [];
      marks = 0 ∷ 0 ∷ 0 ∷ [];
    }
    ∷ record { leaf = false; width = 0; rank = 3; tuples = Some [] ∷ []; missing = 0 ∷ []; refs = 3 ∷ []; marks = 0 ∷ [] }
    ∷ []

-- its edges: s feeds the view that repeats it, r has that as its side, and r feeds the root
abbrev pub cover_edges : List Edge
cover_edges =
    record {
      big = 1;
      small = 2;
      feeds = true;
      columns = 0 ∷ [];
      ties = 0 ∷ 2 ∷ [];
      lists = (0 ∷ []) ∷ [] ∷ (1 ∷ []) ∷ [];
    }
    ∷ record {
      big = 0;
      small = 2;
      feeds = false;
      columns = 1 ∷ [];
      ties = 0 ∷ 1 ∷ 5 ∷ 0 ∷ [];
      lists = (3 ∷ 0 ∷ []) ∷ (1 ∷ []) ∷ [] ∷ [];
    }
    ∷ record { big = 0; small = 3; feeds = true; columns = []; ties = 0 ∷ 0 ∷ 5 ∷ 0 ∷ []; lists = (3 ∷ 0 ∷ []) ∷ [] }
    ∷ []

-- the forest
abbrev pub cover_forest : Forest
cover_forest = record { knots = cover_knots; edges = cover_edges; stamp = 0 }

-- the fold: the meet is r's knot, which needs its side
abbrev pub cover_fold : Fold
cover_fold = record { knots = 0 ∷ 1 ∷ 0 ∷ 3 ∷ []; needs = [] ∷ [] ∷ (1 ∷ []) ∷ (2 ∷ []) ∷ [] }

-- the reducts: the meet has the rows of r whose y s has, and the root has as many supports
abbrev pub cover_tables : List (List TableEntry)
cover_tables =
    (entry 0 (1 ∷ 7 ∷ []) 1 ∷ entry 1 (3 ∷ 8 ∷ []) 1 ∷ entry 3 (2 ∷ 7 ∷ []) 1 ∷ [])
    ∷ (entry 0 (7 ∷ []) 1 ∷ entry 1 (9 ∷ []) 1 ∷ [])
    ∷ (entry 0 (1 ∷ 7 ∷ []) 1 ∷ entry 3 (2 ∷ 7 ∷ []) 1 ∷ [])
    ∷ (entry 0 [] 2 ∷ [])
    ∷ []

-- this forest is one, too, over its tree, and its reducts are these
pub record CoverIsWorked : Type 0 where
  pub forest : IsForest cover_forest
  pub folded : IsFoldOf cover_tree cover_forest cover_fold
  pub reducts : (reducts_of cover_tree cover_forest cover_fold).tables ≡ cover_tables
