-- A forest with more room: more slots without entries, and more places along edges.
use Rattle.std.specs.Prelude.{◌≡◌, ℕ, ◌<◌, ◌≤◌, false, List, [], ◌++◌, length, replicate, None}
use Rattle.djq_forest.specs.declared.slots.TheConstants.{OUT}
use Rattle.djq_forest.specs.Forest.{Knot, Edge, Forest, nth_knot, nth_edge}
use Rattle.djq_forest.specs.Index.{HasFreeSlot}
use Rattle.djq_forest.specs.Shape.{AreAlong}
use Rattle.djq_forest.specs.Invariants.{IsForest}
use Rattle.djq_forest.specs.Fold.{Fold, IsFoldOf, reducts_of}
use Rattle.djq_tree.specs.Tree.{Tree}

-- the same knot with n slots more, which have no entries
abbrev pub knot_with_room : Knot → ℕ → Knot
knot_with_room k n = record {
  leaf = k.leaf;
  width = k.width;
  rank = k.rank;
  tuples = k.tuples ++ replicate n None;
  missing = k.missing ++ replicate n OUT;
  refs = k.refs ++ replicate n 0;
  marks = k.marks ++ replicate n 0;
}

-- the same edge with places for m slots more of the big knot, and for n more of the small one
abbrev pub edge_with_room : Edge → ℕ → ℕ → Edge
edge_with_room e m n = record {
  big = e.big;
  small = e.small;
  feeds = e.feeds;
  columns = e.columns;
  ties = e.ties ++ replicate m 0;
  lists = e.lists ++ replicate n [];
}

-- the second knot is the first one, with more room or with as much
abbrev pub IsRoomierKnot : Knot → Knot → Type 0
IsRoomierKnot k h = (n : ℕ) × (h ≡ knot_with_room k n)

-- the same of edges
abbrev pub IsRoomierEdge : Edge → Edge → Type 0
IsRoomierEdge e g = (m : ℕ) × (n : ℕ) × (g ≡ edge_with_room e m n)

-- the same of all knots
pub record AreRoomierKnots (ks hs : List Knot) : Type 0 where
  pub long : length hs ≡ length ks
  pub each : (k : ℕ) → IsRoomierKnot (nth_knot ks k) (nth_knot hs k)

-- the same of all edges
pub record AreRoomierEdges (es gs : List Edge) : Type 0 where
  pub long : length gs ≡ length es
  pub each : (j : ℕ) → IsRoomierEdge (nth_edge es j) (nth_edge gs j)

-- the second forest is the first one, with more room or with as much
pub record IsRoomier (f g : Forest) : Type 0 where
  pub knots : AreRoomierKnots f.knots g.knots
  pub edges : AreRoomierEdges f.edges g.edges
  pub stamp : g.stamp ≡ f.stamp

-- the edge has places for so many slots of the knot k, on the side on which that is
pub record HasPlacesFor (k count : ℕ) (e : Edge) : Type 0 where
  pub ties : e.big ≡ k → count ≤ length e.ties
  pub lists : e.small ≡ k → count ≤ length e.lists

-- the first n edges have
abbrev pub HavePlacesFor : ℕ → ℕ → List Edge → ℕ → Type 0
HavePlacesFor k count es n = (j : ℕ) → j < n → HasPlacesFor k count (nth_edge es j)

-- if the knot is a view it has a free slot
abbrev pub HasRoomAsView : Knot → Type 0
HasRoomAsView k = k.leaf ≡ false → HasFreeSlot k.tuples

-- the first n knots that are views have a free slot
abbrev pub HaveRoomAsViews : List Knot → ℕ → Type 0
HaveRoomAsViews ks n = (k : ℕ) → k < n → HasRoomAsView (nth_knot ks k)

-- there is room for a tuple of a leaf's row in slot x, and for an entry of each view
pub record HasRoomFor (leaf x : ℕ) (ks : List Knot) : Type 0 where
  pub slot : x < length (nth_knot ks leaf).tuples
  pub views : HaveRoomAsViews ks (length ks)

-- a forest with more room is one, folded alike, and represents the same reducts
pub record RoomKeeps : Type 0 where
  pub forest : (f g : Forest) → IsRoomier f g → AreAlong g.knots g.edges → IsForest f → IsForest g
  pub fold : (t : Tree) (f g : Forest) (o : Fold) → IsRoomier f g → AreAlong f.knots f.edges → IsFoldOf t f o → IsFoldOf t g o
  pub reducts : (t : Tree) (f g : Forest) (o : Fold) → IsRoomier f g → AreAlong f.knots f.edges
      → reducts_of t g o ≡ reducts_of t f o
