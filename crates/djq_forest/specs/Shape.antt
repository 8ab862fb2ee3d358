-- How knots and edges hang together: as a tree, whose edges lead from a knot up to the one that rests on it.
use Rattle.std.specs.Prelude.{◌≡◌, ℕ, ◌<◌, ◌≤◌, Bool, false, cond, ◌==◌, List, length}
use Rattle.djq_forest.specs.Forest.{Knot, Edge, nth_knot, nth_edge}

-- the knot that rests on the other one: the one that is fed, or the one that has a side
abbrev pub upper : Edge → ℕ
upper e = cond e.feeds e.small e.big

-- the knot that the other one rests on
abbrev pub lower : Edge → ℕ
lower e = cond e.feeds e.big e.small

-- whether entries of the knot k need something by the edge
abbrev pub is_need : ℕ → Edge → Bool
is_need k e = upper e == k

-- what holds of the knots and edges, whatever entries there are
pub record IsShape (ks : List Knot) (es : List Edge) : Type 0 where
  -- an edge leads from one knot to another; the small one is a view
  pub big : (j : ℕ) → j < length es → (nth_edge es j).big < length ks
  pub small : (j : ℕ) → j < length es → (nth_edge es j).small < length ks
  pub view : (j : ℕ) → j < length es → (nth_knot ks (nth_edge es j).small).leaf ≡ false
  -- what rests on another one has a higher rank, and each knot has one at most that rests on it
  pub rises : (j : ℕ) → j < length es → (nth_knot ks (lower (nth_edge es j))).rank < (nth_knot ks (upper (nth_edge es j))).rank
  pub one_upper : (i j : ℕ) → i < length es → j < length es → lower (nth_edge es i) ≡ lower (nth_edge es j) → i ≡ j
  -- the small one has a column for each of the edge's
  pub columns : (j : ℕ) → j < length es → length (nth_edge es j).columns ≡ (nth_knot ks (nth_edge es j).small).width

-- a knot's arrays are equally long, and those of an edge have a place for each slot of its knots: they grow first, and
-- may be longer if memory ran out before a knot grew
pub record AreAlong (ks : List Knot) (es : List Edge) : Type 0 where
  pub missing : (k : ℕ) → length (nth_knot ks k).missing ≡ length (nth_knot ks k).tuples
  pub refs : (k : ℕ) → length (nth_knot ks k).refs ≡ length (nth_knot ks k).tuples
  pub marks : (k : ℕ) → length (nth_knot ks k).marks ≡ length (nth_knot ks k).tuples
  pub ties : (j : ℕ) → j < length es → length (nth_knot ks (nth_edge es j).big).tuples ≤ length (nth_edge es j).ties
  pub lists : (j : ℕ) → j < length es → length (nth_knot ks (nth_edge es j).small).tuples ≤ length (nth_edge es j).lists
