-- What holds of a forest between any two changes.
use Rattle.std.specs.Prelude.{◌≡◌, ℕ, ◌<◌, Bool, true, false, cond, not, ◌==◌, ◌&&◌, List, [], ◌∷◌, length}
use Rattle.std.specs.List.{count_by, sum_by}
use Rattle.djq_arena.specs.Chains.{AreDistinctSlots}
use Rattle.djq_hypergraph.specs.Hypergraph.{member}
use Rattle.djq_tree.specs.Counts.{how_many}
use Rattle.djq_forest.specs.Tuple.{projection}
use Rattle.djq_forest.specs.Forest.{Knot, Edge, Forest, nth_knot, nth_edge, entry_tuple, has_entry, missing_at, refs_at}
use Rattle.djq_forest.specs.Forest.{lives, tie_of, list_of}
use Rattle.djq_forest.specs.Shape.{IsShape, AreAlong, is_need}

-- whether a list has nothing
abbrev pub is_empty : List ℕ → Bool
is_empty [] = true
is_empty (x ∷ xs) = false

-- whether the edge gives what the entry in slot x of its upper knot needs: an entry that feeds it lives, or the
-- side that it is tied to does
abbrev pub gives : List Knot → Edge → ℕ → Bool
gives ks e x = cond e.feeds (not (is_empty (list_of e x))) (lives ks e.small (tie_of e x))

-- how many needs of the entry in slot x of the knot k aren't met
abbrev pub unmet : Forest → ℕ → ℕ → ℕ
unmet f k x = count_by (λ e. is_need k e && not (gives f.knots e x)) f.edges

-- whether the edge lists the big knot's slot x for the small one's slot y: the entry there is tied to it, and,
-- if it feeds, lives
abbrev pub is_to_list : List Knot → Edge → ℕ → ℕ → Bool
is_to_list ks e x y = (tie_of e x == y) && cond e.feeds (lives ks e.big x) (has_entry ks e.big x)

-- how many entries the edge ties to the small knot's slot y
abbrev pub tied_by : List Knot → Edge → ℕ → ℕ
tied_by ks e y = how_many (λ x. has_entry ks e.big x && (tie_of e x == y)) (length (nth_knot ks e.big).tuples)

-- how many entries are tied to slot y of the knot k
abbrev pub tied_to : Forest → ℕ → ℕ → ℕ
tied_to f k y = sum_by (λ e. cond (e.small == k) (tied_by f.knots e y) 0) f.edges

-- what holds of entries, and of how they are tied, whichever of them live
pub record AreEntries (f : Forest) : Type 0 where
  pub shape : IsShape f.knots f.edges
  pub along : AreAlong f.knots f.edges
  -- each tuple has its knot's width, and lies in one slot of it
  pub wide : (k x : ℕ) → has_entry f.knots k x ≡ true → length (entry_tuple f.knots k x) ≡ (nth_knot f.knots k).width
  pub differ : (k x y : ℕ) → has_entry f.knots k x ≡ true → has_entry f.knots k y ≡ true
      → entry_tuple f.knots k x ≡ entry_tuple f.knots k y → x ≡ y
  -- each entry of an edge's big knot is tied to an entry of the small one, which has its projection
  pub tied : (j x : ℕ) → j < length f.edges → has_entry f.knots (nth_edge f.edges j).big x ≡ true
      → has_entry f.knots (nth_edge f.edges j).small (tie_of (nth_edge f.edges j) x) ≡ true
  pub projected : (j x : ℕ) → j < length f.edges → has_entry f.knots (nth_edge f.edges j).big x ≡ true
      → entry_tuple f.knots (nth_edge f.edges j).small (tie_of (nth_edge f.edges j) x)
      ≡ projection (nth_edge f.edges j).columns (entry_tuple f.knots (nth_edge f.edges j).big x)
  -- the entries that are tied to one are counted there, and a view has none that nothing is tied to
  pub refs : (k y : ℕ) → has_entry f.knots k y ≡ true → refs_at f.knots k y ≡ tied_to f k y
  pub held : (k y : ℕ) → has_entry f.knots k y ≡ true → (nth_knot f.knots k).leaf ≡ false → 0 < refs_at f.knots k y

-- what holds of every forest
pub record IsForest (f : Forest) : Type 0 where
  pub entries : AreEntries f
  -- an edge lists once each entry that it has to list, and no other
  pub listed : (j x y : ℕ) → j < length f.edges → member x (list_of (nth_edge f.edges j) y)
      ≡ is_to_list f.knots (nth_edge f.edges j) x y
  pub once : (j y : ℕ) → j < length f.edges → AreDistinctSlots (list_of (nth_edge f.edges j) y)
  -- the needs that aren't met are counted, so an entry lives if and only if all of its needs are
  pub missing : (k x : ℕ) → has_entry f.knots k x ≡ true → missing_at f.knots k x ≡ unmet f k x
