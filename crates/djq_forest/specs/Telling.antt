-- A forest while it is propagated which entries live: what holds of it once some of it has been propagated. If an edge
-- feeds, that an entry of its big knot lives is propagated to the one that it is tied to, which lists it then; else
-- that its side lives is propagated to the entry.
use Rattle.std.specs.Prelude.{◌≡◌, ℕ, ◌+◌, ◌-◌, ◌<◌, Bool, true, false, cond, not, ◌==◌, ◌&&◌, ◌||◌, List, ◌∷◌, length}
use Rattle.std.specs.Prelude.{slice_set}
use Rattle.djq_arena.specs.Chains.{AreDistinctSlots}
use Rattle.djq_hypergraph.specs.Hypergraph.{member}
use Rattle.djq_tree.specs.Counts.{how_many}
use Rattle.djq_forest.specs.TieLists.{list_less}
use Rattle.djq_forest.specs.Forest.{Knot, Edge, Forest, nth_knot, nth_edge, has_entry, missing_at, lives, tie_of, list_of}
use Rattle.djq_forest.specs.Shape.{AreAlong, is_need}
use Rattle.djq_forest.specs.Invariants.{AreEntries, IsForest, is_empty}

-- whether the edge j gives what the entry in slot x of its upper knot needs, as far as it has been propagated
abbrev pub told_gives : Forest → (ℕ → ℕ → Bool) → ℕ → ℕ → Bool
told_gives f told j x = cond (nth_edge f.edges j).feeds (not (is_empty (list_of (nth_edge f.edges j) x))) (told j x)

-- whether the entry in slot x of the knot k needs something by the edge j that it isn't given
abbrev pub lacks : Forest → (ℕ → ℕ → Bool) → ℕ → ℕ → ℕ → Bool
lacks f told k x j = is_need k (nth_edge f.edges j) && not (told_gives f told j x)

-- lists and counts agree with what has been propagated: for each edge, of which slots of its big knot
pub record IsToldSoFar (f : Forest) (told : ℕ → ℕ → Bool) : Type 0 where
  pub there : (j x : ℕ) → j < length f.edges → told j x ≡ true → has_entry f.knots (nth_edge f.edges j).big x ≡ true
  pub listed : (j x y : ℕ) → j < length f.edges → member x (list_of (nth_edge f.edges j) y)
      ≡ ((tie_of (nth_edge f.edges j) x == y)
      && cond (nth_edge f.edges j).feeds (told j x) (has_entry f.knots (nth_edge f.edges j).big x))
  pub once : (j y : ℕ) → j < length f.edges → AreDistinctSlots (list_of (nth_edge f.edges j) y)
  pub missing : (k x : ℕ) → has_entry f.knots k x ≡ true → missing_at f.knots k x
      ≡ how_many (lacks f told k x) (length f.edges)

-- what there is to propagate: if the edge j feeds, that the entry in slot x of its big knot lives, else that its side
-- does
abbrev pub to_tell : Forest → ℕ → ℕ → Bool
to_tell f j x = has_entry f.knots (nth_edge f.edges j).big x && cond (nth_edge f.edges j).feeds
    (lives f.knots (nth_edge f.edges j).big x)
    (lives f.knots (nth_edge f.edges j).small (tie_of (nth_edge f.edges j) x))

-- what has been propagated, and that slot x by the edge j, too
abbrev pub also_told : (ℕ → ℕ → Bool) → ℕ → ℕ → ℕ → ℕ → Bool
also_told told j x i z = ((i == j) && (z == x)) || told i z

-- what has been propagated, but for slot x by the edge j
abbrev pub told_less : (ℕ → ℕ → Bool) → ℕ → ℕ → ℕ → ℕ → Bool
told_less told j x i z = not ((i == j) && (z == x)) && told i z

-- another number of unmet needs of the entry in slot x
abbrev pub with_missing : Knot → ℕ → ℕ → Knot
with_missing k x m = record {
  leaf = k.leaf;
  width = k.width;
  rank = k.rank;
  tuples = k.tuples;
  missing = slice_set k.missing x m;
  refs = k.refs;
  marks = k.marks;
}

-- the same in the knot k
abbrev pub put_missing : List Knot → ℕ → ℕ → ℕ → List Knot
put_missing ks k x m = slice_set ks k (with_missing (nth_knot ks k) x m)

-- another list for slot y
abbrev pub with_list : Edge → ℕ → List ℕ → Edge
with_list e y xs = record {
  big = e.big;
  small = e.small;
  feeds = e.feeds;
  columns = e.columns;
  ties = e.ties;
  lists = slice_set e.lists y xs;
}

-- the same by the edge j
abbrev pub put_list : List Edge → ℕ → ℕ → List ℕ → List Edge
put_list es j y xs = slice_set es j (with_list (nth_edge es j) y xs)

-- the slot that slot x is tied to by the edge j
abbrev pub target : Forest → ℕ → ℕ → ℕ
target f j x = tie_of (nth_edge f.edges j) x

-- by the edge j, which feeds, another list for the slot that slot x is tied to, and, if its emptiness changes,
-- another number of unmet needs of the entry there
abbrev pub relist : Forest → ℕ → ℕ → List ℕ → Bool → ℕ → Forest
relist f j x xs turns m = record {
  knots = cond turns (put_missing f.knots (nth_edge f.edges j).small (target f j x) m) f.knots;
  edges = put_list f.edges j (target f j x) xs;
  stamp = f.stamp;
}

-- it is propagated that the entry in slot x lives: it is listed, and if nothing was, a need of the one that it is tied
-- to is met now
abbrev pub tell_fed : Forest → ℕ → ℕ → Forest
tell_fed f j x = relist f j x (x ∷ list_of (nth_edge f.edges j) (target f j x))
    (is_empty (list_of (nth_edge f.edges j) (target f j x)))
    (missing_at f.knots (nth_edge f.edges j).small (target f j x) - 1)

-- it is propagated that it lives no more: it is listed no more, and if nothing is, a need isn't met any more
abbrev pub untell_fed : Forest → ℕ → ℕ → Forest
untell_fed f j x = relist f j x (list_less x (list_of (nth_edge f.edges j) (target f j x)))
    (is_empty (list_less x (list_of (nth_edge f.edges j) (target f j x))))
    (missing_at f.knots (nth_edge f.edges j).small (target f j x) + 1)

-- it is propagated to the entry in slot x that its side by the edge j lives: a need of it is met now
abbrev pub tell_side : Forest → ℕ → ℕ → Forest
tell_side f j x = record {
  knots = put_missing f.knots (nth_edge f.edges j).big x (missing_at f.knots (nth_edge f.edges j).big x - 1);
  edges = f.edges;
  stamp = f.stamp;
}

-- it is propagated that it lives no more
abbrev pub untell_side : Forest → ℕ → ℕ → Forest
untell_side f j x = record {
  knots = put_missing f.knots (nth_edge f.edges j).big x (missing_at f.knots (nth_edge f.edges j).big x + 1);
  edges = f.edges;
  stamp = f.stamp;
}

-- the edge is there, in slot x of its big knot there is an entry that is tied to one, and this has been propagated or not
pub record CanBeTold (f : Forest) (told : ℕ → ℕ → Bool) (j x : ℕ) (was : Bool) : Type 0 where
  pub edge : j < length f.edges
  pub along : AreAlong f.knots f.edges
  pub entry : has_entry f.knots (nth_edge f.edges j).big x ≡ true
  pub tied : has_entry f.knots (nth_edge f.edges j).small (target f j x) ≡ true
  pub was_told : told j x ≡ was

-- a forest is one of which all has been propagated that there is; and one more step, or one that is undone, preserves
-- what has been propagated
pub record TellingKeeps : Type 0 where
  pub forest : (f : Forest) → IsForest f → IsToldSoFar f (to_tell f)
  pub settled : (f : Forest) → AreEntries f → IsToldSoFar f (to_tell f) → IsForest f
  pub fed : (f : Forest) (told : ℕ → ℕ → Bool) (j x : ℕ) → IsToldSoFar f told → CanBeTold f told j x false
      → (nth_edge f.edges j).feeds ≡ true → IsToldSoFar (tell_fed f j x) (also_told told j x)
  pub side : (f : Forest) (told : ℕ → ℕ → Bool) (j x : ℕ) → IsToldSoFar f told → CanBeTold f told j x false
      → (nth_edge f.edges j).feeds ≡ false → IsToldSoFar (tell_side f j x) (also_told told j x)
  pub fed_undone : (f : Forest) (told : ℕ → ℕ → Bool) (j x : ℕ) → IsToldSoFar f told → CanBeTold f told j x true
      → (nth_edge f.edges j).feeds ≡ true → IsToldSoFar (untell_fed f j x) (told_less told j x)
  pub side_undone : (f : Forest) (told : ℕ → ℕ → Bool) (j x : ℕ) → IsToldSoFar f told → CanBeTold f told j x true
      → (nth_edge f.edges j).feeds ≡ false → IsToldSoFar (untell_side f j x) (told_less told j x)
