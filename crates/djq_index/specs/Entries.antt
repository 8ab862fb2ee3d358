-- What a table holds, as a list of entries, and the numbers that describe it. Each of them is a sum over
-- the list, so a change of one entry changes it by one summand.
use Rattle.std.specs.Prelude.{ℕ, ◌+◌, Bool, false, cond, List, [], ◌∷◌, map, reverse, Option, Some, None}
use Rattle.djq_index.specs.declared.place.Place.{Place}
use Rattle.djq_index.specs.Tuple.{same, pick, one_if}

-- a tuple that a table holds: its place, how many supports it has, and whether it is marked
pub record Entry : Type 0 where
  pub at : Place
  pub tuple : List ℕ
  pub supports : ℕ
  pub marked : Bool

-- the supports of the tuple u, 0 if it is absent
unfoldable pub supports_of : List Entry → List ℕ → ℕ
supports_of [] u = 0
supports_of (e ∷ es) u = cond (same e.tuple u) e.supports 0 + supports_of es u

-- how many entries have the tuple u
unfoldable pub count_of : List Entry → List ℕ → ℕ
count_of [] u = 0
count_of (e ∷ es) u = one_if (same e.tuple u) + count_of es u

-- how many entries have the cells w at these columns: the length of their group
unfoldable pub group_size : List ℕ → List Entry → List ℕ → ℕ
group_size key [] w = 0
group_size key (e ∷ es) w = one_if (same (pick key e.tuple) w) + group_size key es w

-- the group of the entries that have the cells w at these columns, the oldest first
unfoldable pub group_of : List ℕ → List Entry → List ℕ → List Entry
group_of key [] w = []
group_of key (e ∷ es) w = cond (same (pick key e.tuple) w) (e ∷ group_of key es w) (group_of key es w)

-- the marked entries, and the others
unfoldable pub marks : List Entry → List Entry
marks [] = []
marks (e ∷ es) = cond e.marked (e ∷ marks es) (marks es)

-- the entries without a mark
unfoldable pub plain : List Entry → List Entry
plain [] = []
plain (e ∷ es) = cond e.marked (plain es) (e ∷ plain es)

-- whether the tuple u is marked
unfoldable pub is_marked : List Entry → List ℕ → Bool
is_marked [] u = false
is_marked (e ∷ es) u = cond (same e.tuple u) e.marked (is_marked es u)

-- the same entry without its mark, and the same entries
unfoldable pub bare : Entry → Entry
bare e = record e { marked = false }

-- the same entries without their marks
unfoldable pub unmarked : List Entry → List Entry
unmarked es = map bare es

-- the place of the first entry, and of the last one
unfoldable pub head_at : List Entry → Option Place
head_at [] = None
head_at (e ∷ es) = Some e.at

-- the place of the last entry, if there is one
unfoldable pub last_at : List Entry → Option Place
last_at es = head_at (reverse es)
