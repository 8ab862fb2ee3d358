-- The ties of an edge, as its callers see them: for each slot of the big knot the slot of the small one that it
-- is tied to, and for each slot of the small one a list of slots that are tied to it.
use Rattle.std.specs.Prelude.{◌≡◌, ℕ, ◌<◌, Bool, true, cond, ◌==◌, List, [], ◌∷◌, ◌++◌, ◌-◌, length, slice_index}
use Rattle.std.specs.Prelude.{slice_index_or, slice_set, replicate}
use Rattle.djq_arena.specs.Chains.{AreDistinctSlots}
use Rattle.djq_hypergraph.specs.Hypergraph.{member}

-- ties and lists
pub record TieLists : Type 0 where
  pub ties : List ℕ
  pub lists : List (List ℕ)

-- the slot that slot x is tied to, which is 0 past the end
abbrev pub tie_at : TieLists → ℕ → ℕ
tie_at t x = slice_index t.ties x

-- the slots that are listed for slot y
abbrev pub list_at : TieLists → ℕ → List ℕ
list_at t y = slice_index_or t.lists y []

-- whether slot x is listed for the slot that it is tied to
abbrev pub is_in_list : TieLists → ℕ → Bool
is_in_list t x = member x (list_at t (tie_at t x))

-- the list without the first x in it
abbrev pub list_less : ℕ → List ℕ → List ℕ
list_less x [] = []
list_less x (y ∷ ys) = cond (x == y) ys (y ∷ list_less x ys)

-- the same ties, and another list for the slot that slot x is tied to
abbrev pub relisted : TieLists → ℕ → List ℕ → TieLists
relisted t x xs = record { ties = t.ties; lists = slice_set t.lists (tie_at t x) xs }

-- slot x was inserted first in its list
abbrev pub put_in_front : TieLists → ℕ → TieLists
put_in_front t x = relisted t x (x ∷ list_at t (tie_at t x))

-- slot x left its list
abbrev pub taken_out : TieLists → ℕ → TieLists
taken_out t x = relisted t x (list_less x (list_at t (tie_at t x)))

-- so many slots at least on the big knot's side, the new ones tied to slot 0
abbrev pub with_ties : TieLists → ℕ → TieLists
with_ties t n = record { ties = t.ties ++ replicate (n - length t.ties) 0; lists = t.lists }

-- so many slots at least on the small knot's side, the new ones with empty lists
abbrev pub with_lists : TieLists → ℕ → TieLists
with_lists t n = record { ties = t.ties; lists = t.lists ++ replicate (n - length t.lists) [] }

-- slot x is tied to another slot
abbrev pub retied : TieLists → ℕ → ℕ → TieLists
retied t x y = record { ties = slice_set t.ties x y; lists = t.lists }

-- what holds of all ties: a slot that is listed is one of the slots, is tied to the one that it is listed for, and
-- occurs there once
pub record AreTieLists (t : TieLists) : Type 0 where
  pub within : (x y : ℕ) → member x (list_at t y) ≡ true → x < length t.ties
  pub its : (x y : ℕ) → member x (list_at t y) ≡ true → tie_at t x ≡ y
  pub once : (y : ℕ) → AreDistinctSlots (list_at t y)
