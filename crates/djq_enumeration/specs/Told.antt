-- What a delta cursor has given.
use Rattle.std.specs.Prelude.{
  ℕ,
  ◌-◌,
  Bool,
  cond,
  not,
  ◌&&◌,
  nat_lt,
  List,
  [],
  ◌∷◌,
  length,
  map,
  reverse,
  Option,
  Some,
  None,
}
use Rattle.djq_index.specs.declared.place.Place.{Place}
use Rattle.djq_index.specs.Entries.{Entry, count_of, group_of, marks}
use Rattle.djq_reduct.specs.Tables.{entries_at, key_at}
use Rattle.djq_reduct.specs.Reducts.{Reducts}
use Rattle.djq_enumeration.specs.Levels.{source}
use Rattle.djq_enumeration.specs.Walk.{walk_given, FitsBy}
use Rattle.djq_enumeration.specs.declared.delta.DeltaCursor.{DeltaCursor}

-- the marked ones if there are any, else all
abbrev pub marked_or : List Entry → List Entry → List Entry
marked_or [] g = g
marked_or (m ∷ ms) g = m ∷ ms

-- the marked tuples of a level's group if there are any, else all of it, the last first
unfoldable pub changed_at : Reducts → ℕ → List ℕ → List (List ℕ)
changed_at r k w =
    let g = group_of (key_at r.tables (source r.tree k)) (entries_at r.tables (source r.tree k)) w in
    map (λ e. e.tuple) (reverse (marked_or (marks g) g))

-- the tuple before a marked one stays only if it is marked, too
abbrev pub kept : Option Place → Bool → Bool → Option Place
kept None here before = None
kept (Some q) here before = cond (here && not before) None (Some q)

-- whether there is any answer to list: the root's empty tuple is marked
unfoldable pub root_marked : Reducts → Bool
root_marked r = nat_lt 0 (count_of (marks (entries_at r.tables (length r.tree.nodes - 1))) [])

-- the answers that a cursor has given, by its state, its places, the reducts and their marks
unfoldable pub told_so_far : Reducts → DeltaCursor → List (List ℕ)
told_so_far r d = walk_given r (changed_at r) (root_marked r) (d.cursor).state (d.cursor).places

-- the cursor fits the reducts and their marks
unfoldable pub DeltaFits : Reducts → DeltaCursor → Type 0
DeltaFits r d = FitsBy r (changed_at r) (root_marked r) (d.cursor).state (d.cursor).places
    (d.cursor).answer
