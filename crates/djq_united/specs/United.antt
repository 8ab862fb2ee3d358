-- The union of some registered queries, over the queries in their places.
use Rattle.std.specs.Prelude.{
  ◌≡◌,
  ⊤,
  ℕ,
  ◌≤◌,
  Bool,
  false,
  not,
  List,
  [],
  ◌∷◌,
  length,
  map,
  AllPairs,
  Option,
  None,
  Some,
  IsSomeAnd,
}
use Rattle.std.specs.List.{list_any}
use Rattle.djq_model.specs.Data.{Bytes, Tuple}
use Rattle.djq_model.specs.Listed.{Listed, a_union}
use Rattle.djq_store_spec.specs.Store.{Position, open_at, stale}
use Rattle.djq_store_spec.specs.Union.{same_types}
use Rattle.djq_enumeration.specs.declared.cursor.Cursor.{Cursor}
use Rattle.djq_union.specs.Union.{union_given, UnionFits}
use Rattle.djq_database.specs.Catalog.{Catalog}
use Rattle.djq_cursors.specs.Slots.{EachIs}
use Rattle.djq_live_query.specs.Live.{Live, IsKept, values_of}
use Rattle.djq_live_query.specs.Member.{
  has_cells,
  cells_given,
  FitsKept,
  query_at,
  queries_at,
  HaveQueries,
  AreAlike,
  head_types,
  in_tree,
}
use Rattle.djq_united.specs.Slots.{UnionProgress}
use Rattle.djq_cursors.specs.declared.progress.Progress.TheVariants.{Open, Stale}

-- Its name, the places of its members in its order, and its cursors in slots.
pub record United : Type 0 where
  pub name : Bytes
  pub members : List ℕ
  pub cursors : List (Option UnionProgress)

-- its members, of the queries in their places
abbrev pub members_in : List (Option Live) → United → List Live
members_in qs u = queries_at qs u.members

-- what is registered
abbrev pub union_of : List (Option Live) → United → Listed
union_of qs u = a_union u.name (map (λ l. l.query) (members_in qs u))

-- the first of some members, if there is one
abbrev pub first_of_members : List Live → Option Live
first_of_members [] = None
first_of_members (l ∷ ls) = Some l

-- something holds of the first member
abbrev pub AtFirst : List Live → (Live → Type 0) → Type 0
AtFirst ls P = IsSomeAnd (first_of_members ls) P

-- whether the answers of some of these have other types than those of the first
abbrev pub heads_differ : List Live → Bool
heads_differ [] = false
heads_differ (l ∷ ls) = list_any (λ m. not (same_types (head_types l) (head_types m))) ls

-- The queries in these places can be the members of a union.
pub record AreMembers (qs : List (Option Live)) (ks : List ℕ) : Type 0 where
  pub have : HaveQueries qs ks
  pub several : 2 ≤ length ks
  pub differ : AllPairs (λ j k. j ≡ k → ⊥) ks
  pub alike : AreAlike (queries_at qs ks)

-- the states of the members' listings fit them
abbrev pub FitsMembers : List Live → List (Option Cursor) → Type 0
FitsMembers ls cursor = UnionFits has_cells cells_given FitsKept ls cursor

-- an open cursor fits the members
abbrev pub CursorFitsMembers : List Live → UnionProgress → Type 0
CursorFitsMembers ls (Open cursor ended) = FitsMembers ls cursor
CursorFitsMembers ls (Stale relation n) = ⊤

-- The cursors in slots that are open fit the members.
abbrev pub CursorsFit : List Live → List (Option UnionProgress) → Type 0
CursorsFit ls slots = EachIs (CursorFitsMembers ls) slots

-- It is the union of queries in these places, and its open cursors can continue.
pub record IsUnited (qs : List (Option Live)) (u : United) : Type 0 where
  pub members : AreMembers qs u.members
  pub fits : CursorsFit (members_in qs u) u.cursors

-- Each query in a place is live over one catalog.
pub record AreKept (c : Catalog) (qs : List (Option Live)) : Type 0 where
  pub each : (k : ℕ) (l : Live) → query_at qs k ≡ Some l → IsKept c l

-- the values of cells in the head's order, as the first member shows them
abbrev pub shown_cells : List Bytes → List Live → List ℕ → Tuple
shown_cells texts [] t = []
shown_cells texts (l ∷ ls) t = values_of texts l (in_tree l t)

-- the answers that a cursor has given
abbrev pub given_by_union : List Bytes → List Live → List (Option Cursor) → List Tuple
given_by_union texts ls cursor =
    map (shown_cells texts ls) (union_given has_cells cells_given ls cursor)

-- the position of a cursor
abbrev pub union_position : List Bytes → List Live → UnionProgress → Position
union_position texts ls (Open cursor ended) = open_at (given_by_union texts ls cursor) ended
union_position texts ls (Stale r n) = stale r n
