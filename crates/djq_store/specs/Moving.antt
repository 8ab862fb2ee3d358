-- What is done to one union.
use Rattle.std.specs.Prelude.{ℕ, List, ◌≡◌, ◌≤◌, ◌+◌, Bool, Option, None, Some, IsSome, slice_set}
use Rattle.djq_store_spec.specs.Registering.{answer_steps}
use Rattle.djq_database.specs.Catalog.{Catalog}
use Rattle.djq_live_query.specs.declared.listing.Next.{Next}
use Rattle.djq_live_query.specs.Live.{Live}
use Rattle.djq_united.specs.Slots.{slot_at, IsOpenIn}
use Rattle.djq_united.specs.United.{United, IsUnited, AreKept, union_of}
use Rattle.djq_united.specs.Reading.{UnionOpensIn, UnionNextGives, UnionMoreGives, union_read_steps}
use Rattle.djq_store.specs.declared.joined.Joined.{Joined}
use Rattle.djq_store.specs.Places.{joined_at}

-- The union in a slot becomes another, and nothing else changes.
pub record MovesUnion (Does : United → United → Type 0) (k : ℕ) (us vs : List (Option Joined)) : Type 0
  where
    pub old : Joined
    pub new : United
    pub there : joined_at us k ≡ Some old
    pub done : Does old.union new
    pub is : vs ≡ slice_set us k (Some (record old { union = new }))

-- A cursor is opened.
pub record OpensUnion (cursor : ℕ) (u v : United) : Type 0 where
  pub opens : UnionOpensIn u cursor v
  pub united : (qs : List (Option Live)) → IsUnited qs u → IsUnited qs v

-- A cursor is removed from its slot.
pub record ClosesUnion (cursor : ℕ) (u v : United) : Type 0 where
  pub closes : v ≡ record u { cursors = slice_set u.cursors cursor None }
  pub united : (qs : List (Option Live)) → IsUnited qs u → IsUnited qs v

-- It can be read over the queries in these places, through the cursor in a slot.
pub record IsUnionReadable (qs : List (Option Live)) (cursor : ℕ) (j : Joined) : Type 0 where
  pub there : IsSome (slot_at j.union.cursors cursor)
  pub united : IsUnited qs j.union

-- The same, and the cursor isn't stale.
pub record IsUnionFresh (qs : List (Option Live)) (cursor : ℕ) (j : Joined) : Type 0 where
  pub fresh : IsOpenIn j.union.cursors cursor
  pub united : IsUnited qs j.union

-- A cursor is read.
pub record ReadsUnion (qs : List (Option Live)) (cursor : ℕ) (result : Next) (answer : List ℕ)
    (before now : ℕ) (u v : United) : Type 0 where
  pub gives : (c : Catalog) → AreKept c qs → UnionNextGives c qs u cursor result answer v
  pub counted : now ≤ before + union_read_steps result (union_of qs u)

-- Whether an answer is left is returned.
pub record TellsUnionMore (qs : List (Option Live)) (cursor : ℕ) (result : Bool) (before now : ℕ)
    (u v : United) : Type 0 where
  pub gives : (c : Catalog) → AreKept c qs → UnionMoreGives c qs u cursor result v
  pub counted : now ≤ before + answer_steps (union_of qs u)
