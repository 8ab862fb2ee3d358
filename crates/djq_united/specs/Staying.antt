-- What becomes of unions as the queries in their places change.
use Rattle.std.specs.Prelude.{◌≡◌, ℕ, List, ◌++◌, Contains, Option, Some, IsSomeAnd}
use Rattle.djq_model.specs.Data.{Bytes}
use Rattle.djq_store_spec.specs.Stale.{outdated}
use Rattle.djq_database.specs.Catalog.{Catalog}
use Rattle.djq_live_query.specs.Live.{Live}
use Rattle.djq_live_query.specs.Member.{query_at}
use Rattle.djq_live_query.specs.Staying.{HasSameTables, HasSameShape}
use Rattle.djq_united.specs.Slots.{UnionProgress, slot_at, outdated_progress}
use Rattle.djq_united.specs.United.{
  United,
  members_in,
  union_of,
  AreMembers,
  IsUnited,
  AreKept,
  union_position,
}

-- The query in each of these places is still there, and is the same in this sense.
pub record KeepMembers (Same : Live → Live → Type 0) (old new : List (Option Live))
    (ks : List ℕ) : Type 0 where
  pub each : (k : ℕ) (l : Live) → Contains ks k → query_at old k ≡ Some l
      → IsSomeAnd (query_at new k) (Same l)

-- Queries that are the same can be a union's members as they could, and are what is registered.
abbrev pub MembersStay : Type 0
MembersStay = (old new : List (Option Live)) (u : United)
    → KeepMembers HasSameShape old new u.members → AreMembers old u.members
    → AreMembers new u.members × (union_of new u ≡ union_of old u)

-- The tables of its members are the same, over catalogs with the same texts and maybe more.
pub record AreUntouched (c d : Catalog) (old new : List (Option Live)) (ks : List ℕ) : Type 0
  where
    pub before : AreKept c old
    pub after : AreKept d new
    pub more : List Bytes
    pub texts : d.texts ≡ c.texts ++ more
    pub keep : KeepMembers HasSameTables old new ks

-- So a union's cursors are unchanged.
abbrev pub UnionsStay : Type 0
UnionsStay = (c d : Catalog) (old new : List (Option Live)) (u : United)
    → AreUntouched c d old new u.members → IsUnited old u
    → IsUnited new u × ((k : ℕ) (p : UnionProgress) → slot_at u.cursors k ≡ Some p
    → union_position d.texts (members_in new u) p ≡ union_position c.texts (members_in old u) p)

-- A cursor that a change makes stale is in the state that the machine defines, whatever its members are.
abbrev pub StaleStand : Type 0
StaleStand = (texts more : List Bytes) (ls ms : List Live) (relation : Bytes) (n : ℕ)
    (p : UnionProgress)
    → union_position more ms (outdated_progress relation n p)
    ≡ outdated (Some relation) n (union_position texts ls p)
