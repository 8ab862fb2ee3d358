-- What is done to one query.
use Rattle.std.specs.Prelude.{ℕ, List, ◌≡◌, ◌+◌, ◌≤◌, Bool, Option, Some, None, IsSome, length, slice_set}
use Rattle.djq_store_spec.specs.Registering.{most_steps}
use Rattle.djq_database.specs.Catalog.{Catalog}
use Rattle.djq_live_query.specs.declared.listing.Next.{Next}
use Rattle.djq_live_query.specs.Cursors.{slot_at}
use Rattle.djq_live_query.specs.Live.{Live, IsLive, FitsAt}
use Rattle.djq_live_query.specs.Reading.{QueryNextGives, QueryMoreGives, QueryOpensIn, next_steps, IsFreshIn}
use Rattle.djq_reach.specs.Places.{place_at}

-- The query in a place becomes another, and nothing else changes.
pub record Moves (Does : Live → Live → Type 0) (at : ℕ) (gs hs : List (Option Live)) : Type 0
  where
    pub old : Live
    pub new : Live
    pub there : place_at gs at ≡ Some old
    pub done : Does old new
    pub is : hs ≡ slice_set gs at (Some new)

-- It can be read through the cursor in a slot.
pub record IsReadableInSlot (slot : ℕ) (l : Live) : Type 0 where
  pub there : IsSome (slot_at l.cursors slot)
  pub fits : FitsAt l slot

-- The same, and the cursor isn't stale.
pub record IsFreshInSlot (slot : ℕ) (l : Live) : Type 0 where
  pub fresh : IsFreshIn l slot
  pub fits : FitsAt l slot

-- A cursor is opened in a slot.
pub record OpensAt (slot : ℕ) (l m : Live) : Type 0 where
  pub opens : QueryOpensIn l slot m
  pub live : (c : Catalog) → IsLive c l → IsLive c m

-- A cursor is removed from a slot.
pub record ClosesAt (slot : ℕ) (l m : Live) : Type 0 where
  pub closes : m ≡ record l { cursors = slice_set l.cursors slot None }
  pub live : (c : Catalog) → IsLive c l → IsLive c m

-- A cursor is read.
pub record ReadsAt (slot : ℕ) (result : Next) (answer : List ℕ) (before now : ℕ) (l m : Live) :
    Type 0 where
  pub gives : (c : Catalog) → IsLive c l → QueryNextGives c l slot result answer m
  pub counted : (c : Catalog) → IsLive c l → now ≤ before + next_steps result (length l.query.head)

-- Whether an answer is left is returned.
pub record TellsMore (slot : ℕ) (result : Bool) (before now : ℕ) (l m : Live) : Type 0 where
  pub gives : (c : Catalog) → IsLive c l → QueryMoreGives c l slot result m
  pub counted : (c : Catalog) → IsLive c l → now ≤ before + most_steps (length l.query.head)
