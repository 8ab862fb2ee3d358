-- Lists of places.
use Rattle.std.specs.Prelude.{ℕ, List, [], ◌∷◌, ◌++◌, ◌≡◌, ◌+◌, ◌<◌, ◌⊎◌, Option, Some, true, is_some}
use Rattle.std.specs.Prelude.{if◌then◌else◌, length}
use Rattle.djq_model.specs.declared.query.Query.{Query}
use Rattle.djq_model.specs.declared.relation.Relation.{Relation}
use Rattle.djq_store_spec.specs.Stale.{reads}
use Rattle.djq_database.specs.Catalog.{relation_at}
use Rattle.djq_live_query.specs.Live.{Live}
use Rattle.djq_enumeration.specs.Log.{Log}
use Rattle.djq_reach.specs.Places.{place_at, readers_at, watchers_at, log_at, AreOnce}
use Rattle.djq_engine.specs.Places.{places_without}

-- The content of each place is as before.
abbrev pub SamePlaces : List (Option Live) → List (Option Live) → Type 0
SamePlaces old new = (i : ℕ) → place_at new i ≡ place_at old i

-- There are as many places as before, or one more if none of them was vacant.
abbrev pub GrowsFull : List (Option Live) → List (Option Live) → Type 0
GrowsFull old new = (length new ≡ length old)
    ⊎ ((length new ≡ length old + 1)
    × ((i : ℕ) → i < length old → is_some (place_at old i) ≡ true))

-- Each place is watched as before.
abbrev pub SameWatchers : List ℕ → List ℕ → Type 0
SameWatchers old new = (i : ℕ) → watchers_at new i ≡ watchers_at old i

-- The log of each query is as before.
abbrev pub SameLogs : List (Option Live) → List Log → List Log → Type 0
SameLogs gs old new = (i : ℕ) (l : Live) → place_at gs i ≡ Some l → log_at new i ≡ log_at old i

-- in none of these lists is a place twice
abbrev pub AllOnce : List (List ℕ) → Type 0
AllOnce lists = (r : ℕ) → AreOnce (readers_at lists r)

-- All lists are as before.
pub record SameLists (old new : List (List ℕ)) : Type 0 where
  pub long : length new ≡ length old
  pub each : (r : ℕ) → readers_at new r ≡ readers_at old r

-- A place is removed from all lists.
pub record LeavesAll (at : ℕ) (old new : List (List ℕ)) : Type 0 where
  pub long : length new ≡ length old
  pub each : (r : ℕ) → readers_at new r ≡ places_without at (readers_at old r)

-- A place is appended to the readers of each relation that the query reads.
pub record JoinsReaders (relations : List Relation) (q : Query) (at : ℕ)
    (old new : List (List ℕ)) : Type 0 where
  pub long : length new ≡ length old
  pub each : (r : ℕ) → r < length old → readers_at new r
      ≡ (if reads q (relation_at relations r).name then readers_at old r ++ at ∷ []
      else readers_at old r)

-- It is appended to some of the lists.
pub record JoinsSome (at : ℕ) (old new : List (List ℕ)) : Type 0 where
  pub long : length new ≡ length old
  pub each : (r : ℕ) → (readers_at new r ≡ readers_at old r)
      ⊎ (readers_at new r ≡ readers_at old r ++ at ∷ [])
