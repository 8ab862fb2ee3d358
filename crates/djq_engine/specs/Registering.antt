-- A query that is registered, or dropped.
use Rattle.std.specs.Prelude.{ℕ, [], ◌∷◌, ◌++◌, ◌≡◌, ◌≢◌, ◌≤◌, None, Some, length, vec_capacity}
use Rattle.djq_protocol.specs.declared.limits.TheConstants.{QUERIES}
use Rattle.djq_live_query.specs.Live.{Live}
use Rattle.djq_live_query.specs.Updating.{IsEmpty}
use Rattle.djq_engine.specs.declared.parts.Parts.{Parts}
use Rattle.djq_reach.specs.Places.{place_at, watchers_at, log_at}
use Rattle.djq_engine.specs.Placing.{SamePlaces, SameLists, SameWatchers, SameLogs, JoinsReaders}

-- A query is in a place that was vacant, which is appended to the others in order, and to the
-- readers of each relation that it reads.
pub record Registers (q : Live) (old new : Parts) : Type 0 where
  pub place : ℕ
  pub vacant : place_at old.queries.items place ≡ None
  pub here : place_at new.queries.items place ≡ Some q
  pub others : (i : ℕ) → i ≢ place → place_at new.queries.items i ≡ place_at old.queries.items i
  pub last : new.order ≡ old.order ++ place ∷ []
  pub readers : JoinsReaders (old.catalog).relations q.query place old.readers.items
      new.readers.items
  pub catalog : new.catalog ≡ old.catalog
  pub seq : new.seq ≡ old.seq
  pub unwatched : watchers_at new.watchers.items place ≡ 0
  pub watchers : (i : ℕ) → i ≢ place → watchers_at new.watchers.items i
      ≡ watchers_at old.watchers.items i
  pub empty : IsEmpty (log_at new.logs.items place)
  pub logs : SameLogs old.queries.items old.logs.items new.logs.items
  pub affected : new.affected.items ≡ old.affected.items
  pub room : length new.order ≤ vec_capacity new.affected
  pub watched : length new.watchers.items ≡ length new.queries.items
  pub logged : length new.logs.items ≡ length new.queries.items
  pub bounded : length new.queries.items ≤ QUERIES

-- Nothing that is seen has changed.
pub record SameParts (old new : Parts) : Type 0 where
  pub queries : SamePlaces old.queries.items new.queries.items
  pub readers : SameLists old.readers.items new.readers.items
  pub order : new.order ≡ old.order
  pub catalog : new.catalog ≡ old.catalog
  pub seq : new.seq ≡ old.seq
  pub watchers : SameWatchers old.watchers.items new.watchers.items
  pub logs : SameLogs old.queries.items old.logs.items new.logs.items
  pub affected : new.affected.items ≡ old.affected.items
  pub room : length new.order ≤ vec_capacity new.affected
  pub watched : length new.watchers.items ≡ length new.queries.items
  pub logged : length new.logs.items ≡ length new.queries.items
  pub bounded : length new.queries.items ≤ QUERIES
