-- What holds of the parts of an engine, between any two calls.
use Rattle.std.specs.Prelude.{ℕ, List, ◌≡◌, ◌<◌, ◌≤◌, Option, Some, filter, length}
use Rattle.djq_protocol.specs.declared.limits.TheConstants.{QUERIES}
use Rattle.djq_database.specs.Catalog.{Catalog, relation_at}
use Rattle.djq_live_query.specs.Live.{Live, IsLive}
use Rattle.djq_reach.specs.Places.{place_at, reads_place, is_reader, readers_at, AreOnce}
use Rattle.djq_engine.specs.Places.{is_live}

-- Each registered query is live over the catalog and its cursors can continue, and names differ. The
-- order has each place with a query once, and no more than there may be, nor are there more places.
-- The readers of a relation are the queries that read it, in that order.
pub record QueriesAreSound (c : Catalog) (gs : List (Option Live)) (order : List ℕ)
    (readers : List (List ℕ)) : Type 0 where
  pub live : (i : ℕ) (l : Live) → place_at gs i ≡ Some l → IsLive c l
  pub named : (i j : ℕ) (l m : Live) → place_at gs i ≡ Some l → place_at gs j ≡ Some m
      → l.query.name ≡ m.query.name → i ≡ j
  pub listed : (i : ℕ) → is_reader order i ≡ is_live gs i
  pub once : AreOnce order
  pub few : length order ≤ QUERIES
  pub bounded : length gs ≤ QUERIES
  pub long : length readers ≡ length c.relations
  pub reading : (r : ℕ) → r < length c.relations → readers_at readers r
      ≡ filter (λ i. reads_place (relation_at c.relations r).name (place_at gs i)) order
