-- What stays of a registered query as others change, and as rows change that it doesn't read.
use Rattle.std.specs.Prelude.{ℕ, List, ◌≡◌, ◌<◌, false, Some, length}
use Rattle.djq_model.specs.Data.{Tuple}
use Rattle.djq_store_spec.specs.Stale.{reads}
use Rattle.djq_database.specs.Catalog.{Catalog, relation_at}
use Rattle.djq_live_query.specs.Cursors.{Progress, slot_at}
use Rattle.djq_leaves.specs.Changes.{Came, CameAll, Went, HasSameRows}
use Rattle.djq_live_query.specs.Live.{Live, IsLive, position_of}

-- A query is the same with the same tables.
pub record HasSameTables (l m : Live) : Type 0 where
  pub query : m.query ≡ l.query
  pub numbered : m.numbered ≡ l.numbered
  pub reducts : m.reducts ≡ l.reducts

-- A query is the same with the same tree; its tables may differ.
pub record HasSameShape (l m : Live) : Type 0 where
  pub query : m.query ≡ l.query
  pub numbered : m.numbered ≡ l.numbered
  pub tree : (m.reducts).tree ≡ (l.reducts).tree

-- The query is maintained over a later catalog, and its cursors are unchanged.
pub record StaysOver (c d : Catalog) (l : Live) : Type 0 where
  pub live : IsLive d l
  pub stands : (k : ℕ) (p : Progress) → slot_at l.cursors k ≡ Some p
      → position_of d.texts l p ≡ position_of c.texts l p

-- If no rows change, each query stays, however many texts and relations more there are.
abbrev pub LiveStays : Type 0
LiveStays = (c d : Catalog) (l : Live) → HasSameRows c d → IsLive c l → StaysOver c d l

-- If a row of a relation was inserted or deleted, each query stays that doesn't read the relation.
abbrev pub LivePasses : (Catalog → Catalog → ℕ → List ℕ → Tuple → Type 0) → Type 0
LivePasses Changed = (c d : Catalog) (at : ℕ) (cells : List ℕ) (row : Tuple) (l : Live)
    → Changed c d at cells row → at < length c.relations
    → reads l.query (relation_at c.relations at).name ≡ false → IsLive c l → StaysOver c d l

-- If a row of a relation was inserted, each query stays that doesn't read the relation.
abbrev pub CamePasses : Type 0
CamePasses = LivePasses (λ c d at cells row. Came c d at cells row)

-- If a row of a relation was deleted, each query stays that doesn't read the relation.
abbrev pub WentPasses : Type 0
WentPasses = LivePasses (λ c d at cells row. Went c d at cells row)

-- It does, too, if many rows were inserted.
abbrev pub CameAllPasses : Type 0
CameAllPasses = (c d : Catalog) (at : ℕ) (cells : List (List ℕ)) (rows : List Tuple) (l : Live)
    → CameAll c d at cells rows → at < length c.relations
    → reads l.query (relation_at c.relations at).name ≡ false → IsLive c l → StaysOver c d l
