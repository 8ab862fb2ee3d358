-- Whether a row may be added to a relation, or deleted from it.
use Rattle.std.specs.Prelude.{ℕ, List, [], ◌≡◌, ◌<◌, true, false, Option, None, Some, length}
use Rattle.djq_model.specs.declared.relation.Relation.{Relation}
use Rattle.djq_model.specs.Data.{Bytes, Tuple, relation_of, rows_of, has_row, copies_among}
use Rattle.djq_model.specs.Typed.{fits}
use Rattle.djq_protocol.specs.declared.limits.TheConstants.{ROWS, LAST_SEQ}
use Rattle.djq_store_spec.specs.Store.{Store}
use Rattle.djq_store_spec.specs.Rows.{delete_refusal}
use Rattle.djq_database.specs.Cells.{HaveCells, cells_of}
use Rattle.djq_database.specs.Catalog.{Catalog, relation_at, counted_at, rows_at}
use Rattle.djq_database.specs.declared.relation_id.RelationId.{RelationId}

-- a store, as far as a row's conditions read it
abbrev pub bare_store : List Relation → ℕ → Store
bare_store relations seq = record { relations = relations; texts = []; queries = []; seq = seq }

-- The relation of a name is at this place, and a row suits it.
pub record RowSuits (relations : List Relation) (name : Bytes) (row : Tuple) (at : ℕ) : Type 0 where
  pub below : at < length relations
  pub named : (relation_at relations at).name ≡ name
  pub found : relation_of relations name ≡ Some (relation_at relations at)
  pub suits : fits (relation_at relations at).types row ≡ true

-- It may be added, unless it has as many copies as there may be.
pub record MayCome (relations : List Relation) (name : Bytes) (row : Tuple) (seq : ℕ) (at : ℕ) :
    Type 0 where
  pub relation : RowSuits relations name row at
  pub room : has_row (rows_at relations at) row ≡ false → length (rows_at relations at) < ROWS
  pub more : has_row (rows_at relations at) row ≡ false → seq < LAST_SEQ

-- a row of which a copy may be deleted, by its cells
pub record Deletion : Type 0 where
  pub relation : RelationId
  pub cells : List ℕ

-- A copy of it may be deleted, and it has these cells.
pub record MayGo (c : Catalog) (name : Bytes) (row : Tuple) (seq : ℕ) (found : Deletion) : Type 0
  where
    pub relation : RowSuits c.relations name row found.relation.at
    pub passes : delete_refusal (bare_store c.relations seq) name row ≡ None
    pub have : HaveCells c.texts row
    pub cells : found.cells ≡ cells_of c.texts row
    pub last : copies_among (counted_at c.relations found.relation.at) row ≡ 1 → seq < LAST_SEQ

-- Its texts aren't all known, so that it isn't there; or it may be deleted.
abbrev pub JudgesDelete : Catalog → Bytes → Tuple → ℕ → List ℕ → Option RelationId → Type 0
JudgesDelete c name row seq cells None =
    (delete_refusal (bare_store c.relations seq) name row ≡ None)
    × (has_row (rows_of c.relations name) row ≡ false)
JudgesDelete c name row seq cells (Some relation) =
    MayGo c name row seq (record { relation = relation; cells = cells })
