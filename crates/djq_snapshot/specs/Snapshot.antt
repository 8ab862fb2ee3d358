-- A store as the lines of a snapshot, and what restoring them does.
use Rattle.std.specs.Prelude.{ℕ, List, [], ◌∷◌, ◌++◌, ◌≡◌, ◌≤◌, ◌<◌, false, None, Ok, map, length}
use Rattle.std.specs.List.{flat_map}
use Rattle.djq_model.specs.declared.relation.ColumnType.{ColumnType}
use Rattle.djq_model.specs.declared.relation.Relation.{Relation}
use Rattle.djq_model.specs.declared.relation.CountedRow.{CountedRow}
use Rattle.djq_model.specs.declared.query.Query.{Query}
use Rattle.djq_model.specs.Data.{Bytes, counted_of, rows_of, has_row}
use Rattle.djq_model.specs.Known.{texts_in, all_learned}
use Rattle.djq_model.specs.Listed.{Listed, a_query, a_union}
use Rattle.djq_protocol.specs.declared.limits.TheConstants.{ROWS, TEXTS, LAST_SEQ}
use Rattle.djq_protocol.specs.declared.rest.QueryOutcome.TheVariants.{Registered}
use Rattle.djq_store_spec.specs.Store.{Store, empty_store}
use Rattle.djq_store_spec.specs.Relations.{with_rows, MakesRelation}
use Rattle.djq_store_spec.specs.Registering.{RegistersQuery}
use Rattle.djq_store_spec.specs.Union.{RegistersUnion}
use Rattle.djq_store_spec.specs.Transaction.{suit_refusal}
use Rattle.djq_machine.specs.Step.{SameRelations}
use Rattle.djq_machine.specs.Walk.{Walk}
use Rattle.djq_run_laws.specs.Sound.{IsCopyCount}
use Rattle.djq_log_laws.specs.Kept.{StoreFollows}

-- ---- What a snapshot has of a store.

-- A line of a snapshot.
pub data SnapshotLine : Type 0 where
  -- there is a relation of this name, with columns of these types
  says_relation : Bytes → List ColumnType → SnapshotLine
  -- the relation of this name has this row, with its copies
  says_row : Bytes → CountedRow → SnapshotLine
  -- a query is registered
  says_query : Query → SnapshotLine
  -- a union is registered under this name, of the queries of these names
  says_union : Bytes → List Bytes → SnapshotLine
  -- so many changes were accepted
  says_changes : ℕ → SnapshotLine

-- the line of a relation
abbrev pub relation_line : Relation → SnapshotLine
relation_line r = says_relation r.name r.types

-- the lines of its rows
abbrev pub row_lines : Relation → List SnapshotLine
row_lines r = map (says_row r.name) r.rows

-- the line of what is registered
abbrev pub listed_line : Listed → SnapshotLine
listed_line (a_query q) = says_query q
listed_line (a_union name qs) = says_union name (map (λ q. q.name) qs)

-- The snapshot of a store: its relations, the rows of each, what is registered, in their orders, and
-- the number of changes. Which texts are known it doesn't have.
abbrev pub snapshot_of : Store → List SnapshotLine
snapshot_of st =
    map relation_line st.relations
    ++ (flat_map row_lines st.relations
    ++ (map listed_line st.queries
    ++ says_changes st.seq ∷ []))

-- ---- What restoring it does.

-- A row that suits its relation and isn't there gets in, with its copies. Its texts become known, and
-- the number of changes stays.
pub record RestoresRow (old : Store) (name : Bytes) (c : CountedRow) (new : Store) : Type 0 where
  pub suits : suit_refusal old name c.row ≡ None
  pub absent : has_row (rows_of old.relations name) c.row ≡ false
  pub copies : IsCopyCount c.copies
  pub place : length (rows_of old.relations name) < ROWS
  pub few : length new.texts ≤ TEXTS
  pub is : new ≡ record old {
    relations = with_rows old.relations name (counted_of old.relations name ++ c ∷ []);
    texts = all_learned old.texts (texts_in c.row);
  }

-- What a line does to a store, if none of its conditions refuses it.
abbrev pub Restores : Store → SnapshotLine → Store → Type 0
Restores old (says_relation name types) new = MakesRelation old name types (Ok tt) new
Restores old (says_row name c) new = RestoresRow old name c new
Restores old (says_query q) new = (most : ℕ) × RegistersQuery old q (Ok (Registered most)) new
Restores old (says_union name members) new = (most : ℕ) × RegistersUnion old name members (Ok most) new
Restores old (says_changes n) new = (n ≤ LAST_SEQ) × (new ≡ record old { seq = n })

-- A line is restored. The rows, each with its copies, may be in another order from then on.
pub record RestoreStep (old : Store) (line : SnapshotLine) (new : Store) : Type 0 where
  pub mid : Store
  pub restores : Restores old line mid
  pub relations : List Relation
  pub reordered : SameRelations mid.relations relations
  pub after : new ≡ record mid { relations = relations }

-- Lines are restored, one after another.
abbrev pub RestoresAll : Store → List SnapshotLine → Store → Type 0
RestoresAll = Walk RestoreStep

-- Lines restore a store, from nothing: they can be restored, and any result follows that store. No
-- condition refuses a line: after those before it, with any result, it can be restored.
pub record RestoresTo (lines : List SnapshotLine) (st : Store) : Type 0 where
  pub can : (b : Store) × RestoresAll empty_store lines b × StoreFollows st b
  pub each : (b : Store) → RestoresAll empty_store lines b → StoreFollows st b
  pub none_refused : (front : List SnapshotLine) (line : SnapshotLine) (rest : List SnapshotLine)
      → lines ≡ front ++ line ∷ rest → (mid : Store) → RestoresAll empty_store front mid
      → (new : Store) × RestoreStep mid line new
