-- What a change by which groups are inserted, and after them groups are deleted, does to the queries that read one of
-- the relations, and to their logs.
use Rattle.std.specs.Prelude.{ℕ, List, ◌++◌, ◌≡◌, ◌≤◌, ◌+◌, ◌⊎◌, Bool, true, false, Option, IsSomeAnd, All}
use Rattle.std.specs.Prelude.{filter, length, map, sum_by}
use Rattle.djq_store_spec.specs.Delta.{Change}
use Rattle.djq_hypergraph.specs.Flat.{IsFlat}
use Rattle.djq_protocol.specs.Hypergraph.{edges_of, head_of}
use Rattle.djq_propagate.specs.Updates.{HasAtMost}
use Rattle.djq_enumeration.specs.declared.log.Line.{Line}
use Rattle.djq_enumeration.specs.Log.{Log}
use Rattle.djq_database.specs.Catalog.{Catalog}
use Rattle.djq_answer_laws.specs.Net.{CancelsOut}
use Rattle.djq_live_query.specs.Live.{Live, IsKept, IsShowable}
use Rattle.djq_live_query.specs.Updating.{IsDeltaOf, IsEmpty, HasFewRows, change_of}
use Rattle.djq_reach.specs.declared.group.Group.{Group}
use Rattle.djq_reach.specs.Places.{place_at, is_reader, log_at, watched_at}
use Rattle.djq_reach.specs.Reaching.{AllAt}
use Rattle.djq_reach.specs.Tending.{DeltasOf}
use Rattle.djq_reach.specs.Grouping.{GroupsLead, PlacesAreAmong, batch_cost_at, group_relations, group_work, reached}
use Rattle.djq_reach.specs.Grouping.{rows_of_groups}
use Rattle.djq_queries.specs.Going.{GroupsGo, gone_group_work}

-- the places of the queries that read a relation of the groups that are inserted or of those that are deleted
abbrev pub touched : List (List ℕ) → List Group → List Group → List ℕ
touched readers come gone = reached readers come ++ reached readers gone

-- Groups are inserted and lead to a catalog between, and from there groups are deleted.
pub record GroupsChange (readers : List (List ℕ)) (come gone : List Group) (gs : List (Option Live))
    (c e d : Catalog) : Type 0 where
  pub comes : GroupsLead readers come gs c e
  pub goes : GroupsGo readers gone gs e d

-- They are from a catalog over which the queries that read one of the relations are live.
pub record CanChangeBy (readers : List (List ℕ)) (come gone : List Group) (gs : List (Option Live)) :
    Type 0 where
  pub before : Catalog
  pub between : Catalog
  pub after : Catalog
  pub leads : GroupsChange readers come gone gs before between after
  pub kept : AllAt (touched readers come gone) gs (λ l. IsKept before l)

-- Unless it is lost, a log has the answers that the insertions added, up to the catalog between, and after them those
-- that the deletions removed from there.
pub record LogTellsHalves (c e d : Catalog) (l : Live) (log : Log) : Type 0 where
  pub came : List Line
  pub went : List Line
  pub lines : log.lost ≡ false → log.lines ≡ came ++ went
  pub comes : log.lost ≡ false → IsDeltaOf l c e (map (change_of d.texts l) came)
  pub goes : log.lost ≡ false → IsDeltaOf l e d (map (change_of d.texts l) went)
  pub shown : log.lost ≡ false → All (λ k. IsShowable d.texts l k.answer) log.lines

-- Unless it is lost, a log has the net delta of the whole change, in lines that can be shown. Lost or not, there are
-- the answers that the insertions added, up to the catalog between, and those that the deletions removed from there.
pub record LogTellsNet (c e d : Catalog) (l : Live) (log : Log) : Type 0 where
  pub tells : log.lost ≡ false → IsDeltaOf l c d (map (change_of d.texts l) log.lines)
  pub shown : log.lost ≡ false → All (λ k. IsShowable d.texts l k.answer) log.lines
  pub came : List Change
  pub went : List Change
  pub inserts : IsDeltaOf l c e came
  pub deletes : IsDeltaOf l e d went

-- It has that if the query is watched, and is as before if it isn't.
abbrev pub TellsChangeWhere : Bool → Catalog → Catalog → Catalog → Live → Log → Log → Type 0
TellsChangeWhere true c e d l old new = LogTellsNet c e d l new
TellsChangeWhere false c e d l old new = new ≡ old

-- the same of the query in a place
abbrev pub TellsChangeAt : List ℕ → Catalog → Catalog → Catalog → ℕ → Live → Log → Log → Type 0
TellsChangeAt watchers c e d i = TellsChangeWhere (watched_at watchers i) c e d

-- The logs of those of the queries in these places that are watched are emptied, and no other place's
-- log changes. That of a query that isn't watched is emptied or as before.
pub record EmptiesWatched (places watchers : List ℕ) (old new : List Log) : Type 0 where
  pub long : length new ≡ length old
  pub emptied : (i : ℕ) → is_reader places i ≡ true → watched_at watchers i ≡ true
      → IsEmpty (log_at new i)
  pub unwatched : (i : ℕ) → is_reader places i ≡ true → watched_at watchers i ≡ false
      → IsEmpty (log_at new i) ⊎ (log_at new i ≡ log_at old i)
  pub others : (i : ℕ) → is_reader places i ≡ false → log_at new i ≡ log_at old i

-- What listing counts at most, whatever deltas the watched queries have: each that reads a relation of the groups that
-- are inserted counts once for what they add, and each that reads one of those that are deleted once for what they
-- remove, in whatever order they are.
abbrev pub CostsChange : List (List ℕ) → List Group → List Group → List ℕ → List (Option Live) → ℕ → ℕ
    → Type 0
CostsChange readers come gone watchers gs before now = (c e d : Catalog) (f h : ℕ → List Change)
    (order : List ℕ) → GroupsChange readers come gone gs c e d
    → AllAt (touched readers come gone) gs (λ l. IsKept c l)
    → DeltasOf (reached readers come) watchers gs c e f
    → DeltasOf (reached readers gone) watchers gs e d h
    → PlacesAreAmong (touched readers come gone) order
    → now ≤ before + sum_by (batch_cost_at watchers gs (group_relations come) f)
    (filter (is_reader (reached readers come)) order)
    + sum_by (batch_cost_at watchers gs (group_relations gone) h)
    (filter (is_reader (reached readers gone)) order)

-- what bounds the update of a query by groups that are deleted: that it is flat, if this is chosen, or that
-- no relation that it reads has more than m rows in the catalog between
abbrev pub IsBoundedIn : Catalog → ℕ → Bool → Live → Type 0
IsBoundedIn e m true l = IsFlat (edges_of l.query) (head_of l.query)
IsBoundedIn e m false l = HasFewRows e l m

-- What updates count at most: for each group that is inserted and each query that reads its relation the bound of an
-- update if no leaf has more than n tuples before, with as many more as rows are inserted; for each group that is
-- deleted the bound that is chosen for the query.
abbrev pub WorksChange : List (List ℕ) → List Group → List Group → List (Option Live) → ℕ → ℕ → Type 0
WorksChange readers come gone gs before now = (c e d : Catalog) (n m : ℕ) (flat : ℕ → Bool)
    → GroupsChange readers come gone gs c e d → AllAt (touched readers come gone) gs (λ l. IsKept c l)
    → AllAt (reached readers come) gs (λ l. HasAtMost l.reducts n)
    → ((i : ℕ) → is_reader (reached readers gone) i ≡ true
    → IsSomeAnd (place_at gs i) (IsBoundedIn e m (flat i)))
    → now ≤ before + sum_by (group_work readers gs (n + rows_of_groups come) (λ g. 1)) come
    + sum_by (gone_group_work readers gs m flat) gone

-- What a log has of both halves of a change, once opposites cancel out, is the query's delta.
abbrev pub ChangedLogsSettle : Type 0
ChangedLogsSettle = (readers : List (List ℕ)) (come gone : List Group) (gs : List (Option Live)) (c e d : Catalog)
    (l : Live) (log : Log) (new : List Change) → GroupsChange readers come gone gs c e d → LogTellsHalves c e d l log
    → log.lost ≡ false → CancelsOut (map (change_of d.texts l) log.lines) new → IsDeltaOf l c d new
