-- Which stores their snapshots restore, and that a run reaches no other.
use Rattle.std.specs.Prelude.{List, [], ◌∷◌, ◌++◌, ◌≡◌, true, None, Some, All, ⊤}
use Rattle.djq_model.specs.declared.relation.Relation.{Relation}
use Rattle.djq_model.specs.Data.{Bytes, tuples_in}
use Rattle.djq_model.specs.Known.{knows_all, texts_in}
use Rattle.djq_model.specs.Listed.{Listed, a_query, members_of, listed_of, queries_of}
use Rattle.djq_protocol.specs.QueryFault.{query_fault}
use Rattle.djq_store_spec.specs.Store.{Store, empty_store}
use Rattle.djq_machine.specs.State.{State, opening}
use Rattle.djq_machine.specs.Run.{Did, Run, groups_of, lines_in}
use Rattle.djq_machine.specs.Loading.{Loading, loading, Loads}
use Rattle.djq_run_laws.specs.Sound.{IsSoundStore, IsSoundState}
use Rattle.djq_run_laws.specs.Form.{listed_texts}
use Rattle.djq_log_laws.specs.Kept.{StoreFollows, LoadsTo}
use Rattle.djq_snapshot.specs.Snapshot.{SnapshotLine, snapshot_of, RestoresAll, RestoresTo}

-- Over these relations no registered query has a fault.
abbrev pub HasNoFault : List Relation → Listed → Type 0
HasNoFault relations l = All (λ q. query_fault relations q ≡ None) (queries_of l)

-- Its members are among these.
abbrev pub HasMembersIn : List Listed → Listed → Type 0
HasMembersIn queries l = All (λ q. listed_of queries q.name ≡ Some (a_query q)) (members_of l)

-- Each of these was registered after those before it, and the members of a union are among them.
abbrev pub FollowMembers : (before rest : List Listed) → Type 0
FollowMembers before [] = ⊤
FollowMembers before (l ∷ ls) = HasMembersIn before l × FollowMembers (before ++ l ∷ []) ls

-- all texts of a relation's rows are among these
abbrev pub KnowsRows : List Bytes → Relation → Type 0
KnowsRows texts r = All (λ row. knows_all texts (texts_in row) ≡ true) (tuples_in r)

-- What is more than sound of a store that commands make: no query has a fault over its relations, the
-- members of a union were registered before it, and the texts of rows and queries are known.
pub record IsRestorable (st : Store) : Type 0 where
  pub faults : All (HasNoFault st.relations) st.queries
  pub order : FollowMembers [] st.queries
  pub rows : All (KnowsRows st.texts) st.relations
  pub constants : All (λ l. knows_all st.texts (listed_texts l) ≡ true) st.queries

-- A snapshot restores its store: the same relations, rows, copies, queries and unions in their order,
-- and the same number of changes. No text is known that its store didn't know.
abbrev pub SnapshotRestores : Type 0
SnapshotRestores = (st : Store) → IsSoundStore st → IsRestorable st → RestoresTo (snapshot_of st) st

-- So does the snapshot of a store that follows it, as with its rows in another order.
abbrev pub FollowersRestore : Type 0
FollowersRestore = (a b : Store) → IsSoundStore a → IsRestorable a → StoreFollows a b
    → RestoresTo (snapshot_of b) a

-- Lines that restored a store do so whenever they are restored.
abbrev pub RestoredAgain : Type 0
RestoredAgain = (lines : List SnapshotLine) (st : Store) → RestoresAll empty_store lines st → RestoresTo lines st

-- The store in which nothing has happened is restorable.
abbrev pub OpeningIsRestorable : Type 0
OpeningIsRestorable = IsRestorable opening.store

-- A run that begins with a restorable store reaches no other.
abbrev pub RunsStayRestorable : Type 0
RunsStayRestorable = (old : State) (done : List Did) (new : State) → Run old done new → IsSoundState old
    → IsRestorable old.store → IsRestorable new.store

-- Nor do lines that are loaded into one.
abbrev pub LoadsStayRestorable : Type 0
LoadsStayRestorable = (from : Store) → IsRestorable from → (lines : List Bytes) (to : Loading)
    → Loads (loading from) lines to → IsRestorable to.store

-- So at each point of a run that began with what lines found at its start gave, the snapshot of the
-- store restores it.
abbrev pub RunsRestore : Type 0
RunsRestore = (found : List Bytes) (old : State) → Loads (loading opening.store) found (loading old.store)
    → (done : List Did) (new : State) → Run old done new → IsSoundState old
    → RestoresTo (snapshot_of new.store) new.store

-- What follows a sound store is sound.
abbrev pub FollowersAreSound : Type 0
FollowersAreSound = (a b : Store) → StoreFollows a b → IsSoundStore a → IsSoundStore b

-- So what a snapshot restores is sound, and its own snapshot restores it.
abbrev pub RestoredIsRestorable : Type 0
RestoredIsRestorable = (st : Store) → IsSoundStore st → IsRestorable st → (b : Store)
    → RestoresAll empty_store (snapshot_of st) b → IsSoundStore b × IsRestorable b

-- A log that has the snapshot of a store, and then the lines that a run from there logged, gives what the
-- run left: these lines load into whatever the snapshot restored.
abbrev pub RewrittenLogsLoad : Type 0
RewrittenLogsLoad = (old : State) (done : List Did) (new : State) → Run old done new → IsSoundState old
    → IsRestorable old.store → (b : Store) → RestoresAll empty_store (snapshot_of old.store) b
    → LoadsTo b (lines_in (groups_of done)) new.store
