-- The lines that a run logged, loaded, give what the run left.
use Rattle.std.specs.Prelude.{List, [], ◌∷◌, ◌++◌, ◌≡◌, ◌≤◌, true, false, None, IsSome, codes, length, All}
use Rattle.djq_model.specs.declared.relation.Relation.{Relation}
use Rattle.djq_model.specs.Data.{Bytes, Tuple, tuples_in}
use Rattle.djq_model.specs.Answer.{AreDifferent}
use Rattle.djq_model.specs.Known.{knows}
use Rattle.djq_store_spec.specs.Store.{Store}
use Rattle.djq_machine.specs.State.{State, opening}
use Rattle.djq_store_spec.specs.Rows.{copies_of}
use Rattle.djq_machine.specs.Step.{SameRelations}
use Rattle.djq_machine.specs.Run.{Did, Run, Group, groups_of, lines_in}
use Rattle.djq_run_laws.specs.Sound.{AreApart, IsSoundState, IsStart}
use Rattle.djq_run_laws.specs.Holding.{IsLine, HoldLines}
use Rattle.djq_machine.specs.declared.machine.Loaded.{Loaded}
use Rattle.djq_machine.specs.declared.machine.Loaded.TheVariants.{Ran as ran, Refused as refused}
use Rattle.djq_machine.specs.Loading.{Loading, loading, LoadStep, Loads}

-- Two stores have the same relations, each with its rows and their copies in any order, the same
-- queries and number of changes.
pub record IsSameStore (a b : Store) : Type 0 where
  pub relations : SameRelations a.relations b.relations
  pub queries : b.queries ≡ a.queries
  pub seq : b.seq ≡ a.seq

-- all texts that the first know, the second do
abbrev pub AreKnown : List Bytes → List Bytes → Type 0
AreKnown texts known = (t : Bytes) → knows texts t ≡ true → knows known t ≡ true

-- no row of a relation occurs in it twice
abbrev pub HasRowsOnce : Relation → Type 0
HasRowsOnce r = AreDifferent (tuples_in r)

-- A store follows another: it has the same data, each row once with its copies, and knows no other
-- texts, each once.
pub record StoreFollows (a b : Store) : Type 0 where
  pub same : IsSameStore a b
  pub rows : All HasRowsOnce b.relations
  pub among : AreKnown b.texts a.texts
  pub once : AreApart b.texts

-- So it has as many copies of each row.
abbrev pub FollowersHaveCopies : Type 0
FollowersHaveCopies = (a b : Store) → StoreFollows a b → (name : Bytes) (row : Tuple)
    → copies_of b name row ≡ copies_of a name row

-- So does a loading: its store follows that one's, and the same batch is open, or none.
pub record LoadingFollows (a b : Loading) : Type 0 where
  pub store : StoreFollows a.store b.store
  pub batch : b.batch ≡ a.batch

-- Lines can be loaded from here, and none is refused; and any loading of them, if memory suffices,
-- follows this.
pub record LoadsOn (from : Loading) (lines : List Bytes) (to : Loading) : Type 0 where
  pub can : (b : Loading) × Loads from lines b × LoadingFollows to b
  pub each : (b : Loading) → Loads from lines b → LoadingFollows to b
  pub none_refused : (front : List Bytes) (line : Bytes) (behind : List Bytes)
      → lines ≡ front ++ line ∷ behind → (mid : Loading) → Loads from front mid → (new : Loading)
      → LoadStep mid line refused new → ⊥

-- So they are from a store to a store: no batch is open before them, and none after them.
abbrev pub LoadsTo : Store → List Bytes → Store → Type 0
LoadsTo from lines to = LoadsOn (loading from) lines (loading to)

-- What lines, found at a start, give is a state to start from, if they leave no batch open and no
-- session is open yet.
abbrev pub FoundIsStart : Type 0
FoundIsStart = (found : List Bytes) (st : State) → Loads (loading opening.store) found (loading st.store)
    → st.sessions ≡ [] → st.stopped ≡ false → IsStart st

-- If a batch is open, the line `abandon` ends it: it is never refused, and needs no memory.
abbrev pub AbandonRuns : Type 0
AbandonRuns = (old : Loading) (how : Loaded) (new : Loading) → LoadStep old (codes "abandon") how new
    → IsSome old.batch → (how ≡ ran) × (new.batch ≡ None)

-- So lines, found at a start, that leave one open load with it to the same store.
abbrev pub AbandonedAreLoaded : Type 0
AbandonedAreLoaded = (found : List Bytes) (left : Loading) → Loads (loading opening.store) found left
    → IsSome left.batch → LoadsTo opening.store (found ++ codes "abandon" ∷ []) left.store

-- The lines that a run logged, loaded into a store that follows the one it began with, give a store
-- that follows the one it left: the same rows with the same copies.
abbrev pub KeptLinesLoad : Type 0
KeptLinesLoad = (old : State) (done : List Did) (new : State) → Run old done new → IsSoundState old
    → (from : Store) → StoreFollows old.store from → LoadsTo from (lines_in (groups_of done)) new.store

-- So it is of a run that began with what lines, found at its start, gave: these lines and those that
-- it logged give what it left.
abbrev pub RunsReload : Type 0
RunsReload = (found : List Bytes) (old : State)
    → Loads (loading opening.store) found (loading old.store)
    → (done : List Did) (new : State) → Run old done new → IsSoundState old
    → LoadsTo opening.store (found ++ lines_in (groups_of done)) new.store

-- the point of a run at which it had logged just these groups
pub record StoodAt (old : State) (done : List Did) (new : State) (groups : List Group) : Type 0 where
  pub earlier : List Did
  pub later : List Did
  pub cut : done ≡ earlier ++ later
  pub mid : State
  pub before : Run old earlier mid
  pub behind : Run mid later new
  pub kept : groups_of earlier ≡ groups

-- What a crash leaves: the first groups that a run logged, whole, after the lines found at its start,
-- give what it had when it had logged just these.
abbrev pub StopsReload : Type 0
StopsReload = (found : List Bytes) (old : State)
    → Loads (loading opening.store) found (loading old.store)
    → (done : List Did) (new : State) → Run old done new → IsSoundState old
    → (whole later : List Group) → groups_of done ≡ whole ++ later
    → (at : StoodAt old done new whole) × LoadsTo opening.store (found ++ lines_in whole) at.mid.store

-- A group that a run logs has a line at least, and each of its lines has a byte at least and no
-- more than a line may have.
abbrev pub KeptAreLines : Type 0
KeptAreLines = (old : State) (done : List Did) (new : State) → Run old done new → HoldLines old
    → All (λ group. (1 ≤ length group) × All IsLine group) (groups_of done)
