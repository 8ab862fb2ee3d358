-- What groups of rows, each of a relation, do to the queries that read one of the relations.
use Rattle.std.specs.Prelude.{ℕ, List, [], ◌∷◌, ◌++◌, ◌≡◌, ◌<◌, ◌≤◌, ◌+◌, ◌*◌, ◌&&◌, Bool, true}
use Rattle.std.specs.Prelude.{false, Option, None, Some, All, if◌then◌else◌, length, map, filter}
use Rattle.std.specs.Prelude.{sum_by, ⊤}
use Rattle.djq_model.specs.Data.{Tuple}
use Rattle.djq_store_spec.specs.Delta.{Change}
use Rattle.djq_store_spec.specs.Registering.{most_steps}
use Rattle.djq_propagate.specs.Updates.{HasAtMost}
use Rattle.djq_enumeration.specs.Log.{Log}
use Rattle.djq_database.specs.Catalog.{Catalog, relation_at}
use Rattle.djq_live_query.specs.Live.{Live, IsKept}
use Rattle.djq_live_query.specs.Updating.{IsEmpty}
use Rattle.djq_reach.specs.declared.group.Group.{Group}
use Rattle.djq_reach.specs.Places.{place_at, reads_place, is_reader, readers_at, watched_at, log_at}
use Rattle.djq_reach.specs.Reaching.{AllAt}
use Rattle.djq_reach.specs.Tending.{DeltasOf, work_at}
use Rattle.djq_reach.specs.Batching.{RowsCameIn}

-- the relations of groups, by their places
abbrev pub group_relations : List Group → List ℕ
group_relations groups = map (λ g. g.relation.at) groups

-- the places of the queries that read one of them
abbrev pub reached : List (List ℕ) → List Group → List ℕ
reached readers [] = []
reached readers (g ∷ groups) = readers_at readers g.relation.at ++ reached readers groups

-- how many rows the groups have
abbrev pub rows_of_groups : List Group → ℕ
rows_of_groups groups = sum_by (λ g. length g.rows) groups

-- The groups were inserted one after another: each leads from a catalog to the next one.
abbrev pub ComesBy : Catalog → List Group → Catalog → Type 0
ComesBy c [] d = d ≡ c
ComesBy c (g ∷ groups) d =
    (e : Catalog) × (rows : List Tuple) × RowsCameIn c e g.relation.at g.rows rows × ComesBy e groups d

-- The groups lead from one catalog to another, and the readers of a relation are the places of the
-- queries that read it.
pub record GroupsLead (readers : List (List ℕ)) (groups : List Group) (gs : List (Option Live))
    (c d : Catalog) : Type 0 where
  pub comes : ComesBy c groups d
  pub within : All (λ g. g.relation.at < length c.relations) groups
  pub long : length readers ≡ length c.relations
  pub reading : (r i : ℕ) → r < length c.relations → is_reader (readers_at readers r) i
      ≡ reads_place (relation_at c.relations r).name (place_at gs i)

-- They were from a catalog over which the queries that read one of the relations are live.
pub record CanComeBy (readers : List (List ℕ)) (groups : List Group) (gs : List (Option Live)) :
    Type 0 where
  pub before : Catalog
  pub after : Catalog
  pub leads : GroupsLead readers groups gs before after
  pub kept : AllAt (reached readers groups) gs (λ l. IsKept before l)

-- They were to a catalog over which these queries are live.
pub record CanGoBy (readers : List (List ℕ)) (groups : List Group) (gs : List (Option Live)) :
    Type 0 where
  pub before : Catalog
  pub after : Catalog
  pub leads : GroupsLead readers groups gs before after
  pub kept : AllAt (reached readers groups) gs (λ l. IsKept after l)

-- The logs in the places that pass are emptied, and no other changes.
pub record Clears (passes : ℕ → Bool) (old new : List Log) : Type 0 where
  pub long : length new ≡ length old
  pub emptied : (i : ℕ) → passes i ≡ true → IsEmpty (log_at new i)
  pub others : (i : ℕ) → passes i ≡ false → log_at new i ≡ log_at old i

-- how many atoms of a query are over one of these relations
abbrev pub atoms_over_any : Live → List ℕ → ℕ
atoms_over_any l ats = length (filter (λ a. is_reader ats a.relation) l.numbered.atoms)

-- what listing the deltas of a batch counts at most, of one query: an answer for each that was
-- added, and for each atom over one of the relations
abbrev pub batch_cost : List ℕ → List Change → Option Live → ℕ
batch_cost ats changes None = 0
batch_cost ats changes (Some l) =
    (length changes + atoms_over_any l ats) * most_steps (length l.query.head)

-- of the query in a place, if it is watched
abbrev pub batch_cost_at : List ℕ → List (Option Live) → List ℕ → (ℕ → List Change) → ℕ → ℕ
batch_cost_at watchers gs ats f i =
    if watched_at watchers i then batch_cost ats (f i) (place_at gs i) else 0

-- these places are all among others
abbrev pub PlacesAreAmong : List ℕ → List ℕ → Type 0
PlacesAreAmong places order = (i : ℕ) → is_reader places i ≡ true → is_reader order i ≡ true

-- What listing the deltas between two catalogs counts at most, whatever deltas these are: each query
-- that reads one of the relations counts once, in whatever order they are.
abbrev pub CostsBy : List (List ℕ) → List Group → List ℕ → List (Option Live) → ℕ → ℕ → Type 0
CostsBy readers groups watchers gs before now = (c d : Catalog) (f : ℕ → List Change)
    (order : List ℕ) → GroupsLead readers groups gs c d
    → AllAt (reached readers groups) gs (λ l. IsKept c l)
    → DeltasOf (reached readers groups) watchers gs c d f
    → PlacesAreAmong (reached readers groups) order
    → now ≤ before + sum_by (batch_cost_at watchers gs (group_relations groups) f)
    (filter (is_reader (reached readers groups)) order)

-- what the readers of a group's relation count at most: so many times the bound of an update
abbrev pub group_work : List (List ℕ) → List (Option Live) → ℕ → (Group → ℕ) → Group → ℕ
group_work readers gs n times g =
    sum_by (work_at gs g.relation.at (times g) n (λ i. false)) (readers_at readers g.relation.at)

-- What updates by all groups count at most, if no leaf has more than n tuples before: for each
-- group and each query that reads its relation so many times the bound of an update, with so many
-- tuples more counted in.
abbrev pub WorksBy : List (List ℕ) → List Group → List (Option Live) → ℕ → (Group → ℕ) → ℕ → ℕ
    → Type 0
WorksBy readers groups gs more times before now = (n : ℕ)
    → AllAt (reached readers groups) gs (λ l. HasAtMost l.reducts n)
    → now ≤ before + sum_by (group_work readers gs (n + more) times) groups

-- if rows are deleted again row by row, each counts as an update
abbrev pub times_back : Group → ℕ
times_back g = length g.rows + 2
