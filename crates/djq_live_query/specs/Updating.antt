-- How a registered query changes with a row of a relation that is inserted or deleted, and what its log has of it.
use Rattle.std.specs.Prelude.{ℕ, List, [], ◌++◌, ◌≡◌, ◌+◌, ◌*◌, ◌≤◌, ◌==◌, Bool, true, false, All}
use Rattle.std.specs.Prelude.{Contains, filter, length, map, if◌then◌else◌}
use Rattle.djq_model.specs.declared.query.Atom.{Atom}
use Rattle.djq_model.specs.Data.{Bytes, Tuple, rows_of}
use Rattle.djq_model.specs.Answer.{IsAnswer, AreDifferent}
use Rattle.djq_protocol.specs.declared.answer.Sign.TheVariants.{Came as HasCome, Went as HasGone}
use Rattle.djq_store_spec.specs.Delta.{Change, IsDelta}
use Rattle.djq_store_spec.specs.Registering.{most_steps}
use Rattle.djq_hypergraph.specs.Flat.{IsFlat}
use Rattle.djq_protocol.specs.Hypergraph.{edges_of, head_of}
use Rattle.djq_tree.specs.Flat.{HasEqualMeets}
use Rattle.djq_propagate.specs.Updates.{HasAtMost}
use Rattle.djq_enumeration.specs.declared.log.Line.{Line}
use Rattle.djq_enumeration.specs.Log.{Log}
use Rattle.djq_database.specs.Catalog.{Catalog, rows_at}
use Rattle.djq_leaves.specs.Changes.{Came, CameAll, Went, WentAll}
use Rattle.djq_live_query.specs.Live.{Live, IsKept, IsShowable, values_of}

-- A row with these cells was inserted into a relation, over whose catalog the query was maintained.
pub record CanAdd (l : Live) (at : ℕ) (cells : List ℕ) : Type 0 where
  pub before : Catalog
  pub after : Catalog
  pub row : Tuple
  pub kept : IsKept before l
  pub came : Came before after at cells row

-- Rows with these cells, one for one, were inserted into a relation, over whose catalog the query was maintained.
pub record CanAddAll (l : Live) (at : ℕ) (cells : List (List ℕ)) : Type 0 where
  pub before : Catalog
  pub after : Catalog
  pub rows : List Tuple
  pub kept : IsKept before l
  pub came : CameAll before after at cells rows

-- A row with these cells was there, and was deleted.
pub record CanDelete (l : Live) (at : ℕ) (cells : List ℕ) : Type 0 where
  pub before : Catalog
  pub after : Catalog
  pub row : Tuple
  pub kept : IsKept before l
  pub there : Contains (rows_at before.relations at) row
  pub went : Went before after at cells row

-- Rows with these cells, one for one, were there, each once, and were deleted.
pub record CanDeleteAll (l : Live) (at : ℕ) (cells : List (List ℕ)) : Type 0 where
  pub before : Catalog
  pub after : Catalog
  pub rows : List Tuple
  pub kept : IsKept before l
  pub there : (row : Tuple) → Contains rows row → Contains (rows_at before.relations at) row
  pub differ : AreDifferent rows
  pub went : WentAll before after at cells rows

-- The query is maintained over the later catalog, too, whatever changed: a row or some rows.
abbrev pub LiveAfter : {R : Type 0} → (Catalog → Catalog → R → Type 0) → Live → Live → Type 0
LiveAfter {R} Changed old new = (c d : Catalog) (what : R) → IsKept c old → Changed c d what
    → IsKept d new

-- the change of a line of a log
abbrev pub change_of : List Bytes → Live → Line → Change
change_of texts l k = record {
  sign = if k.came then HasCome else HasGone;
  answer = values_of texts l k.answer;
}

-- the answers that were added or removed as one catalog became another
abbrev pub IsDeltaOf : Live → Catalog → Catalog → List Change → Type 0
IsDeltaOf l c d = IsDelta (IsAnswer c.relations l.query) (IsAnswer d.relations l.query)

-- Unless the log is lost, the delta is appended to it, in lines that can be shown.
pub record LogsDelta {R : Type 0} (Changed : Catalog → Catalog → R → Type 0) (old : Live)
    (log new : Log) : Type 0 where
  pub lines : List Line
  pub behind : new.lost ≡ false → new.lines ≡ log.lines ++ lines
  pub tells : new.lost ≡ false → (c d : Catalog) (what : R) → IsKept c old → Changed c d what
      → IsDeltaOf old c d (map (change_of d.texts old) lines)
  pub shown : new.lost ≡ false → (c d : Catalog) (what : R) → IsKept c old → Changed c d what
      → All (λ k. IsShowable d.texts old k.answer) lines
  pub stays : log.lost ≡ true → new.lost ≡ true

-- What is done with the log, if the delta is wanted and if it isn't.
abbrev pub LogsWhere :
    {R : Type 0} → Bool → (Catalog → Catalog → R → Type 0) → Live → Log → Log → Type 0
LogsWhere {R} true Changed old log new = LogsDelta Changed old log new
LogsWhere {R} false Changed old log new = new ≡ log

-- The log has no change, and isn't lost.
pub record IsEmpty (log : Log) : Type 0 where
  pub lines : log.lines ≡ []
  pub kept : log.lost ≡ false

-- how many atoms are over the relation at a place
abbrev pub atoms_over : Live → ℕ → ℕ
atoms_over l at = length (filter (λ a. a.relation == at) l.numbered.atoms)

-- What listing a delta counts at most: as much as an answer for each that was added or removed, and for
-- each atom over the relation.
abbrev pub delta_bound : Live → ℕ → List Change → ℕ
delta_bound l at changes = (length changes + atoms_over l at) * most_steps (length l.query.head)

-- the listing count, if the delta is wanted and if it isn't
abbrev pub CountsDelta :
    {R : Type 0} → Bool → (Catalog → Catalog → R → Type 0) → Live → ℕ → ℕ → ℕ → Type 0
CountsDelta {R} true Changed old at before now =
    (c d : Catalog) (what : R) (changes : List Change) → IsKept c old → Changed c d what
    → IsDeltaOf old c d changes → now ≤ before + delta_bound old at changes
CountsDelta {R} false Changed old at before now = now ≡ before

-- What an update counts at most for an atom, if no leaf has more than n tuples before it. No path
-- to the root has more nodes than there are atoms and variables: there is one meet fewer than atoms,
-- and each trim drops a variable that no other one drops.
abbrev pub update_bound : Live → ℕ → ℕ
update_bound l n =
    16 * ((length l.numbered.atoms + length l.numbered.variables) * (n + 1))

-- the update count: so many times the bound at most for each atom over the relation
abbrev pub CountsUpdate : ℕ → Live → ℕ → ℕ → ℕ → Type 0
CountsUpdate times l at before now = (n : ℕ) → HasAtMost l.reducts n
    → now ≤ before + times * (atoms_over l at * update_bound l n)

-- If so many rows are inserted at once, it is so many times the bound for the tuples that there may be then.
abbrev pub CountsBatchAt : ℕ → ℕ → Live → ℕ → ℕ → ℕ → Type 0
CountsBatchAt more times l at before now = (n : ℕ) → HasAtMost l.reducts n
    → now ≤ before + times * (atoms_over l at * update_bound l (n + more))

-- What an update of a flat query counts at most for an atom, whatever the number of tuples.
abbrev pub flat_bound : Live → ℕ
flat_bound l = 16 * (length l.numbered.atoms + length l.numbered.variables)

-- If the query is flat, the update count is so many times this at most for each atom over the
-- relation.
abbrev pub CountsFlat : ℕ → Live → ℕ → ℕ → ℕ → Type 0
CountsFlat times l at before now = IsFlat (edges_of l.query) (head_of l.query)
    → now ≤ before + times * (atoms_over l at * flat_bound l)

-- If so many rows are inserted or deleted at once, the update count of a flat query is this at most for each row and atom.
abbrev pub CountsFlatRows : ℕ → Live → ℕ → ℕ → ℕ → Type 0
CountsFlatRows rows l at before now = IsFlat (edges_of l.query) (head_of l.query)
    → now ≤ before + atoms_over l at * (rows * flat_bound l)

-- The meets of the tree of a flat live query have equal labels.
abbrev pub FlatMeetsAreEqual : Type 0
FlatMeetsAreEqual = (c : Catalog) (l : Live) → IsKept c l
    → IsFlat (edges_of l.query) (head_of l.query) → HasEqualMeets (l.reducts).tree

-- no relation that the query reads has more than n rows
pub record HasFewRows (c : Catalog) (l : Live) (n : ℕ) : Type 0 where
  pub each : (a : Atom) → Contains (l.query).atoms a
      → length (rows_of c.relations a.relation) ≤ n

-- Then no leaf has more than n tuples.
abbrev pub LeavesAreSmall : Type 0
LeavesAreSmall = (c : Catalog) (l : Live) (n : ℕ) → IsKept c l → HasFewRows c l n
    → HasAtMost l.reducts n
