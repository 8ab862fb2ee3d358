-- One registered query, as it is maintained over a catalog.
use Rattle.std.specs.Prelude.{ℕ, List, ◌++◌, length, ◌≡◌, Bool, Option, Some, map}
use Rattle.djq_model.specs.declared.query.Query.{Query}
use Rattle.djq_model.specs.Data.{Bytes, Tuple}
use Rattle.djq_protocol.specs.Hypergraph.{edges_of, head_of}
use Rattle.djq_store_spec.specs.Store.{Position, open_at, stale}
use Rattle.djq_tree.specs.Growing.{IsTreeOf}
use Rattle.djq_reduct.specs.Reducts.{Reducts}
use Rattle.djq_reduct.specs.Marks.{IsBare}
use Rattle.djq_reduct.specs.Answers.{IsAnswerOf}
use Rattle.djq_enumeration.specs.declared.cursor.Cursor.{Cursor}
use Rattle.djq_enumeration.specs.Given.{given, Fits}
use Rattle.djq_query.specs.Numbered.{Numbered}
use Rattle.djq_query.specs.Pattern.{Shape}
use Rattle.djq_database.specs.Catalog.{Catalog}
use Rattle.djq_leaves.specs.Leaves.{IsOver}
use Rattle.djq_live_query.specs.Shown.{shown, AreShownAs}
use Rattle.djq_cursors.specs.declared.progress.Progress.TheVariants.{Open, Stale}
use Rattle.djq_live_query.specs.Cursors.{Progress, slot_at}

-- A query, the same by number, the patterns of its atoms, its reducts, and its cursors in slots.
pub record Live : Type 0 where
  pub query : Query
  pub numbered : Numbered
  pub patterns : List Shape
  pub reducts : Reducts
  pub cursors : List (Option Progress)

-- It is maintained over a catalog: the reducts are those of the query over the catalog's rows, their
-- tree is the one that the choice rule names, and no update is unfinished.
pub record IsKept (c : Catalog) (l : Live) : Type 0 where
  pub over : IsOver c l.query l.numbered l.patterns l.reducts
  pub named : IsTreeOf (edges_of l.query) (head_of l.query) l.reducts.tree
  pub bare : IsBare l.reducts.tables

-- It is maintained over some catalog.
abbrev pub IsKeptSomewhere : Live → Type 0
IsKeptSomewhere l = (c : Catalog) × IsKept c l

-- the open cursor in a slot fits the reducts
abbrev pub FitsAt : Live → ℕ → Type 0
FitsAt l k = (cursor : Cursor) (ended : Bool)
    → slot_at l.cursors k ≡ Some (Open cursor ended) → Fits l.reducts cursor

-- Its open cursors fit too, and can continue.
pub record IsLive (c : Catalog) (l : Live) : Type 0 where
  pub kept : IsKept c l
  pub fits : (k : ℕ) → FitsAt l k

-- the values that a tuple of the tree shows, in the head's order
abbrev pub values_of : List Bytes → Live → List ℕ → Tuple
values_of texts l u = shown texts l.numbered l.reducts.tree.head u

-- A tuple of cells has a cell for each variable of the head, and they represent the values it shows.
-- So it is of each answer, and of one that was removed.
pub record IsShowable (texts : List Bytes) (l : Live) (u : List ℕ) : Type 0 where
  pub wide : length u ≡ length (l.reducts).tree.head
  pub stands : AreShownAs texts (l.numbered).variables (l.reducts).tree.head u (l.numbered).head
      (values_of texts l u)

-- An answer of a live query is showable.
abbrev pub AnswersAreShowable : Type 0
AnswersAreShowable = (c : Catalog) (l : Live) → IsKept c l → (u : List ℕ) → IsAnswerOf l.reducts u
    → IsShowable c.texts l u

-- What is showable stays so as rows change and texts become known, and shows the same values.
abbrev pub ShowableStays : Type 0
ShowableStays = (texts more : List Bytes) (l m : Live) (u : List ℕ) → m.numbered ≡ l.numbered
    → (m.reducts).tree ≡ (l.reducts).tree → IsShowable texts l u
    → IsShowable (texts ++ more) m u × (values_of (texts ++ more) m u ≡ values_of texts l u)

-- the answers that a cursor has given
abbrev pub given_by : List Bytes → Live → Cursor → List Tuple
given_by texts l cursor = map (values_of texts l) (given l.reducts cursor)

-- the position of a cursor
abbrev pub position_of : List Bytes → Live → Progress → Position
position_of texts l (Open cursor ended) = open_at (given_by texts l cursor) ended
position_of texts l (Stale r n) = stale r n

-- The query, its numbers, its patterns, its tree and its cursors are as before; tables may differ.
pub record SameQuery (old new : Live) : Type 0 where
  pub query : new.query ≡ old.query
  pub numbered : new.numbered ≡ old.numbered
  pub patterns : new.patterns ≡ old.patterns
  pub tree : (new.reducts).tree ≡ (old.reducts).tree
  pub cursors : new.cursors ≡ old.cursors
