-- What adding a tuple to the rows of a relation does, and deleting one.
use Rattle.std.specs.Prelude.{
  ◌≡◌,
  ℕ,
  ◌+◌,
  ◌≤◌,
  ◌<◌,
  Bool,
  true,
  false,
  List,
  [],
  ◌∷◌,
  ◌++◌,
  length,
  Result,
  Ok,
  Err,
}
use Rattle.djq_protocol.specs.declared.limits.TheConstants.{ROWS, COPIES}
use Rattle.djq_protocol.specs.declared.answer.AddOutcome.{AddOutcome}
use Rattle.djq_protocol.specs.declared.answer.AddOutcome.TheVariants.{First, More}
use Rattle.djq_protocol.specs.declared.answer.DeleteOutcome.{DeleteOutcome}
use Rattle.djq_protocol.specs.declared.answer.DeleteOutcome.TheVariants.{Last, Left, Absent}
use Rattle.djq_index.specs.Entries.{Entry, count_of, supports_of}
use Rattle.djq_index.specs.Table.{TuplesDiffer}
use Rattle.djq_index.specs.Changes.{Supported}
use Rattle.djq_database.specs.Rows.{Rows}
use Rattle.djq_database.specs.declared.refusal.RowsRefusal.{RowsRefusal}
use Rattle.djq_database.specs.declared.refusal.RowsRefusal.TheVariants.{NameTaken, Full, NoMem}

-- an entry with this tuple and one support was appended to the others
pub record Appended (old new : List Entry) (u : List ℕ) : Type 0 where
  pub entry : Entry
  pub tuple : entry.tuple ≡ u
  pub single : entry.supports ≡ 1
  pub is : new ≡ old ++ entry ∷ []

-- the entry with this tuple was removed
pub record Dropped (old new : List Entry) (u : List ℕ) : Type 0 where
  pub front : List Entry
  pub back : List Entry
  pub entry : Entry
  pub tuple : entry.tuple ≡ u
  pub was : old ≡ front ++ entry ∷ back
  pub is : new ≡ front ++ back

-- the rows have the same width, and none occurs twice
pub record StayApart (old new : Rows) : Type 0 where
  pub width : new.width ≡ old.width
  pub apart : TuplesDiffer new.entries

-- whether a tuple is there
abbrev pub HasTuple : List Entry → List ℕ → Bool → Type 0
HasTuple es u true = 0 < count_of es u
HasTuple es u false = count_of es u ≡ 0

-- there is no place for one more: the tuple has as many supports as a row may have copies, or it
-- isn't there and there are as many as there may be rows
pub record LacksPlace (es : List Entry) (u : List ℕ) : Type 0 where
  pub copies : 0 < count_of es u → COPIES ≤ supports_of es u
  pub rows : count_of es u ≡ 0 → ROWS ≤ length es

-- what adding a tuple does to the rows, by what it answers
abbrev pub AddsTupleAs : Rows → List ℕ → Result AddOutcome RowsRefusal → Rows → Type 0
AddsTupleAs old u (Ok First) new = (count_of old.entries u ≡ 0) × (length old.entries < ROWS) × Appended
    old.entries new.entries u
AddsTupleAs old u (Ok (More n)) new =
    (0 < count_of old.entries u) × (n ≡ supports_of old.entries u + 1) × (n ≤ COPIES)
    × Supported old.entries new.entries u (supports_of old.entries u) n
AddsTupleAs old u (Err NameTaken) new = ⊥
AddsTupleAs old u (Err Full) new = LacksPlace old.entries u × (new.entries ≡ old.entries)
AddsTupleAs old u (Err NoMem) new =
    (count_of old.entries u ≡ 0) × (length old.entries < ROWS) × (new.entries ≡ old.entries)

-- a tuple is added so, the rows have the same width, and none occurs twice
pub record AddsTuple (old : Rows) (u : List ℕ) (result : Result AddOutcome RowsRefusal) (new :
    Rows) : Type 0 where
  pub stay : StayApart old new
  pub adds : AddsTupleAs old u result new

-- what deleting a tuple does to the rows, by what it answers
abbrev pub DeletesTupleAs : Rows → List ℕ → DeleteOutcome → Rows → Type 0
DeletesTupleAs old u Last new = (supports_of old.entries u ≡ 1) × Dropped old.entries new.entries u
DeletesTupleAs old u (Left n) new =
    (0 < count_of old.entries u) × (supports_of old.entries u ≡ n + 1) × (1 ≤ n)
    × Supported old.entries new.entries u (supports_of old.entries u) n
DeletesTupleAs old u Absent new = (count_of old.entries u ≡ 0) × (new.entries ≡ old.entries)

-- a tuple is deleted so, the rows have the same width, and none occurs twice
pub record DeletesTuple (old : Rows) (u : List ℕ) (result : DeleteOutcome) (new : Rows) : Type 0
  where
    pub stay : StayApart old new
    pub deletes : DeletesTupleAs old u result new
