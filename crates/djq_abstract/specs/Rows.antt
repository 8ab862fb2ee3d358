-- Rows with copies, the answers over them, and how rows are inserted and deleted.
use Rattle.std.specs.Prelude.{ℕ, suc, List, [], ◌∷◌, ◌≡◌, ◌≢◌, ◌-◌, ◌&&◌, Bool, true, nat_lt, if◌then◌else◌}
use Rattle.std.specs.Prelude.{Option, None, Some, All, Any, Contains, map}
use Rattle.std.specs.Option.{option_and_then}
use Rattle.djq_model.specs.declared.query.Query.{Query}
use Rattle.djq_model.specs.declared.query.Atom.{Atom}
use Rattle.djq_model.specs.Data.{Bytes, Tuple, bytes_eq, tuple_eq}
use Rattle.djq_model.specs.Answer.{Assignment, StandForAll, HoldsOf}
use Rattle.djq_model.specs.Listed.{Listed, a_query, a_union, queries_of}

-- The database: how many copies each relation has of each row.
abbrev pub Database : Type 0
Database = Bytes → Tuple → ℕ

-- A row is present if its relation has a copy of it.
abbrev pub is_present : Database → Bytes → Tuple → Bool
is_present db relation row = nat_lt 0 (db relation row)

-- An assignment matches an atom if the values of the atom's terms are a row that is present in its relation.
pub record Matches (db : Database) (a : Assignment) (atom : Atom) : Type 0 where
  pub row : Tuple
  pub present : is_present db atom.relation row ≡ true
  pub stands : StandForAll a atom.terms row

-- An answer of a query: the head's values under an assignment that matches each atom and meets each comparison.
pub record IsAnswerOver (db : Database) (q : Query) (answer : Tuple) : Type 0 where
  pub assignment : Assignment
  pub matches : All (Matches db assignment) q.atoms
  pub compared : All (HoldsOf assignment) q.comparisons
  pub on_head : answer ≡ map assignment q.head

-- The answers of what is registered: of a union, those of its members.
abbrev pub AnswersOver : Database → Listed → Tuple → Type 0
AnswersOver db (a_query q) t = IsAnswerOver db q t
AnswersOver db (a_union name qs) t = Any (λ q. IsAnswerOver db q t) qs

-- What is registered reads a relation if a member has an atom over it.
pub record ReadsRelation (q : Listed) (relation : Bytes) : Type 0 where
  pub query : Query
  pub is_member : Contains (queries_of q) query
  pub atom : Atom
  pub is_atom : Contains query.atoms atom
  pub is_over : atom.relation ≡ relation

-- A row is inserted or deleted: one copy of it.
pub record RowEdit : Type 0 where
  pub inserts : Bool
  pub relation : Bytes
  pub row : Tuple

-- The database with another number of copies of one row.
abbrev pub copies_set : Database → Bytes → Tuple → ℕ → Database
copies_set db relation row n = λ r t. if bytes_eq relation r && tuple_eq row t then n else db r t

-- What an edit makes of a database: none if it deletes a row that isn't present.
abbrev pub edited : RowEdit → Database → Option Database
edited e db =
    if e.inserts then Some (copies_set db e.relation e.row (suc (db e.relation e.row)))
    else if is_present db e.relation e.row then Some (copies_set db e.relation e.row (db e.relation e.row - 1))
    else None

-- What edits make of it, one after the other.
abbrev pub all_edited : List RowEdit → Database → Option Database
all_edited [] db = Some db
all_edited (e ∷ es) db = option_and_then (all_edited es) (edited e db)

-- A row is inserted or deleted between two databases.
abbrev pub IsRowChanged : (before after : Database) (relation : Bytes) (row : Tuple) → Type 0
IsRowChanged before after relation row = is_present before relation row ≢ is_present after relation row

-- Some row does.
abbrev pub AreRowsChanged : (before after : Database) → Type 0
AreRowsChanged before after = (relation : Bytes) × (row : Tuple) × IsRowChanged before after relation row

-- Some row does that a query reads.
abbrev pub IsAffected : (before after : Database) → Listed → Type 0
IsAffected before after q =
    (relation : Bytes) × (row : Tuple) × ReadsRelation q relation × IsRowChanged before after relation row
