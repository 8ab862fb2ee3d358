-- What lines can express: names, and values within their limits.
use Rattle.std.specs.Prelude.{List, ◌≡◌, ◌≤◌, true, IfSome, All}
use Rattle.std.specs.Str.{is_utf8}
use Rattle.djq_model.specs.declared.value.Value.{Value}
use Rattle.djq_model.specs.declared.value.Value.TheVariants.{Int, Text}
use Rattle.djq_model.specs.declared.relation.Relation.{Relation}
use Rattle.djq_model.specs.declared.query.Term.{Term}
use Rattle.djq_model.specs.declared.query.Term.TheVariants.{Variable, Hole, Constant}
use Rattle.djq_model.specs.declared.query.Atom.{Atom}
use Rattle.djq_model.specs.declared.query.Comparison.{Comparison}
use Rattle.djq_model.specs.declared.query.Query.{Query}
use Rattle.djq_model.specs.Data.{Bytes, Tuple, tuples_in}
use Rattle.djq_model.specs.Listed.{Listed, a_query, a_union}
use Rattle.djq_value.specs.Literal.{IsName, is_small_value}
use Rattle.djq_protocol.specs.declared.limits.TheConstants.{LAST_SEQ}
use Rattle.djq_answer_laws.specs.Finite.{IsBound}
use Rattle.djq_store_spec.specs.Store.{Store, Position, open_at, stale}
use Rattle.djq_store_spec.specs.Held.{HeldLine}
use Rattle.djq_machine.specs.State.{State, Session, Cursor, opening}
use Rattle.djq_machine.specs.Run.{Did, Run}
use Rattle.djq_run_laws.specs.Sound.{IsWithinLimits, IsStart}

-- A text is of UTF-8; nothing is required of an integer.
abbrev pub HasUtf8 : Value → Type 0
HasUtf8 (Int i) = Unit {0}
HasUtf8 (Text t) = is_utf8 t ≡ true

-- a value within its limit, of UTF-8 if it is a text
abbrev pub IsSayableValue : Value → Type 0
IsSayableValue v = (is_small_value v ≡ true) × HasUtf8 v

-- such a text
abbrev pub IsSayableText : Bytes → Type 0
IsSayableText t = IsSayableValue (Text t)

-- a row, or an answer, of such values
abbrev pub IsSayableRow : Tuple → Type 0
IsSayableRow row = All IsSayableValue row

-- A relation's name is one, and its rows are of such values.
pub record IsSayableRelation (r : Relation) : Type 0 where
  pub name : IsName r.name
  pub rows : All IsSayableRow (tuples_in r)

-- A variable has a name, and a constant is such a value.
abbrev pub IsSayableTerm : Term → Type 0
IsSayableTerm (Variable x) = IsName x
IsSayableTerm Hole = Unit {0}
IsSayableTerm (Constant v) = IsSayableValue v

-- An atom is over a relation of a name.
pub record IsSayableAtom (a : Atom) : Type 0 where
  pub relation : IsName a.relation
  pub terms : All IsSayableTerm a.terms

-- A comparison is of a variable with such a value.
pub record IsSayableComparison (c : Comparison) : Type 0 where
  pub variable : IsName c.variable
  pub constant : IsSayableValue c.constant

-- All names of a query are names, and its constants are such values.
pub record IsSayableQuery (q : Query) : Type 0 where
  pub name : IsName q.name
  pub head : All IsName q.head
  pub atoms : All IsSayableAtom q.atoms
  pub comparisons : All IsSayableComparison q.comparisons

-- A query's head is bound by its body, and it is within its limits.
pub record IsAskable (q : Query) : Type 0 where
  pub bound : IsBound q
  pub limits : IsWithinLimits q

-- What is registered is such a query, and can be asked; or a union of such under a name.
abbrev pub IsSayableListed : Listed → Type 0
IsSayableListed (a_query q) = IsSayableQuery q × IsAskable q
IsSayableListed (a_union name qs) = IsName name × All (λ q. IsSayableQuery q × IsAskable q) qs

-- The relations, the known texts and the queries are such, and changes are counted as far as may be.
pub record IsSayableStore (st : Store) : Type 0 where
  pub relations : All IsSayableRelation st.relations
  pub texts : All IsSayableText st.texts
  pub queries : All IsSayableListed st.queries
  pub seq : st.seq ≤ LAST_SEQ

-- An open cursor has given answers of such values. A stale one has the name of the relation that
-- changed, and the number of a change.
abbrev pub IsSayablePosition : Position → Type 0
IsSayablePosition (open_at given finished) = All IsSayableRow given
IsSayablePosition (stale relation n) = IsName relation × (n ≤ LAST_SEQ)

-- A cursor has a name.
pub record IsSayableCursor (c : Cursor) : Type 0 where
  pub name : IsName c.name
  pub query : IsName c.query
  pub position : IsSayablePosition c.position

-- The row of a line that is held is of such values, and its relation has a name.
pub record IsSayableHeld (h : HeldLine) : Type 0 where
  pub relation : IsName h.relation
  pub row : IsSayableRow h.row

-- A session's cursors are such, it watches queries by their names, and its batch holds such lines.
pub record IsSayableSession (x : Session) : Type 0 where
  pub cursors : All IsSayableCursor x.cursors
  pub watches : All IsName x.watches
  pub batch : IfSome x.batch (λ held. All IsSayableHeld held.lines)

-- The store and each session are such.
pub record IsSayableState (st : State) : Type 0 where
  pub store : IsSayableStore st.store
  pub sessions : All IsSayableSession st.sessions

-- Every run from such a state reaches one: what is stored was read from lines.
abbrev pub RunsKeepSayable : Type 0
RunsKeepSayable = (old : State) (done : List Did) (new : State) → Run old done new
    → IsSayableState old → IsSayableState new

-- The state in which nothing has happened is one.
abbrev pub OpeningIsSayable : Type 0
OpeningIsSayable = IsSayableState opening

-- So is each state that a run reaches from a state to start from whose store is such.
abbrev pub StatesAreSayable : Type 0
StatesAreSayable = (start : State) → IsStart start → IsSayableStore start.store → (done : List Did)
    (new : State) → Run start done new → IsSayableState new
