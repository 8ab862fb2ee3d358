-- What holds of every state that the machine reaches.
use Rattle.std.specs.Prelude.{
  ℕ,
  List,
  [],
  ◌∷◌,
  ◌≡◌,
  ◌≢◌,
  ◌≤◌,
  true,
  false,
  None,
  Some,
  IsSome,
  IfSome,
  length,
  map,
  All,
  AllPairs,
}
use Rattle.std.specs.List.{sum_by}
use Rattle.djq_model.specs.declared.relation.Relation.{Relation}
use Rattle.djq_model.specs.declared.query.Query.{Query}
use Rattle.djq_model.specs.Data.{Bytes, Tuple, tuples_in}
use Rattle.djq_model.specs.Answer.{AreDifferent}
use Rattle.djq_model.specs.Listed.{Listed, a_query, a_union, listed_name, listed_of, queries_of}
use Rattle.djq_model.specs.Typed.{fits}
use Rattle.djq_protocol.specs.declared.limits.TheConstants.{SESSIONS, CURSORS, HELD, HELD_BYTES, RELATIONS, COLUMNS}
use Rattle.djq_protocol.specs.declared.limits.TheConstants.{ROWS, COPIES, TEXTS, LAST_SEQ, QUERIES, MEMBERS, ATOMS}
use Rattle.djq_protocol.specs.declared.limits.TheConstants.{VARIABLES, HEAD_VARIABLES, COMPARISONS}
use Rattle.djq_protocol.specs.declared.held.Verb.{Verb}
use Rattle.djq_protocol.specs.declared.held.Verb.TheVariants.{Add as Adds, Delete as Deletes}
use Rattle.djq_protocol.specs.declared.command.Command.{Command}
use Rattle.djq_protocol.specs.declared.command.Command.TheVariants.{Add, Del}
use Rattle.djq_protocol.specs.Grammar.{says_command, reading_of}
use Rattle.djq_protocol.specs.Hypergraph.{edges_of, head_of}
use Rattle.djq_protocol.specs.QueryFault.{reads_unknown}
use Rattle.djq_protocol.specs.Variables.{variables_of}
use Rattle.djq_store_spec.specs.Held.{HeldLine, HeldTransaction}
use Rattle.djq_store_spec.specs.Transaction.{SuitAll}
use Rattle.djq_hypergraph.specs.JoinTree.{IsFreeConnex}
use Rattle.djq_store_spec.specs.Asking.{answer_types, listed_types}
use Rattle.djq_store_spec.specs.Store.{Store, Position, open_at, stale}
use Rattle.djq_machine.specs.State.{State, Session, Cursor, opening}
use Rattle.djq_machine.specs.Run.{Did, Run}
use Rattle.djq_run_laws.specs.Rising.{AreRising}

-- No two of these names, or texts, are equal.
abbrev pub AreApart : List Bytes → Type 0
AreApart names = AllPairs (λ a b. a ≢ b) names

-- a number of copies that a row may have: one at least
abbrev pub IsCopyCount : ℕ → Type 0
IsCopyCount n = (1 ≤ n) × (n ≤ COPIES)

-- A relation has a column at least, and no more columns and rows than may be. Its rows are of its
-- columns' types, and none occurs twice; each has copies.
pub record IsSoundRelation (r : Relation) : Type 0 where
  pub some : 1 ≤ length r.types
  pub columns : length r.types ≤ COLUMNS
  pub few : length (tuples_in r) ≤ ROWS
  pub typed : All (λ row. fits r.types row ≡ true) (tuples_in r)
  pub once : AreDifferent (tuples_in r)
  pub copies : All (λ c. IsCopyCount c.copies) r.rows

-- What is registered is free-connex: a query is, and so is each member of a union.
abbrev pub IsConnex : Listed → Type 0
IsConnex (a_query q) = IsFreeConnex (edges_of q) (head_of q)
IsConnex (a_union name qs) = All (λ q. IsFreeConnex (edges_of q) (head_of q)) qs

-- A query has no more atoms, variables, holes among them, head variables and comparisons than it may.
pub record IsWithinLimits (q : Query) : Type 0 where
  pub atoms : length q.atoms ≤ ATOMS
  pub variables : length (variables_of q.atoms) ≤ VARIABLES
  pub head : length q.head ≤ HEAD_VARIABLES
  pub comparisons : length q.comparisons ≤ COMPARISONS

-- So has each query of what is registered.
abbrev pub AreWithinLimits : Listed → Type 0
AreWithinLimits l = All IsWithinLimits (queries_of l)

-- A union has two members at least and no more than may be. Each is registered, none twice, and the
-- answers of each are of the union's types.
pub record IsSoundUnion (relations : List Relation) (queries : List Listed) (name : Bytes)
    (members : List Query) : Type 0 where
  pub two : 2 ≤ length members
  pub few : length members ≤ MEMBERS
  pub registered : All (λ q. listed_of queries q.name ≡ Some (a_query q)) members
  pub apart : AreApart (map (λ q. q.name) members)
  pub types : All
      (λ q. answer_types relations q ≡ listed_types relations (Some (a_union name members))) members

-- Beside these relations and what else is registered, a query reads relations that are there, and a
-- union is sound.
abbrev pub IsSoundListed : List Relation → List Listed → Listed → Type 0
IsSoundListed relations queries (a_query q) = reads_unknown relations q ≡ false
IsSoundListed relations queries (a_union name qs) = IsSoundUnion relations queries name qs

-- There are no more relations, known texts and registered queries and unions than may be, and no more
-- changes are counted.
pub record StoreKeepsLimits (st : Store) : Type 0 where
  pub relations : length st.relations ≤ RELATIONS
  pub texts : length st.texts ≤ TEXTS
  pub queries : length st.queries ≤ QUERIES
  pub seq : st.seq ≤ LAST_SEQ

-- Relations have names of their own, and what is registered, each of which is free-connex, sound and
-- within limits; each known text is known once; and there are no more of them than may be.
pub record IsSoundStore (st : Store) : Type 0 where
  pub relations : AreApart (map (λ r. r.name) st.relations)
  pub rows : All IsSoundRelation st.relations
  pub texts : AreApart st.texts
  pub queries : AreApart (map listed_name st.queries)
  pub connex : All IsConnex st.queries
  pub listed : All (IsSoundListed st.relations st.queries) st.queries
  pub limits : All AreWithinLimits st.queries
  pub numbers : StoreKeepsLimits st

-- An open cursor has given no answer twice.
abbrev pub GaveOnce : Position → Type 0
GaveOnce (open_at given finished) = AreDifferent given
GaveOnce (stale r n) = Unit {0}

-- A cursor, stale or not, is over a registered query.
pub record IsSoundCursor (queries : List Listed) (c : Cursor) : Type 0 where
  pub registered : IsSome (listed_of queries c.query)
  pub once : GaveOnce c.position

-- the command that adds or deletes a copy of a row
abbrev pub verb_command : Verb → Bytes → Tuple → Command
verb_command Adds name row = Add name row
verb_command Deletes name row = Del name row

-- What is held of a line is what its bytes parse to.
pub record IsHeldBySaying (l : Bytes) (h : HeldLine) : Type 0 where
  pub said : reading_of l ≡ says_command (verb_command h.verb h.relation h.row)

-- So it is of each line of a batch.
abbrev pub AreHeldBySaying : List Bytes → List HeldLine → Type 0
AreHeldBySaying [] [] = Unit {0}
AreHeldBySaying (l ∷ ls) (h ∷ hs) = IsHeldBySaying l h × AreHeldBySaying ls hs
AreHeldBySaying (l ∷ ls) [] = ⊥
AreHeldBySaying [] (h ∷ hs) = ⊥

-- A batch holds no more lines than it may, and no more bytes of them. The row of each suits its relation, and the
-- line's bytes parse to it.
pub record IsSoundBatch (st : Store) (held : HeldTransaction) : Type 0 where
  pub few : length held.lines ≤ HELD
  pub short : sum_by (λ l. length l) held.logged ≤ HELD_BYTES
  pub suit : SuitAll st held.lines
  pub lines : AreHeldBySaying held.logged held.lines

-- A session's cursors have names of their own, and are no more than may be. What it watches are
-- registered queries, each once, and its batch is sound. A session that has ended has no cursors, no
-- watches and no batch.
pub record IsSoundSession (st : Store) (x : Session) : Type 0 where
  pub cursors : All (IsSoundCursor st.queries) x.cursors
  pub names : AreApart (map (λ c. c.name) x.cursors)
  pub few : length x.cursors ≤ CURSORS
  pub registered : All (λ w. IsSome (listed_of st.queries w)) x.watches
  pub once : AreApart x.watches
  pub batch : IfSome x.batch (IsSoundBatch st)
  pub ended : IsSome x.cause → (x.cursors ≡ []) × (x.watches ≡ []) × (x.batch ≡ None)

-- The store and each session are sound, and no more sessions are open than may be, by rising id.
pub record IsSoundState (st : State) : Type 0 where
  pub store : IsSoundStore st.store
  pub sessions : All (IsSoundSession st.store) st.sessions
  pub rising : AreRising st
  pub few : length st.sessions ≤ SESSIONS

-- Every run from a sound state reaches a sound one.
abbrev pub RunsKeepSound : Type 0
RunsKeepSound = (old : State) (done : List Did) (new : State) → Run old done new → IsSoundState old
    → IsSoundState new

-- A state to start from: its data is sound, no session is open, so that nothing is queued, and none has sent
-- `stop`.
pub record IsStart (st : State) : Type 0 where
  pub store : IsSoundStore st.store
  pub none : st.sessions ≡ []
  pub going : st.stopped ≡ false

-- The state in which nothing has happened is one.
abbrev pub OpeningIsStart : Type 0
OpeningIsStart = IsStart opening

-- Each state that a run reaches from a state to start from is sound.
abbrev pub StatesAreSound : Type 0
StatesAreSound = (start : State) → IsStart start → (done : List Did) (new : State)
    → Run start done new → IsSoundState new
