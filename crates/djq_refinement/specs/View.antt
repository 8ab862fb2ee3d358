-- What the core sees of a state of the machine, and of a line that a session sends.
use Rattle.std.specs.Prelude.{List, [], ◌∷◌, Bool, true, false, Option, None, Some, flat_map, map}
use Rattle.std.specs.Option.{option_map}
use Rattle.djq_model.specs.declared.relation.Relation.{Relation}
use Rattle.djq_model.specs.declared.query.Query.{Query}
use Rattle.djq_model.specs.Data.{Bytes, counted_of, copies_among}
use Rattle.djq_model.specs.Listed.{Listed, a_query, a_union, listed_of}
use Rattle.djq_protocol.specs.declared.answer.EndCause.{EndCause}
use Rattle.djq_protocol.specs.declared.held.Verb.{Verb}
use Rattle.djq_protocol.specs.declared.held.Verb.TheVariants.{Add as Adds, Delete as Deletes}
use Rattle.djq_protocol.specs.declared.command.Command.{Command}
use Rattle.djq_protocol.specs.declared.command.Command.TheVariants.{
  Rel,
  Add,
  Del,
  Query as Register,
  Union,
  Drop,
  Open,
  Next,
  Close,
  Has,
  Watch,
  Unwatch,
  Explain,
  Shape as AskShape,
  Batch,
  Done,
  Abandon,
  Quit,
  Stop,
}
use Rattle.djq_protocol.specs.Grammar.{Reading, outside, past_limit, says_command}
use Rattle.djq_store_spec.specs.Store.{Position, open_at, stale as stale_since}
use Rattle.djq_store_spec.specs.Held.{HeldLine, HeldTransaction}
use Rattle.djq_machine.specs.State.{Cursor, Session, State, session_of, cursor_of}
use Rattle.djq_machine.specs.Watch.{is_watching}
use Rattle.djq_abstract.specs.Rows.{Database, RowEdit}
use Rattle.djq_abstract.specs.Clients.{
  CursorState,
  valid,
  stale,
  Client,
  Core,
  nobody,
  CoreCommand,
  edit,
  batch,
  done,
  abandon,
  register,
  drop,
  open_cursor,
  next,
  close,
  has,
  subscribe,
  unsubscribe,
  ask,
}

-- The copies that each relation has of each row.
abbrev pub database_of : List Relation → Database
database_of relations = λ name row. copies_among (counted_of relations name) row

-- A cursor over a query, at a position.
abbrev pub cursor_state : Bytes → Position → CursorState
cursor_state q (open_at given finished) = valid q given finished
cursor_state q (stale_since relation n) = stale q

abbrev pub cursor_seen : Cursor → CursorState
cursor_seen k = cursor_state k.query k.position

-- The edit that a held line is.
abbrev pub inserts_row : Verb → Bool
inserts_row Adds = true
inserts_row Deletes = false

abbrev pub line_edit : HeldLine → RowEdit
line_edit h = record { inserts = inserts_row h.verb; relation = h.relation; row = h.row }

abbrev pub line_edits : HeldTransaction → List RowEdit
line_edits held = map line_edit held.lines

-- A session that goes on is a connected client. One that has ended is nobody, whatever bytes are pending for it.
abbrev pub client_by : Option EndCause → Session → Client
client_by (Some cause) x = nobody
client_by None x = record {
  connected = true;
  cursor = λ c. option_map cursor_seen (cursor_of x.cursors c);
  subscribed = λ q. is_watching q x;
  batch = option_map line_edits x.batch;
}

abbrev pub client_in : Option Session → Client
client_in None = nobody
client_in (Some x) = client_by x.cause x

-- The core's state: what is pending and held of bytes, the order of rows, and texts aren't in it.
abbrev pub core_of : State → Core
core_of st = record {
  db = database_of st.store.relations;
  queries = st.store.queries;
  seq = st.store.seq;
  client = λ s. client_in (session_of st s);
}

-- The queries that are registered under names, where a union names them.
abbrev pub query_under : Option Listed → List Query
query_under (Some (a_query q)) = q ∷ []
query_under (Some (a_union name qs)) = []
query_under None = []

abbrev pub queries_under : List Listed → List Bytes → List Query
queries_under queries names = flat_map (λ n. query_under (listed_of queries n)) names

-- The core's command; none of `quit` and `stop`, which end the session.
abbrev pub core_command : List Listed → Command → Option CoreCommand
core_command queries (Add name row) = Some (edit (record { inserts = true; relation = name; row = row }))
core_command queries (Del name row) = Some (edit (record { inserts = false; relation = name; row = row }))
core_command queries (Register q) = Some (register (a_query q))
core_command queries (Union name members) = Some (register (a_union name (queries_under queries members)))
core_command queries (Drop q) = Some (drop q)
core_command queries (Open c q) = Some (open_cursor c q)
core_command queries (Next c count) = Some (next c count)
core_command queries (Close c) = Some (close c)
core_command queries (Has q row) = Some (has q row)
core_command queries (Watch q) = Some (subscribe q)
core_command queries (Unwatch q) = Some (unsubscribe q)
core_command queries Batch = Some batch
core_command queries (Done given) = Some done
core_command queries Abandon = Some abandon
core_command queries (Rel name types) = Some ask
core_command queries (Explain q) = Some ask
core_command queries (AskShape q) = Some ask
core_command queries Quit = None
core_command queries Stop = None

-- The core's command of a line that is read as this: a line outside the grammar asks.
abbrev pub core_reading : List Listed → Reading → Option CoreCommand
core_reading queries outside = Some ask
core_reading queries (past_limit c) = core_command queries c
core_reading queries (says_command c) = core_command queries c
