-- The state of the join machine.
use Rattle.std.specs.Prelude.{ℕ, List, [], ◌==◌, Bool, false, Option, None, Some, find, map}
use Rattle.djq_model.specs.Data.{Bytes, bytes_eq, change_first}
use Rattle.djq_protocol.specs.declared.answer.EndCause.{EndCause}
use Rattle.djq_store_spec.specs.Held.{HeldTransaction}
use Rattle.djq_store_spec.specs.Store.{Store, Position, empty_store}

-- A cursor of a session, over the answers of a query.
pub record Cursor : Type 0 where
  pub name : Bytes
  pub query : Bytes
  pub position : Position

-- The state of a session.
pub record Session : Type 0 where
  pub id : ℕ
  -- bytes that arrived and aren't run
  pub held : Bytes
  -- bytes that were queued and aren't sent
  pub pending : Bytes
  -- why it accepts no further commands
  pub cause : Option EndCause
  pub cursors : List Cursor
  -- the names of the queries that it watches
  pub watches : List Bytes
  -- the lines that its batch holds, if one is open
  pub batch : Option HeldTransaction

-- The state of the join machine: the store, and the state of each open session.
pub record State : Type 0 where
  pub store : Store
  -- whether a session sent `stop`
  pub stopped : Bool
  -- the open sessions, by rising id
  pub sessions : List Session

-- The state in which nothing has happened.
abbrev pub opening : State
opening = record {
  store = empty_store;
  stopped = false;
  sessions = [];
}

-- a session as it opens
abbrev pub fresh : ℕ → Session
fresh s = record { id = s; held = []; pending = []; cause = None; cursors = []; watches = []; batch = None }

-- the ids of the open sessions
abbrev pub state_ids : State → List ℕ
state_ids st = map (λ (x : Session). x.id) st.sessions

-- the open session of an id
abbrev pub session_of : State → ℕ → Option Session
session_of st s = find (λ x. x.id == s) st.sessions

-- the state with one session changed
abbrev pub with_session : State → ℕ → (Session → Session) → State
with_session st s f = record st { sessions = change_first (λ x. x.id == s) f st.sessions }

-- the cursor of a name
abbrev pub cursor_of : List Cursor → Bytes → Option Cursor
cursor_of cursors name = find (λ c. bytes_eq c.name name) cursors

-- the cursors with one at another position
abbrev pub with_position : List Cursor → Bytes → Position → List Cursor
with_position cursors name position = change_first (λ c. bytes_eq c.name name) (λ c. record c { position = position })
    cursors

-- A session that has ended stores why, and loses its cursors, its watches and its batch.
abbrev pub ended_by : EndCause → Session → Session
ended_by cause x = record x { cause = Some cause; cursors = []; watches = []; batch = None }
