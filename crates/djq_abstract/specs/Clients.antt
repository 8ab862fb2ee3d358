-- The state of the core, what clients send, and what they are sent.
use Rattle.std.specs.Prelude.{ℕ, List, [], ◌∷◌, ◌≡◌, ◌==◌, ◌⊎◌, Bool, true, false, if◌then◌else◌}
use Rattle.std.specs.Prelude.{Option, None, Some, IsSomeAnd, All}
use Rattle.djq_hypergraph.specs.JoinTree.{IsFreeConnex}
use Rattle.djq_model.specs.Data.{Bytes, Tuple, bytes_eq}
use Rattle.djq_model.specs.Listed.{Listed, listed_name, queries_of, listed_of}
use Rattle.djq_protocol.specs.Hypergraph.{edges_of, head_of}
use Rattle.djq_abstract.specs.Rows.{Database, RowEdit}
use Rattle.djq_abstract.specs.Deltas.{AnswerDelta}

-- A cursor over a query: the answers that it has returned, and whether its last page was the last; or it is stale,
-- since a change overtook it.
pub data CursorState : Type 0 where
  valid : (query : Bytes) (returned : List Tuple) (finished : Bool) → CursorState
  stale : (query : Bytes) → CursorState

-- The query over which it is.
abbrev pub query_of_cursor : CursorState → Bytes
query_of_cursor (valid q returned finished) = q
query_of_cursor (stale q) = q

-- A client: whether it is connected, its cursors, the queries to which it subscribes, and the edits that its batch
-- holds, if one is open.
pub record Client : Type 0 where
  pub connected : Bool
  pub cursor : Bytes → Option CursorState
  pub subscribed : Bytes → Bool
  pub batch : Option (List RowEdit)

-- The state: rows, what is registered, in order, how many changes of rows there were, and the clients.
pub record Core : Type 0 where
  pub db : Database
  pub queries : List Listed
  pub seq : ℕ
  pub client : ℕ → Client

-- A client that isn't connected.
abbrev pub nobody : Client
nobody = record { connected = false; cursor = λ c. None; subscribed = λ q. false; batch = None }

-- The state with another client under a number.
abbrev pub with_client : ℕ → Client → Core → Core
with_client s x st = record st { client = λ t. if t == s then x else st.client t }

-- A client with another cursor under a name, or with none.
abbrev pub client_with_cursor : Bytes → Option CursorState → Client → Client
client_with_cursor c cursor x = record x { cursor = λ n. if bytes_eq n c then cursor else x.cursor n }

-- A client that subscribes to a query, or doesn't.
abbrev pub with_subscription : Bytes → Bool → Client → Client
with_subscription q on x = record x { subscribed = λ n. if bytes_eq n q then on else x.subscribed n }

-- A client uses a query if it has a cursor over it, or subscribes to it.
abbrev pub UsesQuery : Bytes → Client → Type 0
UsesQuery q x = ((c : Bytes) × IsSomeAnd (x.cursor c) (λ k. query_of_cursor k ≡ q)) ⊎ (x.subscribed q ≡ true)

-- A cursor after a change: stale if its query is among the affected.
abbrev pub overtaken : (Bytes → Bool) → Option CursorState → Option CursorState
overtaken affected None = None
overtaken affected (Some (valid q returned finished)) =
    Some (if affected q then stale q else valid q returned finished)
overtaken affected (Some (stale q)) = Some (stale q)

-- A client after a change.
abbrev pub client_overtaken : (Bytes → Bool) → Client → Client
client_overtaken affected x = record x { cursor = λ c. overtaken affected (x.cursor c) }

-- What is registered is admitted if it is free-connex; a union, if each member is.
abbrev pub IsAdmitted : Listed → Type 0
IsAdmitted q = All (λ m. IsFreeConnex (edges_of m) (head_of m)) (queries_of q)

-- No query has the name of another.
abbrev pub HaveOwnNames : List Listed → Type 0
HaveOwnNames [] = Unit {0}
HaveOwnNames (q ∷ qs) = (listed_of qs (listed_name q) ≡ None) × HaveOwnNames qs

-- What a client sends: the protocol's commands. `subscribe` is its `watch`; `ask` is any line that neither edits
-- rows nor concerns the other commands: `rel`, `shape`, `explain`, or a line outside the grammar.
pub data CoreCommand : Type 0 where
  edit : RowEdit → CoreCommand
  batch : CoreCommand
  done : CoreCommand
  abandon : CoreCommand
  register : Listed → CoreCommand
  drop : (query : Bytes) → CoreCommand
  open_cursor : (cursor query : Bytes) → CoreCommand
  next : (cursor : Bytes) (count : ℕ) → CoreCommand
  close : (cursor : Bytes) → CoreCommand
  has : (query : Bytes) → Tuple → CoreCommand
  subscribe : (query : Bytes) → CoreCommand
  unsubscribe : (query : Bytes) → CoreCommand
  ask : CoreCommand

-- What a client is sent: the replies, a page of a cursor and whether it is the last, and the delta of a query by the
-- change of a number.
pub data CoreMessage : Type 0 where
  ok : CoreMessage
  refused : CoreMessage
  not_free_connex : CoreMessage
  replied : CoreMessage
  is_answer : Bool → CoreMessage
  page : List Tuple → (last : Bool) → CoreMessage
  delta : (query : Bytes) → AnswerDelta → (seq : ℕ) → CoreMessage

-- What happens: a client connects, disconnects, or sends a command.
pub data CoreEvent : Type 0 where
  connects : (s : ℕ) → CoreEvent
  disconnects : (s : ℕ) → CoreEvent
  says : (s : ℕ) → CoreCommand → CoreEvent

-- What each client is sent.
abbrev pub Sent : Type 0
Sent = ℕ → List CoreMessage

-- One client is sent these, and no other anything.
abbrev pub only_sent : ℕ → List CoreMessage → Sent
only_sent s ms = λ t. if t == s then ms else []
