-- What is published of a change of rows to the sessions that watch queries.
use Rattle.std.specs.Prelude.{ℕ, List, [], ◌∷◌, ◌==◌, ◌≡◌, ◌++◌, ◌<◌, ◌≤◌, ◌⊎◌, ◌&&◌, Bool, true, Option, None}
use Rattle.std.specs.Prelude.{Some, IsSomeAnd, MatchOption, if◌then◌else◌, length, filter}
use Rattle.std.specs.List.{list_any}
use Rattle.djq_model.specs.Data.{Bytes, bytes_eq}
use Rattle.djq_model.specs.Listed.{Listed, listed_name}
use Rattle.djq_protocol.specs.declared.limits.TheConstants.{PENDING_BYTES}
use Rattle.djq_protocol.specs.declared.answer.EndCause.{EndCause}
use Rattle.djq_protocol.specs.declared.answer.EndCause.TheVariants.{Slow, Memory}
use Rattle.djq_protocol.specs.Reply.{text_of, end_slow, end_memory}
use Rattle.djq_store_spec.specs.Store.{Store}
use Rattle.djq_machine.specs.State.{Session, State, session_of, with_session, ended_by, state_ids}
use Rattle.djq_machine.specs.Effect.{Effect, queue_all}
use Rattle.djq_store_spec.specs.Changes.{RowsChange, RowsOutcome, is_made, tried, is_outdated}
use Rattle.djq_machine.specs.Outdating.{changed}
use Rattle.djq_store_spec.specs.Delta.{Change, change_lines, delta_lines}
use Rattle.djq_machine.specs.Walk.{Walk}
use Rattle.djq_store_spec.specs.DeltaCost.{Delta, ListsDeltas, deltas_steps}

-- whether a session watches a query
abbrev pub is_watching : Bytes → Session → Bool
is_watching q x = list_any (λ w. bytes_eq w q) x.watches

-- the queries that a change outdates and that a session watches, in order of registration
abbrev pub affected : State → RowsChange → List Listed
affected st change =
    filter (λ q. is_outdated change q && list_any (is_watching (listed_name q)) st.sessions) st.store.queries

-- How far a change has been published: the state, and the parts that this step has queued so far.
pub record Telling : Type 0 where
  pub state : State
  pub queued : List (ℕ × Bytes)

-- further bytes for a session
abbrev pub says_more : ℕ → Bytes → Telling → Telling
says_more s text m = record { state = m.state; queued = m.queued ++ (s, text) ∷ [] }

-- further bytes for a session, which ends with them
abbrev pub ends_more : ℕ → Bytes → EndCause → Telling → Telling
ends_more s text cause m =
    record { state = with_session m.state s (ended_by cause); queued = m.queued ++ (s, text) ∷ [] }

-- a session, if it is there and watches a query
abbrev pub watching : Bytes → Option Session → Option Session
watching q None = None
watching q (Some x) = if is_watching q x then Some x else None

-- the session of an id, if it watches a query: what this step has queued so far is pending for it
abbrev pub watcher_of : Telling → Bytes → ℕ → Option Session
watcher_of m q s = watching q (session_of (queue_all m.state m.queued) s)

-- A watching session that too much is pending for ends. Else it is sent the delta; or, out of
-- memory, answers from its front, each in a whole line, and ends.
abbrev pub TellsWatcher : Delta → ℕ → ℕ → Bytes → Telling → Telling → Type 0
TellsWatcher d n s pending m new =
    ((PENDING_BYTES < length pending) × (new ≡ ends_more s end_slow Slow m))
    ⊎ ((length pending ≤ PENDING_BYTES)
    × (new ≡ says_more s (text_of (delta_lines (listed_name d.query) d.changes n)) m))
    ⊎ ((length pending ≤ PENDING_BYTES)
    × (told : List Change) × (rest : List Change) × (d.changes ≡ told ++ rest)
    × (new ≡ ends_more s (text_of (change_lines (listed_name d.query) told) ++ end_memory) Memory m))

-- A session is sent a delta if it watches the query.
abbrev pub TellsSession : Delta → ℕ → Telling → ℕ → Telling → Type 0
TellsSession d n m s new =
    MatchOption (watcher_of m (listed_name d.query) s) (new ≡ m) (λ x. TellsWatcher d n s x.pending m new)

-- The sessions are sent a delta, in rising id.
abbrev pub TellsDelta : ℕ → Telling → Delta → Telling → Type 0
TellsDelta n m d new = Walk (TellsSession d n) m (state_ids m.state) new

-- A command's reply is the last, if its session isn't ended. After lines of a delta to that session
-- it may find no memory, and the session ends.
abbrev pub RepliesLast : ℕ → Bytes → Telling → Telling → Type 0
RepliesLast s reply m new = IsSomeAnd (session_of m.state s) (λ x. MatchOption x.cause
    ((new ≡ says_more s reply m)
    ⊎ ((list_any (λ part. part.0 == s) m.queued ≡ true) × (new ≡ ends_more s end_memory Memory m)))
    (λ c. new ≡ m))

-- A command of a session that may change rows is done, and answered. Cursors over the queries that
-- its change outdates become stale; the deltas of the affected ones are listed, and published if the
-- change was accepted, one after another; then the reply is queued.
pub record ChangeStep (old : State) (s : ℕ) (outcome : RowsOutcome) (store : Store)
    (reply : Bytes) (e : Effect) (new : State) : Type 0 where
  pub deltas : List Delta
  pub listed : ListsDeltas old.store.relations (affected old) (tried outcome) deltas
  pub told : Telling
  pub tells : Walk (TellsDelta store.seq)
      (record { state = changed old (tried outcome) store; queued = [] })
      (if is_made outcome then deltas else []) told
  pub last : Telling
  pub replies : RepliesLast s reply told last
  pub queued : e.queued ≡ last.queued
  pub cost : e.cost ≡ deltas_steps (tried outcome) deltas
  pub state : new ≡ last.state
