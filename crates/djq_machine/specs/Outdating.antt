-- The sessions after a change of rows: which of their cursors it makes stale.
use Rattle.std.specs.Prelude.{ℕ, List, Option, None, Some, map}
use Rattle.djq_model.specs.Data.{Bytes}
use Rattle.djq_model.specs.Listed.{Listed}
use Rattle.djq_machine.specs.State.{Cursor, Session}
use Rattle.djq_store_spec.specs.Store.{Store}
use Rattle.djq_machine.specs.State.{State}
use Rattle.djq_store_spec.specs.Stale.{outdated, outdater_of}
use Rattle.djq_store_spec.specs.Changes.{RowsChange}

-- a cursor after a change of this number
abbrev pub outdated_cursor : List Listed → (Listed → Option Bytes) → ℕ → Cursor → Cursor
outdated_cursor queries outdater n c = record c
    { position = outdated (outdater_of queries outdater c.query) n c.position }

-- the sessions after a change of this number
abbrev pub outdated_sessions : List Listed → (Listed → Option Bytes) → ℕ → List Session → List Session
outdated_sessions queries outdater n xs = map
    (λ (x : Session). record x { cursors = map (outdated_cursor queries outdater n) x.cursors }) xs

-- the sessions after a change of this number that was made or tried, if there was one
abbrev pub sessions_behind : State → Option RowsChange → ℕ → List Session
sessions_behind old None n = old.sessions
sessions_behind old (Some change) n =
    outdated_sessions old.store.queries change.outdater n old.sessions

-- the state after it, with this store
abbrev pub changed : State → Option RowsChange → Store → State
changed old o store =
    record old { store = store; sessions = sessions_behind old o store.seq }
