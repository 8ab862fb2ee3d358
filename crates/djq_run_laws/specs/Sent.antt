-- What became of the bytes that were queued to a session.
use Rattle.std.specs.Prelude.{ℕ, List, [], ◌∷◌, ◌==◌, ◌≡◌, ◌<◌, ◌++◌, AllPairs, if◌then◌else◌}
use Rattle.std.specs.List.{flat_map}
use Rattle.djq_model.specs.Data.{Bytes}
use Rattle.djq_machine.specs.State.{State}
use Rattle.djq_machine.specs.Step.{Event, opened, took, closed}
use Rattle.djq_machine.specs.Run.{Did, Run, out, all_taken, pending_of}
use Rattle.djq_machine.specs.Call.{state_ids}

-- the pending bytes of a session that an event sends, or drops as it closes
abbrev pub gone_by : ℕ → Event → Bytes
gone_by s (took t bytes) = if t == s then bytes else []
gone_by s (closed t bytes) = if t == s then bytes else []
gone_by s _ = []

-- all that was sent or dropped
abbrev pub all_gone : ℕ → List Did → Bytes
all_gone s done = flat_map (λ d. gone_by s d.event) done

-- Along every run, what was sent or dropped of a session's bytes, and then what is pending, is
-- what was pending and all that was queued to it.
abbrev pub SentBytes : Type 0
SentBytes = (s : ℕ) (old : State) (done : List Did) (new : State) → Run old done new
    → all_gone s done ++ pending_of new s ≡ pending_of old s ++ out s done

-- the pending bytes of a session that are dropped as it closes
abbrev pub dropped_by : ℕ → Event → Bytes
dropped_by s (closed t bytes) = if t == s then bytes else []
dropped_by s _ = []

-- all that was dropped
abbrev pub all_dropped : ℕ → List Did → Bytes
all_dropped s done = flat_map (λ d. dropped_by s d.event) done

-- the id with which an event opens a session, if it does
abbrev pub opened_by : Event → List ℕ
opened_by (opened s) = s ∷ []
opened_by _ = []

-- the ids with which sessions opened, in order, those that weren't let in too
abbrev pub all_opened : List Did → List ℕ
all_opened done = flat_map (λ d. opened_by d.event) done

-- The ids of the sessions that are open, and then of those that open, rise. So none opens twice.
abbrev pub SessionsOpenOnce : State → List Did → Type 0
SessionsOpenOnce old done = AllPairs (λ s t. s < t) (state_ids old ++ all_opened done)

-- Along every run in which no session opens twice, what was sent of a session's bytes, then what
-- was dropped as it closed, and then what is pending, is what was pending and all that was queued
-- to it. So what was sent is a first part of that.
abbrev pub SentInOrder : Type 0
SentInOrder = (s : ℕ) (old : State) (done : List Did) (new : State) → Run old done new
    → SessionsOpenOnce old done
    → all_taken s done ++ (all_dropped s done ++ pending_of new s) ≡ pending_of old s ++ out s done
