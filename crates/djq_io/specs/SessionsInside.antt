use Rattle.std.specs.Prelude.{ℕ, ◌==◌, ◌||◌, List, map, filter, if◌then◌else◌}
use Rattle.djq_io.specs.Faults.{one_more}
use Rattle.djq_io.specs.Sessions.{Count}
use Rattle.djq_io.specs.declared.sessions.Session.{Session}

-- the ids of these sessions
abbrev pub open_ids_in : List Session → List ℕ
open_ids_in sessions = map (λ x. x.id) sessions

-- the ids of those of them whose input has ended
abbrev pub ended_in : List Session → List ℕ
ended_in sessions = map (λ x. x.id) (filter (λ x. x.ended) sessions)

-- how many faults each of them has met
abbrev pub counts_in : List Session → List Count
counts_in sessions = map (λ x. record { id = x.id; faults = x.faults }) sessions

-- a session after the input of that with this id has ended
abbrev pub after_end : ℕ → Session → Session
after_end id x = record { id = x.id; ended = x.ended || (x.id == id); faults = x.faults }

-- a session after a fault of that with this id
abbrev pub after_fault : ℕ → Session → Session
after_fault id x = if x.id == id then record { id = id; ended = x.ended; faults = one_more x.faults } else x
