-- What holds of every serving, from a log or without one, so of `serve` and of `replay`: what cursors have
-- listed, what listings stay live, and what `mirror` reads back.
use Rattle.std.specs.Prelude.{ℕ, List, ◌≡◌, Option}
use Rattle.djq_io.specs.Calls.{sent_to}
use Rattle.djq_io.specs.declared.hub.Told.{Told}
use Rattle.djq_io.specs.declared.hub.Coming.{Coming}
use Rattle.djq_model.specs.Data.{Bytes}
use Rattle.djq_model.specs.Listed.{Listed}
use Rattle.djq_machine.specs.State.{State}
use Rattle.djq_machine.specs.Run.{Did, Group, out, all_taken}
use Rattle.djq_machine.specs.Call.{Counts}
use Rattle.djq_run_laws.specs.Finished.{CursorsHaveListed}
use Rattle.djq_run_laws.specs.Live.{LiveFrom}
use Rattle.djq_run.specs.declared.status.Status.{Status}
use Rattle.djq_serve.specs.declared.served.Served.{Served}
use Rattle.djq_serve.specs.Told.{Shown}
use Rattle.djq_serve.specs.Server.{Move, all_told, all_done}
use Rattle.djq_serve.specs.Ends.{RunsThrough, ServeEnds}
use Rattle.djq_mirror_laws.specs.Whole.{ReadsSinceOpened}
use Rattle.djq_program_laws.specs.Logged.{LogSeen, Begins}
use Rattle.djq_program_laws.specs.Mirrored.{IsMirroredBack}
use Rattle.djq_program_laws.specs.Ends.{HubSeen, ServesHub}
use Rattle.djq_program_laws.specs.Replay.{Plays}

-- A hub was served: the lines of a log were loaded, if there is one, and from what they gave the server
-- moved, by these moves, to this state, in rounds of at most so many turns.
pub record Serving (log : Option LogSeen) (start : State) (moves : List Move) (state : State) : Type 0 where
  pub found : List Bytes
  pub first : List Group
  pub counted : Counts
  pub loaded : Counts
  pub begins : Begins log found first counted start loaded
  pub answer : Served
  pub turns : ℕ
  pub most : ℕ
  pub hub : Shown
  pub hub_left : Shown
  pub used : Counts
  pub ends : ServeEnds answer turns most hub loaded start hub_left used state
  pub by_moves : ends.goes.moves ≡ moves

-- a moment of it: what was done until then, and the state that it had reached
pub record Moment (start : State) (moves : List Move) (state : State) : Type 0 where
  pub done : List Did
  pub at : State
  pub later : List Did
  pub passed : RunsThrough start (all_done moves) done at later state

-- At each moment an open cursor that had been sent the end had given a listing of its query: each answer
-- over the rows that were there then, once, and nothing else.
abbrev pub HaveListed : State → List Move → State → Type 0
HaveListed start moves state = (m : Moment start moves state) → CursorsHaveListed m.at

-- From each moment on a listing stays live.
abbrev pub StayLive : State → List Move → State → Type 0
StayLive start moves state = (m : Moment start moves state) → LiveFrom m.at

-- At each moment `mirror` reads back what was sent of a session that watched a query and read it through one
-- cursor at a time, if that is all that was queued to it; and what the hub was given, at the end.
pub record AreReadBack (start : State) (moves : List Move) (state : State) : Type 0 where
  pub moments : (m : Moment start moves state) → (q : Listed) (s : ℕ) (at : State)
      → ReadsSinceOpened q s start m.done at m.at → all_taken s m.done ≡ out s m.done
      → IsMirroredBack q (all_taken s m.done) at
  pub end : (q : Listed) (s : ℕ) (at : State) → ReadsSinceOpened q s start (all_done moves) at state
      → sent_to s (all_told moves) ≡ out s (all_done moves) → IsMirroredBack q (sent_to s (all_told moves)) at

-- However serving ends, this holds of it.
abbrev pub OfServing : (State → List Move → State → Type 0) → Type 0
OfServing Holds = (log : Option LogSeen) (start : State) (moves : List Move) (state : State)
    → Serving log start moves state → Holds start moves state

-- However `serve` ends, with a log and without, it holds of it.
abbrev pub OfServe : (State → List Move → State → Type 0) → Type 0
OfServe Holds = (log : Option LogSeen) (status : Status) (addr : Bytes) (turns : ℕ) (hub : HubSeen) (counted : Counts)
    (hub' : HubSeen) (counted' : Counts)
    → (serves : ServesHub log status addr turns hub counted hub' counted')
    → Holds serves.start serves.ends.goes.moves serves.state

-- However `replay` served its schedule, with a log and without, whether what was sent could be written or
-- not, it holds of it.
abbrev pub OfReplay : (State → List Move → State → Type 0) → Type 0
OfReplay Holds = (log : Option LogSeen) (turns : List Coming) (most : ℕ) (counted counted' : Counts)
    (past : Option (List Told))
    → (plays : Plays log turns most counted counted' past)
    → Holds plays.start plays.ends.goes.moves plays.state
