-- How serving ends.
use Rattle.std.specs.Prelude.{ℕ, List, [], ◌∷◌, ◌++◌, ◌==◌, ◌≡◌, ◌<◌, ◌≤◌, Bool, true, false, All, AllPairs}
use Rattle.std.specs.List.{flat_map, list_any}
use Rattle.djq_io.specs.Faults.{Counted}
use Rattle.djq_io.specs.declared.hub.Turn.TheVariants.{Opened}
use Rattle.djq_io.specs.declared.hub.Told.{Told}
use Rattle.djq_io.specs.declared.hub.Told.TheVariants.{Turning, Sending}
use Rattle.djq_machine.specs.State.{State}
use Rattle.djq_log.specs.Logging.{grouped}
use Rattle.djq_machine.specs.Run.{Walk, Did, Run, Group, groups_of, lines_in, out, all_taken, pending_of}
use Rattle.djq_machine.specs.Call.{Counts, state_ids}
use Rattle.djq_machine.specs.Gives.{CursorsGive}
use Rattle.djq_run_laws.specs.Moved.{SparesSession}
use Rattle.djq_run_laws.specs.Lines.{TakesInOrder}
use Rattle.djq_run_laws.specs.Sent.{all_dropped, all_opened}
use Rattle.djq_serve.specs.declared.served.Served.{Served}
use Rattle.djq_serve.specs.declared.served.Served.TheVariants.{Stopped, Over, TurnsUsed, HubFault, DiskFault, LogFull}
use Rattle.djq_io.specs.Calls.{sent_to}
use Rattle.djq_serve.specs.Told.{Shown, has_over, turn_failed}
use Rattle.djq_serve.specs.Server.{Server, Move, MakesMove, waiting, closing, server, all_told, all_done, all_logged}
use Rattle.djq_serve.specs.Goes.{seen, Goes}
use Rattle.djq_serve.specs.Fair.{RunsFairly, LeavesNoLine, TakesSingleTurns}

-- All turns were read, or fewer, by the answer.
abbrev pub TurnsTaken : Served → ℕ → ℕ → Type 0
TurnsTaken TurnsUsed turns taken = taken ≡ turns
TurnsTaken _ turns taken = taken ≤ turns

-- a session opens at the hub, and isn't let in: a line is sent to it after its turn
abbrev pub refuses : ℕ → List Told → Bool
refuses s (Turning (Opened t class) piece ∷ Sending u offered sent taken ∷ more) = t == s
refuses s _ = false

-- no move refuses this session
abbrev pub NeverRefused : ℕ → List Move → Type 0
NeverRefused s moves = All (λ (m : Move). refuses s m.told ≡ false) moves

-- What the hub accepted for a session that was let in is what was sent of its pending bytes. That,
-- then what was dropped as it was closed, and then what is pending still, is all that was pending
-- and was queued to it: so what was sent is a first part of that.
pub record IsSent (old : State) (moves : List Move) (new : State) (s : ℕ) : Type 0 where
  pub sent : NeverRefused s moves → sent_to s (all_told moves) ≡ all_taken s (all_done moves)
  pub whole : all_taken s (all_done moves) ++ (all_dropped s (all_done moves) ++ pending_of new s)
      ≡ pending_of old s ++ out s (all_done moves)

-- whether the answer is `Stopped`
abbrev pub says_stopped : Served → Bool
says_stopped Stopped = true
says_stopped _ = false

-- whether the answer is `Over`
abbrev pub says_over : Served → Bool
says_over Over = true
says_over _ = false

-- whether the answer is `HubFault`
abbrev pub says_fault : Served → Bool
says_fault HubFault = true
says_fault _ = false

-- whether the answer is that the lines of a commit couldn't be logged
abbrev pub says_lost : Served → Bool
says_lost DiskFault = true
says_lost LogFull = true
says_lost _ = false

-- `HubFault` is returned iff a turn failed. If the log doesn't end the serving, `Stopped` is returned iff a session
-- sent `stop`; and if none did, `Over` is returned iff a turn reported it.
pub record IsCaused (answer : Served) (told : List Told) (st : State) : Type 0 where
  pub failed : turn_failed told ≡ says_fault answer
  pub stopped : says_lost answer ≡ false → st.stopped ≡ says_stopped answer
  pub over : says_lost answer ≡ false → st.stopped ≡ false → has_over told ≡ says_over answer

-- The groups that the steps log are cut into commits, in order, and the log is handed each commit as one
-- group, of all its lines. A commit without lines asks nothing of the log.
pub record IsCommitted (moves : List Move) : Type 0 where
  pub commits : List (List Group)
  pub cut : groups_of (all_done moves) ≡ flat_map (λ c. c) commits
  pub logged : all_logged moves ≡ flat_map (λ c. grouped (lines_in c)) commits

-- whether a call of the hub sends a session something
abbrev pub sends_some : Told → Bool
sends_some (Sending s offered sent taken) = true
sends_some _ = false

-- **Nothing is sent before it is logged**: as a move sends something, whatever it is, the log was handed all lines
-- that the steps before it log.
abbrev pub LogsFirst : ℕ → Server → List Move → Type 0
LogsFirst most old moves = (before later : List Move) (m : Move) (at next : Server) → moves ≡ before ++ m ∷ later
    → Walk (MakesMove most) old before at → MakesMove most at m next → list_any sends_some m.told ≡ true
    → lines_in (groups_of (all_done before)) ≡ lines_in (all_logged before)

-- The first fault of the hub ends the serving; under every other answer there was none.
abbrev pub FaultsCount : Served → ℕ → ℕ → Type 0
FaultsCount HubFault before now = Counted before now
FaultsCount _ before now = now ≡ before

-- a state that a run passes through on its way
abbrev pub RunsThrough : State → List Did → List Did → State → List Did → State → Type 0
RunsThrough start done earlier mid later state = (done ≡ earlier ++ later) × Run start earlier mid
    × Run mid later state

-- What holds of a run at each state that it passes through: of a session that wasn't closed yet the lines removed
-- from its input are those that its bytes are cut into, in order; and each open cursor gives what it should.
pub record HoldsThroughout (start : State) (done : List Did) (state : State) : Type 0 where
  pub lines : (earlier : List Did) (mid : State) (later : List Did)
      → RunsThrough start done earlier mid later state
      → (s : ℕ) → All (λ d. SparesSession d.event s) earlier → TakesInOrder s start earlier mid
  pub cursors : (earlier : List Did) (mid : State) (later : List Did)
      → RunsThrough start done earlier mid later state
      → CursorsGive start → CursorsGive mid

-- **How serving ends.** The server moved from its first turn to its answer, by moves that the hub records,
-- with at most so many turns a round. Its steps are a run of the machine, in which sessions open with rising
-- ids, so that none opens twice. What they log is cut into commits, and nothing is sent before it is logged. To
-- each session was sent what is its. Lines are run by turns, none waits for a round, and a turn is a round of its
-- own if a round has one. Each answer has its cause, and every session is closed, in the machine and at the hub.
pub record ServeEnds (answer : Served) (turns most : ℕ) (hub : Shown) (counted : Counts) (old : State)
    (hub' : Shown) (counted' : Counts) (new : State) : Type 0 where
  pub taken : ℕ
  pub goes : Goes most (seen hub counted 0) (server old waiting) (seen hub' counted' taken)
      (server new (closing answer))
  pub run : Run old (all_done goes.moves) new
  pub rising : AllPairs (λ s t. s < t) (all_opened (all_done goes.moves))
  pub throughout : HoldsThroughout old (all_done goes.moves) new
  pub committed : IsCommitted goes.moves
  pub sent : (s : ℕ) → IsSent old goes.moves new s
  pub fair : RunsFairly most (server old waiting) goes.moves (server new (closing answer))
  pub prompt : LeavesNoLine most (server old waiting) goes.moves (server new (closing answer))
  pub single : TakesSingleTurns most (server old waiting) goes.moves
  pub first : LogsFirst most (server old waiting) goes.moves
  pub caused : IsCaused answer (all_told goes.moves) new
  pub none_open : state_ids new ≡ []
  pub none_at_hub : hub'.ids.open_ids ≡ []
  pub has_taken : TurnsTaken answer turns taken
