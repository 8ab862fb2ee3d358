-- What the parts of the server promise.
use Rattle.std.specs.Prelude.{ℕ, List, [], ◌∷◌, ◌≡◌, ◌+◌, ◌-◌, ◌<◌, ◌≤◌, ◌⊎◌, true, false, Option, None, Some}
use Rattle.djq_io.specs.Faults.{Counted}
use Rattle.djq_io.specs.Hub.{Takes, without}
use Rattle.djq_io.specs.declared.hub.Sent.{Sent}
use Rattle.djq_io.specs.declared.hub.Told.{Told}
use Rattle.djq_io.specs.declared.hub.Told.TheVariants.{Closing}
use Rattle.djq_model.specs.Data.{Bytes}
use Rattle.djq_machine.specs.State.{State}
use Rattle.djq_machine.specs.Step.{opened, ended}
use Rattle.djq_machine.specs.Run.{Group, lines_in}
use Rattle.djq_machine.specs.Call.{Makes, Counts}
use Rattle.djq_serve.specs.declared.served.Served.{Served}
use Rattle.djq_serve.specs.declared.served.Served.TheVariants.{TurnsUsed, HubFault, DiskFault, LogFull}
use Rattle.djq_serve.specs.declared.rest.Rest.{Rest}
use Rattle.djq_serve.specs.declared.rest.Rest.TheVariants.{Nothing, Ends, Over as HubOver, Failed}
use Rattle.djq_serve.specs.Told.{Shown, HubTells}
use Rattle.djq_serve.specs.Server.{Last, next_round, input_over, no_turn, Next, Phase, waiting, gathering, running}
use Rattle.djq_serve.specs.Server.{keeping, flushing, closing, server, after, offering, LetsIn, ends_input, next_ready}
use Rattle.djq_serve.specs.Goes.{LogPlace, seen, GoesLogging, GoesQuietly}
use Rattle.djq_serve.specs.Ends.{TurnsTaken}

-- the server's place after a round, which may end the serving
abbrev pub phase_of : Option Served → Phase
phase_of None = waiting
phase_of (Some answer) = closing answer

-- A flush visited sessions from the first on until nothing was due to any, whatever follows it.
pub record Flushes (hub : Shown) (old : State) (hub' : Shown) (new : State) : Type 0 where
  pub goes : (most : ℕ) (next : Next) → GoesQuietly most hub (server old (flushing 0 next)) hub'
      (server new (after new next))

-- A session that opened at the hub is let in, or refused.
pub record Admits (old : State) (hub : Shown) (s : ℕ) (new : State) (hub' : Shown) : Type 0 where
  pub makes : Makes old (opened s) new
  pub more : List Told
  pub lets_in : LetsIn s old more new
  pub told : HubTells hub hub' more

-- A line was offered to a session, whole and once, and it was closed.
pub record OffersAndCloses (hub : Shown) (s : ℕ) (text : Bytes) (hub' : Shown) : Type 0 where
  pub sent : Sent
  pub takes : Takes sent text
  pub told : HubTells hub hub' (offering s text sent ∷ Closing s ∷ [])
  pub ids : hub'.ids ≡ without hub.ids s

-- what the rest of a round is, as the phases have it
abbrev pub rest_to_last : Rest → Last
rest_to_last Nothing = next_round
rest_to_last (Ends s) = input_over s
rest_to_last HubOver = no_turn
rest_to_last Failed = next_round

-- the server's place after a turn, if so many of the round may follow
abbrev pub after_turn : ℕ → Rest → Phase
after_turn left Nothing = gathering left
after_turn left (Ends s) = running 0 0 [] (input_over s)
after_turn left HubOver = running 0 0 [] no_turn
after_turn left Failed = closing HubFault

-- A turn was read, of which this is the rest.
pub record TakesOne (rest : Rest) (hub : Shown) (old : State) (hub' : Shown) (new : State) : Type 0 where
  pub first : (most : ℕ) (counted : Counts) (turns : ℕ) (log : LogPlace)
      → GoesLogging most (seen hub counted turns) (server old waiting) log
      (seen hub' counted (turns + 1)) (server new (after_turn (most - 1) rest)) log
  pub further : (most left : ℕ) (counted : Counts) (turns : ℕ) (log : LogPlace) → 0 < left
      → GoesLogging most (seen hub counted turns) (server old (gathering left)) log
      (seen hub' counted (turns + 1)) (server new (after_turn (left - 1) rest)) log

-- the server's place after the turns of a round
abbrev pub after_turns : Rest → Phase
after_turns Nothing = running 0 0 [] next_round
after_turns (Ends s) = running 0 0 [] (input_over s)
after_turns HubOver = running 0 0 [] no_turn
after_turns Failed = closing HubFault

-- The turns of a round were read, at most so many.
pub record Gathers (limit taken : ℕ) (rest : Rest) (hub : Shown) (old : State) (hub' : Shown) (new : State) : Type 0
  where
    pub goes : (most : ℕ) → limit ≤ most → (counted : Counts) (turns : ℕ) (log : LogPlace)
        → GoesLogging most (seen hub counted turns) (server old waiting) log
        (seen hub' counted (turns + taken)) (server new (after_turns rest)) log
    pub some : 0 < taken
    pub within : taken ≤ limit

-- the server's place after a commit
abbrev pub after_commit : Option Served → State → Next → Phase
after_commit None st next = after st next
after_commit (Some answer) st next = closing answer

-- These lines were handed to the log, and a flush followed if they are stored.
pub record MakesCommit (result : Option Served) (hub : Shown) (old : State) (lines : List Bytes) (hub' : Shown)
    (new : State) (log log' : LogPlace) : Type 0 where
  pub goes : (groups : List Group) → lines_in groups ≡ lines → (most : ℕ) (next : Next) (counted : Counts) (turns : ℕ)
      → GoesLogging most (seen hub counted turns) (server old (keeping groups next)) log
      (seen hub' counted turns) (server new (after_commit result new next)) log'

-- the server's place after lines
abbrev pub after_lines : Option Served → ℕ → ℕ → List Group → Last → Phase
after_lines None from count groups last = running from count groups last
after_lines (Some answer) from count groups last = closing answer

-- The lines of a round were run, until none was left or a commit couldn't be logged. These are the lines of
-- the last commit.
pub record RunsLines (result : Option Served) (hub : Shown) (counted : Counts) (old : State) (log : LogPlace)
    (hub' : Shown) (counted' : Counts) (new : State) (log' : LogPlace) (lines : List Bytes) : Type 0 where
  pub from : ℕ
  pub count : ℕ
  pub groups : List Group
  pub goes : (most : ℕ) (last : Last) (turns : ℕ)
      → GoesLogging most (seen hub counted turns) (server old (running 0 0 [] last)) log
      (seen hub' counted' turns) (server new (after_lines result from count groups last)) log'
  pub none_left : result ≡ None → (next_ready new from ≡ None) × (lines_in groups ≡ lines)

-- The input of a session ends with the round, if it can be ended.
abbrev pub EndsInputOf : Last → State → State → Type 0
EndsInputOf next_round old new = new ≡ old
EndsInputOf no_turn old new = new ≡ old
EndsInputOf (input_over s) old new = ((ends_input old s ≡ true) × Makes old (ended s) new)
    ⊎ ((ends_input old s ≡ false) × (new ≡ old))

-- A round in which no line is left is finished, with the commit of these lines.
pub record FinishesRound (result : Option Served) (rest : Rest) (hub : Shown) (old : State) (lines : List Bytes)
    (log : LogPlace) (hub' : Shown) (new : State) (log' : LogPlace) : Type 0 where
  pub goes : (groups : List Group) → lines_in groups ≡ lines → (from : ℕ) → next_ready old from ≡ None
      → (most count : ℕ) (counted : Counts) (turns : ℕ)
      → GoesLogging most (seen hub counted turns) (server old (running from count groups (rest_to_last rest))) log
      (seen hub' counted turns) (server new (phase_of result)) log'

-- A round whose turns were read is ended.
pub record EndsRoundBy (result : Option Served) (rest : Rest) (hub : Shown) (counted : Counts) (old : State)
    (log : LogPlace) (hub' : Shown) (counted' : Counts) (new : State) (log' : LogPlace) : Type 0 where
  pub goes : (most turns : ℕ)
      → GoesLogging most (seen hub counted turns) (server old (after_turns rest)) log
      (seen hub' counted' turns) (server new (phase_of result)) log'

-- the answers of lines and commits: those of the disk
abbrev pub MayLose : Option Served → Type 0
MayLose None = Unit {0}
MayLose (Some DiskFault) = Unit {0}
MayLose (Some LogFull) = Unit {0}
MayLose (Some _) = ⊥

-- the answers of a round in which no turn failed
abbrev pub MayFinish : Option Served → Type 0
MayFinish None = Unit {0}
MayFinish (Some TurnsUsed) = ⊥
MayFinish (Some HubFault) = ⊥
MayFinish (Some _) = Unit {0}

-- the answers of a round: `HubFault` if and only if a turn failed
abbrev pub MayEnd : Rest → Option Served → Type 0
MayEnd Failed result = result ≡ Some HubFault
MayEnd _ result = MayFinish result

-- the hub's faults over the turns of a round
abbrev pub RestCounts : Rest → ℕ → ℕ → Type 0
RestCounts Failed before now = Counted before now
RestCounts _ before now = now ≡ before

-- Rounds were served, until serving ended.
pub record Took (answer : Served) (turns most : ℕ) (hub : Shown) (counted : Counts) (old : State) (log : LogPlace)
    (hub' : Shown) (counted' : Counts) (new : State) (log' : LogPlace) : Type 0 where
  pub taken : ℕ
  pub goes : GoesLogging most (seen hub counted 0) (server old waiting) log (seen hub' counted' taken)
      (server new (closing answer)) log'
  pub has_taken : TurnsTaken answer turns taken
