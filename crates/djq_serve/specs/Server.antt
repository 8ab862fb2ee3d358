-- What the server does: one move after another, by the machine's state and the server's place.
use Rattle.std.specs.Prelude.{ℕ, List, [], ◌∷◌, ◌++◌, ◌≡◌, ◌+◌, ◌-◌, ◌<◌, ◌≤◌, ◌⊎◌, ◌&&◌, Bool, true, false}
use Rattle.std.specs.Prelude.{not, nat_lt, Option, None, Some, is_some, IsSome}
use Rattle.std.specs.Prelude.{slice_get, length, take, if◌then◌else◌}
use Rattle.std.specs.List.{flat_map}
use Rattle.djq_disk.specs.File.{File}
use Rattle.djq_io.specs.Hub.{Takes, taken_by}
use Rattle.djq_io.specs.declared.hub.Turn.{Turn}
use Rattle.djq_io.specs.declared.hub.Turn.TheVariants.{Opened, Bytes as Brought, Ended, Idle, Over as HubOver, Failed}
use Rattle.djq_io.specs.declared.hub.Sent.{Sent}
use Rattle.djq_io.specs.declared.hub.Sent.TheVariants.{Took, Again, Gone}
use Rattle.djq_io.specs.declared.hub.Told.{Told}
use Rattle.djq_io.specs.declared.hub.Told.TheVariants.{Turning, Sending, Closing}
use Rattle.djq_log.specs.Logging.{grouped}
use Rattle.djq_log.specs.declared.log.Kept.{Kept}
use Rattle.djq_log.specs.declared.log.Kept.TheVariants.{All as Stored, Failed as Unstored, Full as NoRoom}
use Rattle.djq_model.specs.Data.{Bytes}
use Rattle.djq_protocol.specs.declared.limits.TheConstants.{SESSIONS}
use Rattle.djq_protocol.specs.Reply.{end_full, end_memory}
use Rattle.djq_machine.specs.State.{State, session_of}
use Rattle.djq_machine.specs.Effect.{Effect}
use Rattle.djq_machine.specs.LineStep.{LineOutcome}
use Rattle.djq_machine.specs.Step.{Event, opened, fed, stepped, took, ended, closed, Step}
use Rattle.djq_machine.specs.Run.{Did, Group, kept_group, lines_in, cost_of, pending_of}
use Rattle.djq_machine.specs.Call.{IsOpen, cause_of, state_ids, first_due, first_ready}
use Rattle.djq_io.specs.declared.limits.TheConstants.{READ_BYTES}
use Rattle.djq_serve.specs.declared.limits.TheConstants.{COMMIT_LINES}
use Rattle.djq_serve.specs.declared.served.Served.{Served}
use Rattle.djq_serve.specs.declared.served.Served.TheVariants.{Stopped, Over, TurnsUsed, HubFault, DiskFault, LogFull}

-- What ends a round, after its lines were run.
pub data Last : Type 0 where
  -- nothing more: the next round follows
  next_round : Last
  -- the input of this session has ended
  input_over : ℕ → Last
  -- the hub is over
  no_turn : Last

-- What follows the flush of a commit.
pub data Next : Type 0 where
  -- further lines of the round, from the first open session of at least this id
  more_lines : ℕ → Last → Next
  -- the next round, or the end: the hub is over
  round_over : Bool → Next

-- The server's place.
pub data Phase : Type 0 where
  -- it reads the first turn of a round
  waiting : Phase
  -- it reads a further turn of the round, at most so many, or runs the lines that the turns brought
  gathering : ℕ → Phase
  -- it runs a line: of the first session of at least this id that has one, or else of the first of all.
  -- In this commit so many lines were run, and they logged these groups
  running : (from count : ℕ) → List Group → Last → Phase
  -- it appends these groups to the log, as one
  keeping : List Group → Next → Phase
  -- it flushes, from the first open session of at least this id to which something is due
  flushing : ℕ → Next → Phase
  -- it closes the sessions that are open, and then answers
  closing : Served → Phase

-- The server: the state of its machine, and its place.
pub record Server : Type 0 where
  pub state : State
  pub phase : Phase

-- a server with this state, at this place
abbrev pub server : State → Phase → Server
server state phase = record { state = state; phase = phase }

-- One move of the server: the calls of the hub for it; the steps of the machine; the groups that it hands
-- to the log, one or none, and what the log answers; how many lookups and links of listings it counts; and
-- the file of the disk at each moment that ends in it.
pub record Move : Type 0 where
  pub told : List Told
  pub done : List Did
  pub logged : List Group
  pub stored : Kept
  pub listed : ℕ
  pub moments : List File

-- these calls of the hub and these steps of the machine, if nothing is logged and nothing counted
abbrev pub move : List Told → List Did → Move
move told done = record { told = told; done = done; logged = []; stored = Stored; listed = 0; moments = [] }

-- all calls of the hub
abbrev pub all_told : List Move → List Told
all_told moves = flat_map (λ (m : Move). m.told) moves

-- all steps of the machine
abbrev pub all_done : List Move → List Did
all_done moves = flat_map (λ (m : Move). m.done) moves

-- all groups that were handed to the log
abbrev pub all_logged : List Move → List Group
all_logged moves = flat_map (λ (m : Move). m.logged) moves

-- one step of the machine, of this event
abbrev pub Happens : Event → State → List Did → State → Type 0
Happens event old done new = (e : Effect) × Step old event e new
    × (done ≡ record { event = event; effect = e } ∷ [])

-- no step
abbrev pub Stays : State → List Did → State → Type 0
Stays old done new = (done ≡ []) × (new ≡ old)

-- the line for a session that isn't let in: as many are open as may be, or memory was wanted
abbrev pub refusal_for : State → Bytes
refusal_for st = if nat_lt (length st.sessions) SESSIONS then end_memory else end_full

-- This text was offered to a session once, all of it, and the hub accepted of it what it did.
abbrev pub offering : ℕ → Bytes → Sent → Told
offering s text sent = Sending s (length text) sent (taken_by sent text)

-- A session is let in. Or it isn't: one line is offered to it, whole and once, and it is closed at
-- the hub.
abbrev pub LetsIn : ℕ → State → List Told → State → Type 0
LetsIn s old more new = (IsOpen new s × (more ≡ []))
    ⊎ ((IsOpen new s → ⊥) × (sent : Sent) × Takes sent (refusal_for old)
    × (more ≡ offering s (refusal_for old) sent ∷ Closing s ∷ []))

-- bytes that a turn brought: some, as many as were announced, and no more than are read at a time
abbrev pub IsPiece : ℕ → Bytes → Type 0
IsPiece n piece = (n ≡ length piece) × (0 < n) × (n ≤ READ_BYTES)

-- What a turn brings, if so many turns of the round may follow: the calls of the hub after it, the steps, and
-- the server's place then. The end of a session's input and of the hub end the gathering.
abbrev pub Brings : ℕ → Turn → Bytes → State → List Told → List Did → State → Phase → Type 0
Brings left (Opened s class) piece old more done new next = Happens (opened s) old done new
    × LetsIn s old more new × (next ≡ gathering left)
Brings left (Brought s n) piece old more done new next = Happens (fed s piece) old done new
    × (more ≡ []) × (next ≡ gathering left) × IsPiece n piece
Brings left (Ended s) piece old more done new next = Stays old done new × (more ≡ [])
    × (next ≡ running 0 0 [] (input_over s))
Brings left Idle piece old more done new next = Stays old done new × (more ≡ [])
    × (next ≡ gathering left)
Brings left HubOver piece old more done new next = Stays old done new × (more ≡ [])
    × (next ≡ running 0 0 [] no_turn)
Brings left Failed piece old more done new next = Stays old done new × (more ≡ [])
    × (next ≡ closing HubFault)

-- A turn is read, after which so many of the round may follow.
abbrev pub TakesTurn : ℕ → State → Move → Server → Type 0
TakesTurn left old m new = (turn : Turn) × (piece : Bytes) × (more : List Told)
    × (m.told ≡ Turning turn piece ∷ more) × (m.logged ≡ [])
    × Brings left turn piece old more m.done new.state new.phase

-- the first, or the second if there is no first
abbrev pub or_else : Option ℕ → Option ℕ → Option ℕ
or_else None b = b
or_else (Some a) b = Some a

-- the session of which the next line is run: the first of at least this id that has one, else the first of all
abbrev pub next_ready : State → ℕ → Option ℕ
next_ready st from = or_else (first_ready st from) (first_ready st 0)

-- After a line the next is one of a session of a greater id, or else of the first that has one. Or the commit
-- ends; and it does if it has as many lines as a commit may have.
abbrev pub RunsOn : ℕ → ℕ → List Group → Last → Phase → Type 0
RunsOn s count groups last p =
    ((count + 1 < COMMIT_LINES) × (p ≡ running (s + 1) (count + 1) groups last))
    ⊎ (p ≡ keeping groups (more_lines (s + 1) last))

-- A line of a session is run, or the session ends in its place.
abbrev pub RunsOne : ℕ → ℕ → List Group → Last → State → Move → Server → Type 0
RunsOne s count groups last old m new = (m.told ≡ []) × (m.logged ≡ []) × (outcome : LineOutcome)
    × (happens : Happens (stepped s outcome) old m.done new.state)
    × RunsOn s count (groups ++ kept_group (stepped s outcome) (happens.0).kept) last new.phase

-- whether the input of a session can be ended: it is open, and no session sent `stop`
abbrev pub ends_input : State → ℕ → Bool
ends_input st s = not st.stopped && is_some (session_of st s)

-- The input of a session ends, if it can.
abbrev pub EndsInputIf : ℕ → State → List Did → State → Bool → Type 0
EndsInputIf s old done new true = Happens (ended s) old done new
EndsInputIf s old done new false = Stays old done new

-- No line is left. So the input of a session ends, if that ended the round.
abbrev pub EndsRound : Last → State → List Did → State → Type 0
EndsRound next_round old done new = Stays old done new
EndsRound no_turn old done new = Stays old done new
EndsRound (input_over s) old done new = EndsInputIf s old done new (ends_input old s)

-- whether no round follows
abbrev pub is_last : Last → Bool
is_last next_round = false
is_last (input_over s) = false
is_last no_turn = true

-- The lines of the round, by the session of which the next is.
abbrev pub RunsAt : ℕ → List Group → Last → State → Move → Server → Option ℕ → Type 0
RunsAt count groups last old m new (Some s) = RunsOne s count groups last old m new
RunsAt count groups last old m new None = (m.told ≡ []) × (m.logged ≡ [])
    × EndsRound last old m.done new.state × (new.phase ≡ keeping groups (round_over (is_last last)))

-- What follows, by the log's answer: a flush, if the lines are stored; else the end of serving.
abbrev pub StoredThen : Kept → List Group → Next → Phase → Type 0
StoredThen Stored groups next p = p ≡ flushing 0 next
StoredThen Unstored groups next p = (lines_in groups ≡ [] → ⊥) × (p ≡ closing DiskFault)
StoredThen NoRoom groups next p = (lines_in groups ≡ [] → ⊥) × (p ≡ closing LogFull)

-- The commit: the lines of the groups are appended to the log as one group, if there are any. If they can't be,
-- all that is done after it is to close sessions, so nothing is sent then.
abbrev pub KeepsAt : List Group → Next → State → Move → Server → Type 0
KeepsAt groups next old m new = (m.told ≡ []) × (m.done ≡ []) × (m.logged ≡ grouped (lines_in groups))
    × (new.state ≡ old) × StoredThen m.stored groups next new.phase

-- All pending bytes of a session are offered, and sent are: some of the first; none now; or none
-- ever, and it is closed.
abbrev pub SendsSome : Sent → ℕ → State → List Told → List Did → State → Type 0
SendsSome (Took n) s old told done new = (1 ≤ n) × (n ≤ length (pending_of old s))
    × (told ≡ offering s (pending_of old s) (Took n) ∷ [])
    × Happens (took s (take n (pending_of old s))) old done new
SendsSome Again s old told done new = (told ≡ offering s (pending_of old s) Again ∷ [])
    × Stays old done new
SendsSome Gone s old told done new = (told ≡ offering s (pending_of old s) Gone ∷ Closing s ∷ [])
    × Happens (closed s (pending_of old s)) old done new

-- A session that has ended, and for which nothing is pending, is closed.
abbrev pub SessionLeaves : ℕ → State → List Told → List Did → State → Type 0
SessionLeaves s old told done new = (told ≡ Closing s ∷ []) × Happens (closed s []) old done new

-- a flush stays at a session of which bytes were sent, and else continues after it
abbrev pub flush_after : Sent → ℕ → ℕ
flush_after (Took n) s = s
flush_after Again s = s + 1
flush_after Gone s = s + 1

-- A flush at a session to which something is due: bytes are pending for it, or it has ended.
abbrev pub Visits : ℕ → State → List Told → List Did → State → ℕ → Type 0
Visits s old told done new to =
    ((0 < length (pending_of old s)) × (sent : Sent) × SendsSome sent s old told done new
    × (to ≡ flush_after sent s))
    ⊎ ((pending_of old s ≡ []) × IsSome (cause_of old s) × SessionLeaves s old told done new
    × (to ≡ s + 1))

-- the server's place after the last flush of a round: a session sent `stop`; the hub is over
abbrev pub after_round : Bool → Bool → Phase
after_round true over = closing Stopped
after_round false true = closing Over
after_round false false = waiting

-- the server's place after a flush
abbrev pub after : State → Next → Phase
after st (more_lines from last) = running from 0 [] last
after st (round_over over) = after_round st.stopped over

-- the first open session
abbrev pub first_open : State → Option ℕ
first_open st = slice_get (state_ids st) 0

-- no call of the hub and no step: the server is at another place
abbrev pub PhasePasses : State → Phase → Move → Server → Type 0
PhasePasses old phase m new = (m ≡ move [] []) × (new ≡ server old phase)

-- A flush, by the session that it is at.
abbrev pub FlushesAt : Next → State → Move → Server → Option ℕ → Type 0
FlushesAt next old m new None = PhasePasses old (after old next) m new
FlushesAt next old m new (Some s) = (m.logged ≡ []) × (to : ℕ) × Visits s old m.told m.done new.state to
    × (new.phase ≡ flushing to next)

-- The first open session is closed.
abbrev pub ClosesFirst : Served → State → Move → Server → Option ℕ → Type 0
ClosesFirst answer old m new None = ⊥
ClosesFirst answer old m new (Some s) = (m.told ≡ Closing s ∷ []) × (m.logged ≡ [])
    × Happens (closed s (pending_of old s)) old m.done new.state × (new.phase ≡ closing answer)

-- The next move, by the server's place. A round has at most so many turns.
abbrev pub ServesAt : ℕ → Phase → State → Move → Server → Type 0
ServesAt most waiting old m new = PhasePasses old (closing TurnsUsed) m new ⊎ TakesTurn (most - 1) old m new
ServesAt most (gathering left) old m new = PhasePasses old (running 0 0 [] next_round) m new
    ⊎ ((0 < left) × TakesTurn (left - 1) old m new)
ServesAt most (running from count groups last) old m new = RunsAt count groups last old m new (next_ready old from)
ServesAt most (keeping groups next) old m new = KeepsAt groups next old m new
ServesAt most (flushing from next) old m new = FlushesAt next old m new (first_due old from)
ServesAt most (closing answer) old m new = ClosesFirst answer old m new (first_open old)

-- The server makes one move, and counts no more lookups and links than the steps of it may cost.
abbrev pub MakesMove : ℕ → Server → Move → Server → Type 0
MakesMove most old m new = ServesAt most old.phase old.state m new × (m.listed ≤ cost_of m.done)
