-- What the calls of a machine promise.
use Rattle.std.specs.Prelude.{ℕ, List, [], ◌++◌, ◌≡◌, ◌+◌, ◌<◌, ◌≤◌, ◌&&◌, ◌||◌, Bool, not}
use Rattle.std.specs.Prelude.{nat_le, nat_lt, Option, None, Some, IsSome, MatchOption}
use Rattle.std.specs.Prelude.{is_none, is_some, find, Result, Ok, Err, length, ⊤}
use Rattle.djq_model.specs.Data.{Bytes}
use Rattle.djq_protocol.specs.declared.limits.TheConstants.{SESSIONS}
use Rattle.djq_protocol.specs.declared.answer.EndCause.{EndCause}
use Rattle.djq_protocol.specs.declared.answer.EndCause.TheVariants.{Memory}
use Rattle.djq_machine.specs.declared.machine.Fed.{Fed}
use Rattle.djq_machine.specs.declared.machine.Fed.TheVariants.{Held, Ended as HadEnded}
use Rattle.djq_machine.specs.declared.machine.OpenRefusal.{OpenRefusal}
use Rattle.djq_machine.specs.declared.machine.OpenRefusal.TheVariants.{Full, NoMem}
use Rattle.djq_machine.specs.State.{State, Session, session_of}
pub use Rattle.djq_machine.specs.State.{state_ids}
use Rattle.djq_machine.specs.Effect.{Effect}
use Rattle.djq_machine.specs.LineStep.{LineOutcome}
use Rattle.djq_machine.specs.Step.{Event, opened, stepped, Step, is_dry}
use Rattle.djq_machine.specs.Run.{kept_group, lines_in, pending_of}

-- whether a session of this id is open
abbrev pub IsOpen : State → ℕ → Type 0
IsOpen st s = IsSome (session_of st s)

-- the end cause of a session, if there is a session that has one
abbrev pub cause_in : Option Session → Option EndCause
cause_in None = None
cause_in (Some x) = x.cause

-- the end cause of a session; none if it isn't open
abbrev pub cause_of : State → ℕ → Option EndCause
cause_of st s = cause_in (session_of st s)

-- the bytes of a session that aren't run; none if there is no session
abbrev pub held_in : Option Session → Bytes
held_in None = []
held_in (Some x) = x.held

-- the bytes of a session that aren't run; none if it isn't open
abbrev pub held_of : State → ℕ → Bytes
held_of st s = held_in (session_of st s)

-- whether something is due to a session: bytes are pending for it, or it has ended
abbrev pub is_due : State → ℕ → Bool
is_due st s = nat_lt 0 (length (pending_of st s)) || is_some (cause_of st s)

-- the first open session of at least this id to which something is due
abbrev pub first_due : State → ℕ → Option ℕ
first_due st from = find (λ s. nat_le from s && is_due st s) (state_ids st)

-- what was counted: lookups and links of listings, of updates, and of rows
pub record Counts : Type 0 where
  pub listing : ℕ
  pub update : ℕ
  pub rows : ℕ

-- these counts of listings, of updates and of rows
abbrev pub counts : ℕ → ℕ → ℕ → Counts
counts listing update rows = record { listing = listing; update = update; rows = rows }

-- One step of this event, by a call that is handed no counts.
pub record Makes (old : State) (event : Event) (new : State) : Type 0 where
  pub effect : Effect
  pub step : Step old event effect new

-- One step of this event, which counted no more of listings than its effect may cost.
pub record MakesCounted (old : State) (event : Event) (new : State) (before now : Counts) : Type 0 where
  pub effect : Effect
  pub step : Step old event effect new
  pub listing : now.listing ≤ before.listing + effect.cost

-- What opening a session answers: it is open; or the limit is reached; or, below it, out of memory.
abbrev pub OpenGives : State → ℕ → Result ⊤ OpenRefusal → State → Type 0
OpenGives old s (Ok _) new = Makes old (opened s) new × IsOpen new s
OpenGives old s (Err Full) new = (SESSIONS ≤ length old.sessions) × (new ≡ old)
OpenGives old s (Err NoMem) new = (length old.sessions < SESSIONS) × (new ≡ old)

-- The answer to bytes that arrived: they are held; or the session had ended, or ended out of memory.
abbrev pub FedGives : State → ℕ → Fed → State → Type 0
FedGives old s Held new = cause_of new s ≡ None
FedGives old s (HadEnded c) new = (cause_of new s ≡ Some c) × MatchOption (cause_of old s) (c ≡ Memory) (λ d. d ≡ c)

-- A line of a session may be run: no session sent `stop`, this one hasn't ended, and it holds a line, or a front that
-- is too long for one.
abbrev pub may_run : State → ℕ → Bool
may_run st s = not st.stopped && (is_none (cause_of st s) && not (is_dry (held_of st s)))

-- the first open session of at least this id of which a line may be run
abbrev pub first_ready : State → ℕ → Option ℕ
first_ready st from = find (λ s. nat_le from s && may_run st s) (state_ids st)

-- One step of a session's line. What it logs follows the lines of the commit.
pub record StepsLine (old : State) (s : ℕ) (new : State) (before now : Counts) (commit commit' : List Bytes) : Type 0
  where
    pub outcome : LineOutcome
    pub makes : MakesCounted old (stepped s outcome) new before now
    pub logs : commit' ≡ commit ++ lines_in (kept_group (stepped s outcome) makes.effect.kept)
