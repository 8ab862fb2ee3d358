-- Runs of the machine, and what they queue, send and cost.
use Rattle.std.specs.Prelude.{ℕ, List, [], ◌∷◌, ◌++◌, ◌==◌, ◌≡◌, Option, None, Some, sum_by, codes, if◌then◌else◌}
use Rattle.std.specs.List.{flat_map}
use Rattle.djq_model.specs.Data.{Bytes}
use Rattle.djq_machine.specs.State.{State, Session, session_of}
use Rattle.djq_protocol.specs.Line.{a_line, front_of}
use Rattle.djq_machine.specs.Keeping.{Keeping, no_line, the_line, the_batch}
use Rattle.djq_machine.specs.Effect.{Effect}
pub use Rattle.djq_machine.specs.Walk.{Walk}
use Rattle.djq_machine.specs.LineStep.{LineOutcome, long, blank, slow, no_room, run}
use Rattle.djq_machine.specs.Step.{Event, fed, stepped, took, Step}

-- an event and what it did
pub record Did : Type 0 where
  pub event : Event
  pub effect : Effect

-- A run: one step after another.
abbrev pub Run : State → List Did → State → Type 0
Run = Walk (λ old d new. Step old d.event d.effect new)

-- what is queued to one session, of what is queued to all
abbrev pub to_session : ℕ → List (ℕ × Bytes) → Bytes
to_session s queued = flat_map (λ q. if q.0 == s then q.1 else []) queued

-- all that was queued to a session
abbrev pub out : ℕ → List Did → Bytes
out s done = flat_map (λ d. to_session s d.effect.queued) done

-- what an event removes from a session's pending bytes, as sent to it
abbrev pub taken_from : ℕ → Event → Bytes
taken_from s (took t bytes) = if t == s then bytes else []
taken_from s _ = []

-- all that was sent
abbrev pub all_taken : ℕ → List Did → Bytes
all_taken s done = flat_map (λ d. taken_from s d.event) done

-- what an event brings to a session
abbrev pub fed_by : ℕ → Event → Bytes
fed_by s (fed t bytes) = if t == s then bytes else []
fed_by s _ = []

-- all that was brought to a session
abbrev pub all_fed : ℕ → List Did → Bytes
all_fed s done = flat_map (λ d. fed_by s d.event) done

-- the pieces that an event brings, whatever session they are for
abbrev pub piece_of : Event → List Bytes
piece_of (fed s bytes) = bytes ∷ []
piece_of _ = []

-- all pieces that were brought, in order
abbrev pub pieces_of : List Did → List Bytes
pieces_of done = flat_map (λ d. piece_of d.event) done

-- the line that an outcome removes
abbrev pub line_in : LineOutcome → List Bytes
line_in long = []
line_in (blank l) = l ∷ []
line_in (slow l) = l ∷ []
line_in (no_room l) = l ∷ []
line_in (run l) = l ∷ []

-- the line that an event removes from a session's input
abbrev pub line_by : ℕ → Event → List Bytes
line_by s (stepped t outcome) = if t == s then line_in outcome else []
line_by s _ = []

-- the lines that were removed from a session's input, in order
abbrev pub lines_of : ℕ → List Did → List Bytes
lines_of s done = flat_map (λ d. line_by s d.event) done

-- Bytes are cut into these lines, and the rest after them.
abbrev pub CutsInto : Bytes → List Bytes → Bytes → Type 0
CutsInto bytes [] rest = bytes ≡ rest
CutsInto bytes (l ∷ ls) rest = (behind : Bytes) × (front_of bytes ≡ a_line l behind) × CutsInto behind ls rest

-- the most lookups and links that a run may count
abbrev pub cost_of : List Did → ℕ
cost_of done = sum_by (λ d. d.effect.cost) done

-- what is pending for a session; nothing if it isn't open
abbrev pub pending_in : Option Session → Bytes
pending_in None = []
pending_in (Some x) = x.pending

-- what is pending for the session of an id; nothing if it isn't open
abbrev pub pending_of : State → ℕ → Bytes
pending_of st s = pending_in (session_of st s)

-- what is logged as one: the lines that are loaded all or none
abbrev pub Group : Type 0
Group = List Bytes

-- the group that is logged if this line is run: the line, or the batch that it ends, whole
abbrev pub groups_in : Bytes → Keeping → List Group
groups_in l no_line = []
groups_in l the_line = (l ∷ []) ∷ []
groups_in l (the_batch held) = (codes "batch" ∷ held ++ codes "done" ∷ []) ∷ []

-- the group that a step logs
abbrev pub kept_group : Event → Keeping → List Group
kept_group (stepped s (run l)) keeping = groups_in l keeping
kept_group _ _ = []

-- the groups that a run logs, in order
abbrev pub groups_of : List Did → List Group
groups_of done = flat_map (λ d. kept_group d.event d.effect.kept) done

-- the lines of groups
abbrev pub lines_in : List Group → List Bytes
lines_in groups = flat_map (λ group. group) groups
