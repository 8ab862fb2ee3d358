-- What a mirror makes of what a session is sent that watches a query and lists it.
use Rattle.std.specs.Prelude.{ℕ, List, [], ◌∷◌, ◌++◌, ◌==◌, ◌≡◌, true, None, IsSomeAnd, All}
use Rattle.djq_model.specs.Data.{Bytes, Tuple}
use Rattle.djq_model.specs.Listed.{Listed, listed_name, AnswersOf}
use Rattle.djq_protocol.specs.Reply.{cells_text}
use Rattle.djq_protocol.specs.declared.command.Command.{Command}
use Rattle.djq_protocol.specs.declared.command.Command.TheVariants.{
  Rel,
  Add,
  Del,
  Query as Register,
  Union,
  Open,
  Next,
  Close,
  Explain,
  Batch,
  Done,
  Abandon,
  Quit,
  Stop,
}
use Rattle.djq_protocol.specs.Grammar.{Reading, says_command, reading_of}
use Rattle.djq_mirror.specs.declared.mode.Mode.TheVariants.{Live}
use Rattle.djq_mirror.specs.Inputs.{HoldsAtEnd}
use Rattle.djq_mirror.specs.Replies.{Reply, IsPrinted}
use Rattle.djq_mirror.specs.Mirror.{Held, at_first, turn_of, allows, has_text, IsInOrder, Turned}
use Rattle.djq_machine.specs.State.{State, Session, session_of}
use Rattle.djq_machine.specs.LineStep.{run}
use Rattle.djq_machine.specs.Step.{Event, stepped, ended, closed, Step}
use Rattle.djq_machine.specs.Run.{Did, Walk, Run, out}
use Rattle.djq_machine.specs.Gives.{CursorsGive}
use Rattle.djq_run_laws.specs.Sound.{IsSoundState, IsStart}
use Rattle.djq_run_laws.specs.Staying.{GoesOn}
use Rattle.djq_run_laws.specs.Watched.{WatchesAlong}
use Rattle.djq_mirror_laws.specs.Sayable.{IsSayableStore, IsSayableState}
use Rattle.djq_mirror_laws.specs.Lines.{IsShort}
use Rattle.djq_mirror_laws.specs.Told.{replies_text}

-- Replies, one after the other, are allowed in a mirror of the query of a name, and this is held
-- after them.
abbrev pub RepliesPass : Bytes → Held → List Reply → Held → Type 0
RepliesPass name old [] new = new ≡ old
RepliesPass name old (r ∷ rs) new =
    (between : Held) × (allows name old r ≡ true) × Turned old (turn_of name old.mode r) between
    × RepliesPass name between rs new

-- What is held are the texts of these tuples, in byte order.
pub record HoldsTextsOf (held : Held) (These : Tuple → Type 0) : Type 0 where
  pub order : IsInOrder held.texts
  pub texts : (u : Bytes) → has_text held.texts u ≡ true → (t : Tuple) × These t × (cells_text t ≡ u)
  pub tuples : (t : Tuple) → These t → has_text held.texts (cells_text t) ≡ true

-- The commands by which a session changes rows, one by one or in batches, registers, and reads the query
-- of a name through one cursor at a time.
abbrev pub MayBeSaid : Bytes → Session → Command → Type 0
MayBeSaid name x (Rel relation types) = Unit {0}
MayBeSaid name x (Add relation row) = Unit {0}
MayBeSaid name x (Del relation row) = Unit {0}
MayBeSaid name x (Register q) = Unit {0}
MayBeSaid name x (Union u members) = Unit {0}
MayBeSaid name x (Open c q) = (q ≡ name) × All (λ k. k.name ≡ c) x.cursors
MayBeSaid name x (Next c count) = Unit {0}
MayBeSaid name x (Close c) = Unit {0}
MayBeSaid name x Batch = Unit {0}
MayBeSaid name x (Done given) = Unit {0}
MayBeSaid name x Abandon = Unit {0}
MayBeSaid name x _ = ⊥

-- A line is none, or is such a command.
abbrev pub MayBeRead : Bytes → Session → Reading → Type 0
MayBeRead name x (says_command c) = MayBeSaid name x c
MayBeRead name x _ = Unit {0}

-- What a session sends is such.
abbrev pub ReadsOnly : Bytes → ℕ → State → Event → Type 0
ReadsOnly name s st (stepped t (run l)) =
    (t == s) ≡ true → IsSomeAnd (session_of st s) (λ x. MayBeRead name x (reading_of l))
ReadsOnly name s st _ = Unit {0}

-- So it is in each state of a run.
abbrev pub ReadsAlong : (q : Listed) (s : ℕ) (old : State) (done : List Did) (new : State)
    → WatchesAlong q s old done new → Type 0
ReadsAlong q s old [] new walk = Unit {0}
ReadsAlong q s old (d ∷ done) new walk =
    ReadsOnly (listed_name q) s old d.event × ReadsAlong q s walk.0 done new walk.2

-- The replies that are all that is queued to a session are allowed in a mirror of the query, from the
-- first one on; and if the mirror is live after them, it holds the query's answers over the rows
-- of a state.
pub record IsMirrored (q : Listed) (s : ℕ) (done : List Did) (at : State) : Type 0 where
  pub replies : List Reply
  pub whole : out s done ≡ replies_text replies
  pub held : Held
  pub passes : RepliesPass (listed_name q) at_first replies held
  pub live : held.mode ≡ Live → HoldsTextsOf held (AnswersOf at.store.relations q)

-- So it is along every run in which a session watches a query, from a state in which it has no cursor yet, if
-- it reads the query through one cursor at a time.
abbrev pub WatchersAreMirrored : Type 0
WatchersAreMirrored = (q : Listed) (s : ℕ) (old : State) → IsSoundState old → IsSayableState old
    → CursorsGive old → IsSomeAnd (session_of old s) (λ x. x.cursors ≡ []) → (done : List Did)
    (new : State) (walk : WatchesAlong q s old done new) → ReadsAlong q s old done new walk
    → IsMirrored q s done new

-- A session isn't ended, and has no watch and no cursor.
abbrev pub IsWaiting : ℕ → State → Type 0
IsWaiting s st =
    IsSomeAnd (session_of st s) (λ x. (x.cause ≡ None) × (x.watches ≡ []) × (x.cursors ≡ []))

-- A line asks for no listing: it opens no cursor and reads none, and explains no query.
abbrev pub AsksNoListing : Reading → Type 0
AsksNoListing (says_command (Open c q)) = ⊥
AsksNoListing (says_command (Next c count)) = ⊥
AsksNoListing (says_command (Explain q)) = ⊥
AsksNoListing r = Unit {0}

-- An event runs no line of this session that asks for a listing.
abbrev pub SaysNoListing : ℕ → Event → Type 0
SaysNoListing s (stepped t (run l)) = (t == s) ≡ true → AsksNoListing (reading_of l)
SaysNoListing s event = Unit {0}

-- It waits before a step, in which it may send a line that asks for no listing, as `watch`; and after it isn't
-- ended.
pub record WaitsStep (s : ℕ) (old : State) (d : Did) (new : State) : Type 0 where
  pub before : IsWaiting s old
  pub step : Step old d.event d.effect new
  pub says : SaysNoListing s d.event
  pub behind : GoesOn new s

-- A run in each state of which, but for the last, it does so.
abbrev pub WaitsAlong : ℕ → State → List Did → State → Type 0
WaitsAlong s = Walk (WaitsStep s)

-- A session waits, begins to watch a query, and reads it through one cursor at a time.
pub record SessionReads (q : Listed) (s : ℕ) (first : State) (fore : List Did) (old : State) (done : List Did)
    (new : State) : Type 0 where
  pub waits : WaitsAlong s first fore old
  pub none : IsSomeAnd (session_of old s) (λ x. x.cursors ≡ [])
  pub walk : WatchesAlong q s old done new
  pub reads : ReadsAlong q s old done new walk

-- So it is from the first line on that the session sends.
abbrev pub ReadersAreMirrored : Type 0
ReadersAreMirrored = (q : Listed) (s : ℕ) (first : State) → IsSoundState first → IsSayableState first
    → CursorsGive first → (fore : List Did) (old : State) (done : List Did) (new : State)
    → SessionReads q s first fore old done new → IsMirrored q s (fore ++ done) new

-- So it is in every run from a state to start from whose names and values lines can express.
abbrev pub StartsAreMirrored : Type 0
StartsAreMirrored = (start : State) → IsStart start → IsSayableStore start.store → (q : Listed) (s : ℕ)
    (earlier : List Did) (first : State) → Run start earlier first → (fore : List Did) (old : State)
    (done : List Did) (new : State) → SessionReads q s first fore old done new
    → IsMirrored q s (fore ++ done) new

-- A line is `quit` or `stop`.
abbrev pub SaysItLeaves : Reading → Type 0
SaysItLeaves (says_command Quit) = Unit {0}
SaysItLeaves (says_command Stop) = Unit {0}
SaysItLeaves r = ⊥

-- A session sends `quit` or `stop`, or its input ends, or it is closed.
abbrev pub EndsNow : ℕ → Event → Type 0
EndsNow s (stepped t (run l)) = (t ≡ s) × SaysItLeaves (reading_of l)
EndsNow s (ended t) = t ≡ s
EndsNow s (closed t bytes) = t ≡ s
EndsNow s event = ⊥

-- And if it ends so after that, the mirror follows its last lines too: that a line was cut, that lines of a batch
-- are dropped, and `bye`. It holds the answers over the rows as they were when it ended.
abbrev pub EndsAreMirrored : Type 0
EndsAreMirrored = (q : Listed) (s : ℕ) (done : List Did) (new : State) → IsMirrored q s done new
    → (d : Did) (last : State) → Step new d.event d.effect last → EndsNow s d.event
    → IsMirrored q s (done ++ d ∷ []) new

-- If these replies are printed, and none is too long, the mirror's whole input gives what it holds: none of its
-- bytes is refused.
abbrev pub MirroredAreHeld : Type 0
MirroredAreHeld = (q : Listed) (s : ℕ) (done : List Did) (at : State) (m : IsMirrored q s done at)
    → All (λ r. IsPrinted r × IsShort r) m.replies → HoldsAtEnd (listed_name q) (out s done) m.held

-- The whole of what a session was sent gives what a mirror holds, from the first of its bytes to the last; and if
-- the mirror is live, it holds the query's answers over the rows of a state.
pub record IsReadBack (q : Listed) (s : ℕ) (done : List Did) (at : State) : Type 0 where
  pub held : Held
  pub input : HoldsAtEnd (listed_name q) (out s done) held
  pub live : held.mode ≡ Live → HoldsTextsOf held (AnswersOf at.store.relations q)

-- So it is in every run from a state to start from whose names and values lines can express; and after the
-- session's `quit` or `stop`, or the end of its input, or as it is closed, of the rows as they were then.
abbrev pub ReadersAreReadBack : Type 0
ReadersAreReadBack = (start : State) → IsStart start → IsSayableStore start.store → (q : Listed) (s : ℕ)
    (earlier : List Did) (first : State) → Run start earlier first → (fore : List Did) (old : State)
    (done : List Did) (new : State) → SessionReads q s first fore old done new
    → IsReadBack q s (fore ++ done) new
    × ((d : Did) (last : State) → Step new d.event d.effect last → EndsNow s d.event
    → IsReadBack q s ((fore ++ done) ++ d ∷ []) new)
