-- What a mirror makes of all that a session was ever sent, along a whole run.
use Rattle.std.specs.Prelude.{ℕ, List, [], ◌∷◌, ◌++◌, ◌≡◌, ◌<◌, ◌⊎◌, All, AllPairs}
use Rattle.djq_model.specs.declared.relation.Relation.{Relation}
use Rattle.djq_model.specs.Data.{Bytes}
use Rattle.djq_model.specs.Listed.{Listed, AnswersOf}
use Rattle.djq_mirror.specs.Mirror.{Held}
use Rattle.djq_mirror.specs.Inputs.{HoldsAtEnd, FirstIsRefused}
use Rattle.djq_machine.specs.State.{State}
use Rattle.djq_machine.specs.Step.{opened, Step}
use Rattle.djq_machine.specs.Run.{Did, Run, out}
use Rattle.djq_run_laws.specs.Moved.{SparesSession}
use Rattle.djq_run_laws.specs.Sent.{all_opened}
use Rattle.djq_run_laws.specs.Sound.{IsStart}
use Rattle.djq_run_laws.specs.Silent.{OpensNone}
use Rattle.djq_mirror_laws.specs.Sayable.{IsSayableStore}
use Rattle.djq_mirror_laws.specs.Mirrored.{HoldsTextsOf, SessionReads, EndsNow, IsReadBack}

-- What follows a session that reads a query: nothing; or it sends `quit` or `stop`, or its input ends, or it is
-- closed, and then whatever follows, but for a session of its id.
abbrev pub LeavesOff : ℕ → State → List Did → State → Type 0
LeavesOff s old [] new = new ≡ old
LeavesOff s old (d ∷ later) new = (mid : State) × Step old d.event d.effect mid × EndsNow s d.event
    × Run mid later new × All (λ e. OpensNone s e.event) later

-- The same, whatever follows.
abbrev pub GoesOnBehind : ℕ → State → List Did → State → Type 0
GoesOnBehind s old [] new = new ≡ old
GoesOnBehind s old (d ∷ later) new =
    (mid : State) × Step old d.event d.effect mid × EndsNow s d.event × Run mid later new

-- A whole run of a session: nothing is queued to it, until it waits, begins to watch a query, and reads it through
-- one cursor at a time. It does so up to a state, the last one, or the one in which it sends `quit` or `stop`, its
-- input ends, or it is closed.
pub record ReadsWhole (q : Listed) (s : ℕ) (start : State) (whole : List Did) (at new : State) : Type 0
  where
    pub earlier : List Did
    pub first : State
    pub comes : Run start earlier first
    pub unsaid : out s earlier ≡ []
    pub fore : List Did
    pub old : State
    pub done : List Did
    pub reads : SessionReads q s first fore old done at
    pub later : List Did
    pub leaves : LeavesOff s at later new
    pub is : whole ≡ earlier ++ ((fore ++ done) ++ later)

-- The whole of what is queued to such a session gives what a mirror holds: no byte of it is refused. And if the
-- mirror is live, it holds the query's answers over the rows of that state: those that are there now, if the session
-- isn't ended, and else those that there were as it ended or was closed.
abbrev pub SessionsAreReadBack : Type 0
SessionsAreReadBack = (start : State) → IsStart start → IsSayableStore start.store → (q : Listed) (s : ℕ)
    (whole : List Did) (at new : State) → ReadsWhole q s start whole at new → IsReadBack q s whole at

-- Such a run of a session, from the step on in which it opens; and then it sends `quit` or `stop`, its input ends,
-- or it is closed, and whatever follows that.
pub record ReadsSinceOpened (q : Listed) (s : ℕ) (start : State) (whole : List Did) (at new : State) : Type 0
  where
    pub earlier : List Did
    pub mid : State
    pub comes : Run start earlier mid
    pub opening : Did
    pub is_opened : opening.event ≡ opened s
    pub first : State
    pub opens : Step mid opening.event opening.effect first
    pub fore : List Did
    pub old : State
    pub done : List Did
    pub reads : SessionReads q s first fore old done at
    pub later : List Did
    pub leaves : GoesOnBehind s at later new
    pub is : whole ≡ earlier ++ (opening ∷ ((fore ++ done) ++ later))

-- No session opens twice, or this one isn't closed.
abbrev pub OpensOnceOnly : ℕ → List Did → Type 0
OpensOnceOnly s whole = AllPairs (λ i j. i < j) (all_opened whole) ⊎ All (λ d. SparesSession d.event s) whole

-- So the whole of what is queued to such a session is read back too.
abbrev pub OpenedAreReadBack : Type 0
OpenedAreReadBack = (start : State) → IsStart start → IsSayableStore start.store → (q : Listed) (s : ℕ)
    (whole : List Did) (at new : State) → OpensOnceOnly s whole → ReadsSinceOpened q s start whole at new
    → IsReadBack q s whole at

-- The result of an input in a mirror is the only one: no line of it is refused, and whatever a mirror holds after it
-- is in the same mode and shows the same answers.
abbrev pub HeldAlone : Type 0
HeldAlone = (name input : Bytes) (held : Held) → HoldsAtEnd name input held
    → ((n : ℕ) → FirstIsRefused name input n → ⊥)
    × ((other : Held) → HoldsAtEnd name input other
    → (other.mode ≡ held.mode) × ((q : Listed) (relations : List Relation)
    → HoldsTextsOf held (AnswersOf relations q) → HoldsTextsOf other (AnswersOf relations q)))
