-- Which lines are run before which, and that none waits for a round.
use Rattle.std.specs.Prelude.{ℕ, List, ◌∷◌, ◌++◌, ◌==◌, ◌≡◌, ◌≢◌, ◌<◌, ◌≤◌, Bool, true, false, All}
use Rattle.std.specs.List.{list_any}
use Rattle.djq_machine.specs.Step.{Event, stepped}
use Rattle.djq_machine.specs.Run.{Walk, Did}
use Rattle.djq_machine.specs.Call.{may_run}
use Rattle.djq_serve.specs.Told.{turns_in}
use Rattle.djq_serve.specs.Server.{Server, Move, MakesMove, waiting, all_told}

-- whether an event is a line of this session
abbrev pub is_line_of : ℕ → Event → Bool
is_line_of s (stepped t outcome) = t == s
is_line_of s _ = false

-- whether a move runs a line of this session
abbrev pub runs_line : ℕ → Move → Bool
runs_line s m = list_any (λ (d : Did). is_line_of s d.event) m.done

-- Two lines of one session are run in a round, and none of it between them.
pub record RunsTwice (s : ℕ) (one : Move) (mid : List Move) (two : Move) : Type 0 where
  pub first : runs_line s one ≡ true
  pub second : runs_line s two ≡ true
  pub none : All (λ m. runs_line s m ≡ false) mid
  pub one_round : turns_in (all_told mid) ≡ 0

-- **Between two lines of one session** each other session that has a line, as the second is run, runs one.
abbrev pub RunsFairly : ℕ → Server → List Move → Server → Type 0
RunsFairly most old moves new = (before : List Move) (one : Move) (mid : List Move) (two : Move) (later : List Move)
    (at : Server)
    → moves ≡ before ++ one ∷ (mid ++ two ∷ later)
    → Walk (MakesMove most) old (before ++ one ∷ mid) at → Walk (MakesMove most) at (two ∷ later) new
    → (s : ℕ) → RunsTwice s one mid two
    → (t : ℕ) → t ≢ s → may_run at.state t ≡ true → list_any (runs_line t) mid ≡ true

-- **No line waits for a round**: whenever the server is before one, no session has a line that may be run.
abbrev pub LeavesNoLine : ℕ → Server → List Move → Server → Type 0
LeavesNoLine most old moves new = (before later : List Move) (at : Server)
    → moves ≡ before ++ later → Walk (MakesMove most) old before at → Walk (MakesMove most) at later new
    → at.phase ≡ waiting → (t : ℕ) → may_run at.state t ≡ false

-- **If a round has one turn at most** each is a round of its own: it is read as a round begins, and not
-- before all that the one before it brought was run and offered.
abbrev pub TakesSingleTurns : ℕ → Server → List Move → Type 0
TakesSingleTurns most old moves = most ≤ 1 → (before later : List Move) (m : Move) (at next : Server)
    → moves ≡ before ++ m ∷ later
    → Walk (MakesMove most) old before at → MakesMove most at m next
    → 0 < turns_in m.told → at.phase ≡ waiting
