-- When nothing more is queued to a session.
use Rattle.std.specs.Prelude.{ℕ, List, [], ◌++◌, ◌==◌, ◌≡◌, false, All}
use Rattle.djq_machine.specs.State.{State}
use Rattle.djq_machine.specs.Step.{Event, opened}
use Rattle.djq_machine.specs.Run.{Did, Run, out}
use Rattle.djq_machine.specs.Call.{IsOpen}
use Rattle.djq_run_laws.specs.Sent.{SessionsOpenOnce}
use Rattle.djq_run_laws.specs.Sound.{IsSoundState}
use Rattle.djq_run_laws.specs.Staying.{GoesOn}

-- A session has ended, or isn't open.
abbrev pub SessionIsOver : State → ℕ → Type 0
SessionIsOver st s = GoesOn st s → ⊥

-- An event opens no session of this id.
abbrev pub OpensNone : ℕ → Event → Type 0
OpensNone s (opened t) = (t == s) ≡ false
OpensNone s _ = Unit {0}

-- Nothing is queued to a session along a run, and after it the session is over.
pub record SessionStaysOver (s : ℕ) (done : List Did) (new : State) : Type 0 where
  pub silent : out s done ≡ []
  pub over : SessionIsOver new s

-- So it is along every run in which a session is over, as long as none of its id opens: no reply is
-- queued after its end, and no delta.
abbrev pub OverIsSilent : Type 0
OverIsSilent = (s : ℕ) (old : State) → IsSoundState old → SessionIsOver old s → (done : List Did) (new : State)
    → Run old done new → All (λ d. OpensNone s d.event) done → SessionStaysOver s done new

-- So it is for good of a session that was open, if no session opens twice.
abbrev pub OverOnce : Type 0
OverOnce = (s : ℕ) (old : State) → IsSoundState old → IsOpen old s → (done : List Did) (mid : State)
    → Run old done mid → SessionIsOver mid s → (later : List Did) (new : State) → Run mid later new
    → SessionsOpenOnce old (done ++ later) → SessionStaysOver s later new
