-- The lines that are removed from a session's input, against the bytes that arrived for it.
use Rattle.std.specs.Prelude.{ℕ, List, [], ◌≡◌, ◌++◌, None, All}
use Rattle.djq_model.specs.Data.{Bytes}
use Rattle.djq_machine.specs.State.{State}
use Rattle.djq_machine.specs.Run.{Did, Run, all_fed, lines_of, CutsInto}
use Rattle.djq_machine.specs.Call.{cause_of, held_of}
use Rattle.djq_run_laws.specs.Moved.{SparesSession}

-- All bytes of a session, those that it held and those that arrived, are cut into the lines that
-- were removed from its input, in order, and a rest: what it holds, and what was dropped. Nothing
-- is dropped as long as it has no end cause.
pub record TakesInOrder (s : ℕ) (old : State) (done : List Did) (new : State) : Type 0 where
  pub dropped : Bytes
  pub cut : CutsInto (held_of old s ++ all_fed s done) (lines_of s done) (held_of new s ++ dropped)
  pub all_held : cause_of new s ≡ None → dropped ≡ []

-- A session's bytes are run in order, whatever the other sessions do: so it is along every run in
-- which it isn't closed.
abbrev pub LinesInOrder : Type 0
LinesInOrder = (s : ℕ) (old : State) (done : List Did) (new : State) → Run old done new
    → All (λ d. SparesSession d.event s) done → TakesInOrder s old done new
