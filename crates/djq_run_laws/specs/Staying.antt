-- How long a session watches a query.
use Rattle.std.specs.Prelude.{ℕ, List, ◌==◌, ◌≡◌, true, false, None, IsSomeAnd, All}
use Rattle.djq_model.specs.Listed.{Listed, listed_name}
use Rattle.djq_protocol.specs.declared.command.Command.TheVariants.{Unwatch}
use Rattle.djq_protocol.specs.Grammar.{says_command, reading_of}
use Rattle.djq_machine.specs.State.{State, session_of}
use Rattle.djq_machine.specs.LineStep.{run}
use Rattle.djq_machine.specs.Step.{Event, stepped, closed}
use Rattle.djq_machine.specs.Run.{Did, Run}
use Rattle.djq_run_laws.specs.Watched.{IsWatcher, WatchesAlong}

-- A session is open, and hasn't ended.
abbrev pub GoesOn : State → ℕ → Type 0
GoesOn st s = IsSomeAnd (session_of st s) (λ x. x.cause ≡ None)

-- An event isn't `unwatch` of this query by this session, and doesn't close it.
abbrev pub KeepsWatch : Listed → ℕ → Event → Type 0
KeepsWatch q s (stepped t (run l)) =
    (t == s) ≡ true → reading_of l ≡ says_command (Unwatch (listed_name q)) → ⊥
KeepsWatch q s (closed t bytes) = (t == s) ≡ false
KeepsWatch q s _ = Unit {0}

-- A session that watches a registered query does so as long as it isn't ended and doesn't unwatch
-- it; the query stays registered.
abbrev pub WatchersStay : Type 0
WatchersStay = (q : Listed) (s : ℕ) (old : State) (done : List Did) (new : State) → Run old done new
    → All (λ d. KeepsWatch q s d.event) done → IsWatcher q s old → GoesOn new s
    → WatchesAlong q s old done new
