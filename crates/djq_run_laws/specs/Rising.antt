-- The order of open sessions.
use Rattle.std.specs.Prelude.{List, ◌<◌, AllPairs}
use Rattle.djq_machine.specs.State.{State}
use Rattle.djq_machine.specs.Run.{Did, Run}
use Rattle.djq_machine.specs.Call.{state_ids}

-- The ids of the open sessions rise, so that no two are equal.
abbrev pub AreRising : State → Type 0
AreRising st = AllPairs (λ s t. s < t) (state_ids st)

-- Along every run the open sessions stay by rising id.
abbrev pub IdsRise : Type 0
IdsRise = (old : State) (done : List Did) (new : State) → Run old done new → AreRising old
    → AreRising new
