-- Which steps run no `stop`.
use Rattle.std.specs.Prelude.{◌≡◌, ◌≢◌}
use Rattle.djq_machine.specs.State.{State}
use Rattle.djq_machine.specs.Keeping.{no_line}
use Rattle.djq_machine.specs.Effect.{Effect}
use Rattle.djq_machine.specs.Step.{Event, Step}

-- A step that logs a group of lines runs no `stop`.
abbrev pub KeptSaysNoStop : Type 0
KeptSaysNoStop = (old : State) (event : Event) (e : Effect) (new : State) → Step old event e new
    → e.kept ≢ no_line → new.stopped ≡ old.stopped
