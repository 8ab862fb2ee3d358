-- Of none so far may a line be run.
use Rattle.std.specs.Prelude.{◌≡◌, drop, find}
use Rattle.djq_core.proofs.Placed.{passes_from}
use Rattle.djq_session.specs.Dialog.{dialog_is_ready}
use Rattle.djq_core.proofs.sessions.Sessions.first_ready.Given as goal

abbrev pub invariant-loop-at : goal.invariant-loop-at
invariant-loop-at l =
    find (passes_from dialog_is_ready l.fn.from) l.fn.self ≡ find (passes_from dialog_is_ready l.fn.from) (drop l.at l.fn.self)
