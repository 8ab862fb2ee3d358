-- To none so far is anything due.
use Rattle.std.specs.Prelude.{◌≡◌, drop, find}
use Rattle.djq_core.proofs.Placed.{passes_from}
use Rattle.djq_session.specs.Dialog.{dialog_is_due}
use Rattle.djq_core.proofs.sessions.Sessions.first_due.Given as goal

abbrev pub invariant-loop-at : goal.invariant-loop-at
invariant-loop-at l =
    find (passes_from dialog_is_due l.fn.from) l.fn.self ≡ find (passes_from dialog_is_due l.fn.from) (drop l.at l.fn.self)
