use Rattle.std.proofs.Common.{◌≡◌, length}
use Rattle.djq_protocol.specs.Rest.{is_before}
use Rattle.djq_binder.proofs.rest.is_before.Given as goal

abbrev pub invariant-variables : goal.invariant-variables
invariant-variables l = is_before l.edge l.other ≡ is_before l.fn.edge l.fn.other

abbrev pub decreases-variables : goal.decreases-variables
decreases-variables l = length l.edge
