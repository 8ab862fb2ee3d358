use Rattle.std.proofs.Common.{◌≡◌, take}
use Rattle.djq_binder.specs.Ordering.{in_order}
use Rattle.djq_binder.proofs.rest.in_order.Given as goal

abbrev pub invariant-edges : goal.invariant-edges
invariant-edges l = l.sorted.items ≡ in_order (take l.i l.edges)
