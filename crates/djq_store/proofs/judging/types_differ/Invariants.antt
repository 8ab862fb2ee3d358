use Rattle.std.proofs.Common.{◌≡◌, false, take}
use Rattle.djq_store_spec.specs.Union.{types_differ}
use Rattle.djq_store.specs.Places.{store_kept_in}
use Rattle.djq_store.proofs.judging.types_differ.Given as goal

abbrev pub invariant-loop-nth : goal.invariant-loop-nth
invariant-loop-nth l = types_differ (store_kept_in l.parts).store (take l.nth l.names) ≡ false
