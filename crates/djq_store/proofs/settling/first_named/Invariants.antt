use Rattle.std.proofs.Common.{◌≡◌, take}
use Rattle.std.specs.Prelude.{find, None}
use Rattle.djq_store.specs.Settling.{some_read, named_by}
use Rattle.djq_store.proofs.settling.first_named.Given as goal

abbrev pub invariant-loop-at : goal.invariant-loop-at
invariant-loop-at l = find (some_read l.queries l.members) (take l.at (named_by (l.held).lines)) ≡ None
