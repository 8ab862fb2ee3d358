use Rattle.std.proofs.Common.{◌≡◌, take}
use Rattle.std.specs.Prelude.{find, None}
use Rattle.djq_store.specs.Settling.{some_read}
use Rattle.djq_store.proofs.settling.first_read.Given as goal

abbrev pub invariant-loop-relation : goal.invariant-loop-relation
invariant-loop-relation l =
    find (some_read l.queries l.members) (take l.relation-index l.relations) ≡ None
