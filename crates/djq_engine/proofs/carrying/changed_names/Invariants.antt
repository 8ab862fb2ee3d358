-- The names are those of the changed relations of the lines so far.
use Rattle.std.proofs.Common.{◌≡◌, take}
use Rattle.djq_engine.specs.Transacting.{with_name_of}
use Rattle.djq_engine.proofs.ReachedQueries.{named_so_far}
use Rattle.djq_engine.proofs.carrying.changed_names.Given as goal

abbrev pub invariant-loop-at : goal.invariant-loop-at
invariant-loop-at l = l.names.items ≡ named_so_far l.catalog.relations l.held.lines l.at
