use Rattle.std.proofs.Common.{◌≡◌, ◌≤◌, take}
use Rattle.std.specs.Prelude.{filter, vec_capacity}
use Rattle.djq_reach.specs.Places.{is_reader}
use Rattle.djq_queries.specs.Changing.{touched}
use Rattle.djq_engine.proofs.outdating.affect_reached.Given as goal

abbrev pub invariant-loop-nth : goal.invariant-loop-nth
invariant-loop-nth l = record {
  items : l.affected.items ≡ filter (is_reader (touched l.readers.items l.come l.gone)) (take l.nth l.order);
  room : vec_capacity l.fn.affected ≤ vec_capacity l.affected;
}
