use Rattle.std.proofs.Common.{◌≡◌, ◌≤◌, take}
use Rattle.std.specs.Prelude.{filter, vec_capacity}
use Rattle.djq_store.specs.Affecting.{is_reached_id, is_affected}
use Rattle.djq_store.proofs.affecting.affect.Given as goal

abbrev pub invariant-loop-nth : goal.invariant-loop-nth
invariant-loop-nth l = record {
  items : l.affected.items ≡ filter (is_affected (is_reached_id l.engine.affected) l.unions) (take l.nth l.order);
  room : vec_capacity l.fn.affected ≤ vec_capacity l.affected;
}
