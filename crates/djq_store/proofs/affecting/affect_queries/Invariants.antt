use Rattle.std.proofs.Common.{◌≡◌, ◌≤◌, take, map}
use Rattle.std.specs.Prelude.{vec_capacity}
use Rattle.djq_engine.specs.declared.cursor.QueryId.{QueryId}
use Rattle.djq_store.proofs.affecting.affect_queries.Given as goal

abbrev pub invariant-loop-nth : goal.invariant-loop-nth
invariant-loop-nth l = record {
  items : l.affected.items ≡ map (λ (id : QueryId). id.at) (take l.nth l.engine.affected);
  room : vec_capacity l.fn.affected ≤ vec_capacity l.affected;
}
