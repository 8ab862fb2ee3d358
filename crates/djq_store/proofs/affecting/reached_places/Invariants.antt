use Rattle.std.proofs.Common.{◌≡◌, ℕ, false, length, take, slice_index_or}
use Rattle.djq_protocol.specs.declared.limits.TheConstants.{QUERIES}
use Rattle.djq_store.specs.Affecting.{is_reached_id}
use Rattle.djq_store.proofs.affecting.reached_places.Given as goal

abbrev pub invariant-loop-nth : goal.invariant-loop-nth
invariant-loop-nth l = record {
  long : length l.reached ≡ QUERIES;
  each : (i : ℕ) → slice_index_or l.reached i false ≡ is_reached_id (take l.nth l.engine.affected) i;
}
