use Rattle.std.proofs.Common.{◌≡◌, ◌≤◌, take}
use Rattle.std.specs.Prelude.{vec_len, vec_capacity}
use Rattle.djq_reach.specs.Places.{readers_at}
use Rattle.djq_engine.proofs.rows.affect.Given as goal

abbrev pub invariant-loop-place : goal.invariant-loop-place
invariant-loop-place l = record {
  items : l.affected.items ≡ take l.place-index l.place-items;
  readers : l.place-items ≡ readers_at l.readers.items l.fn.id.at;
  long : vec_len l.affected ≡ l.place-index;
  room : vec_capacity l.fn.affected ≤ vec_capacity l.affected;
}
