use Rattle.std.proofs.Common.{◌≡◌, length}
use Rattle.djq_arena.specs.Store.{AreInBuckets}
use Rattle.djq_arena.proofs.store.list_all.Given as goal

abbrev pub invariant-loop-slot : goal.invariant-loop-slot
invariant-loop-slot l = record {
  listed : AreInBuckets l.width l.cells l.bucket l.heads l.slot;
  slots : length l.bucket ≡ length l.fn.bucket;
  buckets : length l.heads ≡ length l.fn.heads;
}
