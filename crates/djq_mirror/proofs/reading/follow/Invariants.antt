use Rattle.std.proofs.Common.{List, ℕ, ◌≡◌, ◌≤◌, length}
use Rattle.djq_mirror.specs.Follow.{TakesLines}
use Rattle.djq_io.specs.Given.{Gave}
use Rattle.djq_mirror.proofs.reading.follow.Given as goal

abbrev pub invariant-loop : goal.invariant-loop
invariant-loop g l = record {
  bytes : List ℕ;
  gave : Gave (g.S.Source.told l.fn.source) (g.S.Source.told l.source) bytes;
  takes : TakesLines l.fn.follower bytes l.follower;
  no_fault : g.S.Source.faults l.source ≡ g.S.Source.faults l.fn.source;
  some : l.counter ≤ length bytes;
  room : length l.buffer ≡ length l.fn.buffer;
}
