use Rattle.std.proofs.Common.{◌≡◌, ◌≤◌, length}
use Rattle.djq_io.specs.Given.{Gave}
use Rattle.djq_program.proofs.replay.read_pieces.Given as goal

abbrev pub invariant-loop : goal.invariant-loop
invariant-loop g l = record {
  gave : Gave (g.S.Source.told l.fn.source) (g.S.Source.told l.source) l.bytes.items;
  no_fault : g.S.Source.faults l.source ≡ g.S.Source.faults l.fn.source;
  some : l.counter ≤ length l.bytes.items;
  room : length l.buffer ≡ length l.fn.buffer;
}
