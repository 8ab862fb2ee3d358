use Rattle.std.proofs.Common.{◌≡◌, drop}
use Rattle.djq_load.specs.Replies.{read_bytes}
use Rattle.djq_load.proofs.reading.Reading.read.Given as goal

-- what was read, and then the bytes that are left
abbrev pub invariant-loop-byte : goal.invariant-loop-byte
invariant-loop-byte l = record {
  read : read_bytes l.reading (drop l.byte-index l.bytes) ≡ read_bytes l.fn.self l.bytes;
}
