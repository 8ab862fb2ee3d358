use Rattle.std.proofs.Common.{◌≡◌, ◌++◌, drop}
use Rattle.djq_schedule.specs.Sent.{ended_lines, begun_line}
use Rattle.djq_schedule.proofs.sent.end_lines.Given as goal

abbrev pub invariant-loop-byte : goal.invariant-loop-byte
invariant-loop-byte l = record {
  rest : begun_line l.line.items (drop l.byte-index l.bytes) ≡ begun_line l.fn.begun.items l.bytes;
  text : l.text.items ++ ended_lines l.id l.line.items (drop l.byte-index l.bytes)
      ≡ l.fn.text.items ++ ended_lines l.id l.fn.begun.items l.bytes;
}
