use Rattle.std.proofs.Common.{◌+◌, ◌*◌, ◌≤◌, take}
use Rattle.std.specs.List.{flat_map}
use Rattle.djq_value.specs.ValueText.{escaped}
use Rattle.djq_value.specs.Writing.{Written}
use Rattle.djq_value.proofs.write.write_each.Given as goal

abbrev pub invariant-loop-byte : goal.invariant-loop-byte
invariant-loop-byte l = Written l.fn.bytes l.bytes l.at (flat_map escaped (take l.byte-index l.text)) l.end
    × (l.end ≤ l.at + 2 * l.byte-index)
