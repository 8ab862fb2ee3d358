use Rattle.std.proofs.Common.{take}
use Rattle.std.specs.List.{flat_map}
use Rattle.djq_value.specs.Output.{Says}
use Rattle.djq_value.specs.ValueText.{escaped}
use Rattle.djq_value.proofs.print.extend_bytes.Given as goal

abbrev pub invariant-loop-byte : goal.invariant-loop-byte
invariant-loop-byte l = Says l.fn.out l.out (flat_map escaped (take l.byte-index l.text))
