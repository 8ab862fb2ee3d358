use Rattle.std.proofs.Common.{◌≡◌, take}
use Rattle.std.specs.List.{flat_map}
use Rattle.djq_value.specs.ValueText.{escaped}
use Rattle.djq_value.proofs.write.is_plain.Given as goal

abbrev pub invariant-loop-byte : goal.invariant-loop-byte
invariant-loop-byte l = flat_map escaped (take l.byte-index l.text) ≡ take l.byte-index l.text
