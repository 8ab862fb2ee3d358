use Rattle.std.proofs.Common.{◌≡◌, ◌+◌}
use Rattle.djq_texts.specs.Known.{in_use_from}
use Rattle.djq_texts.proofs.room.count_from.Given as goal

abbrev pub invariant-loop-number : goal.invariant-loop-number
invariant-loop-number l = l.count + in_use_from l.number l.entries.items ≡ in_use_from l.from l.entries.items
