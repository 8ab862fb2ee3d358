use Rattle.std.proofs.Common.{◌≡◌, length}
use Rattle.djq_tree.specs.Growing.{numbers_below}
use Rattle.djq_plan.proofs.growing.numbers_to.Given as goal

abbrev pub invariant-loop-number : goal.invariant-loop-number
invariant-loop-number l = record
    { numbers : l.numbers.items ≡ numbers_below l.number; count : length l.numbers.items ≡ l.number }
