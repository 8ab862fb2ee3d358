use Rattle.std.proofs.Common.{◌≡◌}
use Rattle.djq_examples_tables.proofs.delta.is_large_until_it_is_cleared.Given as goal

-- the lines have no cells
abbrev pub invariant-loop : goal.invariant-loop
invariant-loop g l = l.delta.width ≡ 0
