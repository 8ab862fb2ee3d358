-- The constants are those of the definition, and the widened state is the same number.
use Rattle.std.proofs.Common.{ℕ, ap, ◌+◌, ◌*◌, ◌%◌}
use Rattle.djq_load.specs.Draws.{next}
use Rattle.djq_load.proofs.draw.next.Goals as goal

pub returns : goal.returns
unfolding next
returns c = ap (λ (s : ℕ). (s * 1103515245 + 12345) % 2147483648) c.from.ensures
