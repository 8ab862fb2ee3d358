-- The rows' slots are among the invariant's, which are different and below the room; cells give the width.
use Rattle.std.proofs.Common.{subst}
use Rattle.djq_arena.specs.Rows.{AreRows}
use Rattle.djq_arena.proofs.Slots.{rows_law}
use Rattle.djq_arena.proofs.arena.Arena.laws.Goals as goal

pub returns : goal.returns
returns c = subst AreRows c.self.view_is (rows_law c.self.inside.store c.self.invariant.0)
