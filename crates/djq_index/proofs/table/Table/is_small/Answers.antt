-- Each tuple has a slot of its own, by the invariant, and the numbers of slots have that bound.
use Rattle.std.proofs.Common.{◌≤◌, length, subst}
use Rattle.djq_index.specs.Table.{Table}
use Rattle.djq_index.proofs.Tables.{few_entries}
use Rattle.djq_index.proofs.table.Table.is_small.Goals as goal

pub returns : goal.returns
returns c = subst (λ (t : Table). length t.entries ≤ 4294967295) c.self.view_is
    (few_entries c.self.inside.raw c.self.invariant)
