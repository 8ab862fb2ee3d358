-- A split of the rows at a slot is a split of their slots, and of these the store puts that one last.
use Rattle.djq_arena.proofs.Rows.{held_slot, renewed_rows}
use Rattle.djq_arena.proofs.arena.Arena.renew.Goals as goal

pub renew-requires-clause-held : goal.renew-requires-clause-held
renew-requires-clause-held c = held_slot c.self.inside.store c.args.slot (rw (← c.self.view_is) at c.requires)

pub returns-clause-renewed : goal.returns-clause-renewed
returns-clause-renewed c =
    rw (← c.self.view_is) (renewed_rows c.self.inside.store c.renew.new.store c.args.slot c.renew.ensures.renewed)
