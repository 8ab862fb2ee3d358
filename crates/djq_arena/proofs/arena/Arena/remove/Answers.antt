-- A split of the rows at a slot is a split of their slots, and from these the store takes that one.
use Rattle.djq_arena.proofs.Rows.{held_slot, taken_rows}
use Rattle.djq_arena.proofs.arena.Arena.remove.Goals as goal

pub unlink-requires-clause-held : goal.unlink-requires-clause-held
unlink-requires-clause-held c = held_slot c.self.inside.store c.args.slot (rw (← c.self.view_is) at c.requires)

pub returns-clause-removed : goal.returns-clause-removed
returns-clause-removed c = rw (← c.self.view_is)
    (taken_rows c.self.inside.store c.unlink.new.store c.release.new.store c.args.slot c.unlink.ensures.unlinked
    c.release.ensures.released)
