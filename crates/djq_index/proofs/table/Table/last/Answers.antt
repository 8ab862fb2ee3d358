-- By its kind the key is empty or whole, so a group is all or one tuple; else a head knows the group's last.
use Rattle.std.proofs.Common.{refl, sym, ◌∙◌, ap}
use Rattle.djq_arena.specs.declared.chain.Ends.{Ends}
use Rattle.djq_arena.specs.Chains.{last_of}
use Rattle.djq_index.specs.Entries.{group_of}
use Rattle.djq_index.specs.Raw.{entries_of, place_of}
use Rattle.djq_index.proofs.Parts.{last_place}
use Rattle.djq_index.proofs.table.Table.last.Goals as goal
use Rattle.djq_index.proofs.Tables.{one_end, each_end, key_none, key_whole}

pub ends_in-requires-clause-heads : goal.ends_in-requires-clause-heads
ends_in-requires-clause-heads g c =
    c.self.invariant.heads c.in-Keyed.is

pub returns-in-One-clause-found : goal.returns-in-One-clause-found
returns-in-One-clause-found g c = rw (← c.self.view_is) (
    c.placed.ensures
    ∙ ap place_of (one_end c.self.inside.raw last_of c.args.cells.now c.newest.result refl
    (key_none c.self.inside.raw c.self.invariant.bare c.in-One.is) c.newest.ensures.here
    c.newest.ensures.elsewhere)
    ∙ sym (last_place (group_of c.self.inside.raw.key.items (entries_of c.self.inside.raw) c.args.cells.now)))

pub returns-in-Keyed-clause-found : goal.returns-in-Keyed-clause-found
returns-in-Keyed-clause-found g c = rw (← c.self.view_is) (
    c.placed-in-Keyed.ensures ∙ ap place_of (c.get.ensures
    ∙ ap (λ (e : Ends). e.last) c.ends_in.ensures)
    ∙ sym (last_place (group_of c.self.inside.raw.key.items (entries_of c.self.inside.raw) c.args.cells.now)))

pub returns-in-Each-clause-found : goal.returns-in-Each-clause-found
returns-in-Each-clause-found g c = rw (← c.self.view_is) (
    c.placed-in-Each.ensures
    ∙ ap place_of (each_end c.self.inside.raw c.self.invariant.bare
    (key_whole c.self.inside.raw c.self.invariant.bare c.in-Each.is) last_of c.args.cells.now
    c.find.result refl (λ i. refl) c.find.ensures)
    ∙ sym (last_place (group_of c.self.inside.raw.key.items (entries_of c.self.inside.raw) c.args.cells.now)))
