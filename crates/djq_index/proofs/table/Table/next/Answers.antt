-- By its kind, the one group is the order of the rows, or each tuple is alone; else groups are chained.
use Rattle.std.proofs.Common.{sym, ◌∙◌, ap, ℕ, arith}
use Rattle.djq_arena.specs.declared.chain.Pair.{Pair}
use Rattle.djq_arena.specs.Chains.{pair_at}
use Rattle.djq_index.specs.declared.place.Place.{Place}
use Rattle.djq_index.specs.Entries.{group_of}
use Rattle.djq_index.specs.Raw.{entries_of, place_of}
use Rattle.djq_index.proofs.Parts.{live_held, live_below, group_next}
use Rattle.djq_index.proofs.table.Table.next.Goals as goal
use Rattle.djq_index.proofs.Tables.{one_next, each_next, key_none, key_whole}

pub next-requires : goal.next-requires
next-requires g c =
    rw c.slot-slot.ensures
    (live_held c.self.inside.raw.notes.items c.self.inside.raw.rows.rows c.args.place
    (rw (← c.self.view_is) at c.requires))

pub pair_of-requires : goal.pair_of-requires
pair_of-requires g c =
    rw c.slot-slot.ensures (omega (
      arith,
      live_below c.self.inside.raw c.args.place c.self.invariant.bare (rw (← c.self.view_is) at c.requires),
      (c.self.invariant.heads c.in-Keyed.is).links,
    ))

pub returns-in-One-clause-found : goal.returns-in-One-clause-found
returns-in-One-clause-found g c = rw (← c.self.view_is) (
    λ w xs e ys is at.
    c.placed.ensures
    ∙ one_next c.self.inside.raw w xs e ys c.next.result
    (key_none c.self.inside.raw c.self.invariant.bare c.in-One.is) is
    (λ rs q ss cut slot. c.next.ensures rs q ss cut (slot ∙ ap (λ (p : Place). p.slot) at
    ∙ sym c.slot-slot.ensures)))

pub returns-in-Keyed-clause-found : goal.returns-in-Keyed-clause-found
returns-in-Keyed-clause-found g c = rw (← c.self.view_is) (
    λ w xs e ys is at.
    c.placed-in-Keyed.ensures ∙ ap place_of (c.get.ensures
    ∙ ap (λ (p : Pair). p.next) c.pair_of.ensures
    ∙ ap (λ (i : ℕ). (pair_at c.self.inside.raw.links.items i).next) (c.slot-slot.ensures
    ∙ ap (λ (p : Place). p.slot) (sym at)))
    ∙ group_next c.self.inside.raw.links.items (group_of c.self.inside.raw.key.items
    (entries_of c.self.inside.raw) w) xs e ys
    ((c.self.invariant.heads c.in-Keyed.is).groups.chained w) is)

pub returns-in-Each-clause-found : goal.returns-in-Each-clause-found
returns-in-Each-clause-found g c = rw (← c.self.view_is) (
    λ w xs e ys is at. each_next c.self.inside.raw c.self.invariant.bare
    (key_whole c.self.inside.raw c.self.invariant.bare c.in-Each.is) w xs e ys is)
