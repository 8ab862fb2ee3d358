-- Behind a marked entry all are marked, by the invariant, so the next row is the next marked one.
use Rattle.std.proofs.Common.{sym, ◌∙◌, ap}
use Rattle.djq_index.specs.declared.place.Place.{Place}
use Rattle.djq_index.proofs.Parts.{live_held, marked_next}
use Rattle.djq_index.proofs.table.Table.next_marked.Goals as goal

pub next-requires : goal.next-requires
next-requires g c =
    rw c.slot.ensures
    (live_held c.self.inside.raw.notes.items c.self.inside.raw.rows.rows c.args.place
    (rw (← c.self.view_is) at c.requires))

pub returns-clause-found : goal.returns-clause-found
returns-clause-found g c = rw (← c.self.view_is) (
    λ xs e ys is at. c.placed.ensures
    ∙ marked_next c.self.inside.raw c.next.result xs e ys c.self.invariant.bare.trailing is
    (λ rs r ss cut slot. c.next.ensures rs r ss cut (slot ∙ ap (λ (p : Place). p.slot) at ∙ sym c.slot.ensures)))
