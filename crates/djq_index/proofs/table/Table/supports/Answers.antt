-- The slot of a tuple's place is below the room and has a note, whose supports are the entry's.
use Rattle.std.proofs.Common.{◌∙◌, ap, arith}
use Rattle.djq_index.specs.declared.raw.Note.{Note}
use Rattle.djq_index.specs.Raw.{note_at}
use Rattle.djq_index.proofs.Parts.{live_below, note_supports}
use Rattle.djq_index.proofs.table.Table.supports.Goals as goal

pub note_of-requires : goal.note_of-requires
note_of-requires c =
    rw c.slot.ensures
    (omega (
      arith,
      live_below c.self.inside.raw c.args.place c.self.invariant.bare
          (rw (← c.self.view_is) at c.requires),
      c.self.invariant.bare.notes,
    ))

pub returns : goal.returns
returns c = rw (← c.self.view_is) (
    λ u at. ap (λ (n : Note). n.supports)
    (c.note_of.ensures ∙ ap (note_at c.self.inside.raw.notes.items) c.slot.ensures)
    ∙ note_supports c.self.inside.raw c.args.place u c.self.invariant.bare at)
