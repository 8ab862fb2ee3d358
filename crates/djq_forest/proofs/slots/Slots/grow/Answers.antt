-- New slots have no entry, and the tuples of the others stay.
use Rattle.std.proofs.Common.{List, ap, ◌∙◌}
use Rattle.std.proofs.lemmas.Result.{IfOk-weaker, on_err_weaker}
use Rattle.djq_forest.specs.declared.slots.Note.{Note}
use Rattle.djq_forest.proofs.SlotChanges.{length-tuples, value, more_seen, more_cells_seen}
use Rattle.djq_forest.proofs.slots.Slots.grow.Goals as goal

pub resize_notes-requires : goal.resize_notes-requires
resize_notes-requires c = rw (← c.self.view_is, length-tuples) at c.requires.more

pub returns-clause-grown : goal.returns-clause-grown
returns-clause-grown c = rw (← c.self.view_is)
    (IfOk-weaker c.resize_notes.result _ _
    (λ _ is. more_seen c.self.inside.width c.self.inside.cells.items _ c.resize_cells.new.cells.items
    c.self.inside.notes.items c.resize_notes.new.notes.items c.args.slots c.self.invariant
    c.in_ok-resize_cells.ensures.more is) c.resize_notes.ensures.more)

pub returns-clause-refused : goal.returns-clause-refused
returns-clause-refused c = rw (← c.self.view_is)
    (on_err_weaker c.resize_notes.result
    (λ same. ap (λ (ns : List Note). value c.self.inside.width c.resize_cells.new.cells.items ns) same
    ∙ more_cells_seen c.self.inside.width c.self.inside.cells.items _ c.resize_cells.new.cells.items
    c.self.inside.notes.items c.self.invariant c.in_ok-resize_cells.ensures.more) c.resize_notes.ensures.refused)
