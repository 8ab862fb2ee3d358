-- The knot that is read is the one with the number, and it is written back.
use Rattle.std.proofs.Common.{◌≡◌, ◌<◌, ◌-◌, ◌==◌, true, sym, ◌∙◌, ap, subst, is_some, slice_index}
use Rattle.djq_forest.specs.Forest.{Knot}
use Rattle.djq_forest.specs.KnotSlots.{knot_slots, put_slots}
use Rattle.djq_forest.specs.SlotEntries.{tuple_of_slot, with_unmet}
use Rattle.djq_forest.proofs.Rooms.{read_knot}
use Rattle.djq_forest.proofs.StepChanges.{written_knot}
use Rattle.djq_forest.proofs.steps.lower_at.Goals as goal

pub lower_missing-requires-clause-taken : goal.lower_missing-requires-clause-taken
lower_missing-requires-clause-taken c = subst (λ (b : Knot). is_some (tuple_of_slot (knot_slots b) c.args.slot) ≡ true)
    (sym (read_knot c.args.knots.now.items c.args.at c.index_mut-knot.result.now c.requires.within
    c.index_mut-knot.ensures.value)) c.requires.entry

pub lower_missing-requires-clause-some : goal.lower_missing-requires-clause-some
lower_missing-requires-clause-some c = subst (λ (b : Knot). 0 < slice_index b.missing c.args.slot)
    (sym (read_knot c.args.knots.now.items c.args.at c.index_mut-knot.result.now c.requires.within
    c.index_mut-knot.ensures.value)) c.requires.some

pub returns-clause-lowered : goal.returns-clause-lowered
returns-clause-lowered c = written_knot c.args.knots.now.items c.args.at c.index_mut-knot.result.now
    c.lower_missing.new.self
    (λ b. put_slots b (with_unmet (knot_slots b) c.args.slot (slice_index b.missing c.args.slot - 1)))
    c.requires.within c.index_mut-knot.ensures.value c.lower_missing.ensures.lowered

pub returns-clause-all : goal.returns-clause-all
returns-clause-all c = c.lower_missing.ensures.all
    ∙ ap (λ (b : Knot). slice_index b.missing c.args.slot - 1 == 0)
    (read_knot c.args.knots.now.items c.args.at c.index_mut-knot.result.now c.requires.within
    c.index_mut-knot.ensures.value)
