-- The knot that is read is the one with the number, and it is written back.
use Rattle.std.proofs.Common.{◌≡◌, ◌<◌, ◌+◌, ◌==◌, true, sym, ◌∙◌, ap, subst, is_some, slice_index}
use Rattle.djq_forest.specs.declared.slots.TheConstants.{OUT}
use Rattle.djq_forest.specs.Forest.{Knot}
use Rattle.djq_forest.specs.KnotSlots.{knot_slots, put_slots}
use Rattle.djq_forest.specs.SlotEntries.{tuple_of_slot, with_unmet}
use Rattle.djq_forest.proofs.Rooms.{read_knot}
use Rattle.djq_forest.proofs.StepChanges.{written_knot}
use Rattle.djq_forest.proofs.steps.raise_at.Goals as goal

pub raise_missing-requires-clause-taken : goal.raise_missing-requires-clause-taken
raise_missing-requires-clause-taken c = subst (λ (b : Knot). is_some (tuple_of_slot (knot_slots b) c.args.slot) ≡ true)
    (sym (read_knot c.args.knots.now.items c.args.at c.index_mut-knot.result.now c.requires.within
    c.index_mut-knot.ensures.value)) c.requires.entry

pub raise_missing-requires-clause-few : goal.raise_missing-requires-clause-few
raise_missing-requires-clause-few c = subst (λ (b : Knot). slice_index b.missing c.args.slot + 1 < OUT)
    (sym (read_knot c.args.knots.now.items c.args.at c.index_mut-knot.result.now c.requires.within
    c.index_mut-knot.ensures.value)) c.requires.few

pub returns-clause-raised : goal.returns-clause-raised
returns-clause-raised c = written_knot c.args.knots.now.items c.args.at c.index_mut-knot.result.now
    c.raise_missing.new.self
    (λ b. put_slots b (with_unmet (knot_slots b) c.args.slot (slice_index b.missing c.args.slot + 1)))
    c.requires.within c.index_mut-knot.ensures.value c.raise_missing.ensures.raised

pub returns-clause-all : goal.returns-clause-all
returns-clause-all c = c.raise_missing.ensures.all
    ∙ ap (λ (b : Knot). slice_index b.missing c.args.slot == 0)
    (read_knot c.args.knots.now.items c.args.at c.index_mut-knot.result.now c.requires.within
    c.index_mut-knot.ensures.value)
