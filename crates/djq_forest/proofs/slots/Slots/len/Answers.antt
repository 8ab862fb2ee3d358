-- There are as many notes as slots.
use Rattle.std.proofs.Common.{arith}
use Rattle.djq_forest.proofs.SlotChanges.{length-tuples}
use Rattle.djq_forest.proofs.slots.Slots.len.Goals as goal

pub returns : goal.returns
returns c = rw (← c.self.view_is, length-tuples) (omega (arith, c.len.ensures, c.self.inside.notes.ok.0))
