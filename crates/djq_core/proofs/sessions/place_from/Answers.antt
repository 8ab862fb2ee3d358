-- An id that stands where it is guessed parts the lower ones from the others, and one up to the first has none below it.
use Rattle.djq_core.proofs.Placed.{parts_first, parts_here}
use Rattle.djq_core.proofs.sessions.place_from.Goals as goal

pub returns-then-ids-guess : goal.returns-then-ids-guess
returns-then-ids-guess c = parts_here c.args.ids.now c.args.id _ c.requires c.if-guess-ids.true c.if-ids-guess.true

pub returns-then-id-ids : goal.returns-then-id-ids
returns-then-id-ids c = parts_first c.args.ids.now c.args.id c.requires c.if-id-ids.true
