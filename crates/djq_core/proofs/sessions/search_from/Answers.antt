-- A search among numbers that rise ends where the lower ones do.
use Rattle.djq_core.proofs.Placed.{parts_found, parts_missed}
use Rattle.djq_core.proofs.sessions.search_from.Goals as goal

pub returns-in-Ok : goal.returns-in-Ok
returns-in-Ok c = parts_found c.args.ids.now c.args.id c.in-Ok.at c.requires c.in-Ok.ensures.position

pub returns-in-Err : goal.returns-in-Err
returns-in-Err c = parts_missed c.args.ids.now c.args.id c.in-Err.at c.requires c.in-Err.ensures.position
