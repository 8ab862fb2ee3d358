-- One call more is one step more of the history, since the history is folded from the calls.
use Rattle.std.proofs.Common.{refl}
use Rattle.djq_disk.specs.CallLog.{Calls}
use Rattle.djq_disk.proofs.Files.{told_made}
use Rattle.djq_disk.proofs.call_log.CallLog.push.Goals as goal

pub returns-clause-told : goal.returns-clause-told
returns-clause-told c =
    let old : Calls = record { first = c.self.inside.first; calls = c.self.inside.calls } in
    let new : Calls = record { first = c.self.inside.first; calls = c.push_made.new.self } in
    rw (← c.self.view_is) (told_made c.args.call old new refl c.push_made.ensures)
