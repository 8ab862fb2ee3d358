-- The answer goes by the sends that are to fail and by the script, which stays; a session gone met a fault.
use Rattle.std.proofs.Common.{rules, ◌≡◌, ◌∷◌, [], length, ap}
use Rattle.djq_io.specs.Sink.{Gains}
use Rattle.djq_io.specs.Hub.{taken_by}
use Rattle.djq_io.specs.Script.{Sends}
use Rattle.djq_io.specs.declared.hub.Told.TheVariants.{Sending}
use Rattle.djq_io.specs.MemHub.{Recorded, send_of}
use Rattle.djq_io.proofs.Hubs.{where_told, sends_by, counts_by}
use Rattle.djq_io.proofs.mem_hub.MemHubHub.send.Goals as goal

-- The answer goes by the script, which stays.
pub returns-clause-script : goal.returns-clause-script
returns-clause-script c =
    let old = c.args.self.now in
    let sent = c.if-count_down.sent in
    let exact : sent ≡ send_of old c.args.id c.args.piece.now = search rules in
    let told = Sending c.args.id (length c.args.piece.now) sent (taken_by sent c.args.piece.now) in
    let gains : Gains old.past c.push_made.new.self (told ∷ []) = search rules in
    let script = ap (λ (h : Recorded). h.script) c.self.view_is in
    where_told (Sends c.args.id (length c.args.piece.now) sent) old.script c.self.inside.script.script old.past
    c.push_made.new.self _ gains (rw script (sends_by old c.args.id c.args.piece.now sent exact))

-- A session that is gone has met a fault.
pub returns-clause-sessions : goal.returns-clause-sessions
returns-clause-sessions c =
    let old = c.args.self.now in
    let exact : c.if-count_down.sent ≡ send_of old c.args.id c.args.piece.now = search rules in
    let sends = ap (λ (h : Recorded). h.failing_sends) c.self.view_is in
    let counts = rw sends at c.count_down.ensures in
    counts_by old c.args.id c.args.piece.now c.if-count_down.sent old.ids.open_ids c.count_down.result
    c.count_down.new.self exact counts.due counts.faults
