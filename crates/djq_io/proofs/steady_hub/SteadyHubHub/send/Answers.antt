-- None is to fail, so no session is found gone; the answer goes by the script, which stays.
use Rattle.std.proofs.Common.{rules, ◌≡◌, length, ap, sym, subst, ◌∙◌}
use Rattle.djq_io.specs.FailingSends.{after_send}
use Rattle.djq_io.specs.Hub.{taken_by}
use Rattle.djq_io.specs.Script.{Script, Sends}
use Rattle.djq_io.specs.MemHub.{Recorded, send_of}
use Rattle.djq_io.proofs.Hubs.{sends_by}
use Rattle.djq_io.proofs.Failures.{quiet_more, send_quiet}
use Rattle.djq_io.proofs.steady_hub.SteadyHubHub.send.Goals as goal

-- No send is to fail, so that it finds no session gone.
pub invariant_of-self : goal.invariant_of-self
invariant_of-self c =
    let sent = c.send.ensures in
    let piece = c.args.piece.now in
    let quiet = send_quiet c.self.inside.hub c.args.id (length piece) piece (taken_by c.send.result piece)
    c.send.result c.self.invariant.sends sent.exact in
    record {
      listens = ap (λ (h : Recorded). h.failing_listens) sent.others ∙ c.self.invariant.listens;
      turns = ap (λ (h : Recorded). h.failing_turns) sent.others ∙ c.self.invariant.turns;
      sends = sent.sends ∙ ap (after_send c.args.id) c.self.invariant.sends;
      past = quiet_more _ _ _ quiet sent.past c.self.invariant.past;
    }

-- The answer goes by the script, which stays.
pub returns-clause-script : goal.returns-clause-script
returns-clause-script c =
    let old = c.args.self.now in
    let piece = c.args.piece.now in
    let exact : c.send.result ≡ send_of old c.args.id piece = search rules in
    let stays : c.send.new.self.script ≡ old.script = search rules in
    subst (λ (script : Script). Sends c.args.id (length piece) c.send.result old.script script) (sym stays)
    (sends_by old c.args.id piece c.send.result exact)
