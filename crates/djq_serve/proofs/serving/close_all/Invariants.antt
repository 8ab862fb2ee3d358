use Rattle.std.proofs.Common.{◌≡◌, ℕ, length}
use Rattle.djq_machine.specs.Call.{state_ids}
use Rattle.djq_serve.specs.declared.served.Served.{Served}
use Rattle.djq_serve.specs.Told.{hub_shown}
use Rattle.djq_serve.specs.Server.{closing, server}
use Rattle.djq_serve.specs.Goes.{GoesQuietly}
use Rattle.djq_serve.specs.Kept.{Agrees}
use Rattle.djq_serve.proofs.serving.close_all.Given as goal

abbrev pub invariant-closes : goal.invariant-closes
invariant-closes g l =
    let state = g.M.Machine.state in
    let past = g.H.Hub.past in
    let script = g.H.Hub.script in
    let ids = g.H.Hub.ids in
    record {
      agrees : Agrees (state l.machine) (ids l.hub);
      goes : (most : ℕ) (answer : Served)
          → GoesQuietly most (hub_shown (past l.fn.hub) (script l.fn.hub) (ids l.fn.hub))
          (server (state l.fn.machine) (closing answer))
          (hub_shown (past l.hub) (script l.hub) (ids l.hub)) (server (state l.machine) (closing answer));
      faults : g.H.Hub.faults l.hub ≡ g.H.Hub.faults l.fn.hub;
    }

abbrev pub decreases-closes : goal.decreases-closes
decreases-closes g l = length (state_ids (g.M.Machine.state l.machine))
