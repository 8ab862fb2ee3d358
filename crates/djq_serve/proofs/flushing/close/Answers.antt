-- The hub and the machine have the same open sessions, and both are without the one that is closed.
use Rattle.std.proofs.Common.{rules}
use Rattle.djq_serve.proofs.Sessions.{open_at_hub, agrees_closed, closed_ids}
use Rattle.djq_serve.proofs.flushing.close.Goals as goal

pub close-requires : goal.close-requires
close-requires g c = record {
  is_open = open_at_hub (g.M.Machine.state c.args.machine.now) (g.H.Hub.ids c.args.hub.now) c.args.id
      c.requires.agrees c.requires.open;
}

-- The hub has closed it, and so has the machine.
pub returns-clause-agrees : goal.returns-clause-agrees
returns-clause-agrees g c =
    let st = g.M.Machine.state in
    let ids = g.H.Hub.ids in
    agrees_closed (st c.args.machine.now) (st c.close_session.new.self) (ids c.args.hub.now) (ids _) c.args.id
    (closed_ids _ c.args.id _ _ c.close_session.ensures) (search rules) c.requires.agrees
