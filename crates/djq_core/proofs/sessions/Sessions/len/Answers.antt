-- There are as many ids as sessions.
use Rattle.std.proofs.Common.{arith}
use Rattle.djq_core.proofs.Placed.{seen_length}
use Rattle.djq_core.proofs.sessions.Sessions.len.Goals as goal

pub returns : goal.returns
returns c = omega (
  arith,
  c.len.ensures,
  c.self.inside.ids.ok.0,
  seen_length _ _ _ _ _ _ c.self.invariant.0 c.self.view_is,
)
