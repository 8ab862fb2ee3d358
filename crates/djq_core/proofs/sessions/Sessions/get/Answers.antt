-- The key at the place is that of the session's slot.
use Rattle.std.proofs.Common.{arith}
use Rattle.djq_core.proofs.Placed.{get_placed, key_holds, key_within}
use Rattle.djq_core.proofs.sessions.Sessions.get.Goals as goal

pub index-key-requires : goal.index-key-requires
index-key-requires c = omega (
  arith,
  key_within _ _ _ _ _ _ c.args.at c.self.invariant.0 c.self.view_is c.requires,
  c.self.inside.keys.ok.0,
)

pub index-requires : goal.index-requires
index-requires c = key_holds _ _ _ _ _ _ c.args.at c.index-key.result.now c.self.invariant.0 c.self.view_is c.requires
    c.index-key.ensures

pub returns : goal.returns
returns c = get_placed _ _ _ _ _ _ c.args.at c.index-key.result.now c.index.result.now c.self.invariant.0 c.self.view_is
    c.requires c.index-key.ensures c.index.ensures
