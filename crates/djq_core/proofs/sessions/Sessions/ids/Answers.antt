-- The ids that are kept are those of the sessions.
use Rattle.std.proofs.Common.{◌∙◌, sym}
use Rattle.djq_core.proofs.Placed.{seen_ids}
use Rattle.djq_core.proofs.sessions.Sessions.ids.Goals as goal

pub returns : goal.returns
returns c = c.as_slice.ensures.value ∙ sym (seen_ids _ _ _ _ _ _ c.self.invariant.0 c.self.view_is)
