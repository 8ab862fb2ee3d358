use Rattle.std.proofs.Common.{◌≡◌}
use Rattle.djq_examples_text.proofs.net.flood.Given as goal

-- The ids stay.
abbrev pub invariant-loop : goal.invariant-loop
invariant-loop g l = g.H.Hub.ids l.hub ≡ g.H.Hub.ids l.fn.hub
