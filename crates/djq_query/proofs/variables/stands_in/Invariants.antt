use Rattle.std.proofs.Common.{◌≡◌, take, false}
use Rattle.djq_protocol.specs.Variables.{stands_in}
use Rattle.djq_query.proofs.variables.stands_in.Given as goal

abbrev pub invariant-loop-atom : goal.invariant-loop-atom
invariant-loop-atom l = stands_in (take l.atom-index l.atoms) l.name ≡ false
