use Rattle.std.proofs.Common.{◌≡◌}
use Rattle.djq_reduct.specs.Heads.{head_places}
use Rattle.djq_reduct.proofs.heads.head_places.Given as goal

abbrev pub invariant-loop-variable : goal.invariant-loop-variable
invariant-loop-variable l = l.places.items ≡ head_places l.head l.variable
