use Rattle.std.proofs.Common.{◌≡◌, take, map}
use Rattle.djq_binder.proofs.names.relation_names.Given as goal

abbrev pub invariant-atoms : goal.invariant-atoms
invariant-atoms l = l.names ≡ map (λ a. a.relation) (take l.i l.atoms)
