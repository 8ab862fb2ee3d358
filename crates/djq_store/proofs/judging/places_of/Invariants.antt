use Rattle.std.proofs.Common.{take}
use Rattle.djq_store.specs.Judging.{ArePlacesOf}
use Rattle.djq_store.proofs.judging.places_of.Given as goal

abbrev pub invariant-loop-nth : goal.invariant-loop-nth
invariant-loop-nth l = ArePlacesOf l.engine (take l.nth l.names) l.places
