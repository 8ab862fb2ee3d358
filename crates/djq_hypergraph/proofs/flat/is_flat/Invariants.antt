use Rattle.std.specs.Prelude.{◌≡◌, ℕ, length}
use Rattle.djq_hypergraph.proofs.Sets.{has_bit}
use Rattle.djq_hypergraph.specs.Flat.{IsFlatAt}
use Rattle.djq_hypergraph.proofs.flat.is_flat.Given as goal

abbrev pub invariant-loop-variable : goal.invariant-loop-variable
invariant-loop-variable l = (x : ℕ) → has_bit x l.rest ≡ 0 → IsFlatAt l.edges l.head x

abbrev pub decreases-loop-variable : goal.decreases-loop-variable
decreases-loop-variable l = length l.rest
