use Rattle.std.proofs.Common.{◌≡◌, ℕ, ◌<◌, [], true}
use Rattle.std.specs.Prelude.{slice_index_or}
use Rattle.djq_protocol.specs.Rest.{is_before}
use Rattle.djq_binder.proofs.rest.place_for.Given as goal

abbrev pub invariant-loop-at : goal.invariant-loop-at
invariant-loop-at l = (k : ℕ) → k < l.at → is_before (slice_index_or l.edges k []) l.edge ≡ true
