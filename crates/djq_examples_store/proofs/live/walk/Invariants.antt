use Rattle.djq_live_query.specs.Live.{IsLive}
use Rattle.djq_examples_store.proofs.live.walk.Given as goal

abbrev pub invariant-moves : goal.invariant-moves
invariant-moves g l = record { live : IsLive l.catalog l.live }
