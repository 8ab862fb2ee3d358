-- The numbers so far rise, and are below the next.
use Rattle.std.proofs.Common.{ℕ, ◌<◌}
use Rattle.std.specs.Prelude.{All, AllPairs}
use Rattle.djq_examples_store.proofs.union.Rising.of.Given as goal

abbrev pub invariant-loop-n : goal.invariant-loop-n
invariant-loop-n l = record {
  rising : AllPairs (λ (x y : ℕ). x < y) l.items.items;
  below : All (λ (x : ℕ). x < l.n) l.items.items;
}
