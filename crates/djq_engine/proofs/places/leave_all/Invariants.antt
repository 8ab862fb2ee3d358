use Rattle.std.proofs.Common.{◌≡◌, ◌<◌, ◌≤◌, ℕ, length}
use Rattle.djq_reach.specs.Places.{readers_at}
use Rattle.djq_engine.specs.Places.{places_without}
use Rattle.djq_engine.proofs.places.leave_all.Given as goal

abbrev pub invariant-loop-list : goal.invariant-loop-list
invariant-loop-list l = record {
  long : length l.lists.items ≡ length l.fn.lists.items;
  done : (r : ℕ) → r < l.list
      → readers_at l.lists.items r ≡ places_without l.at (readers_at l.fn.lists.items r);
  rest : (r : ℕ) → l.list ≤ r → readers_at l.lists.items r ≡ readers_at l.fn.lists.items r;
}
