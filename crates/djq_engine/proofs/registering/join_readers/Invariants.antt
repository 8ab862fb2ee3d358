use Rattle.std.proofs.Common.{◌≡◌, ◌<◌, ◌≤◌, ◌∷◌, ◌++◌, [], ℕ, length, cond}
use Rattle.djq_store_spec.specs.Stale.{reads}
use Rattle.djq_database.specs.Catalog.{relation_at}
use Rattle.djq_reach.specs.Places.{readers_at}
use Rattle.djq_engine.proofs.registering.join_readers.Given as goal

abbrev pub invariant-loop-list : goal.invariant-loop-list
invariant-loop-list l = record {
  long : length l.lists.items ≡ length l.fn.lists.items;
  done : (r : ℕ) → r < l.list → readers_at l.lists.items r
      ≡ cond (reads l.query (relation_at l.catalog.relations r).name)
      (readers_at l.fn.lists.items r ++ l.at ∷ []) (readers_at l.fn.lists.items r);
  rest : (r : ℕ) → l.list ≤ r → readers_at l.lists.items r ≡ readers_at l.fn.lists.items r;
}
