use Rattle.std.proofs.Common.{ℕ, ◌+◌, ◌<◌, ◌≤◌, get_or, take}
use Rattle.std.specs.Prelude.{IsSomeAnd, Ok, false}
use Rattle.djq_model.specs.Listed.{a_query}
use Rattle.djq_store_spec.specs.Registering.{atoms_of}
use Rattle.djq_live_query.specs.Member.{query_at}
use Rattle.djq_store.specs.Asking.{TellsMembership, asked_in}
use Rattle.djq_store.proofs.asking.some_has.Given as goal

abbrev pub invariant-loop-nth : goal.invariant-loop-nth
invariant-loop-nth g l = record {
  told : (i : ℕ) → i < l.nth → IsSomeAnd (query_at l.engine.places (get_or l.members i 0))
      (λ q. TellsMembership (l.engine.store).relations (a_query q.query) l.tuple (Ok false));
  counted : l.listing ≤ l.fn.listing + atoms_of (asked_in l.engine.places (take l.nth l.members));
}
