use Rattle.std.proofs.Common.{◌≡◌, ◌-◌, take}
use Rattle.djq_store.specs.Counting.{with_watchers_at}
use Rattle.djq_store.proofs.watching.unwatch_members.Given as goal

abbrev pub invariant-loop-nth : goal.invariant-loop-nth
invariant-loop-nth l = l.engine
    ≡ record l.fn.engine { registered = with_watchers_at (λ n. n - 1) (take l.nth l.members) l.fn.engine.registered }
