use Rattle.std.proofs.Common.{◌≡◌, ◌≤◌, ◌^◌, ◌*◌, map}
use Rattle.std.specs.Prelude.{take}
use Rattle.djq_store_spec.specs.Registering.{atoms_of}
use Rattle.djq_live_query.specs.Member.{queries_at}
use Rattle.djq_store.proofs.registering.most_of.Given as goal

abbrev pub invariant-loop-nth : goal.invariant-loop-nth
invariant-loop-nth l =
    (l.atoms ≡ atoms_of (map (λ q. q.query) (take l.nth (queries_at l.queries l.members))))
    × (l.atoms ≤ l.nth * 2 ^ 58)
