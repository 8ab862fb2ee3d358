-- The cursor fits the members.
use Rattle.std.proofs.Common.{◌≤◌, length, take}
use Rattle.std.specs.Prelude.{◌==◌}
use Rattle.std.specs.List.{list_any}
use Rattle.djq_examples_store.specs.declared.union.Rising.{Rising}
use Rattle.djq_union.specs.Union.{UnionFits}
use Rattle.djq_examples_store.proofs.union.listed.Given as goal

abbrev pub invariant-loop-call : goal.invariant-loop-call
invariant-loop-call g l =
    UnionFits (λ (m : Rising) t. list_any (λ n. n == t) m.items.items)
    (λ (m : Rising) s. take s m.items.items) (λ (m : Rising) s. s ≤ length m.items.items)
    l.members.all.items l.cursor
