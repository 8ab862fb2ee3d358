use Rattle.std.proofs.Common.{◌≡◌, map}
use Rattle.std.specs.Prelude.{drop}
use Rattle.djq_store_spec.specs.Union.{same_types}
use Rattle.djq_binder.specs.Asked.{column_of}
use Rattle.djq_live_query.proofs.member.same_columns.Given as goal

abbrev pub invariant-loop-at : goal.invariant-loop-at
invariant-loop-at l =
    same_types (map (column_of l.variables) l.head) (map (column_of l.others) l.other_head)
    ≡ same_types (map (column_of l.variables) (drop l.at l.head)) (map (column_of l.others) (drop l.at l.other_head))
