use Rattle.std.proofs.Common.{◌≡◌, map, take}
use Rattle.djq_live_query.specs.Order.{cell_of_variable}
use Rattle.djq_live_query.proofs.member.put_in_order.Given as goal

abbrev pub invariant-loop-variable : goal.invariant-loop-variable
invariant-loop-variable l = l.cells
    ≡ map (cell_of_variable l.reducts.tree.head l.answer) (take l.variable-index l.head)
