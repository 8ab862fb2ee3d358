-- Without rows and heads what holds of a table's parts speaks of nothing but the key, and the kind fits that.
use Rattle.std.proofs.Common.{refl}
use Rattle.djq_index.proofs.Tables.{empty_raw, new_table}
use Rattle.djq_index.proofs.table.Table.new.Goals as goal

pub invariant_of-result : goal.invariant_of-result
invariant_of-result c =
    empty_raw _ c.args.width c.args.key.now c.in_ok-columns.ensures.ok c.in_ok-rows.ensures
    c.in_ok-keys.ensures c.laws.ensures c.laws-2.ensures c.requires c.kind_of.ensures refl

pub returns : goal.returns
returns c =
    new_table c.new-3.result.items _ c.args.width c.args.key.now _ c.in_ok-columns.ensures.ok c.in_ok-rows.ensures
