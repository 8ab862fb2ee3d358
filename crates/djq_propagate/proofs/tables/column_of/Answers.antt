-- The key and the width read are the node's; a table's law has each column of its key below the width.
use Rattle.std.proofs.Common.{ℕ, List, subst, sym, ◌∙◌, arith}
use Rattle.djq_index.specs.Table.{AreColumns}
use Rattle.djq_index.proofs.Tuples.{column_below}
use Rattle.djq_reduct.specs.Tables.{width_at}
use Rattle.djq_propagate.proofs.Families.{is_read, only_one}
use Rattle.djq_propagate.proofs.tables.column_of.Goals as goal

pub returns-in-len1-clause-key : goal.returns-in-len1-clause-key
returns-in-len1-clause-key c =
    let r = is_read c.args.tables.now.items c.args.at c.index-table.result.now c.requires c.index-table.ensures in
    sym (c.key.ensures ∙ r.key)
    ∙ only_one c.key.result.now (omega (arith, c.in-len1.len_at_least, c.in-len1.len_below))

pub returns-in-len1-clause-within : goal.returns-in-len1-clause-within
returns-in-len1-clause-within c =
    let r = is_read c.args.tables.now.items c.args.at c.index-table.result.now c.requires c.index-table.ensures in
    column_below (width_at c.args.tables.now.items c.args.at) c.key.result.now 0
    (subst (λ (ks : List ℕ). AreColumns (width_at c.args.tables.now.items c.args.at) ks) (sym c.key.ensures)
    (subst (λ (n : ℕ). AreColumns n c.index-table.result.now.key) r.width c.laws.ensures.columns))
    (omega (arith, c.in-len1.len_at_least))
