-- The key of the table that is read is the node's; a table's law has its columns below the tuple's width.
use Rattle.std.proofs.Common.{ℕ, List, length, subst, sym, ap, ◌∙◌, arith}
use Rattle.djq_index.specs.Tuple.{pick}
use Rattle.djq_index.specs.Table.{AreColumns}
use Rattle.djq_propagate.proofs.Families.{is_read}
use Rattle.djq_propagate.proofs.tables.part_of.Goals as goal

pub take_part-requires-clause-few : goal.take_part-requires-clause-few
take_part-requires-clause-few c =
    let r = is_read c.args.tables.now.items c.args.at c.index-table.result.now c.requires.within
    c.index-table.ensures in
    let f = c.requires.few in
    omega (arith, ap (λ (ks : List ℕ). length ks) (c.key.ensures ∙ r.key))

pub take_part-requires-clause-within : goal.take_part-requires-clause-within
take_part-requires-clause-within c =
    let r = is_read c.args.tables.now.items c.args.at c.index-table.result.now c.requires.within
    c.index-table.ensures in
    subst (λ (ks : List ℕ). AreColumns (length c.args.tuple.now) ks) (sym c.key.ensures)
    (subst (λ (n : ℕ). AreColumns n c.index-table.result.now.key) (r.width ∙ sym c.requires.wide)
    c.laws.ensures.columns)

pub returns : goal.returns
returns c =
    let r = is_read c.args.tables.now.items c.args.at c.index-table.result.now c.requires.within
    c.index-table.ensures in
    c.take_part.ensures ∙ ap (λ (ks : List ℕ). pick ks c.args.tuple.now) (c.key.ensures ∙ r.key)
