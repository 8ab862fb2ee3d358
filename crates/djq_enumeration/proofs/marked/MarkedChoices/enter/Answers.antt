-- The root's table holds the empty tuple at most, and its mark tells whether there is anything to list.
use Rattle.std.proofs.Common.{◌∙◌, ℕ, ◌-◌, [], length, ap, sym}
use Rattle.djq_tree.specs.Tree.{Tree}
use Rattle.djq_reduct.specs.Tables.{entries_at}
use Rattle.djq_enumeration.proofs.BackwardWalks.{root_none, root_found}
use Rattle.djq_enumeration.proofs.marked.MarkedChoices.enter.Goals as goal

pub returns-in-None-clause-entered : goal.returns-in-None-clause-entered
returns-in-None-clause-entered g c =
    let r = c.args.reducts.now in
    let at = ap (λ (n : ℕ). entries_at r.tables (n - 1)) c.len-root.ensures.count
    ∙ ap (λ (t : Tree). entries_at r.tables (length t.nodes - 1)) c.tree.ensures in
    sym (root_none r c.table-table.result.now.entries (c.table-table.ensures.entries ∙ at)
    c.in-None.ensures.found)

pub returns-in-Some-clause-entered : goal.returns-in-Some-clause-entered
returns-in-Some-clause-entered g c =
    let r = c.args.reducts.now in
    let at = ap (λ (n : ℕ). entries_at r.tables (n - 1)) c.len-root.ensures.count
    ∙ ap (λ (t : Tree). entries_at r.tables (length t.nodes - 1)) c.tree.ensures in
    root_found r c.table-table.result.now.entries c.marked.result c.laws.ensures.sound
    (c.table-table.ensures.entries ∙ at) (c.marked.ensures [] c.in-Some.ensures.found)
