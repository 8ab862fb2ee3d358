-- The root is the last node, and its table has the empty tuple exactly where there is an answer.
use Rattle.std.proofs.Common.{◌∙◌, ℕ, ◌-◌, length, ap}
use Rattle.djq_tree.specs.Tree.{Tree}
use Rattle.djq_reduct.specs.Tables.{entries_at}
use Rattle.djq_enumeration.proofs.MarkedGroups.{root_found}
use Rattle.djq_enumeration.proofs.whole.WholeChoices.enter.Goals as goal

pub returns-clause-entered : goal.returns-clause-entered
returns-clause-entered g c =
    let r = c.args.reducts.now in
    let at = ap (λ (n : ℕ). entries_at r.tables (n - 1)) c.len-root.ensures.count
    ∙ ap (λ (t : Tree). entries_at r.tables (length t.nodes - 1)) c.tree.ensures in
    c.is_some.ensures
    ∙ root_found r c.table.result.now.entries c.find.result (c.table.ensures.entries ∙ at)
    c.find.ensures.found
