-- There is a table for each node, by the law of reducts, so the one that is read is the node's.
use Rattle.std.proofs.Common.{◌≡◌, length, ap, arith}
use Rattle.djq_reduct.specs.Tables.{table_at}
use Rattle.djq_reduct.specs.Reducts.{Reducts}
use Rattle.djq_reduct.proofs.Assignments.{at_place, read_at}
use Rattle.djq_reduct.proofs.reducts.Reducts.table.Goals as goal

read : (c : goal.After-index) → c.index.result.now ≡ table_at c.args.self.now.tables c.args.node
read c =
    let within = c.requires in
    let long = c.self.invariant.0.family.long in
    let nodes = ap (λ (r : Reducts). length r.tree.nodes) c.self.view_is in
    read_at _ c.args.self.now c.args.node c.index.result.now c.self.view_is (omega arith) c.index.ensures

pub returns-clause-entries : goal.returns-clause-entries
returns-clause-entries c = (at_place c.args.self.now.tables c.args.node c.index.result.now (read c)).0

pub returns-clause-key : goal.returns-clause-key
returns-clause-key c = (at_place c.args.self.now.tables c.args.node c.index.result.now (read c)).1

pub returns-clause-width : goal.returns-clause-width
returns-clause-width c = (at_place c.args.self.now.tables c.args.node c.index.result.now (read c)).2
