-- No member reads a relation before the index, so the first that one reads is the one at the index.
use Rattle.std.proofs.Common.{sym, ◌∙◌}
use Rattle.djq_store.specs.Settling.{some_read}
use Rattle.djq_store.proofs.Readers.{find_here, find_further}
use Rattle.djq_store.proofs.settling.first_read.Goals as goal

pub returns-then-some_read : goal.returns-then-some_read
returns-then-some_read c =
    sym (find_here (some_read c.args.queries.now c.args.members.now) c.args.relations.now c.loop-relation.relation-index
    c.relation-item.result c.loop-relation-test.true c.relation-item.is c.loop-relation.invariant
    (sym c.some_read.ensures ∙ c.if-some_read.true))

pub loop-relation-preserved : goal.loop-relation-preserved
loop-relation-preserved c =
    find_further (some_read c.args.queries.now c.args.members.now) c.args.relations.now c.loop-relation.relation-index
    c.relation-item.result c.loop-relation-test.true c.relation-item.is c.loop-relation.invariant
    (sym c.some_read.ensures ∙ c.if-some_read.false)
