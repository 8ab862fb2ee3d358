-- A line is judged as one of its row, of the relation that is found by its name.
use Rattle.std.specs.Prelude.{◌≡◌, Some, IfOk, IfErr}
use Rattle.std.proofs.Common.{sym, ◌∙◌, subst}
use Rattle.djq_model.specs.Data.{Bytes, relation_of}
use Rattle.djq_database.specs.Catalog.{relation_at}
use Rattle.djq_protocol.specs.declared.held.Verb.TheVariants.{Add, Delete}
use Rattle.djq_store_spec.specs.Held.{HeldLine, transaction_line}
use Rattle.djq_transaction.specs.Net.{PassesLine, RefusesLine}
use Rattle.djq_transaction.proofs.Transactions.{can_be_judged, line_is}
use Rattle.djq_transaction.proofs.transaction.judge_line.Goals as goal

pub judge_add-requires : goal.judge_add-requires
judge_add-requires g c = record {
  line = can_be_judged c.args.catalog.now.relations c.args.width c.args.net.now
      (transaction_line c.args.transaction.now c.args.at) c.in-Some.id.at Add c.row-row.result.now
      (sym c.verb.ensures ∙ c.in-Add.is) c.requires.suits c.in-Some.ensures.0
      (c.in-Some.ensures.1 ∙ c.relation-name.ensures)
      (subst (λ (name : Bytes). relation_of c.args.catalog.now.relations name
      ≡ Some (relation_at c.args.catalog.now.relations c.in-Some.id.at)) c.relation-name.ensures c.in-Some.ensures.2)
      c.row-row.ensures c.requires.wide c.requires.narrow c.requires.table c.requires.few;
}

pub returns-in-Add-clause-ok : goal.returns-in-Add-clause-ok
returns-in-Add-clause-ok g c =
    subst (λ (k : HeldLine). IfOk c.judge_add.result (λ _. PassesLine c.args.catalog.now.relations
    c.args.catalog.now.texts c.args.width c.args.net.now k c.judge_add.new.catalog.texts c.judge_add.new.net))
    (line_is c.args.catalog.now.relations (transaction_line c.args.transaction.now c.args.at) c.in-Some.id.at Add
    c.row-row.result.now (sym c.verb.ensures ∙ c.in-Add.is) (c.in-Some.ensures.1 ∙ c.relation-name.ensures)
    c.row-row.ensures) c.judge_add.ensures.ok

pub returns-in-Add-clause-err : goal.returns-in-Add-clause-err
returns-in-Add-clause-err g c =
    subst (λ (k : HeldLine). IfErr c.judge_add.result (RefusesLine c.args.catalog.now.relations
    c.args.catalog.now.texts c.args.width c.args.net.now k c.judge_add.new.catalog.texts))
    (line_is c.args.catalog.now.relations (transaction_line c.args.transaction.now c.args.at) c.in-Some.id.at Add
    c.row-row.result.now (sym c.verb.ensures ∙ c.in-Add.is) (c.in-Some.ensures.1 ∙ c.relation-name.ensures)
    c.row-row.ensures) c.judge_add.ensures.err

pub judge_delete-requires : goal.judge_delete-requires
judge_delete-requires g c = record {
  line = can_be_judged c.args.catalog.now.relations c.args.width c.args.net.now
      (transaction_line c.args.transaction.now c.args.at) c.in-Some.id.at Delete c.row-row.result.now
      (sym c.verb.ensures ∙ c.in-Delete.is) c.requires.suits c.in-Some.ensures.0
      (c.in-Some.ensures.1 ∙ c.relation-name.ensures)
      (subst (λ (name : Bytes). relation_of c.args.catalog.now.relations name
      ≡ Some (relation_at c.args.catalog.now.relations c.in-Some.id.at)) c.relation-name.ensures c.in-Some.ensures.2)
      c.row-row.ensures c.requires.wide c.requires.narrow c.requires.table c.requires.few;
}

pub returns-in-Delete-clause-ok : goal.returns-in-Delete-clause-ok
returns-in-Delete-clause-ok g c =
    subst (λ (k : HeldLine). IfOk c.judge_delete.result (λ _. PassesLine c.args.catalog.now.relations
    c.args.catalog.now.texts c.args.width c.args.net.now k c.args.catalog.now.texts c.judge_delete.new.net))
    (line_is c.args.catalog.now.relations (transaction_line c.args.transaction.now c.args.at) c.in-Some.id.at Delete
    c.row-row.result.now (sym c.verb.ensures ∙ c.in-Delete.is) (c.in-Some.ensures.1 ∙ c.relation-name.ensures)
    c.row-row.ensures) c.judge_delete.ensures.ok

pub returns-in-Delete-clause-err : goal.returns-in-Delete-clause-err
returns-in-Delete-clause-err g c =
    subst (λ (k : HeldLine). IfErr c.judge_delete.result (RefusesLine c.args.catalog.now.relations
    c.args.catalog.now.texts c.args.width c.args.net.now k c.args.catalog.now.texts))
    (line_is c.args.catalog.now.relations (transaction_line c.args.transaction.now c.args.at) c.in-Some.id.at Delete
    c.row-row.result.now (sym c.verb.ensures ∙ c.in-Delete.is) (c.in-Some.ensures.1 ∙ c.relation-name.ensures)
    c.row-row.ensures) c.judge_delete.ensures.err
