-- By the loop the values before the index have cells, which stay as texts come; a refused text was unknown.
use Rattle.std.proofs.Common.{◌∙◌, take}
use Rattle.djq_database.proofs.Cells.{have_grown}
use Rattle.djq_database.proofs.Interning.{cut, have_upto, learned_upto, now_grown, cells_upto, refused_row, row_unknown}
use Rattle.djq_database.proofs.Catalogs.{nowhere}
use Rattle.djq_database.proofs.catalog.Catalog.intern_cells.Goals as goal

pub returns-in-Err-clause-interns : goal.returns-in-Err-clause-interns
returns-in-Err-clause-interns c =
    let k = cut c.args.row.now c.loop-at.at c.index-row-at.result c.loop-at-test.true
    c.index-row-at.is in
    refused_row c.args.self.now.texts c.loop-at.self.texts c.intern.new.self.texts c.args.row.now
    c.loop-at.at c.index-row-at.result c.in-Err.refusal k c.loop-at.invariant.learned
    c.in-Err.ensures.interns

pub returns-in-Err-clause-absent : goal.returns-in-Err-clause-absent
returns-in-Err-clause-absent c =
    let k = cut c.args.row.now c.loop-at.at c.index-row-at.result c.loop-at-test.true
    c.index-row-at.is in
    nowhere c.self.inside c.args.self.now c.args.row.now c.self.invariant c.self.view_is
    (row_unknown c.args.self.now.texts c.loop-at.self.texts c.intern.new.self.texts c.args.row.now
    c.loop-at.at c.index-row-at.result c.in-Err.refusal k c.loop-at.invariant.learned
    c.in-Err.ensures.interns)

pub loop-at-preserved : goal.loop-at-preserved
loop-at-preserved c =
    let row = c.args.row.now in
    let at = c.loop-at.at in
    let v = c.index-row-at.result in
    let now = c.loop-at.self.texts in
    let new = c.intern.new.self.texts in
    let k = cut row at v c.loop-at-test.true c.index-row-at.is in
    let told = c.in-Ok.ensures.interns in
    let g = now_grown c.args.self.now.texts now new v told.0 in
    record {
      learned = learned_upto c.args.self.now.texts now new row at v k c.loop-at.invariant.learned
          told.0;
      have = have_upto new row at v k (have_grown now new (take at row) g c.loop-at.invariant.have)
          told.1;
      told = c.push.ensures ∙ cells_upto now new row at v c.loop-at.cells c.in-Ok.cell k g
          c.loop-at.invariant.have c.loop-at.invariant.told told.2;
      relations = c.intern.ensures.relations ∙ c.loop-at.invariant.relations;
    }
