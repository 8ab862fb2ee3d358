-- By the loop the values before the index have cells; a row with an unknown text is in no relation.
use Rattle.std.proofs.Common.{ℕ, ◌∷◌, [], ◌++◌, ◌∙◌, ap}
use Rattle.djq_database.proofs.Interning.{cut, told_more, have_upto, unknown_in}
use Rattle.djq_database.proofs.Catalogs.{nowhere}
use Rattle.djq_database.proofs.catalog.Catalog.write_cells.Goals as goal

pub returns-in-None-clause-tells : goal.returns-in-None-clause-tells
returns-in-None-clause-tells c =
    let k = cut c.args.row.now c.loop-at.at c.index-row-at.result c.loop-at-test.true
    c.index-row-at.is in
    unknown_in c.args.self.now.texts c.args.row.now c.loop-at.at c.index-row-at.result k
    c.in-None.ensures

pub returns-in-None-clause-absent : goal.returns-in-None-clause-absent
returns-in-None-clause-absent c =
    let k = cut c.args.row.now c.loop-at.at c.index-row-at.result c.loop-at-test.true
    c.index-row-at.is in
    nowhere c.self.inside c.args.self.now c.args.row.now c.self.invariant c.self.view_is
    (unknown_in c.args.self.now.texts c.args.row.now c.loop-at.at c.index-row-at.result k
    c.in-None.ensures)

pub loop-at-preserved : goal.loop-at-preserved
loop-at-preserved c =
    let texts = c.args.self.now.texts in
    let k = cut c.args.row.now c.loop-at.at c.index-row-at.result c.loop-at-test.true
    c.index-row-at.is in
    record {
      have = have_upto texts c.args.row.now c.loop-at.at c.index-row-at.result k
          c.loop-at.invariant.have c.in-Some.ensures.0;
      told = c.push.ensures ∙ ap (λ (n : ℕ). c.loop-at.cells ++ n ∷ []) c.in-Some.ensures.1
          ∙ told_more texts c.args.row.now c.loop-at.at c.index-row-at.result c.loop-at.cells k
          c.loop-at.invariant.told;
    }
