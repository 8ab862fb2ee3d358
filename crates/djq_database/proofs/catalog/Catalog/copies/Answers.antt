-- The copies of a row are those of its cells, since texts differ; a kept row has one at least.
use Rattle.djq_database.proofs.Catalogs.{seen_at, read_kept, copies_done, copies_has}
use Rattle.djq_database.proofs.catalog.Catalog.copies.Goals as goal

pub returns-clause-copies : goal.returns-clause-copies
returns-clause-copies g c =
    let p = c.self.inside in
    let at = c.args.id.at in
    let low = seen_at p c.args.self.now at c.self.view_is c.requires in
    rw (← c.self.view_is) (copies_done p.texts p.kept.items at c.index.result.now c.args.cells.now
    c.copies.result c.self.invariant.different c.self.invariant.sound low
    (read_kept p.kept.items at c.index.result.now low c.index.ensures) c.copies.ensures.copies)

pub returns-clause-has : goal.returns-clause-has
returns-clause-has g c =
    let p = c.self.inside in
    let at = c.args.id.at in
    let low = seen_at p c.args.self.now at c.self.view_is c.requires in
    rw (← c.self.view_is) (copies_has p.texts p.kept.items at c.index.result.now c.args.cells.now
    c.copies.result c.self.invariant.different c.self.invariant.sound low
    (read_kept p.kept.items at c.index.result.now low c.index.ensures) c.copies.ensures.copies)
