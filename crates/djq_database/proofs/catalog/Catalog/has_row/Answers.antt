-- A row is in the relation that is seen exactly where its cells are in the kept one, since texts differ.
use Rattle.djq_database.proofs.Entries.{found_has}
use Rattle.djq_database.proofs.Catalogs.{seen_at, read_kept, has_done}
use Rattle.djq_database.proofs.catalog.Catalog.has_row.Goals as goal

pub returns-clause-has : goal.returns-clause-has
returns-clause-has g c =
    let p = c.self.inside in
    let at = c.args.id.at in
    let low = seen_at p c.args.self.now at c.self.view_is c.requires in
    let k = c.index.result.now in
    rw (← c.self.view_is) (has_done p.texts p.kept.items at k c.args.cells.now
    c.is_some.result c.self.invariant.different c.self.invariant.sound low
    (read_kept p.kept.items at k low c.index.ensures)
    (found_has k.rows.entries c.args.cells.now c.find.result c.is_some.result c.find.ensures.found c.is_some.ensures))
