-- The relation at the place is the one kept there; of its entries the one with the row's cells changes alone.
use Rattle.std.proofs.Common.{refl}
use Rattle.djq_database.proofs.Catalogs.{seen_at, read_kept, delete_parts, delete_done}
use Rattle.djq_database.proofs.catalog.Catalog.delete_row.Goals as goal

pub invariant_of-self : goal.invariant_of-self
invariant_of-self g c =
    let p = c.self.inside in
    let at = c.args.id.at in
    let low = seen_at p c.args.self.now at c.self.view_is c.requires.there in
    delete_parts p _ at c.index_mut.result.now c.delete.new.self c.args.cells.now c.delete.result
    c.self.invariant low
    (read_kept p.kept.items at c.index_mut.result.now low c.index_mut.ensures.value) refl refl refl
    c.delete.ensures.name c.delete.ensures.types c.delete.ensures.deletes

pub returns-clause-deletes : goal.returns-clause-deletes
returns-clause-deletes g c =
    let p = c.self.inside in
    let at = c.args.id.at in
    let low = seen_at p c.args.self.now at c.self.view_is c.requires.there in
    rw (← c.self.view_is) (delete_done p.texts p.kept.items at c.index_mut.result.now
    c.delete.new.self c.args.cells.now c.delete.result c.self.invariant.different
    c.self.invariant.sound low
    (read_kept p.kept.items at c.index_mut.result.now low c.index_mut.ensures.value)
    c.delete.ensures.name c.delete.ensures.types c.delete.ensures.deletes)
