-- The relation at the place is the one kept there; a row's cells are its own, since no text has two numbers.
use Rattle.std.proofs.Common.{◌∙◌, ap, sym, refl}
use Rattle.djq_database.specs.declared.kept.Kept.{Kept}
use Rattle.djq_database.proofs.Catalogs.{seen_at, cells_seen, read_kept, cells_within, cells_wide, add_parts, add_done}
use Rattle.djq_database.proofs.catalog.Catalog.add_row.Goals as goal

pub add-requires : goal.add-requires
add-requires g c =
    let p = c.self.inside in
    let at = c.args.id.at in
    let low = seen_at p c.args.self.now at c.self.view_is c.requires.there in
    record {
      wide = cells_wide p.texts p.kept.items at c.args.cells.now c.self.invariant.sound low
          (cells_seen p c.args.self.now at c.args.cells.now c.self.view_is c.requires.row)
          ∙ ap (λ (k : Kept). k.rows.width) (sym (read_kept p.kept.items at c.index_mut.result.now
          low c.index_mut.ensures.value));
    }

pub invariant_of-self : goal.invariant_of-self
invariant_of-self g c =
    let p = c.self.inside in
    let at = c.args.id.at in
    let low = seen_at p c.args.self.now at c.self.view_is c.requires.there in
    add_parts p _ at c.index_mut.result.now c.add.new.self c.args.cells.now c.add.result
    c.self.invariant low
    (read_kept p.kept.items at c.index_mut.result.now low c.index_mut.ensures.value) refl refl refl
    c.add.ensures.name c.add.ensures.types
    (cells_within p.texts p.kept.items at c.args.cells.now low
    (cells_seen p c.args.self.now at c.args.cells.now c.self.view_is c.requires.row))
    c.add.ensures.adds

pub returns-clause-adds : goal.returns-clause-adds
returns-clause-adds g c =
    let p = c.self.inside in
    let at = c.args.id.at in
    let low = seen_at p c.args.self.now at c.self.view_is c.requires.there in
    rw (← c.self.view_is) (add_done p.texts p.kept.items at c.index_mut.result.now c.add.new.self
    c.args.cells.now c.add.result c.self.invariant.different c.self.invariant.sound low
    (read_kept p.kept.items at c.index_mut.result.now low c.index_mut.ensures.value)
    c.add.ensures.name c.add.ensures.types c.add.ensures.adds)
