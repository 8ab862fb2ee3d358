-- The tuples of a kept relation are the cells of its rows, since its cells are in range and texts differ.
use Rattle.std.proofs.Common.{◌∙◌, ap}
use Rattle.djq_database.specs.declared.kept.Kept.{Kept}
use Rattle.djq_database.specs.Parts.{tuples_of}
use Rattle.djq_database.proofs.Relations.{tuples_are}
use Rattle.djq_database.proofs.Catalogs.{seen_at, read_kept}
use Rattle.djq_database.proofs.catalog.Catalog.rows.Goals as goal

pub returns-clause-rest : goal.returns-clause-rest
returns-clause-rest g c =
    let p = c.self.inside in
    let at = c.args.id.at in
    let low = seen_at p c.args.self.now at c.self.view_is c.requires in
    rw (← c.self.view_is) (c.new.ensures.rest ∙ ap (λ (k : Kept). tuples_of k.rows.entries)
    (read_kept p.kept.items at c.index.result.now low c.index.ensures)
    ∙ tuples_are p.texts p.kept.items at c.self.invariant.different c.self.invariant.sound low)
