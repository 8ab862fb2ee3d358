-- What holds of the parts gives what holds of the catalog; the texts' bound is the dictionary's.
use Rattle.std.proofs.Common.{◌≤◌, length, arith}
use Rattle.djq_dictionary.specs.declared.dict.TheConstants.{MOST_TEXTS}
use Rattle.djq_database.proofs.Catalogs.{catalog_sound}
use Rattle.djq_database.proofs.catalog.Catalog.laws.Goals as goal

pub returns : goal.returns
returns c =
    let p = c.self.inside in
    let many : length p.texts ≤ MOST_TEXTS = omega (
      arith,
      c.len-count.ensures.count,
      c.len-count.ensures.few,
    ) in
    rw (← c.self.view_is) (catalog_sound p c.self.invariant many)
