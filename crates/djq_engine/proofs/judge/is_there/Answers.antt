-- A row that suits a relation is as wide as it, and a relation has few columns, by the catalog's laws.
use Rattle.std.proofs.Common.{arith}
use Rattle.djq_database.specs.Catalog.{no_relation, relation_at}
use Rattle.djq_leaves.proofs.Fills.{fits_long}
use Rattle.djq_engine.proofs.judge.is_there.Goals as goal

pub cells-requires : goal.cells-requires
cells-requires g c = omega (
  arith,
  fits_long (relation_at c.args.catalog.now.relations c.args.id.at).types c.args.row.now
      c.requires.suits,
  (c.laws.ensures.kept c.args.id.at no_relation c.requires.there).narrow,
)
