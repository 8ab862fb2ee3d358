-- The relation that is seen at a place has the types of the one that is kept there.
use Rattle.std.proofs.Common.{◌∙◌}
use Rattle.djq_database.proofs.Catalogs.{types_seen}
use Rattle.djq_database.proofs.catalog.Catalog.columns.Goals as goal

pub returns : goal.returns
returns c = c.as_slice.ensures ∙ types_seen c.self.inside c.args.self.now c.args.id.at
    c.index.result.now c.self.view_is c.requires c.index.ensures
