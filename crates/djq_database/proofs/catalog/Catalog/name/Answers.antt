-- The relation that is seen at a place has the name of the one that is kept there.
use Rattle.djq_database.proofs.Catalogs.{name_seen}
use Rattle.djq_database.proofs.catalog.Catalog.name.Goals as goal

pub returns : goal.returns
returns c = name_seen c.self.inside c.args.self.now c.args.id.at c.index.result.now
    c.self.view_is c.requires c.index.ensures
