-- The relation that is seen at a place has a row for each entry of the one that is kept there.
use Rattle.std.proofs.Common.{◌∙◌}
use Rattle.djq_database.proofs.Catalogs.{count_seen}
use Rattle.djq_database.proofs.catalog.Catalog.row_count.Goals as goal

pub returns : goal.returns
returns c = c.len.ensures ∙ count_seen c.self.inside c.args.self.now c.args.id.at
    c.index.result.now c.self.view_is c.requires c.index.ensures
