-- Known texts keep their cells, so a leaf that gained the new rows' tuples has those of all rows, in Changing.
use Rattle.djq_live_query.proofs.Catalogs.{leaves_after_insert}
use Rattle.djq_live_query.proofs.changes.leaves_after_insert.Goals as goal

pub returns : goal.returns
returns c = leaves_after_insert
