-- Where names differ, the first relation of a name is that at its place: by induction over the relations.
use Rattle.djq_database.proofs.Cells.{names}
use Rattle.djq_database.proofs.laws.rows_by_name_or_place.Goals as goal

pub returns : goal.returns
returns c = names
