-- A known text keeps its place as others come behind it, so each value keeps its cell.
use Rattle.djq_database.proofs.Cells.{stay}
use Rattle.djq_database.proofs.laws.cells_stay.Goals as goal

pub returns : goal.returns
returns c = stay
