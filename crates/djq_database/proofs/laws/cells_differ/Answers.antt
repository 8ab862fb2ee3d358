-- A row is read back from its cells, by its columns' types and the known texts.
use Rattle.djq_database.proofs.Cells.{differ}
use Rattle.djq_database.proofs.laws.cells_differ.Goals as goal

pub returns : goal.returns
returns c = differ
