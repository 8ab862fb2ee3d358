-- Each text that is learned comes behind the others or was known: by induction over the texts.
use Rattle.djq_database.proofs.Cells.{texts}
use Rattle.djq_database.proofs.laws.texts_stay.Goals as goal

pub returns : goal.returns
returns c = texts
