-- What a finished cursor gave is a listing: the headline says of each open cursor what it has given.
use Rattle.djq_program_laws.proofs.ProgramRuns.{finished_cursors}
use Rattle.djq_program_laws.proofs.laws.finished_cursors_have_listed.Goals as goal

pub returns : goal.returns
returns c = finished_cursors
