-- The law, for all reads.
use Rattle.djq_system.proofs.SourceReadings.{some_input_is_told}
use Rattle.djq_system.proofs.std_source.some_input_is_told.Goals as goal

pub returns : goal.returns
returns c = some_input_is_told
