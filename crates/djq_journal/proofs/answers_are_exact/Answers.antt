-- An end, a record and a bad place exclude each other, so where one was found the others weren't.
use Rattle.djq_journal.proofs.Records.{reads_exactly}
use Rattle.djq_journal.proofs.answers_are_exact.Goals as goal

pub returns : goal.returns
returns c = reads_exactly
