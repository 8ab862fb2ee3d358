-- Each record says its length, and the gate behind the last one isn't open, so bytes open to one list.
use Rattle.djq_journal.proofs.Records.{opens_once}
use Rattle.djq_journal.proofs.a_file_opens_once.Goals as goal

pub returns : goal.returns
returns c = opens_once
