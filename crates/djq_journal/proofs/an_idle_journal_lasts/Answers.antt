-- A stop keeps what was synced and not written since, so the file stays as it was up to its gate.
use Rattle.djq_journal.proofs.Appends.{idle_lasts}
use Rattle.djq_journal.proofs.an_idle_journal_lasts.Goals as goal

pub returns : goal.returns
returns c = idle_lasts
