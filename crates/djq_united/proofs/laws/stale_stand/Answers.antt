-- An open cursor becomes stale by the change, and one that is stale stays as it is, as the machine says.
use Rattle.djq_united.proofs.Cursors.{stale_stood}
use Rattle.djq_united.proofs.laws.stale_stand.Goals as goal

pub returns : goal.returns
returns c = stale_stood
