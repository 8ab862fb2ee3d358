use Rattle.djq_determinacy.proofs.Prefixes.{prefixes_return}
use Rattle.djq_determinacy.proofs.prefixes_return.Goals as goal

pub returns : goal.returns
returns c = prefixes_return
