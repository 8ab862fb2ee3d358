use Rattle.djq_determinacy.proofs.Sessions.{are_dialogues}
use Rattle.djq_determinacy.proofs.dialogues_are_runs.Goals as goal

pub returns : goal.returns
returns c = are_dialogues
