use Rattle.djq_determinacy.proofs.Memory.{never_refused_for_memory}
use Rattle.djq_determinacy.proofs.never_refused_for_memory.Goals as goal

pub returns : goal.returns
returns c = never_refused_for_memory
