-- At each moment a crash leaves all commits before, and of the one that is appended all or none.
use Rattle.djq_program_laws.proofs.Moments.{moments_reopen}
use Rattle.djq_program_laws.proofs.laws.moments_reopen.Goals as goal

pub returns : goal.returns
returns c = moments_reopen
