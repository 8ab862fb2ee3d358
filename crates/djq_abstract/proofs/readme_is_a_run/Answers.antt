use Rattle.djq_abstract.proofs.Worked.{readme_happens, readme_only_so}
use Rattle.djq_abstract.proofs.readme_is_a_run.Goals as goal

pub returns : goal.returns
returns c = record { happens = readme_happens; only_so = readme_only_so }
