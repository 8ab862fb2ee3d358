-- Each slot of both forests was looked at.
use Rattle.djq_forest.proofs.Worked.{join_worked, cover_worked}
use Rattle.djq_forest.proofs.examples_are_worked.Goals as goal

pub returns-clause-join : goal.returns-clause-join
returns-clause-join c = join_worked

pub returns-clause-cover : goal.returns-clause-cover
returns-clause-cover c = cover_worked
