-- Before any call nothing was given and no choice was made, whatever the reducts are.
use Rattle.djq_enumeration.proofs.ListedAnswers.{start_fits, start_given}
use Rattle.djq_enumeration.proofs.cursor.Cursor.start.Goals as goal

pub returns-clause-fits : goal.returns-clause-fits
returns-clause-fits c = λ r. start_fits r c.new.result c.new-2.result c.new.ensures

pub returns-clause-none : goal.returns-clause-none
returns-clause-none c = λ r. start_given r c.new.result c.new-2.result
