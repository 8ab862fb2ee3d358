-- By cases on what the search finds.
use Rattle.djq_texts.proofs.Found.{found_taken, found_no_more, found_elsewhere}
use Rattle.djq_texts.proofs.laws.finding.Goals as goal

pub returns-clause-taken : goal.returns-clause-taken
returns-clause-taken c = found_taken

pub returns-clause-forgotten : goal.returns-clause-forgotten
returns-clause-forgotten c = found_no_more

pub returns-clause-others : goal.returns-clause-others
returns-clause-others c = found_elsewhere
