-- By the chain of catalogs from one relation to the next.
use Rattle.djq_transaction.proofs.LeadingLines.{lines_lead, lines_group, headings_stay, changed_is_either, lines_spare_others}
use Rattle.djq_transaction.proofs.LeadingLines.{catalogs_have_copies}
use Rattle.djq_transaction.proofs.laws.lines_lead.Goals as goal

pub returns-clause-lead : goal.returns-clause-lead
returns-clause-lead c = lines_lead

pub returns-clause-group : goal.returns-clause-group
returns-clause-group c = lines_group

pub returns-clause-stay : goal.returns-clause-stay
returns-clause-stay c = headings_stay

pub returns-clause-changed : goal.returns-clause-changed
returns-clause-changed c = changed_is_either

pub returns-clause-spare : goal.returns-clause-spare
returns-clause-spare c = lines_spare_others

pub returns-clause-copies : goal.returns-clause-copies
returns-clause-copies c = catalogs_have_copies
