-- Variables come only behind those that are known, so a number keeps the name and the type it was given.
use Rattle.djq_query.proofs.NumberedQueries.{shown_by}
use Rattle.djq_query.proofs.laws.numbers_are_shown.Goals as goal

pub returns : goal.returns
returns c = shown_by
