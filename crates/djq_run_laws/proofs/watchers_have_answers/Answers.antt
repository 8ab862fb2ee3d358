-- By induction over the steps: each tells the session what came and went, which makes a listing of a listing.
use Rattle.djq_run_laws.proofs.DeltaSums.{watchers_have_answers}
use Rattle.djq_run_laws.proofs.watchers_have_answers.Goals as goal

pub returns : goal.returns
returns c = watchers_have_answers
