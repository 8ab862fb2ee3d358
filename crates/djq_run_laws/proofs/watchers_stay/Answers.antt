-- By induction over the steps: only its own `unwatch` and its end take a watch, and a watched query stays.
use Rattle.djq_run_laws.proofs.Watchers.{watchers_stay}
use Rattle.djq_run_laws.proofs.watchers_stay.Goals as goal

pub returns : goal.returns
returns c = watchers_stay
