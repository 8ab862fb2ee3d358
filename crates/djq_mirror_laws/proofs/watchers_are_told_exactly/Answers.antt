-- By induction over the steps: a change tells a watching session its delta, and no other line is like one.
use Rattle.djq_mirror_laws.proofs.WatcherRuns.{watchers_are_told_exactly}
use Rattle.djq_mirror_laws.proofs.watchers_are_told_exactly.Goals as goal

pub returns : goal.returns
returns c = watchers_are_told_exactly
