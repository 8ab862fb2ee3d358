-- By induction over the steps: what a session is told leaves its mirror with what its cursor gave.
use Rattle.djq_mirror_laws.proofs.PrintedLines.{mirrored_are_held}
use Rattle.djq_mirror_laws.proofs.MirrorSteps.{watchers_are_mirrored}
use Rattle.djq_mirror_laws.proofs.MirrorRuns.{readers_are_mirrored, starts_are_mirrored, ends_are_mirrored}
use Rattle.djq_mirror_laws.proofs.MirrorRuns.{readers_are_read_back, opened_are_read_back, sessions_are_read_back}
use Rattle.djq_mirror_laws.proofs.readers_are_mirrored.Goals as goal

pub returns-clause-watching : goal.returns-clause-watching
returns-clause-watching c = watchers_are_mirrored

pub returns-clause-reading : goal.returns-clause-reading
returns-clause-reading c = readers_are_mirrored

pub returns-clause-ended : goal.returns-clause-ended
returns-clause-ended c = ends_are_mirrored

pub returns-clause-started : goal.returns-clause-started
returns-clause-started c = starts_are_mirrored

pub returns-clause-held : goal.returns-clause-held
returns-clause-held c = mirrored_are_held

pub returns-clause-read_back : goal.returns-clause-read_back
returns-clause-read_back c = readers_are_read_back

pub returns-clause-whole : goal.returns-clause-whole
returns-clause-whole c = sessions_are_read_back

pub returns-clause-opened : goal.returns-clause-opened
returns-clause-opened c = opened_are_read_back
