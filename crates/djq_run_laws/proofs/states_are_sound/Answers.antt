-- Each event keeps the store, the sessions and their limits sound, command by command; a run is such steps.
use Rattle.djq_run_laws.proofs.SoundStates.{runs_keep_sound, opening_is_start, states_are_sound}
use Rattle.djq_run_laws.proofs.states_are_sound.Goals as goal

pub returns-clause-kept : goal.returns-clause-kept
returns-clause-kept c = runs_keep_sound

pub returns-clause-opening : goal.returns-clause-opening
returns-clause-opening c = opening_is_start

pub returns-clause-reached : goal.returns-clause-reached
returns-clause-reached c = states_are_sound
