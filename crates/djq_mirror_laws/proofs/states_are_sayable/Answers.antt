-- Names and values come into a state by lines alone, and a line says none that is past its limits.
use Rattle.djq_mirror_laws.proofs.SayableStates.{loaded_are_sayable, runs_keep_sayable, opening_is_sayable}
use Rattle.djq_mirror_laws.proofs.SayableStates.{states_are_sayable}
use Rattle.djq_mirror_laws.proofs.states_are_sayable.Goals as goal

pub returns-clause-kept : goal.returns-clause-kept
returns-clause-kept c = runs_keep_sayable

pub returns-clause-opening : goal.returns-clause-opening
returns-clause-opening c = opening_is_sayable

pub returns-clause-reached : goal.returns-clause-reached
returns-clause-reached c = states_are_sayable

pub returns-clause-loaded : goal.returns-clause-loaded
returns-clause-loaded c = loaded_are_sayable
