-- Lines are cut in one way and each tells one thing, so two mirrors of one input hold the same texts.
use Rattle.djq_mirror_laws.proofs.MirrorInputs.{held_alone}
use Rattle.djq_mirror_laws.proofs.inputs_are_held_alone.Goals as goal

pub returns : goal.returns
returns c = held_alone
