use Rattle.djq_delta.proofs.Net.{shortens}
use Rattle.djq_delta.proofs.laws.settling_shortens.Goals as goal

pub returns : goal.returns
returns c = shortens
