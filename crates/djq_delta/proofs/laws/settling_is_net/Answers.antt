use Rattle.djq_delta.proofs.Net.{net}
use Rattle.djq_delta.proofs.laws.settling_is_net.Goals as goal

pub returns : goal.returns
returns c = net
