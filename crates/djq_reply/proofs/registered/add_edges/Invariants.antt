use Rattle.std.proofs.Common.{take}
use Rattle.djq_protocol.specs.Reply.{edges_text}
use Rattle.djq_value.specs.Output.{Put}
use Rattle.djq_reply.proofs.registered.add_edges.Given as goal

abbrev pub invariant-loop-edge : goal.invariant-loop-edge
invariant-loop-edge l = Put l.fn.out l.out (edges_text l.names (take l.edge-index l.edges))
