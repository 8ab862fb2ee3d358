use Rattle.std.proofs.Common.{take}
use Rattle.djq_protocol.specs.Reply.{cells_text}
use Rattle.djq_value.specs.Output.{Put}
use Rattle.djq_reply.proofs.growing.add_cells.Given as goal

abbrev pub invariant-loop-at : goal.invariant-loop-at
invariant-loop-at g l = Put l.fn.out l.out (cells_text (take l.at (g.A.Answered.values l.answer)))
