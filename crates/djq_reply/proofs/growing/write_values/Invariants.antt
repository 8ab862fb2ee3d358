use Rattle.std.proofs.Common.{take}
use Rattle.djq_protocol.specs.Reply.{cells_text}
use Rattle.djq_value.specs.Writing.{Written}
use Rattle.djq_reply.proofs.growing.write_values.Given as goal

abbrev pub invariant-loop-place : goal.invariant-loop-place
invariant-loop-place g l = Written l.fn.bytes l.bytes l.at (cells_text (take l.place (g.A.Answered.values l.answer)))
    l.end
