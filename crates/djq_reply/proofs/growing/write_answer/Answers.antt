-- What is written behind a first piece makes one text with it, or finds no room for the whole.
use Rattle.std.proofs.Common.{◌∷◌, []}
use Rattle.djq_protocol.specs.Reply.{cells_text, line}
use Rattle.djq_reply.proofs.Printing.{writes_more}
use Rattle.djq_reply.proofs.growing.write_answer.Goals as goal

pub returns : goal.returns
returns g c =
    writes_more c.args.bytes.now c.write_byte-front.new.bytes c.write_values.new.bytes c.args.at
    c.write_byte-front.result (61 ∷ [])
    (line (cells_text (g.A.Answered.values c.args.answer.now))) c.write_values.result c.requires
    c.write_byte-front.ensures c.write_values.ensures
