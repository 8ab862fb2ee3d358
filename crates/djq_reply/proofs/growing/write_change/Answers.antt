-- Sign, name and values are written one behind another and make one text, or there is no room for the whole.
use Rattle.std.proofs.Common.{◌∷◌, [], ◌++◌, sym, subst, append_assoc}
use Rattle.djq_model.specs.Data.{Bytes}
use Rattle.djq_protocol.specs.Reply.{cells_text, line, sign_text}
use Rattle.djq_value.specs.Writing.{Writes, Written}
use Rattle.djq_value.proofs.Texts.{written_more}
use Rattle.djq_reply.proofs.Printing.{writes_more}
use Rattle.djq_reply.proofs.growing.write_change.Goals as goal

pub returns : goal.returns
returns g c =
    let bytes = c.args.bytes.now in
    let sign = sign_text c.args.sign in
    let query = c.args.query.now in
    let cells = cells_text (g.A.Answered.values c.args.answer.now) in
    let first = subst (λ (t : Bytes). Written bytes c.write_bytes-name.new.bytes c.args.at t c.write_bytes-name.result)
    c.sign_text.ensures c.write_bytes-name.ensures in
    let front = written_more bytes c.write_bytes-name.new.bytes c.write_bytes-front.new.bytes c.args.at
    c.write_bytes-name.result c.write_bytes-front.result sign query first c.write_bytes-front.ensures in
    subst (λ (t : Bytes). Writes bytes c.write_values.new.bytes c.args.at t c.write_values.result)
    (sym (append_assoc (sign ++ query) cells (10 ∷ [])))
    (writes_more bytes c.write_bytes-front.new.bytes c.write_values.new.bytes c.args.at c.write_bytes-front.result
    (sign ++ query) (line cells) c.write_values.result c.requires front c.write_values.ensures)
