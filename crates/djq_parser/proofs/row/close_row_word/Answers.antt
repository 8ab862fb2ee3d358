-- Bytes that begin with a keyword and a space have it for their first token, and the others behind 4 bytes.
use Rattle.std.proofs.Common.{codes}
use Rattle.std.proofs.lemmas.Bool.Decides.{Decides-eqb}
use Rattle.std.proofs.lemmas.Slice.Eq.{starts_is}
use Rattle.djq_parser.proofs.RowLines.{add_close, del_close}
use Rattle.djq_parser.proofs.row.close_row_word.Goals as goal

pub returns-then-starts_with : goal.returns-then-starts_with
returns-then-starts_with c =
    let line = c.args.line.now in
    let s = c.starts_with in
    let is = c.if-starts_with.true in
    let begins = (starts_is Decides-eqb line (codes "add ") s.result s.ensures.value).0 is in
    (s.ensures.bound is, add_close line begins)

pub returns-then-starts_with-2 : goal.returns-then-starts_with-2
returns-then-starts_with-2 c =
    let line = c.args.line.now in
    let s = c.starts_with-else-starts_with in
    let is = c.if-starts_with-2.true in
    let begins = (starts_is Decides-eqb line (codes "del ") s.result s.ensures.value).0 is in
    (s.ensures.bound is, del_close line begins)
