-- A line with another first byte begins with another word, so its tokens begin with no row's keyword.
use Rattle.std.proofs.Common.{◌∙◌, sym}
use Rattle.djq_parser.proofs.RowLines.{begins_none}
use Rattle.djq_parser.proofs.row.find_row_word.Goals as goal

pub returns-then-not-may_begin_row : goal.returns-then-not-may_begin_row
returns-then-not-may_begin_row c =
    begins_none c.args.line.now (sym c.may_begin_row.ensures ∙ c.if-not-may_begin_row.true)
