-- No line is judged at first.
use Rattle.std.specs.Prelude.{◌+◌}
use Rattle.djq_transaction.specs.declared.net.Net.{Net}
use Rattle.djq_transaction.proofs.Transactions.{no_lines, refused_as, judged_net}
use Rattle.djq_transaction.proofs.transaction.judge_all.Goals as goal

pub judge_lines-requires-clause-empty : goal.judge_lines-requires-clause-empty
judge_lines-requires-clause-empty g c =
    no_lines c.args.catalog.now.relations c.args.catalog.now.texts (1 + c.most_columns-width.result) c.new-net.result
    c.new-net.ensures.table c.new-net.ensures.empty c.new-net.ensures.bare

pub returns-in-Err-clause-answer : goal.returns-in-Err-clause-answer
returns-in-Err-clause-answer g c =
    refused_as Net c.args.catalog.now.relations c.args.catalog.now.texts c.args.transaction.now.lines
    c.judge_lines.new.catalog.texts c.in-Err.refused c.in-Err.ensures.err

pub returns-in-Ok-clause-ok : goal.returns-in-Ok-clause-ok
returns-in-Ok-clause-ok g c = (
  c.in-Ok.ensures.ok.1,
  judged_net c.args.catalog.now.relations c.args.catalog.now.texts c.judge_lines.new.catalog.texts
      (1 + c.most_columns-width.result) c.args.transaction.now.lines c.judge_lines.new.net c.in-Ok.ensures.ok.0
      c.in-Ok.ensures.ok.2,
)
