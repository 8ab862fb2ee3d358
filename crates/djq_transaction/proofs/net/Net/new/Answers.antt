-- There is no key.
use Rattle.djq_transaction.proofs.Tables.{empty_table}
use Rattle.djq_transaction.proofs.net.Net.new.Goals as goal

pub returns-clause-table : goal.returns-clause-table
returns-clause-table c = empty_table c.args.width (record { keys = c.new.result; copies = c.new-2.result })
    c.new.ensures c.new-2.ensures.items
