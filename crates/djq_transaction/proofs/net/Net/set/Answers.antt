-- The slots before are all taken, so a new key lies in the next one.
use Rattle.djq_transaction.proofs.Tables.{new_copies}
use Rattle.djq_transaction.proofs.net.Net.set.Goals as goal

pub returns-clause-ok : goal.returns-clause-ok
returns-clause-ok c =
    new_copies c.args.width c.args.self.now (record { keys = c.push.new.self; copies = c.push-2.new.self })
    c.args.key.now c.in_ok-_slot._slot c.args.place c.args.copies c.in_default.not-Some c.requires.table
    c.in_ok-_slot.ensures.pushed c.in_ok-_slot.ensures.room c.in_ok-_slot.ensures.slot c.push.ensures.width
    c.laws.ensures c.in_ok-push.ensures.items
