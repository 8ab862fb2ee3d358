-- The key's slot is its place.
use Rattle.djq_transaction.proofs.Tables.{cells_in, found_at, not_found}
use Rattle.djq_transaction.proofs.net.Net.find.Goals as goal

pub returns-in-Some : goal.returns-in-Some
returns-in-Some c = found_at (cells_in c.args.self.now.keys.rows) c.args.self.now.keys.rows c.in-Some.slot
    c.args.key.now c.requires.rows c.in-Some.ensures

pub returns-in-None : goal.returns-in-None
returns-in-None c = not_found (cells_in c.args.self.now.keys.rows) c.args.self.now.keys.rows c.args.key.now
    c.requires.rows c.in-None.ensures
