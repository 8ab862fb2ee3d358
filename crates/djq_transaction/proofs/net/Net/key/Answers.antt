-- The key at a place lies in its slot.
use Rattle.std.proofs.Common.{◌∙◌}
use Rattle.djq_transaction.proofs.Tables.{cells_in, key_at, key_cells_at, key_wide}
use Rattle.djq_transaction.proofs.net.Net.key.Goals as goal

pub cells-requires : goal.cells-requires
cells-requires c = key_at (cells_in c.args.self.now.keys.rows) c.args.self.now.keys.rows c.args.place
    c.requires.table.rows c.requires.within

pub returns-clause-key : goal.returns-clause-key
returns-clause-key c = key_cells_at (cells_in c.args.self.now.keys.rows) c.args.self.now.keys.rows c.args.place
    c.cells.result.now c.requires.table.rows c.requires.within c.cells.ensures

pub returns-clause-wide : goal.returns-clause-wide
returns-clause-wide c = key_wide (cells_in c.args.self.now.keys.rows) c.args.self.now.keys.rows
    c.args.self.now.keys.width c.args.place c.cells.result.now c.requires.table.rows c.requires.within
    c.cells.ensures c.laws.ensures.wide ∙ c.requires.table.wide
