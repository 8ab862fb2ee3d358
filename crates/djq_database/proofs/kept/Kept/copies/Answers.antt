-- A row that no entry has has no supports.
use Rattle.std.proofs.Common.{sym}
use Rattle.djq_index.proofs.Tuples.{supp_none}
use Rattle.djq_database.proofs.kept.Kept.copies.Goals as goal

pub returns-in-None-clause-copies : goal.returns-in-None-clause-copies
returns-in-None-clause-copies g c =
    sym (supp_none c.args.self.now.rows.entries c.args.cells.now c.in-None.ensures.found)
