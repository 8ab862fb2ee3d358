-- What the arena finds by the hash is a row of these cells, and each entry is a row with its copies.
use Rattle.std.proofs.Common.{◌≡◌, ap, subst, List}
use Rattle.std.specs.Prelude.{MatchOption}
use Rattle.djq_index.specs.Entries.{Entry, count_of}
use Rattle.djq_index.specs.Table.{IsAt}
use Rattle.djq_database.specs.Rows.{Rows, row_place}
use Rattle.djq_database.proofs.Slots.{finds}
use Rattle.djq_database.proofs.rows.Rows.find_hashed.Goals as goal

pub returns-clause-found : goal.returns-clause-found
returns-clause-found g c =
    subst (λ (es : List Entry). MatchOption c.find_hashed.result (count_of es c.args.cells.now ≡ 0)
    (λ slot. IsAt es (row_place slot) c.args.cells.now)) (ap (λ (r : Rows). r.entries) c.self.view_is)
    (finds c.self.inside.copies.items c.self.inside.arena.rows c.args.cells.now c.find_hashed.result
    c.find_hashed.ensures)
