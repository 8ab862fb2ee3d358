-- An entry is a row with its note, so a row with these cells is an entry, and without one none has them.
use Rattle.std.proofs.Common.{sym, subst}
use Rattle.djq_index.specs.declared.place.Place.{Place}
use Rattle.djq_index.specs.Table.{IsAt}
use Rattle.djq_index.specs.Raw.{entries_of}
use Rattle.djq_index.proofs.Parts.{absent_cnt, row_is_at}
use Rattle.djq_index.proofs.table.Table.find.Goals as goal

pub returns-in-None-clause-found : goal.returns-in-None-clause-found
returns-in-None-clause-found g c = rw (← c.self.view_is) (
    absent_cnt c.self.inside.raw.notes.items c.self.inside.raw.rows.rows c.args.tuple.now c.in-None.ensures)

pub returns-in-Some-clause-found : goal.returns-in-Some-clause-found
returns-in-Some-clause-found g c = rw (← c.self.view_is) (
    subst (λ (p : Place). IsAt (entries_of c.self.inside.raw) p c.args.tuple.now) (sym c.new.ensures)
    (row_is_at c.self.inside.raw.notes.items c.self.inside.raw.rows.rows c.in-Some.slot c.args.tuple.now
    c.in-Some.ensures))
