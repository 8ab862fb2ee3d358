-- The notes keep their heads, so the groups stay; and without marks there is no first marked slot.
use Rattle.std.proofs.Common.{None, refl}
use Rattle.djq_index.specs.declared.raw.Raw.{Raw}
use Rattle.djq_index.proofs.ClearedMarks.{cleared_raw}
use Rattle.djq_index.proofs.Tables.{raw_table}
use Rattle.djq_index.proofs.table.Table.clear_marks.Goals as goal

pub invariant_of-self : goal.invariant_of-self
invariant_of-self g c =
    cleared_raw c.self.inside.raw _ c.self.invariant refl refl refl c.unmark_all.ensures.heads
    c.unmark_all.ensures.long refl refl refl refl c.unmark_all.ensures.cleared

pub returns-clause-table : goal.returns-clause-table
returns-clause-table g c =
    let b : Raw = record c.self.inside.raw { notes = c.unmark_all.new.notes; marked = None } in
    raw_table b
    (cleared_raw c.self.inside.raw b c.self.invariant refl refl refl c.unmark_all.ensures.heads
    c.unmark_all.ensures.long refl refl refl refl c.unmark_all.ensures.cleared)
