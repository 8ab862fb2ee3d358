-- Each entry is a row of the arena with its note, so there are as many of them as rows.
use Rattle.std.proofs.Common.{◌∙◌, sym, ap, length}
use Rattle.djq_index.specs.Table.{Table}
use Rattle.djq_index.proofs.Tables.{length_entries}
use Rattle.djq_index.proofs.table.Table.len.Goals as goal

pub returns : goal.returns
returns c =
    c.len.ensures ∙ sym (length_entries c.self.inside.raw.notes.items c.self.inside.raw.rows.rows)
    ∙ ap (λ (t : Table). length t.entries) c.self.view_is
