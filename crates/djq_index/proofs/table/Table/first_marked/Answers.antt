-- The first marked slot is kept, by the invariant, and there the first marked entry lies.
use Rattle.std.proofs.Common.{sym, ◌∙◌, ap}
use Rattle.djq_index.specs.Entries.{marks}
use Rattle.djq_index.specs.Raw.{entries_of, place_of}
use Rattle.djq_index.proofs.Parts.{head_place}
use Rattle.djq_index.proofs.table.Table.first_marked.Goals as goal

pub returns-clause-found : goal.returns-clause-found
returns-clause-found g c = rw (← c.self.view_is) (
    c.placed.ensures ∙ ap place_of c.self.invariant.bare.marked ∙ sym
    (head_place (marks (entries_of c.self.inside.raw))))
