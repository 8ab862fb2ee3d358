-- What is said of the table written back is said of the node's; the tuples that stay keep their supports.
use Rattle.std.proofs.Common.{ℕ, List}
use Rattle.djq_index.specs.Table.{IsAt, IsOccupied}
use Rattle.djq_index.specs.Changes.{Removed}
use Rattle.djq_index.proofs.Groups.{removed_supported}
use Rattle.djq_propagate.proofs.Families.{is_read, to_read, onto, changed_into}
use Rattle.djq_propagate.proofs.tables.remove_at.Goals as goal

pub remove-requires : goal.remove-requires
remove-requires g c =
    to_read (λ es. IsOccupied es c.args.place) (is_read c.args.tables.now.items c.args.at c.index_mut-table.result.now
    c.requires.within c.index_mut-table.ensures.value) c.requires.live

pub returns-clause-removed : goal.returns-clause-removed
returns-clause-removed g c = onto (λ es fs. (u : List ℕ) → IsAt es c.args.place u → Removed es fs u) c.remove.new.self
    (is_read c.args.tables.now.items c.args.at c.index_mut-table.result.now c.requires.within
    c.index_mut-table.ensures.value) c.remove.ensures.removed

pub returns-clause-changed : goal.returns-clause-changed
returns-clause-changed g c =
    let r = is_read c.args.tables.now.items c.args.at c.index_mut-table.result.now c.requires.within
    c.index_mut-table.ensures.value in
    let l = to_read (λ es. IsOccupied es c.args.place) r c.requires.live in
    changed_into r c.remove.ensures.table c.remove.ensures.key c.remove.ensures.width
    (λ h. removed_supported c.index_mut-table.result.now.entries c.remove.new.self.entries l.tuple
    (c.remove.ensures.removed l.tuple l.is_at) h)
