-- The row isn't there, so its first copy comes last.
use Rattle.std.proofs.Common.{arith, subst}
use Rattle.std.specs.Prelude.{Err}
use Rattle.djq_database.specs.declared.refusal.RowsRefusal.{RowsRefusal}
use Rattle.djq_database.specs.declared.refusal.RowsRefusal.TheVariants.{Full}
use Rattle.djq_database.specs.Changes.{AddsRowAt}
use Rattle.djq_transaction.specs.Applied.{SetsCopiesAt}
use Rattle.djq_transaction.proofs.SetCopies.{stands_now, set_on, first_one, no_place, counted_now}
use Rattle.djq_transaction.proofs.copies.insert_row.Goals as goal

pub add_copies-requires-clause-counted : goal.add_copies-requires-clause-counted
add_copies-requires-clause-counted g c =
    counted_now c.args.catalog.now c.add_row.new.self c.args.id.at c.args.cells.now 1 0 c.requires.counted
    (λ row s. first_one c.args.catalog.now c.args.id.at c.args.cells.now row c.add_row.new.self.relations
    c.in-Ok._first c.laws.ensures c.requires.counted s (c.in-Ok.ensures.adds row s))
    c.add_row.ensures.texts (omega arith)

pub returns-clause-set : goal.returns-clause-set
returns-clause-set g c = λ row s.
    let set : SetsCopiesAt c.args.catalog.now c.args.id.at c.args.cells.now 1 c.add_row.new.self.relations =
    (λ r t. first_one c.args.catalog.now c.args.id.at c.args.cells.now r c.add_row.new.self.relations
    c.in-Ok._first c.laws.ensures c.requires.counted t (c.in-Ok.ensures.adds r t)) in
    set_on c.args.catalog.now c.add_row.new.self c.args.id.at c.args.cells.now 1 set c.add_row.ensures.texts row s
    c.args.copies c.add_copies.new.catalog.relations c.requires.counted.below (omega arith)
    (c.add_copies.ensures.set row
    (stands_now c.args.catalog.now c.add_row.new.self c.args.id.at c.args.cells.now 1 set c.add_row.ensures.texts row s))

pub unreachable-requires : goal.unreachable-requires
unreachable-requires g c =
    let row = c.requires.counted.stand.row in
    let s = c.requires.counted.stand.stand in
    let a : AddsRowAt c.args.catalog.now.relations c.args.id.at row (Err Full) c.add_row.new.self.relations =
    subst (λ (x : RowsRefusal). AddsRowAt c.args.catalog.now.relations c.args.id.at row (Err x)
    c.add_row.new.self.relations) c.in-Err-Full.field-0-is (c.in-Err-Full.ensures.adds row s) in
    no_place c.args.catalog.now c.args.id.at c.args.cells.now row c.requires.counted s c.requires.few a.0

pub unreachable-requires-in-Err-NameTaken : goal.unreachable-requires-in-Err-NameTaken
unreachable-requires-in-Err-NameTaken g c =
    let row = c.requires.counted.stand.row in
    subst (λ (x : RowsRefusal). AddsRowAt c.args.catalog.now.relations c.args.id.at row (Err x)
    c.add_row.new.self.relations) c.in-Err-NameTaken.field-0-is
    (c.in-Err-NameTaken.ensures.adds row c.requires.counted.stand.stand)
