-- What is said of the table written back is said of the node's; a tuple comes with a support or not at all.
use Rattle.std.proofs.Common.{◌≡◌, ◌<◌, [], length, IfOk, OnErr, sym, ◌∙◌}
use Rattle.djq_index.specs.Entries.{count_of, marks}
use Rattle.djq_index.specs.Table.{IsAt}
use Rattle.djq_index.specs.Changes.{InsertedAs}
use Rattle.djq_propagate.proofs.Families.{is_read, to_read, onto, onto_key, changed_into, insert_supported}
use Rattle.djq_propagate.proofs.tables.insert_at.Goals as goal

pub insert_as-requires-clause-absent : goal.insert_as-requires-clause-absent
insert_as-requires-clause-absent g c = to_read (λ es. count_of es c.args.tuple.now ≡ 0)
    (is_read c.args.tables.now.items c.args.at c.index_mut-table.result.now c.requires.within
    c.index_mut-table.ensures.value) c.requires.absent

pub insert_as-requires-clause-wide : goal.insert_as-requires-clause-wide
insert_as-requires-clause-wide g c =
    let r = is_read c.args.tables.now.items c.args.at c.index_mut-table.result.now c.requires.within
    c.index_mut-table.ensures.value in
    c.requires.wide ∙ sym r.width

pub insert_as-requires-clause-few : goal.insert_as-requires-clause-few
insert_as-requires-clause-few g c = to_read (λ es. length es < 4294967295)
    (is_read c.args.tables.now.items c.args.at c.index_mut-table.result.now c.requires.within
    c.index_mut-table.ensures.value) c.requires.few

pub insert_as-requires-clause-plain : goal.insert_as-requires-clause-plain
insert_as-requires-clause-plain g c = λ e. to_read (λ es. marks es ≡ [])
    (is_read c.args.tables.now.items c.args.at c.index_mut-table.result.now c.requires.within
    c.index_mut-table.ensures.value) (c.requires.plain e)

pub returns-clause-inserted : goal.returns-clause-inserted
returns-clause-inserted g c = onto_key
    (λ ks es fs. IfOk c.insert_as.result (λ p. InsertedAs c.args.marked ks es fs c.args.tuple.now)) c.insert_as.new.self
    (is_read c.args.tables.now.items c.args.at c.index_mut-table.result.now c.requires.within
    c.index_mut-table.ensures.value) c.insert_as.ensures.inserted

pub returns-clause-lies : goal.returns-clause-lies
returns-clause-lies g c = onto (λ es fs. IfOk c.insert_as.result (λ p. IsAt fs p c.args.tuple.now))
    c.insert_as.new.self (is_read c.args.tables.now.items c.args.at c.index_mut-table.result.now c.requires.within
    c.index_mut-table.ensures.value) c.insert_as.ensures.at

pub returns-clause-refused : goal.returns-clause-refused
returns-clause-refused g c = onto (λ es fs. OnErr c.insert_as.result (fs ≡ es)) c.insert_as.new.self
    (is_read c.args.tables.now.items c.args.at c.index_mut-table.result.now c.requires.within
    c.index_mut-table.ensures.value) c.insert_as.ensures.refused

pub returns-clause-changed : goal.returns-clause-changed
returns-clause-changed g c =
    let t = c.index_mut-table.result.now in
    let r = is_read c.args.tables.now.items c.args.at c.index_mut-table.result.now c.requires.within
    c.index_mut-table.ensures.value in
    changed_into r c.insert_as.ensures.table c.insert_as.ensures.key c.insert_as.ensures.width
    (λ h. insert_supported c.args.marked c.insert_as.result t.key t.entries c.insert_as.new.self.entries
    c.args.tuple.now c.insert_as.ensures.inserted c.insert_as.ensures.refused h)
