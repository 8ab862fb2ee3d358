-- Marked ones come last in a group, so if its first tuple is marked all are; an empty group has none unmarked.
use Rattle.std.proofs.Common.{Bool, List, ap, sym, ◌∙◌, arith}
use Rattle.djq_index.specs.Entries.{Entry, group_size, plain, is_marked, head_at}
use Rattle.djq_reduct.specs.Tables.{entries_at, key_at}
use Rattle.djq_propagate.specs.Touches.{is_marked_by}
use Rattle.djq_propagate.proofs.Walks.{has_table, as_live}
use Rattle.djq_propagate.proofs.Families.{family_read, group_read, at_read}
use Rattle.djq_propagate.proofs.Touches.{gate_open, gate_none, first_is, gate_first}
use Rattle.djq_propagate.proofs.touch.is_to_be_marked.Goals as goal

pub index-table-requires : goal.index-table-requires
index-table-requires g c =
    omega (
      arith,
      has_table c.args.tree.now c.args.tables.now.items c.args.at c.requires.family c.requires.within,
      c.args.tables.now.ok.0,
    )

pub marked-requires : goal.marked-requires
marked-requires g c =
    let t = c.index-table.result.now in
    let x = first_is t.key t.entries c.args.cells.now c.in-Some.place (sym c.first.ensures.found ∙ c.in-Some.is) in
    as_live t.entries c.in-Some.place x.entry.tuple x.is_at

pub returns-in-Some-clause-going : goal.returns-in-Some-clause-going
returns-in-Some-clause-going g c =
    let r = family_read c.args.tree.now c.args.tables.now.items c.args.at c.index-table.result.now c.requires.family
    c.requires.within c.index-table.ensures in
    let x = first_is (key_at c.args.tables.now.items c.args.at) (entries_at c.args.tables.now.items c.args.at)
    c.args.cells.now c.in-Some.place
    (sym (c.first.ensures.found ∙ ap (λ (es : List Entry). head_at es) (group_read c.args.cells.now r)) ∙ c.in-Some.is)
    in
    gate_first c.args.tree.now c.args.tables.now.items c.args.at c.args.cells.now c.in-Some.place c.marked.result x
    c.requires.family (c.marked.ensures x.entry.tuple (at_read r x.is_at)
    ∙ ap (λ (es : List Entry). is_marked es x.entry.tuple) r.entries)
    ∙ ap (λ (b : Bool). is_marked_by b
    (group_size (key_at c.args.tables.now.items c.args.at) (plain (entries_at c.args.tables.now.items c.args.at))
    c.args.cells.now)) (sym c.if-going.true)

pub returns-in-Some-clause-counted : goal.returns-in-Some-clause-counted
returns-in-Some-clause-counted g c =
    omega (arith, c.first.ensures.counted)

pub returns-in-None-clause-going : goal.returns-in-None-clause-going
returns-in-None-clause-going g c =
    gate_none (key_at c.args.tables.now.items c.args.at) (entries_at c.args.tables.now.items c.args.at) c.args.cells.now
    (sym (c.first.ensures.found ∙ ap (λ (es : List Entry). head_at es) (group_read c.args.cells.now
    (family_read c.args.tree.now c.args.tables.now.items c.args.at c.index-table.result.now c.requires.family
    c.requires.within c.index-table.ensures))) ∙ c.in-None.is)
    ∙ ap (λ (b : Bool). is_marked_by b
    (group_size (key_at c.args.tables.now.items c.args.at) (plain (entries_at c.args.tables.now.items c.args.at))
    c.args.cells.now)) (sym c.if-going.true)

pub returns-in-None-clause-counted : goal.returns-in-None-clause-counted
returns-in-None-clause-counted g c =
    omega (arith, c.first.ensures.counted)

pub returns-else-going-clause-going : goal.returns-else-going-clause-going
returns-else-going-clause-going g c =
    sym (ap (λ (b : Bool). is_marked_by b
    (group_size (key_at c.args.tables.now.items c.args.at) (plain (entries_at c.args.tables.now.items c.args.at))
    c.args.cells.now)) c.if-going.false
    ∙ gate_open (group_size (key_at c.args.tables.now.items c.args.at)
    (plain (entries_at c.args.tables.now.items c.args.at)) c.args.cells.now))

pub returns-else-going-clause-counted : goal.returns-else-going-clause-counted
returns-else-going-clause-counted g c =
    omega arith
