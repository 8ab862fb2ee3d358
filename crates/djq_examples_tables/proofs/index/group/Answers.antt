-- After each step the walk is at the first of the rest of the group, whose entries are all in the table.
use Rattle.std.proofs.Common.{sym, ◌∙◌, subst, drop, take, ◌+◌}
use Rattle.djq_index.specs.Entries.{group_of}
use Rattle.djq_index.specs.Table.{IsOccupied}
use Rattle.djq_index.proofs.Groups.{walk_cut, group_live}
use Rattle.djq_examples_tables.proofs.index.group.Goals as goal

pub tuple-requires : goal.tuple-requires
tuple-requires g c =
    let w = walk_cut (group_of c.args.table.now.key c.args.table.now.entries c.args.cells.now) c.loop-step._step
    c.in-Some.place (sym c.loop-step.invariant ∙ c.in-Some.is) in
    subst (IsOccupied c.args.table.now.entries) w.at
    (group_live c.args.table.now.key c.args.table.now.entries c.args.cells.now
    (take c.loop-step._step (group_of c.args.table.now.key c.args.table.now.entries c.args.cells.now)) w.entry
    (drop (c.loop-step._step + 1) (group_of c.args.table.now.key c.args.table.now.entries c.args.cells.now)) w.is)

pub next-at-requires : goal.next-at-requires
next-at-requires g c =
    let w = walk_cut (group_of c.args.table.now.key c.args.table.now.entries c.args.cells.now) c.loop-step._step
    c.in-Some.place (sym c.loop-step.invariant ∙ c.in-Some.is) in
    subst (IsOccupied c.args.table.now.entries) w.at
    (group_live c.args.table.now.key c.args.table.now.entries c.args.cells.now
    (take c.loop-step._step (group_of c.args.table.now.key c.args.table.now.entries c.args.cells.now)) w.entry
    (drop (c.loop-step._step + 1) (group_of c.args.table.now.key c.args.table.now.entries c.args.cells.now)) w.is)

pub loop-step-preserved : goal.loop-step-preserved
loop-step-preserved g c =
    let w = walk_cut (group_of c.args.table.now.key c.args.table.now.entries c.args.cells.now) c.loop-step._step
    c.in-Some.place (sym c.loop-step.invariant ∙ c.in-Some.is) in
    c.next-at.ensures.found c.args.cells.now
    (take c.loop-step._step (group_of c.args.table.now.key c.args.table.now.entries c.args.cells.now)) w.entry
    (drop (c.loop-step._step + 1) (group_of c.args.table.now.key c.args.table.now.entries c.args.cells.now)) w.is w.at
