-- After each step the walk is at the first of the rest of the marks, whose entries are all in the table.
use Rattle.std.proofs.Common.{sym, ◌∙◌, subst, drop, take, ◌+◌}
use Rattle.djq_index.specs.Entries.{marks}
use Rattle.djq_index.specs.Table.{IsOccupied}
use Rattle.djq_index.proofs.Groups.{walk_cut, marks_live}
use Rattle.djq_examples_tables.proofs.index.marked.Goals as goal

pub tuple-requires : goal.tuple-requires
tuple-requires g c =
    let w = walk_cut (marks c.args.table.now.entries) c.loop-step._step c.in-Some.place
    (sym c.loop-step.invariant ∙ c.in-Some.is) in
    subst (IsOccupied c.args.table.now.entries) w.at
    (marks_live c.args.table.now.entries (take c.loop-step._step (marks c.args.table.now.entries)) w.entry
    (drop (c.loop-step._step + 1) (marks c.args.table.now.entries)) w.is)

pub next_marked-at-requires : goal.next_marked-at-requires
next_marked-at-requires g c =
    let w = walk_cut (marks c.args.table.now.entries) c.loop-step._step c.in-Some.place
    (sym c.loop-step.invariant ∙ c.in-Some.is) in
    subst (IsOccupied c.args.table.now.entries) w.at
    (marks_live c.args.table.now.entries (take c.loop-step._step (marks c.args.table.now.entries)) w.entry
    (drop (c.loop-step._step + 1) (marks c.args.table.now.entries)) w.is)

pub loop-step-preserved : goal.loop-step-preserved
loop-step-preserved g c =
    let w = walk_cut (marks c.args.table.now.entries) c.loop-step._step c.in-Some.place
    (sym c.loop-step.invariant ∙ c.in-Some.is) in
    c.next_marked-at.ensures.found (take c.loop-step._step (marks c.args.table.now.entries)) w.entry
    (drop (c.loop-step._step + 1) (marks c.args.table.now.entries)) w.is w.at
