-- The walk back is at the last of a front part of the group, whose entries are all in the table.
use Rattle.std.proofs.Common.{subst, ◌∷◌}
use Rattle.djq_index.specs.Entries.{group_of}
use Rattle.djq_index.specs.Table.{IsOccupied}
use Rattle.djq_index.proofs.Groups.{group_live, Backing, backing_cut}
use Rattle.djq_examples_tables.proofs.index.group_back.Goals as goal

pub tuple-requires : goal.tuple-requires
tuple-requires g c =
    let w = backing_cut (group_of c.args.table.now.key c.args.table.now.entries c.args.cells.now) c.in-Some.place
    (subst (Backing (group_of c.args.table.now.key c.args.table.now.entries c.args.cells.now)) c.in-Some.is
    c.loop-step.invariant) in
    subst (IsOccupied c.args.table.now.entries) w.4
    (group_live c.args.table.now.key c.args.table.now.entries c.args.cells.now w.0 w.1 w.2 w.3)

pub prev-at-requires : goal.prev-at-requires
prev-at-requires g c =
    let w = backing_cut (group_of c.args.table.now.key c.args.table.now.entries c.args.cells.now) c.in-Some.place
    (subst (Backing (group_of c.args.table.now.key c.args.table.now.entries c.args.cells.now)) c.in-Some.is
    c.loop-step.invariant) in
    subst (IsOccupied c.args.table.now.entries) w.4
    (group_live c.args.table.now.key c.args.table.now.entries c.args.cells.now w.0 w.1 w.2 w.3)

pub loop-step-preserved : goal.loop-step-preserved
loop-step-preserved g c =
    let w = backing_cut (group_of c.args.table.now.key c.args.table.now.entries c.args.cells.now) c.in-Some.place
    (subst (Backing (group_of c.args.table.now.key c.args.table.now.entries c.args.cells.now)) c.in-Some.is
    c.loop-step.invariant) in
    record {
      front = w.0;
      back = w.1 ∷ w.2;
      is = w.3;
      last = c.prev-at.ensures.found c.args.cells.now w.0 w.1 w.2 w.3
          w.4;
    }
