use Rattle.std.proofs.Common.{◌≡◌, ◌+◌}
use Rattle.djq_index.proofs.ClearedMarks.{Clearing}
use Rattle.djq_index.proofs.marking.unmark_all.Given as goal

abbrev pub invariant-loop-done : goal.invariant-loop-done
invariant-loop-done g l = record {
  clearing : Clearing l.fn.notes.items l.notes.items l.rows.rows l.at l._done;
  counted : l.tally ≡ l.fn.tally + l._done;
}
