use Rattle.std.proofs.Common.{ℕ, replicate}
use Rattle.djq_machine.specs.Call.{counts}
use Rattle.djq_load.specs.Joins.{GivesFew}
use Rattle.djq_load.specs.Lines.{FeedsLines, SessionIsIdle}
use Rattle.djq_load.specs.Totals.{ReadsSoFar, next_line}
use Rattle.djq_load.proofs.WholeLoads.{reads_left}
use Rattle.djq_load.proofs.loading.list_answers.Given as goal

-- The cursor was read so many times; what was read is what it has given.
abbrev pub invariant-reads : goal.invariant-reads
invariant-reads g l =
    let state = g.M.Machine.state in
    record {
      idle : SessionIsIdle (state l.machine);
      few : GivesFew (state l.machine);
      read : (k : ℕ) × FeedsLines (replicate k next_line) (state l.fn.machine)
          (counts l.fn.steps.listing l.fn.steps.update l.fn.steps.rows)
          (state l.machine) (counts l.steps.listing l.steps.update l.steps.rows)
          × ReadsSoFar (state l.machine) l.reading k;
    }

-- Each read but the last gives a thousand answers more.
abbrev pub decreases-reads : goal.decreases-reads
decreases-reads g l = reads_left l.reading
