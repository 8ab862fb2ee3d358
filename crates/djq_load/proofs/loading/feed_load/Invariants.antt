use Rattle.std.proofs.Common.{◌≡◌, List, ℕ, ◌++◌, length}
use Rattle.djq_load.specs.Load.{load}
use Rattle.djq_machine.specs.Call.{counts}
use Rattle.djq_load.specs.Lines.{FeedsLines, SessionIsIdle}
use Rattle.djq_load.proofs.Listings.{AreOnes}
use Rattle.djq_load.proofs.loading.feed_load.Given as goal

-- The first lines were fed; those that are left are lines too.
abbrev pub invariant-lines : goal.invariant-lines
invariant-lines g l =
    let state = g.M.Machine.state in
    record {
      idle : SessionIsIdle (state l.machine);
      so_far : (lines : List (List ℕ)) × (lines ++ l.load ≡ load l.fn.n l.fn.seed)
          × FeedsLines lines (state l.fn.machine) (counts l.fn.steps.listing l.fn.steps.update l.fn.steps.rows)
          (state l.machine) (counts l.steps.listing l.steps.update l.steps.rows);
      ones : AreOnes l.load;
    }

abbrev pub decreases-lines : goal.decreases-lines
decreases-lines g l = length l.load
