use Rattle.std.proofs.Common.{ℕ, ◌≡◌, ◌≤◌, ◌-◌, length, take, List}
use Rattle.djq_model.specs.Data.{Tuple}
use Rattle.djq_database.specs.Catalog.{Catalog}
use Rattle.djq_live_query.specs.Live.{IsKept, SameQuery}
use Rattle.djq_leaves.specs.Stepping.{HasMore}
use Rattle.djq_live_query.specs.Updating.{CountsUpdate}
use Rattle.djq_reach.specs.Batching.{RowsCameIn}
use Rattle.djq_reach.proofs.Batches.{Among}
use Rattle.djq_reach.proofs.rows.give_rows_back.Given as goal

abbrev pub invariant-loop-left : goal.invariant-loop-left
invariant-loop-left g l = record {
  low : l.left ≤ length l.rows;
  among : (c d : Catalog) (rows : List Tuple) → RowsCameIn c d l.relation.at l.rows rows → IsKept d l.fn.query
      → Among c l.relation.at (take l.left l.rows) l.query;
  same : SameQuery l.fn.query l.query;
  fewer : HasMore l.query.reducts l.fn.query.reducts;
  counted : l.steps.listing ≡ l.fn.steps.listing;
  updates : CountsUpdate (length l.rows - l.left) l.fn.query l.relation.at l.fn.steps.update l.steps.update;
}

abbrev pub decreases-loop-left : goal.decreases-loop-left
decreases-loop-left g l = l.left
