use Rattle.std.proofs.Common.{◌+◌, ◌*◌, ◌≤◌, sum_by}
use Rattle.djq_live_query.specs.Member.{queries_at}
use Rattle.djq_gains.specs.Gathering.{asks_of}
use Rattle.djq_gains.proofs.DeltaLines.{Telling}
use Rattle.djq_gains.proofs.telling.tell.Given as goal

abbrev pub invariant-loop-done : goal.invariant-loop-done
invariant-loop-done g l = record {
  tells : Telling (queries_at l.group.queries.now l.group.places.now) l.gains.gains l.at l._done
      l.log.lines l.log.lost;
  counted : l.listing ≤ l.fn.listing
      + l._done * sum_by asks_of (queries_at l.group.queries.now l.group.places.now);
}
