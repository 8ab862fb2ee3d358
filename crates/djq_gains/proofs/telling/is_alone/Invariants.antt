use Rattle.std.proofs.Common.{◌≡◌, ℕ, ◌+◌, ◌<◌, ◌≤◌, false, take, sum_by}
use Rattle.std.specs.Prelude.{Some, slice_get, slice_index_or}
use Rattle.djq_live_query.specs.Live.{Live}
use Rattle.djq_live_query.specs.Member.{has_cells, queries_at}
use Rattle.djq_gains.specs.Gathering.{asks_of}
use Rattle.djq_gains.proofs.telling.is_alone.Given as goal

abbrev pub invariant-loop-nth : goal.invariant-loop-nth
invariant-loop-nth g l = record {
  passes : (m : ℕ) (p : Live) → m < l.nth
      → slice_get (queries_at l.group.queries.now l.group.places.now) m ≡ Some p
      → slice_index_or l.marks.stands m false ≡ false → has_cells p l.cells ≡ false;
  counted : l.listing ≤ l.fn.listing
      + sum_by asks_of (take l.nth (queries_at l.group.queries.now l.group.places.now));
}
