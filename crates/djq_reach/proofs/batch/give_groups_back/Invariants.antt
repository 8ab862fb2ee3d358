use Rattle.std.proofs.Common.{ℕ, ◌≡◌, ◌≤◌, ◌+◌, length, take}
use Rattle.std.specs.Prelude.{sum_by}
use Rattle.djq_propagate.specs.Updates.{HasAtMost}
use Rattle.djq_database.specs.Catalog.{Catalog}
use Rattle.djq_live_query.specs.Live.{IsKept, SameQuery}
use Rattle.djq_reach.specs.Reaching.{Reach, AllAt}
use Rattle.djq_reach.specs.Grouping.{GroupsLead, group_work, reached}
use Rattle.djq_reach.proofs.CatalogChains.{Behind}
use Rattle.djq_reach.proofs.batch.give_groups_back.Given as goal

abbrev pub invariant-loop-left : goal.invariant-loop-left
invariant-loop-left g l = record {
  low : l.left ≤ length l.groups;
  same : Reach (reached l.readers l.groups) SameQuery l.fn.queries.items l.queries.items;
  behind : (c d : Catalog) → GroupsLead l.readers l.groups l.fn.queries.items c d
      → AllAt (reached l.readers l.groups) l.fn.queries.items (λ m. IsKept d m)
      → Behind l.readers l.groups l.left l.fn.queries.items l.queries.items c;
  few : (n : ℕ) → AllAt (reached l.readers l.groups) l.fn.queries.items (λ m. HasAtMost m.reducts n)
      → AllAt (reached l.readers l.groups) l.queries.items (λ m. HasAtMost m.reducts n);
  works : (n : ℕ) → AllAt (reached l.readers l.groups) l.fn.queries.items (λ m. HasAtMost m.reducts n)
      → l.steps.update + sum_by (group_work l.readers l.fn.queries.items (n + 0) (λ x. length x.rows))
      (take l.left l.groups)
      ≤ l.fn.steps.update + sum_by (group_work l.readers l.fn.queries.items (n + 0) (λ x. length x.rows)) l.groups;
  counted : l.steps.listing ≡ l.fn.steps.listing;
}

abbrev pub decreases-loop-left : goal.decreases-loop-left
decreases-loop-left g l = l.left
