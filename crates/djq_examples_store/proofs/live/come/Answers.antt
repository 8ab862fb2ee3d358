-- The log was empty, so its lines are what the row brought; the later query has the same tree to show them.
use Rattle.std.proofs.Common.{ap, ◌∙◌}
use Rattle.djq_leaves.specs.Changes.{Came}
use Rattle.djq_live_query.specs.Live.{Live}
use Rattle.djq_live_query.proofs.TestDeltas.{lines_show_now}
use Rattle.djq_examples_store.proofs.live.come.Goals as goal

pub add-requires : goal.add-requires
add-requires g c = record {
  before = c.requires.can.0;
  after = c.args.catalog.now;
  row = c.requires.can.1;
  kept = c.requires.can.2;
  came = c.requires.can.3;
}

pub told-requires-clause-showable : goal.told-requires-clause-showable
told-requires-clause-showable g c =
    lines_show_now (λ x y. Came x y c.args.id.at c.args.cells.now) c.requires.can.0
    c.args.catalog.now c.requires.can.1 c.args.live.now c.outdate.new.self c.new-log.result
    c.add.new.log c.in_ok-add.ensures.log c.new-log.ensures.lines c.requires.can.2
    c.requires.can.3
    (ap (λ (l : Live). l.numbered) c.outdate.ensures.outdated ∙ c.add.ensures.same.numbered)
    (ap (λ (l : Live). (l.reducts).tree) c.outdate.ensures.outdated ∙ c.add.ensures.same.tree)

pub told-requires-clause-kept : goal.told-requires-clause-kept
told-requires-clause-kept g c = (
  c.args.catalog.now,
  (c.outdate.ensures.live c.args.catalog.now
      (c.in_ok-add.ensures.added c.requires.can.0 c.args.catalog.now c.requires.can.1
      c.requires.can.2 c.requires.can.3)).kept,
)
