-- The log was empty, so its lines are what went with the row, and the later query can show them still.
use Rattle.std.proofs.Common.{rules, ap, ◌∙◌}
use Rattle.djq_leaves.specs.Changes.{Went}
use Rattle.djq_live_query.specs.Live.{Live, IsLive}
use Rattle.djq_live_query.proofs.TestDeltas.{lines_show_now}
use Rattle.djq_examples_store.proofs.live.go.Goals as goal

pub delete-requires : goal.delete-requires
delete-requires g c = record {
  before = c.requires.can.0;
  after = c.args.catalog.now;
  row = c.requires.can.1;
  kept = c.requires.can.2;
  there = c.requires.can.3;
  went = c.requires.can.4;
}

pub told-requires-clause-showable : goal.told-requires-clause-showable
told-requires-clause-showable g c =
    lines_show_now (λ x y. Went x y c.args.id.at c.args.cells.now) c.requires.can.0
    c.args.catalog.now c.requires.can.1 c.args.live.now c.outdate.new.self c.new-log.result
    c.delete.new.log c.delete.ensures.log c.new-log.ensures.lines c.requires.can.2
    c.requires.can.4
    (ap (λ (l : Live). l.numbered) c.outdate.ensures.outdated ∙ c.delete.ensures.same.numbered)
    (ap (λ (l : Live). (l.reducts).tree) c.outdate.ensures.outdated ∙ c.delete.ensures.same.tree)

pub returns : goal.returns
returns g c =
    let live : IsLive c.args.catalog.now c.outdate.new.self =
    c.outdate.ensures.live c.args.catalog.now
    (c.delete.ensures.deleted c.requires.can.0 c.args.catalog.now c.requires.can.1
    c.requires.can.2 c.requires.can.4) in
    search rules
