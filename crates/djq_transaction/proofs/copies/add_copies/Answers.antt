-- The row is there with fewer copies than it may have.
use Rattle.std.proofs.Common.{◌∙◌, ◌+◌, ◌≤◌, refl, arith}
use Rattle.djq_transaction.proofs.SetCopies.{stands_now, below_now, are_cells_now, set_on, has_now, among_now, set_first}
use Rattle.djq_transaction.proofs.SetCopies.{one_more}
use Rattle.djq_transaction.proofs.copies.add_copies.Goals as goal

pub loop-count-init : goal.loop-count-init
loop-count-init g c = record {
  set = set_first c.args.catalog.now c.args.id.at c.args.cells.now c.args.from c.laws.ensures c.requires.counted;
  texts = refl;
}

pub add_row-outcome-requires-clause-there : goal.add_row-outcome-requires-clause-there
add_row-outcome-requires-clause-there g c =
    below_now c.args.catalog.now c.loop-count.catalog c.args.id.at c.args.cells.now c.loop-count._count
    c.loop-count.invariant.set c.loop-count.invariant.texts c.requires.counted.stand.row c.requires.counted.stand.stand
    c.requires.counted.below

pub add_row-outcome-requires-clause-row : goal.add_row-outcome-requires-clause-row
add_row-outcome-requires-clause-row g c =
    are_cells_now c.args.catalog.now c.loop-count.catalog c.args.id.at c.args.cells.now c.loop-count._count
    c.loop-count.invariant.set c.loop-count.invariant.texts c.requires.counted.stand

pub loop-count-preserved : goal.loop-count-preserved
loop-count-preserved g c = record {
  set = λ row s.
      let old = c.args.catalog.now in
      let now = c.loop-count.catalog in
      let at = c.args.id.at in
      let cells = c.args.cells.now in
      let k = c.loop-count._count in
      let inv = c.loop-count.invariant in
      let less = c.requires.counted.below in
      let some : 1 ≤ k = omega (arith, c.requires.some, c.loop-count.auto._count) in
      set_on old now at cells k inv.set inv.texts row s (k + 1) c.add_row-outcome.new.self.relations less some
      (one_more now.relations c.add_row-outcome.new.self.relations at row k c.add_row-outcome.result
      (has_now old now at cells k inv.set inv.texts row s less some)
      (among_now old now at cells k inv.set inv.texts row s less some)
      (omega (arith, c.loop-count-test.true, c.ranges.to.fits))
      (c.add_row-outcome.ensures.adds row (stands_now old now at cells k inv.set inv.texts row s)));
  texts = c.add_row-outcome.ensures.texts ∙ c.loop-count.invariant.texts;
}
