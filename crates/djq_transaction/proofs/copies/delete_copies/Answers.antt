-- The row has one copy less.
use Rattle.std.proofs.Common.{◌∙◌, ◌-◌, ◌≤◌, refl, arith}
use Rattle.djq_transaction.proofs.SetCopies.{stands_now, set_on, has_now, among_now, set_first, one_less}
use Rattle.djq_transaction.proofs.copies.delete_copies.Goals as goal

pub loop-left-init : goal.loop-left-init
loop-left-init g c = record {
  set = set_first c.args.catalog.now c.args.id.at c.args.cells.now c.args.from c.laws.ensures c.requires.counted;
  low = c.requires.fewer;
  texts = refl;
}

pub loop-left-preserved : goal.loop-left-preserved
loop-left-preserved g c = record {
  set = λ row s.
      let old = c.args.catalog.now in
      let now = c.loop-left.catalog in
      let at = c.args.id.at in
      let cells = c.args.cells.now in
      let k = c.loop-left.left in
      let inv = c.loop-left.invariant in
      let less = c.requires.counted.below in
      let some : 1 ≤ k = omega (arith, c.loop-left-test.true) in
      let among = among_now old now at cells k inv.set inv.texts row s less some in
      set_on old now at cells k inv.set inv.texts row s (k - 1) c.delete_row-outcome.new.self.relations less some
      (one_less now.relations c.delete_row-outcome.new.self.relations at row (k - 1) c.delete_row-outcome.result
      (has_now old now at cells k inv.set inv.texts row s less some)
      (omega (arith, among, some))
      (c.delete_row-outcome.ensures.deletes row (stands_now old now at cells k inv.set inv.texts row s)));
  low = omega (arith, c.loop-left-test.true);
  texts = c.delete_row-outcome.ensures.texts ∙ c.loop-left.invariant.texts;
}
