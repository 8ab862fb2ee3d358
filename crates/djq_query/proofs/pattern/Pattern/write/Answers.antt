-- A tuple that gives the row has the row's cell at each place that was read, and a pattern reads every place.
use Rattle.std.proofs.Common.{◌≡◌, ◌≤◌, List, length, arith, subst, ap, ◌∙◌}
use Rattle.djq_query.specs.declared.pattern.Slot.{Slot}
use Rattle.djq_query.specs.Pattern.{Shape, IsPattern}
use Rattle.djq_query.proofs.Atoms.{within_read, put_wide, read_on, read_all}
use Rattle.djq_query.proofs.pattern.Pattern.write.Goals as goal

pub columns-preserved : goal.columns-preserved
columns-preserved c =
    let pattern : IsPattern c.args.self.now = subst (λ (n : Shape). IsPattern n) c.self.view_is c.self.invariant.pattern
    in
    let same : c.as_slice-slots.result.now ≡ c.args.self.now.slots = c.as_slice-slots.ensures
    ∙ ap (λ (n : Shape). n.slots) c.self.view_is in
    record {
      wide = put_wide c.columns.tuple c.put.new.tuple _ _ c.put.ensures ∙ c.columns.invariant.wide;
      read = λ u fill. read_on c.columns.tuple c.put.new.tuple u c.args.row.now c.args.self.now.slots
          c.as_slice-slots.result.now c.columns.i _ same c.columns-test.true
          (within_read c.args.self.now c.columns.tuple c.as_slice-slots.result.now c.columns.i _ pattern same
          c.columns.invariant.wide c.columns-test.true) c.put.ensures fill (c.columns.invariant.read u fill);
    }

pub returns-clause-only : goal.returns-clause-only
returns-clause-only c u long fills =
    let pattern : IsPattern c.args.self.now = subst (λ (n : Shape). IsPattern n) c.self.view_is c.self.invariant.pattern
    in
    let same : c.as_slice-slots.result.now ≡ c.args.self.now.slots = c.as_slice-slots.ensures
    ∙ ap (λ (n : Shape). n.slots) c.self.view_is in
    let past : length c.args.self.now.slots ≤ c.columns.i = omega
    (arith, c.columns-test.false, ap (λ (l : List Slot). length l) same) in
    read_all c.args.self.now c.columns.tuple u c.columns.i pattern past c.columns.invariant.wide long
    (c.columns.invariant.read u fills)
