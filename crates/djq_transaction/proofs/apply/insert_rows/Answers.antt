-- No row is inserted before the first.
use Rattle.std.proofs.Common.{refl}
use Rattle.djq_transaction.proofs.AppliedRows.{none_first}
use Rattle.djq_transaction.proofs.apply.insert_rows.Goals as goal

pub loop-place-init : goal.loop-place-init
loop-place-init g c = record {
  first = λ lines j. none_first c.args.catalog.now lines c.args.net.now c.laws.ensures j;
  texts = refl;
}
