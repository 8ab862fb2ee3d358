-- One more row is counted where it went.
use Rattle.std.proofs.Common.{◌∙◌, ap, sym, arith}
use Rattle.std.specs.Prelude.{◌+◌, Bool, cond}
use Rattle.djq_transaction.specs.Net.{copies_went}
use Rattle.djq_transaction.proofs.Counts.{one_counted, all_counted}
use Rattle.djq_transaction.proofs.net.Net.count_went.Goals as goal
use Rattle.djq_transaction.proofs.net.Net.count_went.Goals.{then-went, else-went}

pub loop-place-preserved : goal.loop-place-preserved
loop-place-preserved c = elim c.if-went.branch [
  | then-went w ↦ record {
    count = one_counted copies_went c.args.self.now.copies.items c.loop-place.place c.loop-place.count _
        c.index.result.now _ c.went.result (omega (arith, c.loop-place-test.true, c.len-place-end.ensures))
        c.index.ensures c.went.ensures c.loop-place.invariant.count
        (w.count-is ∙ ap (λ (b : Bool). c.loop-place.count + cond b 1 0) (sym w.if-went.true));
    low = omega (arith, w.count-is, c.loop-place.invariant.low);
  }
  | else-went w ↦ record {
    count = one_counted copies_went c.args.self.now.copies.items c.loop-place.place c.loop-place.count _
        c.index.result.now _ c.went.result (omega (arith, c.loop-place-test.true, c.len-place-end.ensures))
        c.index.ensures c.went.ensures c.loop-place.invariant.count
        (omega (arith, w.count-is) ∙ ap (λ (b : Bool). c.loop-place.count + cond b 1 0) (sym w.if-went.false));
    low = omega (arith, w.count-is, c.loop-place.invariant.low);
  }
]

pub returns : goal.returns
returns c = λ relations texts width lines n.
    all_counted copies_went relations texts width lines c.args.self.now c.loop-place.place c.loop-place.count
    (omega (arith, c.loop-place-test.false, c.len-place-end.ensures)) c.loop-place.invariant.count n
