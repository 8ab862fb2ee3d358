-- One more row is counted where it is new.
use Rattle.std.proofs.Common.{◌∙◌, ap, sym, arith}
use Rattle.std.specs.Prelude.{◌+◌, Bool, cond}
use Rattle.std.specs.List.{zip}
use Rattle.djq_transaction.proofs.Tables.{cells_in, count_more, count_all, entries_long}
use Rattle.djq_transaction.proofs.net.Net.count_new.Goals as goal
use Rattle.djq_transaction.proofs.net.Net.count_new.Goals.{then-is_new, else-is_new}

pub loop-place-preserved : goal.loop-place-preserved
loop-place-preserved c = elim c.if-is_new.branch [
  | then-is_new w ↦ record {
    count = count_more c.args.relation (zip (cells_in c.args.self.now.keys.rows) c.args.self.now.copies.items)
        c.loop-place.place c.loop-place.count _ c.is_new.result
        (omega (
          arith,
          c.loop-place-test.true,
          entries_long (cells_in c.args.self.now.keys.rows)
              c.args.self.now.copies.items c.requires.table.long,
          c.len-place-end.ensures,
        )) c.is_new.ensures
        c.loop-place.invariant.count
        (w.count-is ∙ ap (λ (b : Bool). c.loop-place.count + cond b 1 0) (sym w.if-is_new.true));
    low = omega (arith, w.count-is, c.loop-place.invariant.low);
  }
  | else-is_new w ↦ record {
    count = count_more c.args.relation (zip (cells_in c.args.self.now.keys.rows) c.args.self.now.copies.items)
        c.loop-place.place c.loop-place.count _ c.is_new.result
        (omega (
          arith,
          c.loop-place-test.true,
          entries_long (cells_in c.args.self.now.keys.rows)
              c.args.self.now.copies.items c.requires.table.long,
          c.len-place-end.ensures,
        )) c.is_new.ensures
        c.loop-place.invariant.count
        (omega (arith, w.count-is) ∙ ap (λ (b : Bool). c.loop-place.count + cond b 1 0) (sym w.if-is_new.false));
    low = omega (arith, w.count-is, c.loop-place.invariant.low);
  }
]

pub returns : goal.returns
returns c = count_all c.args.relation (cells_in c.args.self.now.keys.rows) c.args.self.now.copies.items
    c.loop-place.place c.loop-place.count c.requires.table.long
    (omega (arith, c.loop-place-test.false, c.len-place-end.ensures)) c.loop-place.invariant.count
