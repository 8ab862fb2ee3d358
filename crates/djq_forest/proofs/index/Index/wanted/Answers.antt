-- Where one slot is free no more are wanted; else each has an entry.
use Rattle.std.proofs.Common.{arith}
use Rattle.std.proofs.lemmas.Result.{IfOk-weaker}
use Rattle.djq_forest.proofs.index.Index.wanted.Goals as goal

pub returns-then-has_free : goal.returns-then-has_free
returns-then-has_free c = record {
  room = λ is. c.has_free.ensures.some c.if-has_free.true;
  full = λ not. absurd (not c.len.ensures);
  more = omega (arith, c.len.ensures);
  few = omega (arith, c.len.ensures, c.requires.numbers);
}

pub longer-requires : goal.longer-requires
longer-requires c = omega (arith, c.len-2.ensures, c.requires.numbers)

pub returns : goal.returns
returns c = IfOk-weaker c.longer.result _ _
    (λ count is. record {
      room = λ same. absurd (omega (arith, is.0, same, c.len-2.ensures));
      full = λ not. c.has_free.ensures.none c.if-has_free.false;
      more = omega (arith, is.0, c.len-2.ensures);
      few = is.1;
    })
    c.longer.ensures
