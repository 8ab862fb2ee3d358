-- What is still to be written from the index on makes the same answer as the whole; cells keep its width.
use Rattle.std.proofs.Common.{◌∙◌, ◌+◌, List, ℕ, length, drop, slice_index_or, ap, sym, refl, arith}
use Rattle.std.proofs.lemmas.List.{length-set}
use Rattle.djq_index.proofs.Tuples.{column_below}
use Rattle.djq_enumeration.specs.Levels.{cells_put}
use Rattle.djq_enumeration.proofs.Cells.{put_next, put_end}
use Rattle.djq_enumeration.proofs.levels.write_each.Goals as goal

pub set-requires : goal.set-requires
set-requires c =
    let wide = c.loop-at.invariant.wide in
    let low = column_below (length c.args.answer.now) c.args.columns.now c.loop-at.at
    c.requires.within c.loop-at-test.true in
    omega arith

pub loop-at-preserved : goal.loop-at-preserved
loop-at-preserved c =
    let cs = c.args.columns.now in
    let us = c.args.tuple.now in
    let long = c.requires.long in
    let test = c.loop-at-test.true in
    record {
      written =
          ap (λ (s : List ℕ). cells_put (drop (c.loop-at.at + 1) cs) (drop (c.loop-at.at + 1) us) s)
          c.set.ensures
          ∙ put_next cs us c.loop-at.answer c.loop-at.at (slice_index_or cs c.loop-at.at 0)
          (slice_index_or us c.loop-at.at 0) test (omega arith) refl refl
          ∙ c.loop-at.invariant.written;
      wide = ap (λ (s : List ℕ). length s) c.set.ensures
          ∙ length-set c.loop-at.answer (slice_index_or cs c.loop-at.at 0)
          (slice_index_or us c.loop-at.at 0)
          ∙ c.loop-at.invariant.wide;
    }

pub returns : goal.returns
returns c =
    sym (put_end c.args.columns.now (drop c.loop-at.at c.args.tuple.now) c.loop-at.answer
    c.loop-at.at c.loop-at-test.false)
    ∙ c.loop-at.invariant.written
