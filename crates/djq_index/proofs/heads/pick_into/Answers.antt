-- The cells below the index are those at the first columns; past the last column they are all of the key's.
use Rattle.std.proofs.Common.{◌++◌, ◌∷◌, [], sym, ◌∙◌, ap, ap₂, length, length-set, List, ℕ, arith}
use Rattle.std.proofs.lemmas.List.{take_all, take_more_set}
use Rattle.djq_index.specs.Tuple.{pick}
use Rattle.djq_index.proofs.Tuples.{pick_nil, pick_more, column_below}
use Rattle.djq_index.proofs.heads.pick_into.Goals as goal

pub loop-at-init : goal.loop-at-init
loop-at-init c = record { picked = sym (pick_nil c.args.tuple.now); long = c.requires.long }

pub cell_at-requires : goal.cell_at-requires
cell_at-requires c = column_below (length c.args.tuple.now) c.args.key.now c.loop-at.at c.requires.columns
    c.loop-at-test.true

pub loop-at-preserved : goal.loop-at-preserved
loop-at-preserved c = record {
  picked = take_more_set c.loop-at.cells c.loop-at.at c.cell_at.result
      (omega (arith, c.loop-at.invariant.long, c.loop-at-test.true))
      ∙ ap₂ (λ (u : List ℕ) (x : ℕ). u ++ x ∷ []) c.loop-at.invariant.picked c.cell_at.ensures
      ∙ sym (pick_more c.args.key.now c.loop-at.at c.args.tuple.now c.loop-at-test.true);
  long = length-set c.loop-at.cells c.loop-at.at c.cell_at.result ∙ c.loop-at.invariant.long;
}

pub returns : goal.returns
returns c =
    sym (take_all c.loop-at.at c.loop-at.cells (omega (arith, c.loop-at.invariant.long, c.loop-at-test.false)))
    ∙ c.loop-at.invariant.picked
    ∙ ap (λ (xs : List ℕ). pick xs c.args.tuple.now)
    (take_all c.loop-at.at c.args.key.now (omega (arith, c.loop-at-test.false)))
