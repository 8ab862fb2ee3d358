-- The places so far are those of the engine's affected up to the index, and one more goes behind them.
use Rattle.std.proofs.Common.{ℕ, List, [], ◌∷◌, ◌++◌, sym, ap, ◌∙◌, arith}
use Rattle.djq_engine.specs.declared.cursor.QueryId.{QueryId}
use Rattle.djq_store.proofs.Readers.{mapped_more}
use Rattle.djq_store.proofs.affecting.affect_queries.Goals as goal

pub loop-nth-preserved : goal.loop-nth-preserved
loop-nth-preserved c = record {
  items = c.push_reserved.ensures.items
      ∙ ap (λ (xs : List ℕ). xs ++ c.affected.result.at ∷ []) c.loop-nth.invariant.items
      ∙ sym (mapped_more (λ (id : QueryId). id.at) c.args.engine.now.affected c.loop-nth.nth c.affected.result
      c.affected.ensures);
  room = omega (arith, c.loop-nth.invariant.room, c.push_reserved.ensures.capacity);
}
