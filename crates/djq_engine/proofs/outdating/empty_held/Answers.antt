-- The logs of queries that read a relation of the lines passed are empty; one line more adds its readers.
use Rattle.std.proofs.Common.{List, subst, arith, ◌∙◌}
use Rattle.std.proofs.lemmas.List.{take_all}
use Rattle.djq_model.specs.Data.{Bytes}
use Rattle.djq_store_spec.specs.Held.{HeldLine, no_line}
use Rattle.djq_reach.specs.Places.{place_at, reads_place}
use Rattle.djq_engine.specs.Outdating.{ClearsLogs, reads_held}
use Rattle.djq_engine.proofs.OutdatedQueries.{clears_next}
use Rattle.djq_engine.proofs.outdating.empty_held.Goals as goal

pub loop-at-preserved : goal.loop-at-preserved
loop-at-preserved c = record {
  long = c.empty_readers.ensures.long ∙ c.loop-at.invariant.long;
  cleared = λ gs are.
      clears_next c.args.held.now.lines c.loop-at.at no_line gs c.args.logs.now.items c.loop-at.logs.items
      c.empty_readers.new.logs.items
      (omega (arith, c.loop-at-test.true, c.len-at-end.ensures.value)) (c.loop-at.invariant.cleared gs are)
      (subst (λ (x : Bytes). ClearsLogs (λ i. reads_place x (place_at gs i)) c.loop-at.logs.items
      c.empty_readers.new.logs.items) c.relation.ensures (c.empty_readers.ensures.cleared gs are));
}

pub returns-clause-cleared : goal.returns-clause-cleared
returns-clause-cleared c = λ gs are.
    subst (λ (xs : List HeldLine). ClearsLogs (λ i. reads_held xs (place_at gs i)) c.args.logs.now.items
    c.loop-at.logs.items)
    (take_all c.loop-at.at c.args.held.now.lines (omega (arith, c.loop-at-test.false, c.len-at-end.ensures.value)))
    (c.loop-at.invariant.cleared gs are)
