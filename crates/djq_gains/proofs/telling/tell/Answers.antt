-- The slot at hand is that of the first tuple that isn't told yet, so each is told once, in order.
use Rattle.std.proofs.Common.{ℕ, Option, sum_by, sym, ◌∙◌, subst, arith}
use Rattle.djq_live_query.specs.Member.{queries_at}
use Rattle.djq_leaves.proofs.LeafUpdates.{counts_one}
use Rattle.djq_gains.specs.Gathering.{asks_of}
use Rattle.djq_gains.proofs.DeltaLines.{Telling, cut_at, lies_at, tells_more, tells_all}
use Rattle.djq_gains.proofs.telling.tell.Goals as goal

pub tell_one-requires-clause-lies : goal.tell_one-requires-clause-lies
tell_one-requires-clause-lies g c =
    lies_at c.args.gains.now.gains c.loop-done._done c.in-Some.slot
    (cut_at c.args.gains.now.gains c.loop-done._done c.in-Some.slot
    (sym c.loop-done.invariant.tells.at ∙ c.in-Some.is))

pub next-at-requires : goal.next-at-requires
next-at-requires g c =
    lies_at c.args.gains.now.gains c.loop-done._done c.in-Some.slot
    (cut_at c.args.gains.now.gains c.loop-done._done c.in-Some.slot
    (sym c.loop-done.invariant.tells.at ∙ c.in-Some.is))

pub loop-done-preserved : goal.loop-done-preserved
loop-done-preserved g c =
    let ls = queries_at c.args.group.now.queries.now c.args.group.now.places.now in
    record {
      tells = tells_more ls c.args.gains.now.gains c.loop-done._done c.in-Some.slot
          c.loop-done.log.lines c.tell_one.new.log.lines c.loop-done.log.lost c.tell_one.new.log.lost
          c.next-at.result
          (subst (λ (o : Option ℕ). Telling ls c.args.gains.now.gains o c.loop-done._done
          c.loop-done.log.lines c.loop-done.log.lost) c.in-Some.is c.loop-done.invariant.tells)
          c.tell_one.ensures.lost c.tell_one.ensures.told c.next-at.ensures;
      counted = counts_one c.args.listing.now c.loop-done.listing c.tell_one.new.listing c.loop-done._done
          (sum_by asks_of ls) c.loop-done.invariant.counted c.tell_one.ensures.counted;
    }

pub returns-clause-told : goal.returns-clause-told
returns-clause-told g c =
    let last = c.loop-done-test.false in
    let count = c.len-done-end.ensures in
    tells_all (queries_at c.args.group.now.queries.now c.args.group.now.places.now)
    c.args.gains.now.gains c.loop-done.at c.loop-done._done c.loop-done.log.lines c.loop-done.log.lost
    c.loop-done.invariant.tells (omega arith)
