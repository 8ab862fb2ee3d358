-- The readers of one group are among those of all, so they have logs; one group more empties theirs alone.
use Rattle.std.proofs.Common.{arith, length, take, ℕ, List, subst, ◌<◌, ◌≡◌, true, ◌∙◌, ap}
use Rattle.djq_reach.specs.Places.{is_reader, readers_at}
use Rattle.djq_reach.specs.Grouping.{reached}
use Rattle.djq_reach.specs.Tending.{Empties}
use Rattle.djq_reach.proofs.PlacedQueries.{clears_both, empties_clears, reached_more, reached_one}
use Rattle.djq_reach.proofs.batch.empty_all.Goals as goal

pub empty_logs-requires : goal.empty_logs-requires
empty_logs-requires c i e =
    let there = c.requires.logged i
    (reached_one c.args.readers.now c.args.groups.now c.loop-nth.nth c.index-groups-nth.result i
    c.loop-nth-test.true c.index-groups-nth.is
    (subst (λ (ps : List ℕ). is_reader ps i ≡ true) c.places_of.ensures e)) in
    omega (arith, there, c.loop-nth.invariant.long)

pub loop-nth-preserved : goal.loop-nth-preserved
loop-nth-preserved c =
    clears_both (is_reader (reached c.args.readers.now (take c.loop-nth.nth c.args.groups.now)))
    (is_reader (readers_at c.args.readers.now c.index-groups-nth.result.relation.at)) _
    c.args.logs.now.items c.loop-nth.logs.items c.empty_logs.new.logs.items
    (λ i. reached_more c.args.readers.now c.args.groups.now c.loop-nth.nth c.index-groups-nth.result i
    c.loop-nth-test.true c.index-groups-nth.is)
    c.loop-nth.invariant
    (empties_clears (readers_at c.args.readers.now c.index-groups-nth.result.relation.at) c.loop-nth.logs.items
    c.empty_logs.new.logs.items
    (subst (λ (ps : List ℕ). Empties ps c.loop-nth.logs.items c.empty_logs.new.logs.items) c.places_of.ensures
    c.empty_logs.ensures))
