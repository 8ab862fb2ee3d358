-- The readers of one group are among those of all, so they have logs; one group more adds its readers alone.
use Rattle.std.proofs.Common.{arith, length, take, ℕ, List, Bool, subst, ◌≡◌, true, ◌∙◌, ap}
use Rattle.std.specs.Prelude.{◌&&◌}
use Rattle.djq_reach.specs.Places.{is_reader, readers_at, watched_at}
use Rattle.djq_reach.specs.Grouping.{Clears, reached}
use Rattle.djq_reach.proofs.PlacedQueries.{clears_both, reached_more, reached_one, watched_both}
use Rattle.djq_reach.proofs.batch.clear_logs.Goals as goal

pub clear_watched-requires-clause-logged : goal.clear_watched-requires-clause-logged
clear_watched-requires-clause-logged c i e =
    let there = c.requires.logged i
    (reached_one c.args.readers.now c.args.groups.now c.loop-nth.nth c.index-groups-nth.result i
    c.loop-nth-test.true c.index-groups-nth.is
    (subst (λ (ps : List ℕ). is_reader ps i ≡ true) c.places_of.ensures e)) in
    omega (arith, there, c.loop-nth.invariant.long)

pub loop-nth-preserved : goal.loop-nth-preserved
loop-nth-preserved c =
    clears_both (λ i. is_reader (reached c.args.readers.now (take c.loop-nth.nth c.args.groups.now)) i && watched_at
    c.args.watchers.now i)
    (λ i. is_reader (readers_at c.args.readers.now c.index-groups-nth.result.relation.at) i && watched_at
    c.args.watchers.now i) _
    c.args.logs.now.items c.loop-nth.logs.items c.clear_watched.new.logs.items
    (λ i. ap (λ (b : Bool). b && watched_at c.args.watchers.now i)
    (reached_more c.args.readers.now c.args.groups.now c.loop-nth.nth c.index-groups-nth.result i c.loop-nth-test.true
    c.index-groups-nth.is)
    ∙ watched_both (is_reader (reached c.args.readers.now (take c.loop-nth.nth c.args.groups.now)) i)
    (is_reader (readers_at c.args.readers.now c.index-groups-nth.result.relation.at) i)
    (watched_at c.args.watchers.now i))
    c.loop-nth.invariant
    (subst (λ (ps : List ℕ). Clears (λ i. is_reader ps i && watched_at c.args.watchers.now i) c.loop-nth.logs.items
    c.clear_watched.new.logs.items)
    c.places_of.ensures c.clear_watched.ensures)
