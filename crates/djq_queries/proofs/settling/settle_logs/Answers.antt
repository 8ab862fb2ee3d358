-- The readers of one group are among those of all, so they have logs; one group more adds its readers alone.
use Rattle.std.proofs.Common.{arith, take, ℕ, List, Bool, subst, ◌≡◌, true, ◌∙◌, ap, ap₂}
use Rattle.std.specs.Prelude.{◌&&◌}
use Rattle.std.proofs.lemmas.Bool.{and_parts}
use Rattle.djq_reach.specs.Places.{is_reader, readers_at, watched_at}
use Rattle.djq_reach.specs.Grouping.{reached}
use Rattle.djq_reach.proofs.PlacedQueries.{reached_more, reached_one, watched_both}
use Rattle.djq_queries.specs.Settling.{SettlesLogs}
use Rattle.djq_queries.proofs.Settles.{distinct_still, settles_both}
use Rattle.djq_queries.proofs.settling.settle_logs.Goals as goal

pub settle_watched-requires-clause-logged : goal.settle_watched-requires-clause-logged
settle_watched-requires-clause-logged c i e =
    let there = c.requires.logged i
    (reached_one c.args.readers.now c.args.groups.now c.loop-nth.nth c.index-groups-nth.result i
    c.loop-nth-test.true c.index-groups-nth.is
    (subst (λ (ps : List ℕ). is_reader ps i ≡ true) c.places_of.ensures e)) in
    omega (arith, there, c.loop-nth.invariant.long)

pub settle_watched-requires-clause-distinct : goal.settle_watched-requires-clause-distinct
settle_watched-requires-clause-distinct c i e =
    let parts = and_parts (is_reader c.places_of.result.now i) (watched_at c.args.watchers.now i) e in
    let reads = reached_one c.args.readers.now c.args.groups.now c.loop-nth.nth c.index-groups-nth.result i
    c.loop-nth-test.true c.index-groups-nth.is
    (subst (λ (ps : List ℕ). is_reader ps i ≡ true) c.places_of.ensures parts.0) in
    let passes : (is_reader (reached c.args.readers.now c.args.groups.now) i && watched_at c.args.watchers.now i) ≡ true =
    ap₂ (λ a b. a && b) reads parts.1 in
    distinct_still (λ j. is_reader (reached c.args.readers.now (take c.loop-nth.nth c.args.groups.now)) j && watched_at
    c.args.watchers.now j)
    c.args.logs.now.items c.loop-nth.logs.items i c.loop-nth.invariant (c.requires.distinct i passes)

pub loop-nth-preserved : goal.loop-nth-preserved
loop-nth-preserved c =
    settles_both (λ i. is_reader (reached c.args.readers.now (take c.loop-nth.nth c.args.groups.now)) i && watched_at
    c.args.watchers.now i)
    (λ i. is_reader (readers_at c.args.readers.now c.index-groups-nth.result.relation.at) i && watched_at
    c.args.watchers.now i) _
    c.args.logs.now.items c.loop-nth.logs.items c.settle_watched.new.logs.items
    (λ i. ap (λ (b : Bool). b && watched_at c.args.watchers.now i)
    (reached_more c.args.readers.now c.args.groups.now c.loop-nth.nth c.index-groups-nth.result i c.loop-nth-test.true
    c.index-groups-nth.is)
    ∙ watched_both (is_reader (reached c.args.readers.now (take c.loop-nth.nth c.args.groups.now)) i)
    (is_reader (readers_at c.args.readers.now c.index-groups-nth.result.relation.at) i)
    (watched_at c.args.watchers.now i))
    c.loop-nth.invariant
    (subst (λ (ps : List ℕ). SettlesLogs (λ i. is_reader ps i && watched_at c.args.watchers.now i) c.loop-nth.logs.items
    c.settle_watched.new.logs.items)
    c.places_of.ensures c.settle_watched.ensures)
