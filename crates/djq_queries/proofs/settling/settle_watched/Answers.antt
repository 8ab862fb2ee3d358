-- Each of the places has a log, and one place more adds that place alone, if its query is watched.
use Rattle.std.proofs.Common.{arith, refl, subst, sym, ap₂, true, ◌≡◌, ◌∙◌, take, slice_index_or}
use Rattle.std.specs.Prelude.{◌&&◌, ◌==◌}
use Rattle.std.proofs.lemmas.List.{get_or_default}
use Rattle.djq_reach.specs.Places.{is_reader, watched_at, log_at, no_log}
use Rattle.djq_reach.proofs.PlacedQueries.{reader_there, watched_more}
use Rattle.djq_queries.specs.Settling.{HasDistinctLines}
use Rattle.djq_queries.proofs.Settles.{distinct_still, settles_at, settles_both}
use Rattle.djq_queries.proofs.settling.settle_watched.Goals as goal

pub is_watched-wanted-requires : goal.is_watched-wanted-requires
is_watched-wanted-requires c =
    let there = c.requires.logged (slice_index_or c.args.places.now c.loop-nth.nth 0)
    (reader_there c.args.places.now c.loop-nth.nth 0 c.loop-nth-test.true) in
    omega (arith, there, c.requires.watched)

pub index_mut-requires : goal.index_mut-requires
index_mut-requires c =
    let there = c.requires.logged (slice_index_or c.args.places.now c.loop-nth.nth 0)
    (reader_there c.args.places.now c.loop-nth.nth 0 c.loop-nth-test.true) in
    omega (arith, there, c.loop-nth.invariant.long, c.loop-nth.logs.ok.0)

pub settle_if-requires : goal.settle_if-requires
settle_if-requires c w =
    let i = slice_index_or c.args.places.now c.loop-nth.nth 0 in
    let reads = reader_there c.args.places.now c.loop-nth.nth 0 c.loop-nth-test.true in
    let there = c.requires.logged i reads in
    let passes : (is_reader c.args.places.now i && watched_at c.args.watchers.now i) ≡ true =
    ap₂ (λ a b. a && b) reads (sym c.is_watched-wanted.ensures ∙ w) in
    let read : c.index_mut.result.now ≡ log_at c.loop-nth.logs.items i = c.index_mut.ensures.value
    ∙ get_or_default c.loop-nth.logs.items i c.index_mut.result.now no_log (omega (arith, there, c.loop-nth.invariant.long)) in
    subst HasDistinctLines (sym read)
    (distinct_still (λ j. is_reader (take c.loop-nth.nth c.args.places.now) j && watched_at c.args.watchers.now j)
    c.args.logs.now.items c.loop-nth.logs.items i c.loop-nth.invariant (c.requires.distinct i passes))

pub loop-nth-preserved : goal.loop-nth-preserved
loop-nth-preserved c =
    let i = slice_index_or c.args.places.now c.loop-nth.nth 0 in
    let there = c.requires.logged i (reader_there c.args.places.now c.loop-nth.nth 0 c.loop-nth-test.true) in
    settles_both (λ j. is_reader (take c.loop-nth.nth c.args.places.now) j && watched_at c.args.watchers.now j)
    (λ j. (i == j) && watched_at c.args.watchers.now i) _
    c.args.logs.now.items c.loop-nth.logs.items _
    (watched_more c.args.watchers.now c.args.places.now c.loop-nth.nth 0 i c.loop-nth-test.true refl)
    c.loop-nth.invariant
    (settles_at c.loop-nth.logs.items i (watched_at c.args.watchers.now i) c.index_mut.result.now c.settle_if.new.log
    (omega (arith, there, c.loop-nth.invariant.long)) c.index_mut.ensures.value
    (λ e. c.settle_if.ensures.settled (c.is_watched-wanted.ensures ∙ e))
    (λ e. c.settle_if.ensures.same (c.is_watched-wanted.ensures ∙ e)))
