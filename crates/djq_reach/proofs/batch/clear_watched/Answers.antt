-- Each of the places has a log, and one place more adds that place alone, where its query is watched.
use Rattle.std.proofs.Common.{arith, ℕ, Bool, refl, subst, take, slice_index_or}
use Rattle.std.specs.Prelude.{◌&&◌, ◌==◌}
use Rattle.djq_reach.specs.Places.{is_reader, watched_at}
use Rattle.djq_reach.specs.Tending.{Readies}
use Rattle.djq_reach.proofs.PlacedQueries.{reader_there, clears_at, clears_both, watched_more}
use Rattle.djq_reach.proofs.batch.clear_watched.Goals as goal

pub is_watched-wanted-requires : goal.is_watched-wanted-requires
is_watched-wanted-requires c =
    let there = c.requires.logged (slice_index_or c.args.places.now c.loop-nth.nth 0)
    (reader_there c.args.places.now c.loop-nth.nth 0 c.loop-nth-test.true) in
    omega (arith, there, c.requires.watched)

pub index_mut-requires : goal.index_mut-requires
index_mut-requires c =
    let there = c.requires.logged (slice_index_or c.args.places.now c.loop-nth.nth 0)
    (reader_there c.args.places.now c.loop-nth.nth 0 c.loop-nth-test.true) in
    omega (arith, there, c.loop-nth.invariant.long, c.loop-nth.logs.ok.0)

pub loop-nth-preserved : goal.loop-nth-preserved
loop-nth-preserved c =
    let i = slice_index_or c.args.places.now c.loop-nth.nth 0 in
    let there = c.requires.logged i (reader_there c.args.places.now c.loop-nth.nth 0 c.loop-nth-test.true) in
    clears_both (λ j. is_reader (take c.loop-nth.nth c.args.places.now) j && watched_at c.args.watchers.now j)
    (λ j. (i == j) && watched_at c.args.watchers.now i) _
    c.args.logs.now.items c.loop-nth.logs.items _
    (watched_more c.args.watchers.now c.args.places.now c.loop-nth.nth 0 i c.loop-nth-test.true refl)
    c.loop-nth.invariant
    (clears_at c.loop-nth.logs.items i (watched_at c.args.watchers.now i) c.index_mut.result.now c.clear_if.new.log
    (omega (arith, there, c.loop-nth.invariant.long)) c.index_mut.ensures.value
    (subst (λ (b : Bool). Readies b c.index_mut.result.now c.clear_if.new.log) c.is_watched-wanted.ensures
    c.clear_if.ensures))
