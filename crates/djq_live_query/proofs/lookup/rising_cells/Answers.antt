-- The next variable of the set is one of the head, so its place is within the head and the cells.
use Rattle.std.proofs.Common.{ℕ, List, ◌<◌, length, ap, ◌∙◌, rules}
use Rattle.djq_live_query.proofs.HeadTuples.{popped, first_within, place_low}
use Rattle.djq_live_query.proofs.lookup.rising_cells.Goals as goal

pub offset_bounds-as_slice-place_of : goal.offset_bounds-as_slice-place_of
offset_bounds-as_slice-place_of c =
    let x = c.in-Some.variable in
    let e = popped c.pop.result c.loop-variable.rest c.pop.new.self x c.pop.ensures.taken
    c.in-Some.is in
    let below : c.place_of.result < length c.as_slice.result.now =
    place_low c.args.head.now x c.place_of.result (length c.as_slice.result.now)
    (first_within c.args.head.now c.loop-variable.rest c.pop.new.self x e
    c.loop-variable.invariant.within) c.place_of.ensures
    (ap (λ (l : List ℕ). length l) c.as_slice.ensures ∙ c.requires.long) in
    search rules

pub bounds-as_slice-place_of : goal.bounds-as_slice-place_of
bounds-as_slice-place_of c =
    let x = c.in-Some.variable in
    let e = popped c.pop.result c.loop-variable.rest c.pop.new.self x c.pop.ensures.taken
    c.in-Some.is in
    place_low c.args.head.now x c.place_of.result (length c.as_slice.result.now)
    (first_within c.args.head.now c.loop-variable.rest c.pop.new.self x e
    c.loop-variable.invariant.within) c.place_of.ensures
    (ap (λ (l : List ℕ). length l) c.as_slice.ensures ∙ c.requires.long)
