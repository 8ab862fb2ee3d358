-- Once there are places along the edges the knot grows, or it stays as it was.
use Rattle.djq_arena.proofs.Slots.{either}
use Rattle.djq_forest.proofs.Rooms.{along_edges, knot_came, knot_kept, along_came, along_kept}
use Rattle.djq_forest.proofs.room.grow_knot.Goals as goal

pub returns-in_err-grow_edges-clause-along : goal.returns-in_err-grow_edges-clause-along
returns-in_err-grow_edges-clause-along c = along_edges c.args.knots.now.items c.args.edges.now.items
    c.grow_edges.new.edges.items c.requires.along c.grow_edges.ensures.roomier

pub returns-clause-knots : goal.returns-clause-knots
returns-clause-knots c = either c.grow.result _ _ _ c.grow.ensures.grown c.grow.ensures.refused
    (λ _ is. knot_came c.args.knots.now.items c.args.at c.args.count c.index_mut-knot.result.now c.grow.new.self
    c.requires.within c.index_mut-knot.ensures.value is)
    (λ same. knot_kept c.args.knots.now.items c.args.at c.index_mut-knot.result.now c.grow.new.self c.requires.within
    c.index_mut-knot.ensures.value same)

pub returns-clause-along : goal.returns-clause-along
returns-clause-along c =
    let along = along_edges c.args.knots.now.items c.args.edges.now.items c.grow_edges.new.edges.items c.requires.along
    c.grow_edges.ensures.roomier in
    either c.grow.result _ _ _ c.grow.ensures.grown c.grow.ensures.refused
    (λ _ is. along_came c.args.knots.now.items c.grow_edges.new.edges.items c.args.at c.args.count
    c.index_mut-knot.result.now c.grow.new.self along c.requires.within c.index_mut-knot.ensures.value c.requires.more is
    c.in_ok-grow_edges.ensures.places)
    (λ same. along_kept c.args.knots.now.items c.grow_edges.new.edges.items c.args.at c.index_mut-knot.result.now
    c.grow.new.self along c.requires.within c.index_mut-knot.ensures.value same)
