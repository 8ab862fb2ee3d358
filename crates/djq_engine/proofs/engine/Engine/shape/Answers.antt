-- The place of the name holds the registered query, which is kept over the catalog, by the invariant.
use Rattle.std.proofs.Common.{◌∙◌, ap, []}
use Rattle.std.specs.Prelude.{position}
use Rattle.djq_engine.specs.Places.{is_query}
use Rattle.djq_engine.proofs.QueryPlaces.{first_query}
use Rattle.djq_engine.proofs.Cursors.{query_kept, shape_done, shape_none, named_read, named_there}
use Rattle.djq_engine.proofs.engine.Engine.shape.Goals as goal

pub returns-in_default : goal.returns-in_default
returns-in_default c =
    rw (← c.self.view_is)
    (shape_none c.self.inside.parts.catalog c.self.inside.parts.queries.items c.self.inside.parts.order
    c.self.inside.parts.readers.items c.self.inside.parts.seq c.self.invariant.0 c.args.query.now []
    (c.in_default.ensures ∙ ap (position (is_query c.args.query.now)) c.as_slice.ensures.value))

pub shape-requires : goal.shape-requires
shape-requires c =
    query_kept c.self.inside.parts.catalog c.self.inside.parts.queries.items c.self.inside.parts.order
    c.self.inside.parts.readers.items c.self.inside.parts.seq c.self.invariant.0 c.args.query.now [] c.in-Some.at
    (first_query c.self.inside.parts.queries.items c.args.query.now c.in-Some.at
    (c.in-Some.ensures ∙ ap (position (is_query c.args.query.now)) c.as_slice.ensures.value)) c.in-Some-index.live
    (named_read c.self.inside.parts.queries.items c.args.query.now c.in-Some.at
    (first_query c.self.inside.parts.queries.items c.args.query.now c.in-Some.at
    (c.in-Some.ensures ∙ ap (position (is_query c.args.query.now)) c.as_slice.ensures.value)) c.index.result.now
    c.in-Some-index.live c.index.ensures c.in-Some-index.is)

pub unreachable-requires : goal.unreachable-requires
unreachable-requires c = named_there c.self.inside.parts.queries.items c.args.query.now c.in-Some.at
    (first_query c.self.inside.parts.queries.items c.args.query.now c.in-Some.at
    (c.in-Some.ensures ∙ ap (position (is_query c.args.query.now)) c.as_slice.ensures.value)) c.index.result.now
    c.index.ensures c.in-None.is

pub returns : goal.returns
returns c =
    rw (← c.self.view_is)
    (shape_done c.self.inside.parts.catalog c.self.inside.parts.queries.items c.self.inside.parts.order
    c.self.inside.parts.readers.items c.self.inside.parts.seq c.self.invariant.0 c.args.query.now [] c.in-Some.at
    (first_query c.self.inside.parts.queries.items c.args.query.now c.in-Some.at
    (c.in-Some.ensures ∙ ap (position (is_query c.args.query.now)) c.as_slice.ensures.value)) c.in-Some-index.live
    (named_read c.self.inside.parts.queries.items c.args.query.now c.in-Some.at
    (first_query c.self.inside.parts.queries.items c.args.query.now c.in-Some.at
    (c.in-Some.ensures ∙ ap (position (is_query c.args.query.now)) c.as_slice.ensures.value)) c.index.result.now
    c.in-Some-index.live c.index.ensures c.in-Some-index.is) c.shape.result c.shape.ensures)
