-- The place of the name holds the registered query, whose tables tell its answers, by the invariant.
use Rattle.std.proofs.Common.{◌≤◌, ◌+◌, ◌∙◌, ap, sym, subst, ℕ}
use Rattle.std.specs.Prelude.{position}
use Rattle.djq_engine.specs.Places.{is_query}
use Rattle.djq_engine.proofs.QueryPlaces.{first_query}
use Rattle.djq_engine.proofs.Cursors.{named_read, named_there, steps_are, tells_err, tells_none, tells_ok}
use Rattle.djq_engine.proofs.engine.Engine.has.Goals as goal

pub returns-in_default-clause-tells : goal.returns-in_default-clause-tells
returns-in_default-clause-tells g c =
    rw (← c.self.view_is)
    (tells_none c.self.inside.parts.catalog c.self.inside.parts.queries.items c.self.inside.parts.order
    c.self.inside.parts.readers.items c.self.inside.parts.seq c.self.invariant.0 c.args.query.now c.args.tuple.now
    (c.in_default.ensures ∙ ap (position (is_query c.args.query.now)) c.as_slice.ensures.value))

pub has-requires-clause-live : goal.has-requires-clause-live
has-requires-clause-live g c = c.self.invariant.0.live c.in-Some.at c.in-Some-index.live
    (named_read c.self.inside.parts.queries.items c.args.query.now c.in-Some.at
    (first_query c.self.inside.parts.queries.items c.args.query.now c.in-Some.at
    (c.in-Some.ensures ∙ ap (position (is_query c.args.query.now)) c.as_slice.ensures.value)) c.index.result.now
    c.in-Some-index.live c.index.ensures c.in-Some-index.is)

pub has-requires-clause-suits : goal.has-requires-clause-suits
has-requires-clause-suits g c =
    c.in-Ok.ensures.ok c.self.inside.parts.catalog
    (c.self.invariant.0.live c.in-Some.at c.in-Some-index.live
    (named_read c.self.inside.parts.queries.items c.args.query.now c.in-Some.at
    (first_query c.self.inside.parts.queries.items c.args.query.now c.in-Some.at
    (c.in-Some.ensures ∙ ap (position (is_query c.args.query.now)) c.as_slice.ensures.value)) c.index.result.now
    c.in-Some-index.live c.index.ensures c.in-Some-index.is))

pub unreachable-requires : goal.unreachable-requires
unreachable-requires g c = named_there c.self.inside.parts.queries.items c.args.query.now c.in-Some.at
    (first_query c.self.inside.parts.queries.items c.args.query.now c.in-Some.at
    (c.in-Some.ensures ∙ ap (position (is_query c.args.query.now)) c.as_slice.ensures.value)) c.index.result.now
    c.index.ensures c.in-None.is

pub returns-in-Ok-clause-tells : goal.returns-in-Ok-clause-tells
returns-in-Ok-clause-tells g c =
    rw (← c.self.view_is)
    (tells_ok c.self.inside.parts.catalog c.self.inside.parts.queries.items c.self.inside.parts.order
    c.self.inside.parts.readers.items c.self.inside.parts.seq c.self.invariant.0 c.args.query.now c.args.tuple.now
    c.in-Some.at
    (first_query c.self.inside.parts.queries.items c.args.query.now c.in-Some.at
    (c.in-Some.ensures ∙ ap (position (is_query c.args.query.now)) c.as_slice.ensures.value)) c.in-Some-index.live
    (named_read c.self.inside.parts.queries.items c.args.query.now c.in-Some.at
    (first_query c.self.inside.parts.queries.items c.args.query.now c.in-Some.at
    (c.in-Some.ensures ∙ ap (position (is_query c.args.query.now)) c.as_slice.ensures.value)) c.index.result.now
    c.in-Some-index.live c.index.ensures c.in-Some-index.is) c.has.result
    (c.in-Ok.ensures.ok c.self.inside.parts.catalog
    (c.self.invariant.0.live c.in-Some.at c.in-Some-index.live
    (named_read c.self.inside.parts.queries.items c.args.query.now c.in-Some.at
    (first_query c.self.inside.parts.queries.items c.args.query.now c.in-Some.at
    (c.in-Some.ensures ∙ ap (position (is_query c.args.query.now)) c.as_slice.ensures.value)) c.index.result.now
    c.in-Some-index.live c.index.ensures c.in-Some-index.is))) c.has.ensures.tells)

pub returns-in-Ok-clause-counted : goal.returns-in-Ok-clause-counted
returns-in-Ok-clause-counted g c =
    rw (← c.self.view_is) (subst (λ (n : ℕ). c.has.new.listing ≤ c.args.listing.now + n)
    (sym (steps_are c.self.inside.parts.catalog c.self.inside.parts.queries.items c.self.inside.parts.order
    c.self.inside.parts.readers.items c.self.inside.parts.seq c.self.invariant.0 c.args.query.now c.args.tuple.now
    c.in-Some.at
    (first_query c.self.inside.parts.queries.items c.args.query.now c.in-Some.at
    (c.in-Some.ensures ∙ ap (position (is_query c.args.query.now)) c.as_slice.ensures.value)) c.in-Some-index.live
    (named_read c.self.inside.parts.queries.items c.args.query.now c.in-Some.at
    (first_query c.self.inside.parts.queries.items c.args.query.now c.in-Some.at
    (c.in-Some.ensures ∙ ap (position (is_query c.args.query.now)) c.as_slice.ensures.value)) c.index.result.now
    c.in-Some-index.live c.index.ensures c.in-Some-index.is)))
    c.has.ensures.counted)

pub returns-in-Err-clause-tells : goal.returns-in-Err-clause-tells
returns-in-Err-clause-tells g c =
    rw (← c.self.view_is)
    (tells_err c.self.inside.parts.catalog c.self.inside.parts.queries.items c.self.inside.parts.order
    c.self.inside.parts.readers.items c.self.inside.parts.seq c.self.invariant.0 c.args.query.now c.args.tuple.now
    c.in-Some.at
    (first_query c.self.inside.parts.queries.items c.args.query.now c.in-Some.at
    (c.in-Some.ensures ∙ ap (position (is_query c.args.query.now)) c.as_slice.ensures.value)) c.in-Some-index.live
    (named_read c.self.inside.parts.queries.items c.args.query.now c.in-Some.at
    (first_query c.self.inside.parts.queries.items c.args.query.now c.in-Some.at
    (c.in-Some.ensures ∙ ap (position (is_query c.args.query.now)) c.as_slice.ensures.value)) c.index.result.now
    c.in-Some-index.live c.index.ensures c.in-Some-index.is) c.in-Err.refusal
    (c.in-Err.ensures.err c.self.inside.parts.catalog
    (c.self.invariant.0.live c.in-Some.at c.in-Some-index.live
    (named_read c.self.inside.parts.queries.items c.args.query.now c.in-Some.at
    (first_query c.self.inside.parts.queries.items c.args.query.now c.in-Some.at
    (c.in-Some.ensures ∙ ap (position (is_query c.args.query.now)) c.as_slice.ensures.value)) c.index.result.now
    c.in-Some-index.live c.index.ensures c.in-Some-index.is))))
