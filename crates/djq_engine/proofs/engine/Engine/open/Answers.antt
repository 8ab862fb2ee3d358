-- The place of the name holds the query, and the slot that the new cursor takes there was vacant.
use Rattle.std.proofs.Common.{ap, refl, subst, sym, ◌∙◌, List, length, false}
use Rattle.std.specs.Prelude.{position, IsSomeAnd, Option, ⊤}
use Rattle.djq_live_query.specs.Live.{Live}
use Rattle.djq_engine.specs.Places.{is_query}
use Rattle.djq_engine.specs.Sound.{QueriesAreSound}
use Rattle.djq_engine.specs.Whole.{watches_in}
use Rattle.djq_engine.proofs.QueryPlaces.{first_query}
use Rattle.djq_engine.proofs.Cursors.{open_refused, open_lacks, open_gives}
use Rattle.djq_reach.specs.Tending.{LogsCanBeShown}
use Rattle.djq_engine.proofs.CarriedQueries.{opened_kept, keeps_equal}
use Rattle.djq_engine.proofs.engine.Engine.open.Goals as goal

pub returns-in_default-clause-gives : goal.returns-in_default-clause-gives
returns-in_default-clause-gives c =
    rw (← c.self.view_is)
    (open_refused c.self.inside.parts.catalog c.self.inside.parts.queries.items c.self.inside.parts.order
    c.self.inside.parts.readers.items c.self.inside.parts.seq (watches_in c.self.inside.parts) c.self.invariant.0
    c.args.query.now
    (c.in_default.ensures ∙ ap (position (is_query c.args.query.now)) c.as_slice.ensures.value))

pub open_at-requires : goal.open_at-requires
open_at-requires c =
    subst (λ (o : Option Live). IsSomeAnd o (λ l. ⊤))
    (sym (first_query c.self.inside.parts.queries.items c.args.query.now c.in-Some.at
    (c.in-Some.ensures ∙ ap (position (is_query c.args.query.now)) c.as_slice.ensures.value)).there) tt

pub invariant_of-self : goal.invariant_of-self
invariant_of-self c =
    let old = c.self.inside.parts in
    let e = c.in_default-open_at.ensures.err in (
      subst (λ (gs : List (Option Live)). QueriesAreSound old.catalog gs old.order old.readers.items) (sym e)
          c.self.invariant.0,
      record {
        watched = c.self.invariant.1.watched ∙ sym (ap (λ (gs : List (Option Live)). length gs) e);
        logged = c.self.invariant.1.logged ∙ sym (ap (λ (gs : List (Option Live)). length gs) e);
        room = c.self.invariant.1.room;
        shown = subst (λ (gs : List (Option Live)). LogsCanBeShown old.catalog.texts gs old.logs.items) (sym e)
            c.self.invariant.1.shown;
      },
    )

pub invariant_of-self-2 : goal.invariant_of-self-2
invariant_of-self-2 c =
    let old = c.self.inside.parts in
    let k = opened_kept old.catalog old.queries.items c.open_at.new.queries.items old.order old.readers.items
    c.self.invariant.0 old.logs.items c.in-Some.at c.in-Ok.cursor c.in-Ok.ensures.ok in (
      (open_gives c.self.inside.parts.catalog c.self.inside.parts.queries.items c.self.inside.parts.order
          c.self.inside.parts.readers.items c.self.inside.parts.seq (watches_in c.self.inside.parts) c.self.invariant.0
          c.args.query.now (record { query = record { at = c.in-Some.at }; cursor = c.in-Ok.cursor })
          c.open_at.new.queries.items
          (first_query c.self.inside.parts.queries.items c.args.query.now c.in-Some.at
          (c.in-Some.ensures ∙ ap (position (is_query c.args.query.now)) c.as_slice.ensures.value))
          c.in-Ok.ensures.ok).0,
      record {
        watched = c.self.invariant.1.watched ∙ sym k.long;
        logged = c.self.invariant.1.logged ∙ sym k.long;
        room = c.self.invariant.1.room;
        shown = k.shown c.self.invariant.1.shown;
      },
    )

pub returns-clause-gives : goal.returns-clause-gives
returns-clause-gives c =
    rw (← c.self.view_is)
    ((open_gives c.self.inside.parts.catalog c.self.inside.parts.queries.items c.self.inside.parts.order
    c.self.inside.parts.readers.items c.self.inside.parts.seq (watches_in c.self.inside.parts) c.self.invariant.0
    c.args.query.now (record { query = record { at = c.in-Some.at }; cursor = c.in-Ok.cursor })
    c.open_at.new.queries.items
    (first_query c.self.inside.parts.queries.items c.args.query.now c.in-Some.at
    (c.in-Some.ensures ∙ ap (position (is_query c.args.query.now)) c.as_slice.ensures.value)) c.in-Ok.ensures.ok).1)

pub returns-in_default-open_at-clause-gives : goal.returns-in_default-open_at-clause-gives
returns-in_default-open_at-clause-gives c =
    rw (← c.self.view_is)
    ((open_lacks c.self.inside.parts.catalog c.self.inside.parts.queries.items c.self.inside.parts.order
    c.self.inside.parts.readers.items c.self.inside.parts.seq (watches_in c.self.inside.parts) c.self.invariant.0
    c.args.query.now c.in-Some.at c.open_at.new.queries.items
    (first_query c.self.inside.parts.queries.items c.args.query.now c.in-Some.at
    (c.in-Some.ensures ∙ ap (position (is_query c.args.query.now)) c.as_slice.ensures.value))
    c.in_default-open_at.ensures.err).1)

pub returns-clause-places : goal.returns-clause-places
returns-clause-places c =
    let old = c.self.inside.parts in
    let k = opened_kept old.catalog old.queries.items c.open_at.new.queries.items old.order old.readers.items
    c.self.invariant.0 old.logs.items c.in-Some.at c.in-Ok.cursor c.in-Ok.ensures.ok in
    rw (← c.self.view_is) k.places

pub returns-in_default-clause-places : goal.returns-in_default-clause-places
returns-in_default-clause-places c =
    rw (← c.self.view_is) (keeps_equal (λ q. false) c.self.inside.parts.queries.items
    c.self.inside.parts.queries.items refl)

pub returns-in_default-open_at-clause-places : goal.returns-in_default-open_at-clause-places
returns-in_default-open_at-clause-places c =
    rw (← c.self.view_is)
    (keeps_equal (λ q. false) c.self.inside.parts.queries.items c.open_at.new.queries.items
    c.in_default-open_at.ensures.err)
