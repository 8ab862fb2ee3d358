-- No query has an atom over a relation that wasn't there, and the other relations keep their places.
use Rattle.std.proofs.Common.{refl, [], ◌∷◌, ◌++◌, ◌∙◌, ap, ap₂, List, ℕ, subst, sym}
use Rattle.djq_model.specs.Data.{Bytes}
use Rattle.djq_engine.specs.Places.{Watches, told_from}
use Rattle.djq_reach.specs.Tending.{LogsCanBeShown}
use Rattle.djq_engine.specs.Whole.{watches_in}
use Rattle.djq_engine.proofs.Logs.{made_tellings}
use Rattle.djq_engine.proofs.RegisteredQueries.{made_sound, unmade_sound}
use Rattle.djq_live_query.proofs.ShownAnswers.{stays_lives as live_stays}
use Rattle.djq_engine.proofs.engine.Engine.rel.Goals as goal

pub invariant_of-self-in-Ok-relation : goal.invariant_of-self-in-Ok-relation
invariant_of-self-in-Ok-relation c = (
  made_sound live_stays c.self.inside.parts.catalog c.relation.new.self
      c.self.inside.parts.queries.items c.self.inside.parts.order c.self.inside.parts.readers.items
      c.push_reserved.new.self.items
      (record { name = c.args.name; types = c.args.types; rows = [] }) c.self.invariant.0 c.laws.ensures
      c.in-Ok-relation.ensures.makes.3 c.relation.ensures.texts c.in-Ok-relation.ensures.makes.0
      (c.push_reserved.ensures.items
      ∙ ap₂ (λ xs x. xs ++ x ∷ []) c.reserve.ensures.items c.new.ensures),
  record {
    watched = c.self.invariant.1.watched;
    logged = c.self.invariant.1.logged;
    room = c.self.invariant.1.room;
    shown = subst (λ (ts : List Bytes). LogsCanBeShown ts c.self.inside.parts.queries.items
        c.self.inside.parts.logs.items)
        (sym c.relation.ensures.texts) c.self.invariant.1.shown;
  },
)

pub invariant_of-self-in-Err : goal.invariant_of-self-in-Err
invariant_of-self-in-Err c = (
  unmade_sound c.self.inside.parts.catalog c.relation.new.self
      c.self.inside.parts.queries.items c.self.inside.parts.order c.self.inside.parts.readers.items
      c.reserve.new.self.items c.args.name c.args.types c.in-Err._refusal c.self.invariant.0
      c.in-Err.ensures.makes c.relation.ensures.texts c.reserve.ensures.items,
  record {
    watched = c.self.invariant.1.watched;
    logged = c.self.invariant.1.logged;
    room = c.self.invariant.1.room;
    shown = subst (λ (ts : List Bytes). LogsCanBeShown ts c.self.inside.parts.queries.items
        c.self.inside.parts.logs.items)
        (sym c.relation.ensures.texts) c.self.invariant.1.shown;
  },
)

pub returns-in-Ok-relation-clause-tellings : goal.returns-in-Ok-relation-clause-tellings
returns-in-Ok-relation-clause-tellings c =
    let old = c.self.inside.parts in
    rw (← c.self.view_is)
    (made_tellings old.catalog c.relation.new.self old.queries.items old.order old.seq (watches_in old)
    (record (watches_in old) { readers = c.push_reserved.new.self.items }) c.relation.ensures.texts
    (ap (λ (rs : List (List ℕ)). (let w : Watches = record (watches_in old) { readers = rs } in w))
    (c.push_reserved.ensures.items ∙ ap₂ (λ xs x. xs ++ x ∷ []) c.reserve.ensures.items c.new.ensures)))

pub returns-in-Err-clause-tellings : goal.returns-in-Err-clause-tellings
returns-in-Err-clause-tellings c =
    let old = c.self.inside.parts in
    rw (← c.self.view_is) (record {
      affected = refl;
      told = ap (λ (ts : List Bytes). told_from ts old.queries.items old.logs.items) c.relation.ensures.texts;
    })
