-- A cursor that was read is still in its slot.
use Rattle.std.proofs.Common.{◌≡◌, ℕ, List, refl, ap, sym, subst, ◌∙◌}
use Rattle.std.specs.Prelude.{Option, None, Some, IsSome, IsSomeAnd, is_some}
use Rattle.djq_store_spec.specs.Store.{Position}
use Rattle.djq_database.specs.Catalog.{Catalog}
use Rattle.djq_cursors.proofs.Slots.{set_there}
use Rattle.djq_cursors.specs.declared.progress.Progress.TheVariants.{Open, Stale}
use Rattle.djq_live_query.specs.declared.listing.Next.{Next}
use Rattle.djq_live_query.specs.declared.listing.Next.TheVariants.{Given, End, Stale as IsStale}
use Rattle.djq_live_query.specs.Cursors.{Progress, slot_at}
use Rattle.djq_live_query.specs.Live.{Live, IsLive, position_of}
use Rattle.djq_live_query.specs.Reading.{QueryCursorMoves, QueryNextGivesAt}
use Rattle.djq_examples_store.proofs.live.next_digits.Goals as goal

record Stays (c : Catalog) (k : ℕ) (new : Live) : Type 0 where
  pub live : IsLive c new
  pub there : IsSome (slot_at new.cursors k)

moved_stays : (c : Catalog) (old new : Live) (k : ℕ) (p : Progress) (position : Position)
    → slot_at old.cursors k ≡ Some p → QueryCursorMoves c old k position new → Stays c k new
moved_stays c old new k p position e m = record {
  live = m.live;
  there = ap (λ (l : Live). is_some (slot_at l.cursors k)) m.moved
      ∙ ap is_some (set_there old.cursors k p m.progress e);
}

stays_at : (c : Catalog) (old new : Live) (k : ℕ) (p : Progress) (n : Next) (u : List ℕ)
    → IsLive c old → slot_at old.cursors k ≡ Some p
    → QueryNextGivesAt c old k (position_of c.texts old p) n u new → Stays c k new
stays_at c old new k (Open cursor ended) Given u live e h =
    moved_stays c old new k (Open cursor ended) _ e h.2
stays_at c old new k (Open cursor ended) End u live e h =
    moved_stays c old new k (Open cursor ended) _ e h.1
stays_at c old new k (Open cursor ended) (IsStale relation n) u live e h = absurd h
stays_at c old new k (Stale q m) Given u live e h = absurd h
stays_at c old new k (Stale q m) End u live e h = absurd h
stays_at c old new k (Stale q m) (IsStale relation n) u live e h =
    subst (λ (l : Live). Stays c k l) (sym h.2)
    (record { live = live; there = ap is_some e })

stays : (c : Catalog) (old new : Live) (k : ℕ) (o : Option Progress) (n : Next) (u : List ℕ)
    → IsLive c old → slot_at old.cursors k ≡ o
    → IsSomeAnd o (λ p. QueryNextGivesAt c old k (position_of c.texts old p) n u new)
    → Stays c k new
stays c old new k None n u live e h = absurd h
stays c old new k (Some p) n u live e h = stays_at c old new k p n u live e h

pub returns-in-Given-clause-live : goal.returns-in-Given-clause-live
returns-in-Given-clause-live g c =
    (stays c.args.catalog.now c.args.live.now c.next.new.self c.args.slot _ c.next.result
    c.next.new.answer c.requires.live refl
    (c.next.ensures.gives c.args.catalog.now c.requires.live)).live

pub returns-in_default : goal.returns-in_default
returns-in_default g c =
    let s = stays c.args.catalog.now c.args.live.now c.next.new.self c.args.slot _ c.next.result
    c.next.new.answer c.requires.live refl
    (c.next.ensures.gives c.args.catalog.now c.requires.live) in
    record { live = s.live; there = s.there }
