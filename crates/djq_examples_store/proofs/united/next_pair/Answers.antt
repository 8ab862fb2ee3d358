-- A cursor that was read is still in its slot.
use Rattle.std.proofs.Common.{◌≡◌, ℕ, List, refl, ap, sym, subst, ◌∙◌}
use Rattle.std.specs.Prelude.{Option, None, Some, IsSome, IsSomeAnd, is_some}
use Rattle.djq_store_spec.specs.Store.{Position}
use Rattle.djq_database.specs.Catalog.{Catalog}
use Rattle.djq_cursors.proofs.Slots.{set_there}
use Rattle.djq_live_query.specs.declared.listing.Next.{Next}
use Rattle.djq_live_query.specs.declared.listing.Next.TheVariants.{Given, End, Stale as IsStale}
use Rattle.djq_live_query.specs.Live.{Live}
use Rattle.djq_cursors.specs.declared.progress.Progress.TheVariants.{Open, Stale}
use Rattle.djq_united.specs.Slots.{UnionProgress, slot_at}
use Rattle.djq_united.specs.United.{United, members_in, IsUnited, union_position}
use Rattle.djq_united.specs.Reading.{UnionCursorMoves, UnionNextGivesAt}
use Rattle.djq_examples_store.proofs.united.next_pair.Goals as goal

record Stays (qs : List (Option Live)) (k : ℕ) (new : United) : Type 0 where
  pub united : IsUnited qs new
  pub there : IsSome (slot_at new.cursors k)

moved_stays : (c : Catalog) (qs : List (Option Live)) (old new : United) (k : ℕ) (p : UnionProgress)
    (position : Position) → slot_at old.cursors k ≡ Some p → UnionCursorMoves c qs old k position new
    → Stays qs k new
moved_stays c qs old new k p position e m = record {
  united = m.united;
  there = ap (λ (u : United). is_some (slot_at u.cursors k)) m.moved
      ∙ ap is_some (set_there old.cursors k p m.progress e);
}

stays_at : (c : Catalog) (qs : List (Option Live)) (old new : United) (k : ℕ) (p : UnionProgress)
    (n : Next) (t : List ℕ) → IsUnited qs old → slot_at old.cursors k ≡ Some p
    → UnionNextGivesAt c qs old k (union_position c.texts (members_in qs old) p) n t new → Stays qs k new
stays_at c qs old new k (Open cursor ended) Given t united e h =
    moved_stays c qs old new k (Open cursor ended) _ e h.3
stays_at c qs old new k (Open cursor ended) End t united e h =
    moved_stays c qs old new k (Open cursor ended) _ e h.1
stays_at c qs old new k (Open cursor ended) (IsStale relation n) t united e h = absurd h
stays_at c qs old new k (Stale q m) Given t united e h = absurd h
stays_at c qs old new k (Stale q m) End t united e h = absurd h
stays_at c qs old new k (Stale q m) (IsStale relation n) t united e h =
    subst (λ (u : United). Stays qs k u) (sym h.2)
    (record { united = united; there = ap is_some e })

stays : (c : Catalog) (qs : List (Option Live)) (old new : United) (k : ℕ) (o : Option UnionProgress)
    (n : Next) (t : List ℕ) → IsUnited qs old → slot_at old.cursors k ≡ o
    → IsSomeAnd o (λ p. UnionNextGivesAt c qs old k (union_position c.texts (members_in qs old) p) n t new)
    → Stays qs k new
stays c qs old new k None n t united e h = absurd h
stays c qs old new k (Some p) n t united e h = stays_at c qs old new k p n t united e h

pub returns-in-Given-clause-united : goal.returns-in-Given-clause-united
returns-in-Given-clause-united g c =
    (stays c.args.catalog.now c.args.queries.now c.args.union.now c.next.new.self c.args.slot _
    c.next.result c.next.new.answer c.requires.united refl
    (c.next.ensures.gives c.args.catalog.now c.requires.kept)).united

pub returns-in-Given-clause-there : goal.returns-in-Given-clause-there
returns-in-Given-clause-there g c =
    (stays c.args.catalog.now c.args.queries.now c.args.union.now c.next.new.self c.args.slot _
    c.next.result c.next.new.answer c.requires.united refl
    (c.next.ensures.gives c.args.catalog.now c.requires.kept)).there

pub returns-in_default : goal.returns-in_default
returns-in_default g c =
    let s = stays c.args.catalog.now c.args.queries.now c.args.union.now c.next.new.self
    c.args.slot _ c.next.result c.next.new.answer c.requires.united refl
    (c.next.ensures.gives c.args.catalog.now c.requires.kept) in
    record { united = s.united; there = s.there }
