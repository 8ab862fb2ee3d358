-- The places that stay are those of other ids, so the session goes and their counts and bounds stay.
use Rattle.std.proofs.Common.{rules, arith, ap, ap₂, sym, subst, not, nat_eq, length}
use Rattle.std.proofs.lemmas.Fn.{filter_same}
use Rattle.std.specs.Prelude.{Contains}
use Rattle.djq_io.specs.Sessions.{Places}
use Rattle.djq_io.specs.SessionsInside.{open_ids_in, ended_in}
use Rattle.djq_io.proofs.Hubs.{bounded_after_close, close_spares, closes, fewer_at}
use Rattle.djq_io.proofs.sessions.Sessions.close.Goals as goal

-- What is kept is without the session.
pub returns-clause-ids : goal.returns-clause-ids
returns-clause-ids c =
    let places = c.self.inside.places.items in
    let kept = filter_same _ (λ x. not (nat_eq x.id c.args.id)) _ (λ x b f k. search rules) _ _
    c.retain.ensures.filtered in
    let opens = ap (λ (s : Places). s.ids.open_ids) (sym c.self.view_is) in
    let ends = ap (λ (s : Places). s.ids.ended_ids) (sym c.self.view_is) in
    let newest = ap (λ (s : Places). s.ids.newest) c.self.view_is in
    let sessions_new = c.retain.new.self.items in
    closes c.args.id c.args.self.now.ids
    (record { newest = c.self.inside.newest; open_ids = open_ids_in sessions_new; ended_ids = ended_in sessions_new })
    places opens ends
    (ap₂ (λ n xs. record { newest = n; open_ids = open_ids_in xs; ended_ids = ended_in xs }) newest kept)

-- It had a place.
pub returns-clause-room : goal.returns-clause-room
returns-clause-room c =
    let places = c.self.inside.places.items in
    let kept = filter_same _ (λ x. not (nat_eq x.id c.args.id)) _ (λ x b f k. search rules) _ _
    c.retain.ensures.filtered in
    let fewer = fewer_at c.args.id places
    (subst (λ (s : Places). Contains s.ids.open_ids c.args.id) (sym c.self.view_is) c.requires) in
    omega (
      arith,
      ap (λ (s : Places). s.room) c.self.view_is,
      fewer,
      ap length kept,
      c.retain.new.self.ok,
      c.self.inside.places.ok,
      c.retain.ensures.capacity,
    )

-- The counts of the sessions that stay are as they were, and so are their bounds.
pub invariant_of-self : goal.invariant_of-self
invariant_of-self c =
    let places = c.self.inside.places.items in
    let kept = filter_same _ (λ x. not (nat_eq x.id c.args.id)) _ (λ x b f k. search rules) _ _
    c.retain.ensures.filtered in
    rw kept (bounded_after_close c.args.id places c.self.invariant)

pub returns-clause-faults : goal.returns-clause-faults
returns-clause-faults c =
    let places = c.self.inside.places.items in
    let kept = filter_same _ (λ x. not (nat_eq x.id c.args.id)) _ (λ x b f k. search rules) _ _
    c.retain.ensures.filtered in
    rw (kept, sym c.self.view_is) (close_spares c.args.id places)
