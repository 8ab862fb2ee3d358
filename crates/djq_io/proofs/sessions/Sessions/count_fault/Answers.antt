-- Each place is passed once: one with the id has a fault more, and the others and all ids are as they were.
use Rattle.std.proofs.Common.{rules, arith, ap, sym, ◌∙◌, ◌≡◌, ◌++◌, length, take, drop, map, false, subst}
use Rattle.std.specs.Prelude.{Contains}
use Rattle.std.proofs.lemmas.Grind.{common_steps}
use Rattle.djq_io.specs.Sessions.{Places}
use Rattle.djq_io.specs.SessionsInside.{after_fault}
use Rattle.djq_io.proofs.Hubs.{mapped_more, bounded_after_fault, fault_counts, fault_spares, fault_keeps_ids}
use Rattle.djq_io.proofs.sessions.Sessions.count_fault.Goals as goal

-- One more of the sessions is counted, where it has the id.
pub loop-x-preserved : goal.loop-x-preserved
loop-x-preserved c = mapped_more (after_fault c.args.id) _ _ _ (record { id = 0; ended = false; faults = 0 }) _
    (omega arith) c.loop-x.invariant c.after_fault.ensures

-- The bounds stay.
pub invariant_of-self : goal.invariant_of-self
invariant_of-self c =
    let now = c.loop-x.x-items in
    let places = c.self.inside.places.items in
    let end = take c.self.inside.places.len (now ++ drop (length now) places) in
    let marked : end ≡ map (after_fault c.args.id) places = first_of (search rules, grind (arith, common_steps)) in
    rw marked (bounded_after_fault c.args.id places c.self.invariant)

-- The ids stay, and the count of the session alone rises.
pub returns : goal.returns
returns c =
    let now = c.loop-x.x-items in
    let places = c.self.inside.places.items in
    let end = take c.self.inside.places.len (now ++ drop (length now) places) in
    let marked : end ≡ map (after_fault c.args.id) places = first_of (search rules, grind (arith, common_steps)) in
    let id = c.args.id in
    let is_open = subst (λ (s : Places). Contains s.ids.open_ids id) (sym c.self.view_is) c.requires in
    record {
      ids = fault_keeps_ids id c.self.inside.newest places end marked ∙ ap (λ (s : Places). s.ids) c.self.view_is;
      room = ap (λ (s : Places). s.room) c.self.view_is;
      counted = rw (marked, sym c.self.view_is) (fault_counts id places c.self.invariant is_open);
      others = rw (marked, sym c.self.view_is) (fault_spares id _ places);
    }
