-- Each place is passed once: one with the id is marked as ended, and all counts are as they were.
use Rattle.std.proofs.Common.{rules, arith, ap, sym, ◌∙◌, ◌≡◌, ◌++◌, length, take, drop, map, false}
use Rattle.std.proofs.lemmas.Grind.{common_steps}
use Rattle.djq_io.specs.Sessions.{Places}
use Rattle.djq_io.specs.SessionsInside.{after_end, open_ids_in, ended_in, counts_in}
use Rattle.djq_io.proofs.Hubs.{mapped_more, ends_marked, bounded_after_end, counts_after_end}
use Rattle.djq_io.proofs.sessions.Sessions.end.Goals as goal

-- One more of the sessions is marked, where it has the id.
pub loop-x-preserved : goal.loop-x-preserved
loop-x-preserved c = mapped_more (after_end c.args.id) _ _ _ (record { id = 0; ended = false; faults = 0 }) _
    (omega arith) c.loop-x.invariant c.after_end.ensures

-- The sessions at the end are all marked.
pub returns-clause-ids : goal.returns-clause-ids
returns-clause-ids c =
    let now = c.loop-x.x-items in
    let places = c.self.inside.places.items in
    let end = take c.self.inside.places.len (now ++ drop (length now) places) in
    let marked : end ≡ map (after_end c.args.id) places = first_of (search rules, grind (arith, common_steps)) in
    let opens = ap (λ (s : Places). s.ids.open_ids) (sym c.self.view_is) in
    let ends = ap (λ (s : Places). s.ids.ended_ids) (sym c.self.view_is) in
    let old = c.args.self.now.ids in
    let newest = ap (λ (s : Places). s.ids.newest) c.self.view_is in
    ends_marked c.args.id old
    (record { newest = c.self.inside.newest; open_ids = open_ids_in end; ended_ids = ended_in end }) places c.requires
    opens ends newest (ap open_ids_in marked) (ap ended_in marked)

-- The counts stay, and so do their bounds.
pub invariant_of-self : goal.invariant_of-self
invariant_of-self c =
    let now = c.loop-x.x-items in
    let places = c.self.inside.places.items in
    let end = take c.self.inside.places.len (now ++ drop (length now) places) in
    let marked : end ≡ map (after_end c.args.id) places = first_of (search rules, grind (arith, common_steps)) in
    rw marked (bounded_after_end c.args.id places c.self.invariant)

pub returns-clause-faults : goal.returns-clause-faults
returns-clause-faults c =
    let now = c.loop-x.x-items in
    let places = c.self.inside.places.items in
    let end = take c.self.inside.places.len (now ++ drop (length now) places) in
    let marked : end ≡ map (after_end c.args.id) places = first_of (search rules, grind (arith, common_steps)) in
    ap counts_in marked ∙ counts_after_end c.args.id places ∙ ap (λ (s : Places). s.counts) c.self.view_is
