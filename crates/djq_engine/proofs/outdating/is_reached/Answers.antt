-- A place is reached exactly where some group's relation has it as a reader; no group passed has.
use Rattle.std.proofs.Common.{◌∙◌, ◌<◌, ℕ, List, sym, ap, subst, get_or, length}
use Rattle.djq_reach.specs.declared.group.Group.{Group}
use Rattle.djq_reach.specs.Places.{is_reader}
use Rattle.djq_engine.proofs.OutdatedQueries.{group_there, reached_by, reached_next}
use Rattle.djq_engine.proofs.StoredRows.{places_read}
use Rattle.djq_engine.proofs.outdating.is_reached.Goals as goal

pub returns-then-has_place : goal.returns-then-has_place
returns-then-has_place c =
    let g = c.index-groups-nth.result in
    let at = g.relation.at in
    let low = subst (λ (x : Group). x.relation.at < length c.args.readers.now.items) (sym c.index-groups-nth.is)
    (c.requires c.loop-nth.nth g c.loop-nth-test.true) in
    let places = places_read c.args.readers.now.items at c.index.result.now c.as_slice.result.now low
    (c.index.ensures ∙ ap (λ (x : Group). get_or c.args.readers.now.items x.relation.at c.index.result.now)
    (sym c.index-groups-nth.is)) c.as_slice.ensures in
    sym (reached_by c.args.readers.now.items c.args.groups.now at c.args.place
    (group_there c.args.groups.now c.loop-nth.nth g c.loop-nth-test.true c.index-groups-nth.is)
    (ap (λ (ps : List ℕ). is_reader ps c.args.place) (sym places) ∙ sym c.has_place.ensures ∙ c.if-has_place.true))

pub loop-nth-preserved : goal.loop-nth-preserved
loop-nth-preserved c =
    let g = c.index-groups-nth.result in
    let at = g.relation.at in
    let low = subst (λ (x : Group). x.relation.at < length c.args.readers.now.items) (sym c.index-groups-nth.is)
    (c.requires c.loop-nth.nth g c.loop-nth-test.true) in
    let places = places_read c.args.readers.now.items at c.index.result.now c.as_slice.result.now low
    (c.index.ensures ∙ ap (λ (x : Group). get_or c.args.readers.now.items x.relation.at c.index.result.now)
    (sym c.index-groups-nth.is)) c.as_slice.ensures in
    reached_next c.args.readers.now.items c.args.groups.now c.loop-nth.nth g c.args.place c.loop-nth-test.true
    c.index-groups-nth.is c.loop-nth.invariant
    (ap (λ (ps : List ℕ). is_reader ps c.args.place) (sym places) ∙ sym c.has_place.ensures ∙ c.if-has_place.false)
