-- The groups lead from the catalog before to the one between, and from there to one with the rows after.
use Rattle.std.proofs.Common.{ℕ, List, ◌∙◌, refl, sym, ap, subst}
use Rattle.djq_database.specs.Catalog.{Catalog}
use Rattle.djq_transaction.specs.Applied.{HasAllInserted}
use Rattle.djq_store_spec.specs.Held.{HeldLine}
use Rattle.djq_reach.specs.declared.group.Group.{Group}
use Rattle.djq_reach.specs.Places.{AreOnce}
use Rattle.djq_reach.specs.Grouping.{CostsBy, group_relations}
use Rattle.djq_queries.specs.Changing.{CanChangeBy, CostsChange, WorksChange}
use Rattle.djq_live_query.proofs.ShownAnswers.{stays_lives as live_stays}
use Rattle.djq_transaction.specs.Leading.{LeadsBy}
use Rattle.djq_transaction.proofs.LeadingLines.{headings_stay}
use Rattle.djq_engine.specs.Carrying.{ChangesQueries, LeavesQueries, ChangesRows, LeavesRows, CountsHalves}
use Rattle.djq_engine.specs.Carrying.{CountsInserts}
use Rattle.djq_engine.specs.Carrying.{WorksHalves, come_of}
use Rattle.djq_engine.proofs.ChangedRows.{answers_left, of_groups, to_groups, lead_of, same_after, rows_idle}
use Rattle.djq_engine.proofs.ChangedRows.{can_change}
use Rattle.djq_engine.proofs.ChangedRows.{rows_left, rows_changed, halves_counted, halves_worked, inserts_counted}
use Rattle.djq_engine.proofs.ReachedQueries.{sound_readers}
use Rattle.djq_engine.proofs.carrying.change_rows.Goals as goal
use Rattle.std.specs.Prelude.{Result, Ok, Err, OnErr, IsErr}

-- what holds anyhow holds of an error
on_err : {A B : Type 0} (r : Result A B) (P : Type 0) → P → OnErr r P
on_err (Ok x) P h = tt
on_err (Err x) P h = h

pub returns-in_err-insert_rows-clause-err : goal.returns-in_err-insert_rows-clause-err
returns-in_err-insert_rows-clause-err g c = on_err c.from_residual.result _
    (rows_idle c.args.parts.now (record c.args.parts.now { catalog = c.insert_rows.new.catalog }) c.requires.whole
    c.args.groups.now.come.items c.args.groups.now.gone.items c.in_err-insert_rows.ensures.err
    c.insert_rows.ensures.texts refl refl)

pub change_queries-requires-clause-come_differ : goal.change_queries-requires-clause-come_differ
change_queries-requires-clause-come_differ g c =
    let lines : List HeldLine = c.requires.planned.0 in
    let p = c.requires.planned.1 in
    let lead = lead_of c.args.parts.now.catalog c.insert_rows.new.catalog lines c.args.net.now c.laws.ensures
    c.laws-2.ensures p.judged c.insert_rows.ensures.texts (c.in_ok-insert_rows.ensures.ok lines p.judged) in
    of_groups (λ (come gone : List Group). AreOnce (group_relations come))
    c.args.parts.now.catalog.relations c.args.parts.now.catalog.texts lines c.args.groups.now p.grouped
    (lead.groups.come_differ)

pub change_queries-requires-clause-gone_differ : goal.change_queries-requires-clause-gone_differ
change_queries-requires-clause-gone_differ g c =
    let lines : List HeldLine = c.requires.planned.0 in
    let p = c.requires.planned.1 in
    let lead = lead_of c.args.parts.now.catalog c.insert_rows.new.catalog lines c.args.net.now c.laws.ensures
    c.laws-2.ensures p.judged c.insert_rows.ensures.texts (c.in_ok-insert_rows.ensures.ok lines p.judged) in
    of_groups (λ (come gone : List Group). AreOnce (group_relations gone))
    c.args.parts.now.catalog.relations c.args.parts.now.catalog.texts lines c.args.groups.now p.grouped
    (lead.groups.gone_differ)

pub change_queries-requires-clause-can : goal.change_queries-requires-clause-can
change_queries-requires-clause-can g c =
    let lines : List HeldLine = c.requires.planned.0 in
    let p = c.requires.planned.1 in
    let lead = lead_of c.args.parts.now.catalog c.insert_rows.new.catalog lines c.args.net.now c.laws.ensures
    c.laws-2.ensures p.judged c.insert_rows.ensures.texts (c.in_ok-insert_rows.ensures.ok lines p.judged) in
    of_groups (λ (come gone : List Group). CanChangeBy c.args.parts.now.readers.items come gone
    c.args.parts.now.queries.items)
    c.args.parts.now.catalog.relations c.args.parts.now.catalog.texts lines c.args.groups.now p.grouped
    (can_change c.args.parts.now c.requires.whole lines lead headings_stay)

pub change_queries-requires-clause-once : goal.change_queries-requires-clause-once
change_queries-requires-clause-once g c =
    let s = c.requires.whole in
    (sound_readers c.args.parts.now.catalog c.args.parts.now.queries.items c.args.parts.now.order
    c.args.parts.now.readers.items s).once

pub returns-in-Err-clause-err : goal.returns-in-Err-clause-err
returns-in-Err-clause-err g c =
    let lines : List HeldLine = c.requires.planned.0 in
    let p = c.requires.planned.1 in
    let old = c.args.parts.now in
    let lead = lead_of c.args.parts.now.catalog c.insert_rows.new.catalog lines c.args.net.now c.laws.ensures
    c.laws-2.ensures p.judged c.insert_rows.ensures.texts (c.in_ok-insert_rows.ensures.ok lines p.judged) in
    let its = old.catalog in
    let new = record c.change_queries.new.parts { catalog = c.undo_rows.new.catalog } in
    of_groups (λ (come gone : List Group). LeavesRows come gone old new) its.relations its.texts lines
    c.args.groups.now p.grouped
    (rows_left old c.requires.whole lines lead headings_stay new
    (to_groups (λ (come gone : List Group). LeavesQueries come gone old new) its.relations its.texts lines
    c.args.groups.now p.grouped
    (record { reach = c.in-Err.ensures.given.reach; empties = c.in-Err.ensures.given.empties }))
    (c.undo_rows.ensures.back its.relations lines
    (subst (λ (d : Catalog). HasAllInserted its.relations lines d c.args.net.now)
    (sym c.change_queries.ensures.catalog) (c.in_ok-insert_rows.ensures.ok lines p.judged)))
    (c.undo_rows.ensures.texts ∙ ap (λ (d : Catalog). d.texts) c.change_queries.ensures.catalog
    ∙ c.insert_rows.ensures.texts))

pub returns-in-Err-clause-refused : goal.returns-in-Err-clause-refused
returns-in-Err-clause-refused g c = λ lines p.
    let old = c.args.parts.now in
    let lead = lead_of c.args.parts.now.catalog c.insert_rows.new.catalog lines c.args.net.now c.laws.ensures
    c.laws-2.ensures p.judged c.insert_rows.ensures.texts (c.in_ok-insert_rows.ensures.ok lines p.judged) in
    let its = old.catalog in
    let new = record c.change_queries.new.parts { catalog = c.undo_rows.new.catalog } in
    of_groups (λ (come gone : List Group). CountsInserts lines come old c.args.steps.now.listing
    c.change_queries.new.steps.listing) its.relations its.texts lines c.args.groups.now p.grouped
    (inserts_counted old c.requires.whole lines lead headings_stay c.args.steps.now.listing
    c.change_queries.new.steps.listing
    (to_groups (λ (come gone : List Group). CostsBy old.readers.items come old.watchers.items old.queries.items
    c.args.steps.now.listing c.change_queries.new.steps.listing) its.relations its.texts lines
    c.args.groups.now p.grouped c.in-Err.ensures.refused))

pub returns-clause-ok : goal.returns-clause-ok
returns-clause-ok g c = λ lines p.
    let old = c.args.parts.now in
    let lead = lead_of c.args.parts.now.catalog c.insert_rows.new.catalog lines c.args.net.now c.laws.ensures
    c.laws-2.ensures p.judged c.insert_rows.ensures.texts (c.in_ok-insert_rows.ensures.ok lines p.judged) in
    let its = old.catalog in
    let new = record c.change_queries.new.parts { catalog = c.remove_rows.new.catalog } in
    let relations = c.remove_rows.ensures.after its.relations lines
    (subst (λ (d : Catalog). HasAllInserted its.relations lines d c.args.net.now)
    (sym c.change_queries.ensures.catalog) (c.in_ok-insert_rows.ensures.ok lines p.judged)) in
    let texts = c.remove_rows.ensures.texts ∙ ap (λ (d : Catalog). d.texts) c.change_queries.ensures.catalog
    ∙ c.insert_rows.ensures.texts in
    of_groups (λ (come gone : List Group). ChangesRows lines come gone old new) its.relations its.texts lines
    c.args.groups.now p.grouped
    (rows_changed old c.requires.whole lines lead headings_stay live_stays
    (same_after its new.catalog lines c.laws.ensures c.laws-3.ensures relations texts) answers_left c.laws.ensures
    new relations texts
    (to_groups (λ (come gone : List Group). ChangesQueries come gone old new) its.relations its.texts lines
    c.args.groups.now p.grouped
    (record { reach = c.in-Ok.ensures.changed.reach; tells = c.in-Ok.ensures.changed.tells })))

pub returns-clause-counted : goal.returns-clause-counted
returns-clause-counted g c = λ lines p.
    let old = c.args.parts.now in
    let lead = lead_of c.args.parts.now.catalog c.insert_rows.new.catalog lines c.args.net.now c.laws.ensures
    c.laws-2.ensures p.judged c.insert_rows.ensures.texts (c.in_ok-insert_rows.ensures.ok lines p.judged) in
    let its = old.catalog in
    let new = record c.change_queries.new.parts { catalog = c.remove_rows.new.catalog } in
    let relations = c.remove_rows.ensures.after its.relations lines
    (subst (λ (d : Catalog). HasAllInserted its.relations lines d c.args.net.now)
    (sym c.change_queries.ensures.catalog) (c.in_ok-insert_rows.ensures.ok lines p.judged)) in
    let texts = c.remove_rows.ensures.texts ∙ ap (λ (d : Catalog). d.texts) c.change_queries.ensures.catalog
    ∙ c.insert_rows.ensures.texts in
    of_groups (λ (come gone : List Group). CountsHalves lines come gone old new.catalog c.args.steps.now.listing
    c.change_queries.new.steps.listing) its.relations its.texts lines c.args.groups.now p.grouped
    (halves_counted old c.requires.whole lines lead headings_stay live_stays
    (same_after its new.catalog lines c.laws.ensures c.laws-3.ensures relations texts) answers_left c.laws.ensures
    new relations texts
    c.args.steps.now.listing c.change_queries.new.steps.listing
    (to_groups (λ (come gone : List Group). CostsChange old.readers.items come gone old.watchers.items
    old.queries.items c.args.steps.now.listing c.change_queries.new.steps.listing) its.relations its.texts lines
    c.args.groups.now p.grouped c.change_queries.ensures.counted))

pub returns-clause-updates : goal.returns-clause-updates
returns-clause-updates g c = λ lines p.
    let old = c.args.parts.now in
    let lead = lead_of c.args.parts.now.catalog c.insert_rows.new.catalog lines c.args.net.now c.laws.ensures
    c.laws-2.ensures p.judged c.insert_rows.ensures.texts (c.in_ok-insert_rows.ensures.ok lines p.judged) in
    let its = old.catalog in
    let new = record c.change_queries.new.parts { catalog = c.remove_rows.new.catalog } in
    of_groups (λ (come gone : List Group). WorksHalves lines come gone old c.args.steps.now.update
    c.change_queries.new.steps.update) its.relations its.texts lines c.args.groups.now p.grouped
    (halves_worked old c.requires.whole lines lead headings_stay c.args.steps.now.update
    c.change_queries.new.steps.update
    (to_groups (λ (come gone : List Group). WorksChange old.readers.items come gone old.queries.items
    c.args.steps.now.update c.change_queries.new.steps.update) its.relations its.texts lines
    c.args.groups.now p.grouped c.in-Ok.ensures.updates))
