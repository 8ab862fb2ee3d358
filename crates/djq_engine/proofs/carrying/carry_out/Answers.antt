-- The groups are those of the lines' rows, and what is said of them is said of these.
use Rattle.std.proofs.Common.{List, ◌++◌, ◌≡◌, false, refl}
use Rattle.std.specs.Prelude.{Result, Ok, Err, OnErr, All}
use Rattle.std.proofs.lemmas.List.Elements.{All-append}
use Rattle.djq_store_spec.specs.Held.{HeldLine}
use Rattle.djq_store_spec.specs.Done.{has_changed}
use Rattle.djq_reach.specs.declared.group.Group.{Group}
use Rattle.djq_reach.specs.Places.{watched_at}
use Rattle.djq_reach.specs.Tending.{AreUnwatched}
use Rattle.djq_reach.specs.Grouping.{WorksBy, rows_of_groups, times_back, reached}
use Rattle.djq_transaction.proofs.LeadingLines.{changed_is_either, lines_group}
use Rattle.djq_engine.specs.Carrying.{AreGroupsFor, ChangesRows, CountsHalves, CountsInserts, LinesHavePassed}
use Rattle.djq_engine.specs.Carrying.{WorksHalves}
use Rattle.djq_engine.specs.Carrying.{come_of, gone_of, places_changed}
use Rattle.djq_engine.proofs.CarriedLines.{both_for}
use Rattle.djq_engine.proofs.ChangedRows.{of_groups, to_groups, rows_idle, unwatched_reached}
use Rattle.djq_engine.proofs.carrying.carry_out.Goals as goal

-- what holds anyhow holds of an error
on_err : {A B : Type 0} (r : Result A B) (P : Type 0) → P → OnErr r P
on_err (Ok x) P h = tt
on_err (Err x) P h = h

pub returns-in_err-groups-clause-err : goal.returns-in_err-groups-clause-err
returns-in_err-groups-clause-err g c = on_err c.from_residual.result _
    (rows_idle c.args.parts.now c.args.parts.now c.requires.whole (come_of c.args.parts.now c.args.held.now.lines)
    (gone_of c.args.parts.now c.args.held.now.lines) refl refl refl refl)

pub returns-in_err-relations-clause-err : goal.returns-in_err-relations-clause-err
returns-in_err-relations-clause-err g c = on_err c.from_residual-in_err-relations.result _
    (rows_idle c.args.parts.now c.args.parts.now c.requires.whole (come_of c.args.parts.now c.args.held.now.lines)
    (gone_of c.args.parts.now c.args.held.now.lines) refl refl refl refl)

pub changed_names-requires-clause-changed : goal.changed_names-requires-clause-changed
changed_names-requires-clause-changed g c =
    let old = c.args.parts.now in
    let its = old.catalog in
    let lines = c.args.held.now.lines in
    let groups = c.in_ok-groups.groups in
    let are = c.in_ok-groups.ensures lines c.requires.judged in
    of_groups (λ (come gone : List Group). AreGroupsFor its.relations (come ++ gone) (has_changed its.relations lines))
    its.relations its.texts lines groups are
    (both_for changed_is_either its.relations lines (come_of old lines) (gone_of old lines)
    (lines_group its lines c.args.net.now c.laws.ensures c.requires.judged))

pub returns-in_err-change_rows-clause-unlisted : goal.returns-in_err-change_rows-clause-unlisted
returns-in_err-change_rows-clause-unlisted g c = λ all.
    let old = c.args.parts.now in
    let its = old.catalog in
    let lines = c.args.held.now.lines in
    let groups = c.in_ok-groups.groups in
    let are = c.in_ok-groups.ensures lines c.requires.judged in
    let of = lines_group its lines c.args.net.now c.laws.ensures c.requires.judged in
    let none = of_groups (λ (come gone : List Group). AreUnwatched old.watchers.items (places_changed old come gone))
    its.relations its.texts lines groups are
    (All-append (λ i. watched_at old.watchers.items i ≡ false) (reached old.readers.items (come_of old lines))
    (reached old.readers.items (gone_of old lines))
    (unwatched_reached old c.requires.whole all (come_of old lines) of.come_within)
    (unwatched_reached old c.requires.whole all (gone_of old lines) of.gone_within)) in
    c.change_rows.ensures.unlisted none

pub returns-clause-unlisted : goal.returns-clause-unlisted
returns-clause-unlisted g c = λ all.
    let old = c.args.parts.now in
    let its = old.catalog in
    let lines = c.args.held.now.lines in
    let groups = c.in_ok-groups.groups in
    let are = c.in_ok-groups.ensures lines c.requires.judged in
    let of = lines_group its lines c.args.net.now c.laws.ensures c.requires.judged in
    let none = of_groups (λ (come gone : List Group). AreUnwatched old.watchers.items (places_changed old come gone))
    its.relations its.texts lines groups are
    (All-append (λ i. watched_at old.watchers.items i ≡ false) (reached old.readers.items (come_of old lines))
    (reached old.readers.items (gone_of old lines))
    (unwatched_reached old c.requires.whole all (come_of old lines) of.come_within)
    (unwatched_reached old c.requires.whole all (gone_of old lines) of.gone_within)) in
    c.change_rows.ensures.unlisted none

pub returns-in_err-change_rows-clause-refused : goal.returns-in_err-change_rows-clause-refused
returns-in_err-change_rows-clause-refused g c = on_err c.from_residual-in_err-change_rows.result _ (let old =
    c.args.parts.now in
    let its = old.catalog in
    let lines = c.args.held.now.lines in
    let groups = c.in_ok-groups.groups in
    let are = c.in_ok-groups.ensures lines c.requires.judged in
    let passed : LinesHavePassed old lines c.args.net.now groups = record {
      judged = c.requires.judged;
      grouped = are;
    } in
    to_groups (λ (come gone : List Group). CountsInserts lines come old c.args.steps.now.listing
    c.change_rows.new.steps.listing) its.relations its.texts lines groups are
    (c.in_err-change_rows.ensures.refused lines passed))

pub returns-in_err-change_rows-clause-refusal : goal.returns-in_err-change_rows-clause-refusal
returns-in_err-change_rows-clause-refusal g c = on_err c.from_residual-in_err-change_rows.result _ (let old =
    c.args.parts.now in
    let its = old.catalog in
    let lines = c.args.held.now.lines in
    let groups = c.in_ok-groups.groups in
    let are = c.in_ok-groups.ensures lines c.requires.judged in
    to_groups (λ (come gone : List Group). WorksBy old.readers.items come old.queries.items (rows_of_groups come)
    times_back c.args.steps.now.update c.change_rows.new.steps.update) its.relations its.texts lines groups are
    c.in_err-change_rows.ensures.refusal)

pub returns-clause-ok : goal.returns-clause-ok
returns-clause-ok g c =
    let old = c.args.parts.now in
    let its = old.catalog in
    let lines = c.args.held.now.lines in
    let groups = c.in_ok-groups.groups in
    let are = c.in_ok-groups.ensures lines c.requires.judged in
    let passed : LinesHavePassed old lines c.args.net.now groups = record {
      judged = c.requires.judged;
      grouped = are;
    } in
    to_groups (λ (come gone : List Group). ChangesRows lines come gone old c.change_rows.new.parts)
    its.relations its.texts lines groups are (c.in_ok-change_rows.ensures.ok lines passed)

pub returns-clause-counted : goal.returns-clause-counted
returns-clause-counted g c =
    let old = c.args.parts.now in
    let its = old.catalog in
    let lines = c.args.held.now.lines in
    let groups = c.in_ok-groups.groups in
    let are = c.in_ok-groups.ensures lines c.requires.judged in
    let passed : LinesHavePassed old lines c.args.net.now groups = record {
      judged = c.requires.judged;
      grouped = are;
    } in
    to_groups (λ (come gone : List Group). CountsHalves lines come gone old c.change_rows.new.parts.catalog
    c.args.steps.now.listing c.change_rows.new.steps.listing) its.relations its.texts lines groups are
    (c.in_ok-change_rows.ensures.counted lines passed)

pub returns-clause-updates : goal.returns-clause-updates
returns-clause-updates g c =
    let old = c.args.parts.now in
    let its = old.catalog in
    let lines = c.args.held.now.lines in
    let groups = c.in_ok-groups.groups in
    let are = c.in_ok-groups.ensures lines c.requires.judged in
    let passed : LinesHavePassed old lines c.args.net.now groups = record {
      judged = c.requires.judged;
      grouped = are;
    } in
    to_groups (λ (come gone : List Group). WorksHalves lines come gone old c.args.steps.now.update
    c.change_rows.new.steps.update) its.relations its.texts lines groups are
    (c.in_ok-change_rows.ensures.updates lines passed)
