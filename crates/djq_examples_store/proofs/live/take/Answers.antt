-- The last copy is a row that went; where one is left, or none was there, the rows are as they were.
use Rattle.std.proofs.Common.{◌≡◌, ℕ, List, sym, subst}
use Rattle.djq_database.specs.Catalog.{Catalog, StandForRow, rows_at}
use Rattle.djq_live_query.specs.Live.{IsLive}
use Rattle.djq_live_query.proofs.TestDeltas.{same_catalog, has_contains}
use Rattle.djq_examples_store.proofs.live.take.Goals as goal

pub go-requires-clause-can : goal.go-requires-clause-can
go-requires-clause-can g c =
    let stands : (cells : List ℕ) → cells ≡ c.in_ok-cells.cells
    → StandForRow c.args.catalog.now c.args.id.at cells c.args.row.now =
    (λ cells e. subst (λ (x : List ℕ). StandForRow c.args.catalog.now c.args.id.at x c.args.row.now)
    (sym e) c.in_ok-cells.ensures.stand) in
    let gone = c.in-Last.ensures.deletes c.args.row.now
    (stands c.as_slice.result.now c.as_slice.ensures) in (
      c.args.catalog.now,
      c.args.row.now,
      c.requires.live.kept,
      has_contains (rows_at c.args.catalog.now.relations c.args.id.at) c.args.row.now gone.0,
      c.deleted_went.ensures c.args.catalog.now c.delete_row-outcome.new.self c.args.id.at
          c.as_slice-in-Last.result.now c.args.row.now c.laws-2.ensures
          c.in_ok-cells.ensures.there
          (stands c.as_slice-in-Last.result.now c.as_slice-in-Last.ensures)
          c.delete_row-outcome.ensures.texts gone.2,
    )

pub returns-in_ok-vec-in-Absent : goal.returns-in_ok-vec-in-Absent
returns-in_ok-vec-in-Absent g c = record {
  live = subst (λ (x : Catalog). IsLive x c.args.live.now)
      (sym (same_catalog c.args.catalog.now c.delete_row-outcome.new.self
      (c.in-Absent.ensures.deletes c.args.row.now
      (subst (λ (x : List ℕ). StandForRow c.args.catalog.now c.args.id.at x c.args.row.now)
      (sym c.as_slice.ensures) c.in_ok-cells.ensures.stand)).1
      c.delete_row-outcome.ensures.texts))
      c.requires.live;
}

pub returns-in_ok-vec-in-Left : goal.returns-in_ok-vec-in-Left
returns-in_ok-vec-in-Left g c =
    let old = c.args.catalog.now in
    let new = c.delete_row-outcome.new.self in
    let same = c.copies_keep_rows.ensures old new c.args.id.at c.args.row.now c.in-Left._copies
    c.laws-2.ensures c.in_ok-cells.ensures.there c.delete_row-outcome.ensures.texts
    (c.in-Left.ensures.deletes c.args.row.now
    (subst (λ (x : List ℕ). StandForRow old c.args.id.at x c.args.row.now)
    (sym c.as_slice.ensures) c.in_ok-cells.ensures.stand)).3 in
    record { live = (c.live_stays.ensures old new c.args.live.now same c.requires.live).live }
