-- A first copy is a row that came; a further one leaves the rows as they are, so the query is kept still.
use Rattle.std.proofs.Common.{◌≡◌, ℕ, List, sym, subst}
use Rattle.djq_database.specs.Catalog.{Catalog, StandForRow}
use Rattle.djq_live_query.specs.Live.{IsLive}
use Rattle.djq_live_query.proofs.TestDeltas.{row_added, copy_added}
use Rattle.djq_examples_store.proofs.live.put.Goals as goal

pub come-requires-clause-can : goal.come-requires-clause-can
come-requires-clause-can g c =
    let stands : (cells : List ℕ) → cells ≡ c.in_ok-cells.cells
    → StandForRow c.args.catalog.now c.args.id.at cells c.args.row.now =
    (λ cells e. subst (λ (x : List ℕ). StandForRow c.args.catalog.now c.args.id.at x c.args.row.now)
    (sym e) c.in_ok-cells.ensures.stand) in (
      c.args.catalog.now,
      c.args.row.now,
      c.requires.live.kept,
      c.added_came.ensures c.args.catalog.now c.add_row.new.self c.args.id.at
          c.as_slice-in-First.result.now c.args.row.now c.laws-2.ensures
          c.in_ok-cells.ensures.there
          (stands c.as_slice-in-First.result.now c.as_slice-in-First.ensures)
          c.add_row.ensures.texts
          (row_added c.args.catalog.now.relations c.args.id.at c.args.row.now
          c.in_ok-outcome.outcome c.add_row.new.self.relations c.in-First.is
          (c.in_ok-outcome.ensures.adds c.args.row.now
          (stands c.as_slice.result.now c.as_slice.ensures))),
    )

pub returns-in_ok-vec-in-More : goal.returns-in_ok-vec-in-More
returns-in_ok-vec-in-More g c =
    let old = c.args.catalog.now in
    let new = c.add_row.new.self in
    let same = c.copies_keep_rows.ensures old new c.args.id.at c.args.row.now c.in-More._copies
    c.laws-2.ensures c.in_ok-cells.ensures.there c.add_row.ensures.texts
    (copy_added old.relations c.args.id.at c.args.row.now c.in_ok-outcome.outcome
    c.in-More._copies new.relations c.in-More.is (c.in_ok-outcome.ensures.adds c.args.row.now
    (subst (λ (x : List ℕ). StandForRow old c.args.id.at x c.args.row.now)
    (sym c.as_slice.ensures) c.in_ok-cells.ensures.stand))) in
    record { live = (c.live_stays.ensures old new c.args.live.now same c.requires.live).live }
