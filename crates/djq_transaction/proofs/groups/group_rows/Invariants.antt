-- The groups of the rows up to a place are made.
use Rattle.std.specs.Prelude.{List, ◌≡◌, filter, take}
use Rattle.djq_store_spec.specs.Held as spec
use Rattle.djq_store_spec.specs.Lines.{first_lines, line_comes, line_goes}
use Rattle.djq_transaction.specs.Applied.{IsJudged}
use Rattle.djq_transaction.specs.Grouped.{grouped_rows}
use Rattle.djq_transaction.proofs.groups.group_rows.Given as goal

abbrev pub invariant-loop-place : goal.invariant-loop-place
invariant-loop-place l = record {
  come : (lines : List spec.HeldLine) → IsJudged l.catalog.relations l.catalog.texts lines l.net
      → l.come.items ≡ grouped_rows l.catalog.relations l.catalog.texts
      (filter (line_comes l.catalog.relations lines) (take l.place (first_lines lines)));
  gone : (lines : List spec.HeldLine) → IsJudged l.catalog.relations l.catalog.texts lines l.net
      → l.gone.items ≡ grouped_rows l.catalog.relations l.catalog.texts
      (filter (line_goes l.catalog.relations lines) (take l.place (first_lines lines)));
}
