-- The entries and the width read are the node's; a table's law has each of its tuples that wide.
use Rattle.std.proofs.Common.{ℕ, List, length, ap, ◌∙◌, arith}
use Rattle.djq_index.specs.Table.{IsOccupied}
use Rattle.djq_propagate.proofs.Families.{is_read, to_read, at_read, wide_at}
use Rattle.djq_propagate.proofs.tables.read_at.Goals as goal

pub tuple-requires : goal.tuple-requires
tuple-requires c = to_read (λ es. IsOccupied es c.args.place)
    (is_read c.args.tables.now.items c.args.at c.index-table.result.now c.requires.within c.index-table.ensures)
    c.requires.live

pub take_all-requires : goal.take_all-requires
take_all-requires c =
    let t = c.index-table.result.now in
    let r = is_read c.args.tables.now.items c.args.at c.index-table.result.now c.requires.within
    c.index-table.ensures in
    let l = to_read (λ es. IsOccupied es c.args.place) r c.requires.live in
    let n = c.requires.narrow in
    omega (
      arith,
      ap (λ (u : List ℕ). length u) (c.tuple.ensures l.tuple l.is_at),
      wide_at t.width t.entries c.args.place l.tuple c.laws.ensures.wide l.is_at,
      r.width,
    )

pub returns-clause-tuple : goal.returns-clause-tuple
returns-clause-tuple c u a =
    let r = is_read c.args.tables.now.items c.args.at c.index-table.result.now c.requires.within
    c.index-table.ensures in
    c.take_all.ensures ∙ c.tuple.ensures u (at_read r a)

pub returns-clause-wide : goal.returns-clause-wide
returns-clause-wide c =
    let t = c.index-table.result.now in
    let r = is_read c.args.tables.now.items c.args.at c.index-table.result.now c.requires.within
    c.index-table.ensures in
    let l = to_read (λ es. IsOccupied es c.args.place) r c.requires.live in
    ap (λ (u : List ℕ). length u) (c.take_all.ensures ∙ c.tuple.ensures l.tuple l.is_at)
    ∙ wide_at t.width t.entries c.args.place l.tuple c.laws.ensures.wide l.is_at ∙ r.width
