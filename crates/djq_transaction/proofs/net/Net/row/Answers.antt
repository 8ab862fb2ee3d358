-- The key at the place is that of a line's row.
use Rattle.std.proofs.Common.{ap, arith}
use Rattle.std.specs.Prelude.{ℕ, length}
use Rattle.djq_transaction.proofs.Headings.{key_of, key_first, cells_are_columns, key_long, row_there}
use Rattle.djq_database.specs.Catalog.{relation_at}
use Rattle.djq_transaction.proofs.net.Net.row.Goals as goal

pub bounds-key-0 : goal.bounds-key-0
bounds-key-0 c =
    let base = c.requires.net.0 in
    let lines = c.requires.net.1 in
    let k = key_of base c.args.catalog.now c.args.self.now.keys.width lines c.args.self.now c.args.place
    c.key-key.result.now c.requires.net.2 c.requires.net.3 c.key-key.ensures.key in
    omega (arith, key_long base c.args.catalog.now c.args.self.now.keys.width lines c.args.place c.key-key.result.now k)

pub columns-columns-requires : goal.columns-columns-requires
columns-columns-requires c =
    let base = c.requires.net.0 in
    let lines = c.requires.net.1 in
    let k = key_of base c.args.catalog.now c.args.self.now.keys.width lines c.args.self.now c.args.place
    c.key-key.result.now c.requires.net.2 c.requires.net.3 c.key-key.ensures.key in
    omega (
      arith,
      key_first base c.args.catalog.now c.args.self.now.keys.width lines c.args.place c.key-key.result.now k,
      k.at.below,
    )

pub slice_bounds-from_slice-end : goal.slice_bounds-from_slice-end
slice_bounds-from_slice-end c =
    let base = c.requires.net.0 in
    let lines = c.requires.net.1 in
    let k = key_of base c.args.catalog.now c.args.self.now.keys.width lines c.args.self.now c.args.place
    c.key-key.result.now c.requires.net.2 c.requires.net.3 c.key-key.ensures.key in
    let first = key_first base c.args.catalog.now c.args.self.now.keys.width lines c.args.place c.key-key.result.now k in
    omega (
      arith,
      key_long base c.args.catalog.now c.args.self.now.keys.width lines c.args.place c.key-key.result.now k,
      cells_are_columns base c.args.catalog.now c.args.self.now.keys.width lines c.args.place c.key-key.result.now k,
      ap (λ ts. length ts) c.columns-columns.ensures,
      ap (λ (at : ℕ). length (relation_at c.args.catalog.now.relations at).types) first,
    )

pub returns : goal.returns
returns c = record {
  row = λ base lines h n e there.
      let k = key_of base c.args.catalog.now c.args.self.now.keys.width lines c.args.self.now c.args.place
      c.key-key.result.now n e c.key-key.ensures.key in
      row_there base c.args.catalog.now c.args.self.now.keys.width lines c.args.place c.key-key.result.now k h
      (length c.columns-columns.result.now) c.from_slice.result there (ap (λ ts. length ts) c.columns-columns.ensures)
      c.from_slice.ensures;
}
