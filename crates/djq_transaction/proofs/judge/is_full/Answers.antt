-- The rows together are those of the relation, and the new ones of the table.
use Rattle.std.proofs.Common.{◌∙◌, ap, sym, arith}
use Rattle.std.specs.Prelude.{◌+◌, ℕ, length, filter}
use Rattle.std.specs.List.{zip}
use Rattle.djq_transaction.specs.Net.{is_new_in}
use Rattle.djq_transaction.proofs.Tables.{cells_in, entries_long}
use Rattle.djq_transaction.proofs.Full.{together_is, filter_short, full_alone, room_left, full_counted}
use Rattle.djq_transaction.proofs.judge.is_full.Goals as goal

pub returns-then-rows-ge-ROWS : goal.returns-then-rows-ge-ROWS
returns-then-rows-ge-ROWS c = λ lines h n s.
    full_alone c.row_count-rows.result _ _
    (together_is c.args.catalog.now c.args.width lines h c.args.id.at c.args.net.now c.laws.ensures.names n s
    ∙ ap (λ (k : ℕ). k + length (filter (is_new_in c.args.id.at)
    (zip (cells_in c.args.net.now.keys.rows) c.args.net.now.copies.items))) (sym c.row_count-rows.ensures))
    c.if-rows-ge-ROWS.true

pub returns-then-len-places : goal.returns-then-len-places
returns-then-len-places c = λ lines h n s.
    room_left c.row_count-rows.result _ c.len.result _
    (together_is c.args.catalog.now c.args.width lines h c.args.id.at c.args.net.now c.laws.ensures.names n s
    ∙ ap (λ (k : ℕ). k + length (filter (is_new_in c.args.id.at)
    (zip (cells_in c.args.net.now.keys.rows) c.args.net.now.copies.items))) (sym c.row_count-rows.ensures))
    (omega (
      arith,
      filter_short (is_new_in c.args.id.at)
          (zip (cells_in c.args.net.now.keys.rows) c.args.net.now.copies.items),
      entries_long (cells_in c.args.net.now.keys.rows) c.args.net.now.copies.items c.requires.table.long,
      c.len.ensures,
    ))
    c.if-rows-ge-ROWS.false c.if-len-places.true

pub returns : goal.returns
returns c = λ lines h n s.
    full_counted c.row_count-rows.result c.count_new.result _
    (together_is c.args.catalog.now c.args.width lines h c.args.id.at c.args.net.now c.laws.ensures.names n s
    ∙ ap (λ (k : ℕ). k + length (filter (is_new_in c.args.id.at)
    (zip (cells_in c.args.net.now.keys.rows) c.args.net.now.copies.items))) (sym c.row_count-rows.ensures)
    ∙ ap (λ (k : ℕ). c.row_count-rows.result + k) (sym c.count_new.ensures))
    c.if-rows-ge-ROWS.false
