-- The row came last, so without it those before it are left.
use Rattle.std.proofs.Common.{ℕ, List, ◌∙◌, ◌+◌, sym, subst}
use Rattle.djq_transaction.specs.Applied.{HasCopiesAt, SetsCopiesAt}
use Rattle.djq_transaction.proofs.Entries.{line_of}
use Rattle.djq_transaction.proofs.AppliedRows.{first_headings, last_passed, last_counted, last_back}
use Rattle.djq_transaction.proofs.apply.take_at.Goals as goal

pub row-cells-requires-clause-net : goal.row-cells-requires-clause-net
row-cells-requires-clause-net g c =
    let f = c.requires.first.2 in (
      c.requires.first.0,
      c.requires.first.1,
      f.judged.rows,
      first_headings c.requires.first.0 c.requires.first.1 (c.args.place + 1) c.args.catalog.now c.args.net.now f,
    )

pub delete_copies-requires-clause-counted : goal.delete_copies-requires-clause-counted
delete_copies-requires-clause-counted g c =
    let f = c.requires.first.2 in
    let base = c.requires.first.0 in
    let lines = c.requires.first.1 in
    let now = c.args.catalog.now in
    let net = c.args.net.now in
    let place = c.args.place in
    let l = line_of base now.texts net.keys.width lines net place c.index.result.now f.judged.rows c.requires.within
    c.index.ensures in
    let r = c.row-cells.ensures.row base lines l.line f.judged.rows (first_headings base lines (place + 1) now net f) l.there in
    subst (λ (us : List ℕ). HasCopiesAt now c.row-cells.result.0.at us c.index.result.now.after) (sym c.as_slice.ensures)
    (last_counted base lines net now place c.index.result.now l c.laws.ensures.names c.row-cells.result.0.at
    c.row-cells.result.1 r.0 f (sym c.came.ensures ∙ c.if-not-came.false))

pub returns-then-not-came-clause-back : goal.returns-then-not-came-clause-back
returns-then-not-came-clause-back g c = λ base lines f.
    let now = c.args.catalog.now in
    let net = c.args.net.now in
    let place = c.args.place in
    let l = line_of base now.texts net.keys.width lines net place c.index.result.now f.judged.rows c.requires.within
    c.index.ensures in
    last_passed base lines net now place c.index.result.now l f (sym c.came.ensures ∙ c.if-not-came.true)

pub returns-clause-back : goal.returns-clause-back
returns-clause-back g c = λ base lines f.
    let now = c.args.catalog.now in
    let net = c.args.net.now in
    let place = c.args.place in
    let l = line_of base now.texts net.keys.width lines net place c.index.result.now f.judged.rows c.requires.within
    c.index.ensures in
    let r = c.row-cells.ensures.row base lines l.line f.judged.rows (first_headings base lines (place + 1) now net f)
    l.there in
    last_back base lines net now place c.index.result.now l c.laws.ensures.names c.row-cells.result.0.at
    c.row-cells.result.1 r.0 f (sym c.came.ensures ∙ c.if-not-came.false) c.delete_copies.new.catalog
    (subst (λ (us : List ℕ). SetsCopiesAt now c.row-cells.result.0.at us 0 c.delete_copies.new.catalog.relations)
    c.as_slice.ensures c.delete_copies.ensures.set) c.delete_copies.ensures.texts
